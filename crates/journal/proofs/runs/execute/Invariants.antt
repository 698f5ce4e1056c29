-- After i calls: i lines are written, there is room for the others, and what is left leads on as from the start.
use Rattle.std.proofs.Common.{◌≡◌, ◌≤◌, ◌++◌, length, drop, vec_items, vec_len, vec_capacity}
use Rattle.tables.specs.Tables.{tables_of}
use Rattle.journal.specs.Runs.{world, journal, after_calls}
use Rattle.journal.proofs.runs.execute.Given as goal

abbrev pub invariant-loop-call : goal.invariant-loop-call
invariant-loop-call g l =
    let empty = g.K.Kind.empty in
    let number = g.B.Bank.number in
    let moved = g.B.Bank.moved in
    let w0 = world (tables_of l.initial.memory) l.initial.bank in
    let w = world (tables_of l.memory) l.bank in
    (vec_len l.journal ≡ l.call-index)
    × (length l.calls ≤ vec_capacity l.journal)
    × (vec_items l.journal ++ journal empty number moved w (drop l.call-index l.calls) ≡ journal empty number moved w0 l.calls)
    × (after_calls empty number moved w (drop l.call-index l.calls) ≡ after_calls empty number moved w0 l.calls)
