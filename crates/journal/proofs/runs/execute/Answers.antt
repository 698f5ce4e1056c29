-- One call more, and the end of the list.
use Rattle.std.proofs.Common.{◌≡◌, ◌+◌, [], ◌∷◌, ◌++◌, drop, vec_items, sym, ap, ◌∙◌, subst, rules}
use Rattle.tables.specs.Tables.{tables_of}
use Rattle.journal.specs.Runs.{Reply, world, line, journal, after_call, Ran}
use Rattle.journal.specs.Trust.{AllTrusted}
use Rattle.journal.specs.Traces.{trace_on}
use Rattle.journal.specs.Traces.Reached.{later}
use Rattle.journal.proofs.Courses.{law_holds, still_trusted}
use Rattle.journal.proofs.Trusting.{fresh_trusted}
use Rattle.journal.proofs.Steps.{line_more, calls_more, lines_all, calls_all, same_world}
use Rattle.journal.proofs.runs.execute.Goals as goal

pub loop-call-preserved : goal.loop-call-preserved
loop-call-preserved g c =
    let empty = g.K.Kind.empty in
    let number = g.B.Bank.number in
    let moved = g.B.Bank.moved in
    let w0 = world (tables_of c.args.memory.now) c.args.bank.now in
    let w = world (tables_of c.loop-call.memory) c.loop-call.bank in
    let v = world (tables_of c.perform-reply.new.memory) c.perform-reply.new.bank in
    let cs = c.args.calls.now in
    let i = c.loop-call.call-index in
    let x = c.call-item.result in
    let lines = vec_items c.loop-call.journal in
    let leads : v ≡ after_call empty number moved w x =
    same_world v (after_call empty number moved w x) c.perform-reply.ensures.after c.perform-reply.ensures.bank in
    let written : vec_items c.push_reserved.new.self ≡ lines ++ line x _ ∷ [] =
    c.push_reserved.ensures.items ∙ ap (λ (r : Reply g.row.K.Denot). lines ++ line x r ∷ []) c.perform-reply.ensures.reply in (
      search rules,
      search rules,
      ap (λ l. l ++ journal empty number moved v (drop (i + 1) cs)) written
          ∙ line_more empty number moved w0 w cs i lines x v c.loop-call-test.true c.call-item.is leads c.loop-call.invariant.2,
      calls_more empty number moved w0 w cs i lines x v c.loop-call-test.true c.call-item.is leads c.loop-call.invariant.3,
    )

pub returns : goal.returns
returns g c =
    let empty = g.K.Kind.empty in
    let number = g.B.Bank.number in
    let moved = g.B.Bank.moved in
    let w0 = world (tables_of c.args.memory.now) c.args.bank.now in
    let w = world (tables_of c.loop-call.memory) c.loop-call.bank in
    let cs = c.args.calls.now in
    let i = c.loop-call.call-index in
    let lines = vec_items c.loop-call.journal in
    let written : lines ≡ journal empty number moved w0 cs =
    lines_all empty number moved w0 w cs i lines c.loop-call-test.false c.loop-call.invariant.2 in
    let ran : Ran empty number moved w0 cs lines w =
    record {
      written = written;
      left = calls_all empty number moved w0 w cs i lines c.loop-call-test.false c.loop-call.invariant.3;
    } in
    record {
      ran = ran;
      lawful = λ P start j r. law_holds empty number moved g.met.B.Bank.ranged g.met.B.Bank.rises P start w (trace_on j lines) (later cs lines w ran r);
      trusted = λ f. subst AllTrusted (sym written) (fresh_trusted empty number moved g.met.B.Bank.ranged w0 cs f);
      still_trusted = λ P start j r. subst AllTrusted (sym written) (still_trusted empty number moved g.met.B.Bank.ranged g.met.B.Bank.rises P start w0 j cs r);
    }
