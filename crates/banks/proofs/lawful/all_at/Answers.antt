-- Each number of the row is u, and there is none past it.
use Rattle.std.proofs.Common.{replicate, inl, inr}
use Rattle.std.proofs.lemmas.Bool.{cases_lt, lt-ltb, le-ltb}
use Rattle.std.proofs.lemmas.List.{get_or-replicate, get_or_past, length-replicate}
use Rattle.banks.proofs.lawful.all_at.Goals as goal

pub returns-clause-numbers : goal.returns-clause-numbers
returns-clause-numbers c =
    λ p.
    elim (cases_lt p 64) [
      | inl h ↦ simp (lt-ltb p 64 h) (get_or-replicate 64 p c.args.u 0 h)
      | inr h ↦ simp (le-ltb p 64 h) (get_or_past (replicate 64 c.args.u) p 0 (simp length-replicate h))
    ]
