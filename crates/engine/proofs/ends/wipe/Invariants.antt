-- The places so far are blank.
use Rattle.std.proofs.Common.{◌≡◌, length, replicate, take}
use Rattle.tables.specs.Lookup.{pair}
use Rattle.engine.proofs.ends.wipe.Given as goal

abbrev pub invariant-loop-place : goal.invariant-loop-place
invariant-loop-place g l = (length l.place-items ≡ length l.initial.place-items) × (take l.place-index l.place-items ≡ replicate l.place-index (pair 0 l.blank))
