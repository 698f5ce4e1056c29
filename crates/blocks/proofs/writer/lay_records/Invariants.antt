-- The bytes so far are those of the records so far.
use Rattle.std.proofs.Common.{◌≡◌, ◌*◌, take}
use Rattle.std.specs.List.{flat_map}
use Rattle.blocks.specs.Writing.{eight_of}
use Rattle.blocks.proofs.writer.lay_records.Given as goal

abbrev pub invariant-loop-i : goal.invariant-loop-i
invariant-loop-i l = take (8 * l.i) l.out ≡ flat_map eight_of (take l.i l.entries)
