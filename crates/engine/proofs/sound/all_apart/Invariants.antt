-- What is left to test decides for all; it gets shorter.
use Rattle.std.proofs.Common.{◌≡◌, length}
use Rattle.engine.specs.Sound.{distinct}
use Rattle.engine.proofs.sound.all_apart.Given as goal

abbrev pub invariant-loop-rest : goal.invariant-loop-rest
invariant-loop-rest g l = distinct l.rest ≡ distinct l.slots

abbrev pub decreases-loop-rest : goal.decreases-loop-rest
decreases-loop-rest g l = length l.rest
