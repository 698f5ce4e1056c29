-- Each value is computed.
use Rattle.std.proofs.Common.{refl}
use Rattle.blocks.specs.Checks.{check_of}
use Rattle.engine.specs.Sound.{refused}
use Rattle.worked.proofs.definitions_agree.Goals as goal

pub returns : goal.returns
unfolding refused check_of
returns c = (refl, refl, refl, refl, (refl, refl), refl, refl, refl, (refl, refl), refl)
