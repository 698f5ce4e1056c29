-- What a move of the own bank rests on.
use Rattle.banks.specs.Banks.{same_own}
use Rattle.banks.specs.Numbers.{ranged_raised}
use Rattle.banks.specs.Raised.{raised_outside, raised_beyond}

pub ruleset moves = (ranged_raised, same_own, raised_outside, raised_beyond)
