-- The fare: minutes times tenths of a penny, rounded to whole pence, halves up.
use Rattle.std.specs.Prelude.{ℕ, ◌+◌, ◌*◌, ◌/◌}

abbrev pub fare_of : ℕ → ℕ → ℕ
fare_of minutes tenths = (minutes * tenths + 5) / 10
