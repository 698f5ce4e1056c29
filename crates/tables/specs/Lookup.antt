-- Look-ups in a stretch of places.
use Rattle.std.specs.Prelude.{ℕ, List, Option, ◌==◌}
use Rattle.std.specs.List.{find, position_from}
use Rattle.std.specs.Option.{option_map}
use Rattle.tables.specs.declared.map.Slot.{Slot}

-- a pair of an object and a value
abbrev pub pair : {V : Type 0} → ℕ → V → Slot V
pair x v = record { object = x; value = v }

-- the value of an object
abbrev pub value_of : {V : Type 0} → List (Slot V) → ℕ → Option V
value_of ss x = option_map (λ s. s.value) (find (λ s. s.object == x) ss)

-- the place of an object's pair, the first place being n
abbrev pub place_of : {V : Type 0} → List (Slot V) → ℕ → ℕ → Option ℕ
place_of ss x n = position_from (λ s. s.object == x) n ss
