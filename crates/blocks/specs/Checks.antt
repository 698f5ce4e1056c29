-- The check of a block.
use Rattle.std.specs.Prelude.{ℕ, ◌+◌, ◌*◌, ◌%◌, List, [], ◌∷◌, take}

-- the sum of the bytes with weights: the first has the weight k, the next k + 1, and so on
abbrev pub weighted : ℕ → List ℕ → ℕ
weighted k [] = 0
weighted k (b ∷ bs) = k * b + weighted (k + 1) bs

-- the check of a block: the weighted sum of its first 510 bytes, from the weight 1, modulo 65521
unfoldable pub check_of : List ℕ → ℕ
check_of bs = weighted 1 (take 510 bs) % 65521
