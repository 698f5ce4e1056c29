-- The calls of the records in a block, place by place.
use Rattle.std.proofs.Common.{◌≡◌, ℕ, List, map, sym}
use mathlib.Core.List.{map-map}
use Rattle.std.specs.List.{range_with_len}
use Rattle.blocks.specs.Reading.{said_at, records_of}
use Rattle.turns.specs.Calls.{call_of}

pub calls_of_records : (bs : List ℕ) (n : ℕ) → map (λ i. call_of (said_at bs i)) (range_with_len 0 n) ≡ map call_of (records_of bs n)
unfolding records_of
calls_of_records bs n = sym (map-map call_of (said_at bs) (range_with_len 0 n))
