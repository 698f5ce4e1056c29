-- What is read of a block: its records, and the five questions in their order.
use Rattle.std.specs.Prelude.{◌≡◌, ℕ, ◌+◌, ◌*◌, ◌<◌, Bool, true, ◌&&◌, List, map, length, Option, ◌==◌, nat_le, nat_lt}
use Rattle.std.specs.List.{list_all, range_with_len, between}
use Rattle.blocks.specs.declared.refusal.Refusal.{Refusal}
use Rattle.blocks.specs.Checks.{check_of}
use Rattle.blocks.specs.Refusals.{first_no}
use Rattle.blocks.specs.Records.{Said, at16, at32, told, known}

-- the count that a block holds
abbrev pub count_of : List ℕ → ℕ
count_of bs = at16 bs 0

-- the number of a block
abbrev pub number_of : List ℕ → ℕ
number_of bs = at32 bs 2

-- the eight bytes in place i of a block
abbrev pub place_of : List ℕ → ℕ → List ℕ
place_of bs i = between (6 + 8 * i) (6 + 8 * i + 8) bs

-- what the eight bytes in place i of a block say
abbrev pub said_at : List ℕ → ℕ → Said
said_at bs i = told (place_of bs i)

-- what the records in the first places of a block say, in order
unfoldable pub records_of : List ℕ → ℕ → List Said
records_of bs count = map (said_at bs) (range_with_len 0 count)

-- whether the letter of each record is known
abbrev pub letters_known : List Said → Bool
letters_known = list_all (λ s. known s.letter)

-- the first of the five questions that is answered 'no', or none
abbrev pub read_refusal : List ℕ → ℕ → Option Refusal
read_refusal bs next =
    first_no (length bs == 512) (at16 bs 510 == check_of bs) (number_of bs == next) (nat_le (count_of bs) 63) (letters_known (records_of bs (count_of bs)))

-- whether the bytes hold a record in place i, where there are `count`: the place is within the count and within the bytes, and its letter is known
abbrev pub holds : List ℕ → ℕ → ℕ → Bool
holds bs count i = nat_lt i count && (nat_le (6 + 8 * i + 8) (length bs) && known (said_at bs i).letter)

-- each place within the count holds a record
abbrev pub Full : List ℕ → ℕ → Type 0
Full bs count = (i : ℕ) → i < count → holds bs count i ≡ true
