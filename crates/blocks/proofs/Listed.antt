-- Lists of what records say: how long they are, what they hold, and what known letters say of the places.
use Rattle.std.proofs.Common.{◌≡◌, ℕ, ◌+◌, ◌*◌, ◌<◌, ◌≤◌, true, List, [], length, get_or, arith}
use Rattle.std.proofs.lemmas.Bool.Decides.{nat_tests}
use Rattle.std.proofs.lemmas.List.Sums.{AllPass-from_list_all}
use Rattle.std.proofs.lemmas.List.FromFn.{length-map-range_with_len, get_or-map-range_with_len}
use Rattle.blocks.specs.declared.writer.Entry.{Entry}
use Rattle.blocks.specs.Records.{Said, says, known}
use Rattle.blocks.specs.Reading.{said_at, records_of, letters_known, Full}

-- what a list of entries gives past its end
abbrev pub no_entry : Entry
no_entry = record { letter = 0; process = 0; object = 0; content = 0 }

-- what a list of what records say gives past its end
abbrev pub none : Said
none = says 0 0 0 []

-- the number of records in the first places of a block
pub length-records : (bs : List ℕ) (count : ℕ) → length (records_of bs count) ≡ count
unfolding records_of
length-records bs count = length-map-range_with_len (said_at bs) 0 count

-- the record in place i of a block
pub get_or-records : (bs : List ℕ) (count i : ℕ) (d : Said) → i < count → get_or (records_of bs count) i d ≡ said_at bs i
unfolding records_of
get_or-records bs count i d h = get_or-map-range_with_len (said_at bs) 0 count i i d h (omega arith)

-- where the letters of the records are known, each place within the count holds a record
pub full : (bs : List ℕ) (count : ℕ) → 6 + 8 * count ≤ length bs → letters_known (records_of bs count) ≡ true → Full bs count
full bs count room letters i h =
    let size = length-records bs count in
    let letter = AllPass-from_list_all (λ (s : Said). known s.letter) (records_of bs count) letters i none (omega arith) in
    let place = get_or-records bs count i none h in
    grind (arith, nat_tests)
