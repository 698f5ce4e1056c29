-- What is answered where a block is read, and where a record is asked of it.
use Rattle.std.specs.Prelude.{◌≡◌, ℕ, true, false, List, length, Some, None, Ok, Err, Option, Result}
use Rattle.blocks.specs.declared.reader.Block.{Block}
use Rattle.blocks.specs.declared.record.Record.{Record}
use Rattle.blocks.specs.declared.refusal.Refusal.{Refusal}
use Rattle.blocks.specs.Records.{said}
use Rattle.blocks.specs.Reading.{count_of, said_at, read_refusal, holds, Full}

-- what reading a block answers: the block of these bytes with the count that they hold, each place of it with a record; or the refusal
abbrev pub Opens : List ℕ → ℕ → Result Block Refusal → Type 0
Opens bs next (Ok b) = (read_refusal bs next ≡ None) × (b.bytes.now ≡ bs) × (b.count ≡ count_of bs) × Full b.bytes.now b.count
Opens bs next (Err e) = read_refusal bs next ≡ Some e

-- what is handed out of place i: what its bytes say, with four content bytes, exactly where the block holds a record there
abbrev pub Hands : Block → ℕ → Option Record → Type 0
Hands b i None = holds b.bytes.now b.count i ≡ false
Hands b i (Some r) = (holds b.bytes.now b.count i ≡ true) × (said r ≡ said_at b.bytes.now i) × (length (said r).content ≡ 4)
