-- What comes back when a block is written and then read.
use Rattle.std.specs.Prelude.{◌≡◌, ℕ, List, map, length, Some, None, Ok, Err, Result}
use Rattle.blocks.specs.declared.reader.Block.{Block}
use Rattle.blocks.specs.declared.refusal.Refusal.{Refusal}
use Rattle.blocks.specs.declared.writer.Entry.{Entry}
use Rattle.blocks.specs.Reading.{number_of, records_of, Full}
use Rattle.blocks.specs.Writing.{entry_says, block_of, write_refusal}

-- the writer's refusal, or a block of the bytes that were written: its number, its count and its whole list of records are those that were handed in, and each place within the count holds a record
abbrev pub Restores : ℕ → ℕ → List Entry → Result Block Refusal → Type 0
Restores size number es (Ok b) =
    (write_refusal size es ≡ None)
    × (b.bytes.now ≡ block_of number es)
    × (number_of b.bytes.now ≡ number)
    × (b.count ≡ length es)
    × (records_of b.bytes.now b.count ≡ map entry_says es)
    × Full b.bytes.now b.count
Restores size number es (Err e) = write_refusal size es ≡ Some e
