-- What is written: the bytes of a record and of a block, and the writer's answer.
use Rattle.std.specs.Prelude.{◌≡◌, ℕ, ◌-◌, ◌*◌, ◌/◌, ◌%◌, true, List, [], ◌∷◌, ◌++◌, map, length, replicate, Some, None, Ok, Err, Option, Result, ◌==◌, nat_le}
use Rattle.std.specs.List.{flat_map}
use Rattle.blocks.specs.declared.refusal.Refusal.{Refusal}
use Rattle.blocks.specs.declared.writer.Entry.{Entry}
use Rattle.blocks.specs.Checks.{check_of}
use Rattle.blocks.specs.Reading.{letters_known}
use Rattle.blocks.specs.Records.{Said, says}
use Rattle.blocks.specs.Refusals.{first_no}

-- a number in two bytes, low byte first
abbrev pub le16 : ℕ → List ℕ
le16 n = (n % 256) ∷ (n / 256 % 256) ∷ []

-- a number in four bytes, low byte first
abbrev pub le32 : ℕ → List ℕ
le32 n = (n % 256) ∷ (n / 256 % 256) ∷ (n / 65536 % 256) ∷ (n / 16777216 % 256) ∷ []

-- what an entry says
abbrev pub entry_says : Entry → Said
entry_says e = says e.letter e.process e.object (le32 e.content)

-- the eight bytes of an entry: letter, process, object and content. The object is below 65536, so its high byte is the quotient by 256
abbrev pub eight_of : Entry → List ℕ
eight_of e = e.letter ∷ e.process ∷ (e.object % 256) ∷ (e.object / 256) ∷ le32 e.content

-- the first 510 bytes of a block: count, number, records, and zeros in the places past them
unfoldable pub body_of : ℕ → List Entry → List ℕ
body_of number es = (le16 (length es) ++ le32 number) ++ (flat_map eight_of es ++ replicate (504 - 8 * length es) 0)

-- the 512 bytes of a block: the body, and its check
unfoldable pub block_of : ℕ → List Entry → List ℕ
block_of number es = body_of number es ++ le16 (check_of (body_of number es))

-- the first of the writer's three questions that is answered 'no', or none
abbrev pub write_refusal : ℕ → List Entry → Option Refusal
write_refusal size es = first_no (size == 512) true true (nat_le (length es) 63) (letters_known (map entry_says es))

-- what writing a block answers and leaves: the bytes of the block, or a refusal and the bytes as they were
abbrev pub Wrote : List ℕ → ℕ → List Entry → Result Unit Refusal → List ℕ → Type 0
Wrote was number es (Ok u) out = (write_refusal (length was) es ≡ None) × (out ≡ block_of number es)
Wrote was number es (Err e) out = (write_refusal (length was) es ≡ Some e) × (out ≡ was)
