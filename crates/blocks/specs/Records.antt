-- What a record says, and what eight bytes say.
use Rattle.std.specs.Prelude.{◌≡◌, ℕ, ◌+◌, ◌*◌, Bool, true, false, ◌||◌, List, length, Ok, Err, Result, ◌==◌, slice_index}
use Rattle.std.specs.List.{between}
use Rattle.blocks.specs.declared.record.Record.{Record}
use Rattle.blocks.specs.declared.record.Record.TheVariants.{Begin, Read, Write, Commit, Withdraw, Step}
use Rattle.blocks.specs.declared.refusal.Refusal.{Refusal}
use Rattle.blocks.specs.declared.refusal.Refusal.TheVariants.{Letter}

-- the number that two bytes hold from byte i on, low byte first
abbrev pub at16 : List ℕ → ℕ → ℕ
at16 bs i = slice_index bs i + slice_index bs (i + 1) * 256

-- the number that four bytes hold from byte i on, low byte first
abbrev pub at32 : List ℕ → ℕ → ℕ
at32 bs i = slice_index bs i + slice_index bs (i + 1) * 256 + slice_index bs (i + 2) * 65536 + slice_index bs (i + 3) * 16777216

-- what a record says: its parts, without where its content lies in memory
pub record Said : Type 0 where
  pub letter : ℕ
  pub process : ℕ
  pub object : ℕ
  pub content : List ℕ

-- the parts of a record, in their order
abbrev pub says : ℕ → ℕ → ℕ → List ℕ → Said
says l p o c = record { letter = l; process = p; object = o; content = c }

-- what each record says; its letter is B, R, W, C, D or S
abbrev pub said : Record → Said
said (Begin p o c) = says 66 p o c.now
said (Read p o c) = says 82 p o c.now
said (Write p o c) = says 87 p o c.now
said (Commit p o c) = says 67 p o c.now
said (Withdraw p o c) = says 68 p o c.now
said (Step p o c) = says 83 p o c.now

-- what the bytes of a record say: letter, process, two object bytes, and the content bytes after them
abbrev pub told : List ℕ → Said
told bs = says (slice_index bs 0) (slice_index bs 1) (at16 bs 2) (between 4 (length bs) bs)

-- whether a byte is one of the letters B, R, W, C, D and S
abbrev pub known : ℕ → Bool
known b = b == 66 || (b == 82 || (b == 87 || (b == 67 || (b == 68 || b == 83))))

-- what reading the eight bytes of a record answers: what they say, with four content bytes, or a refusal where the letter is not known
abbrev pub Reads : List ℕ → Result Record Refusal → Type 0
Reads bs (Ok r) = (known (told bs).letter ≡ true) × (said r ≡ told bs) × (length (said r).content ≡ 4)
Reads bs (Err e) = (known (told bs).letter ≡ false) × (e ≡ Letter)
