-- The letters of records, and the bytes that they are.
use Rattle.std.specs.Prelude.{◌≡◌, ℕ, true, false, Ok, Err, Result}
use Rattle.blocks.specs.declared.letter.Letter.{Letter}
use Rattle.blocks.specs.declared.letter.Letter.TheVariants.{Begin, Read, Write, Commit, Withdraw, Step}
use Rattle.blocks.specs.declared.refusal.Refusal.{Refusal}
use Rattle.blocks.specs.declared.refusal.Refusal.TheVariants.{Letter as UnknownLetter}
use Rattle.blocks.specs.Records.{known}

-- the byte of each letter: B, R, W, C, D or S
abbrev pub byte_of : Letter → ℕ
byte_of Begin = 66
byte_of Read = 82
byte_of Write = 87
byte_of Commit = 67
byte_of Withdraw = 68
byte_of Step = 83

-- what reading a byte as a letter answers: the letter whose byte it is, or a refusal where it is that of none
abbrev pub Spells : ℕ → Result Letter Refusal → Type 0
Spells b (Ok l) = (known b ≡ true) × (byte_of l ≡ b)
Spells b (Err e) = (known b ≡ false) × (e ≡ UnknownLetter)
