-- What a run prints.
use Rattle.std.specs.Prelude.{ℕ, ◌+◌, List, [], ◌∷◌, ◌++◌, Some, None, Option}
use Rattle.journal.specs.declared.call.Line.{Line}
use Rattle.blocks.specs.declared.refusal.Refusal.{Refusal}
use Rattle.turns.specs.Text.{reply_text, caller_of, refused_block_text}

-- a line and its end
abbrev pub ended : List ℕ → List ℕ
ended text = text ++ 10 ∷ []

-- a line and its end, where something is printed
abbrev pub ended_if : Option (List ℕ) → List ℕ
ended_if (Some text) = ended text
ended_if None = []

-- what is printed of the journal's line of call n
abbrev pub printed_line : ℕ → Line ℕ → List ℕ
printed_line n l = ended_if (reply_text n (caller_of l.call) l.reply)

-- what is printed of the lines of a journal, when n calls were made before it
abbrev pub printed : ℕ → List (Line ℕ) → List ℕ
printed n [] = []
printed n (l ∷ ls) = printed_line (n + 1) l ++ printed (n + 1) ls

-- what is printed of a block at this place, where it is refused
abbrev pub block_line : ℕ → Option Refusal → List ℕ
block_line place (Some q) = ended (refused_block_text place q)
block_line place None = []
