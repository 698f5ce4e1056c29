-- What is printed of the error of a block that gave no calls.
use Rattle.std.specs.Prelude.{ℕ, List, ◌++◌, codes}
use Rattle.blocks.specs.Refusals.{refusal_words}
use Rattle.turns.specs.declared.block_error.BlockError.{BlockError}
use Rattle.turns.specs.declared.block_error.BlockError.TheVariants.{Refused, NoMemory}

abbrev pub block_error_words : BlockError → List ℕ
block_error_words (Refused q) = codes "no such block: " ++ refusal_words q
block_error_words NoMemory = codes "no memory for a block"
