-- What the bench prints: of an answer its word, its values and its step count, of a refusal the number of the question.
use Rattle.std.specs.Prelude.{ℕ, List, ◌++◌, Some, None, Ok, Err, codes, decimal, Option}
use Rattle.blocks.specs.Refusals.{refusal_number as block_number}
use Rattle.blocks.specs.declared.refusal.Refusal.{Refusal as BlockRefusal}
use Rattle.tables.specs.Text.{answer_words, refusal_words}
use Rattle.tables.specs.declared.refusal.Refusal.{Refusal}
use Rattle.tables.specs.declared.reply.Answer.{Answer}
use Rattle.journal.specs.declared.call.Call.{Call}
use Rattle.journal.specs.declared.call.Call.TheVariants.{Place, Step}
use Rattle.journal.specs.declared.call.Done.TheVariants.{Placed, Made}
use Rattle.journal.specs.Runs.{Reply}

-- call number n and process p, followed by more
abbrev pub after_caller : ℕ → ℕ → List ℕ → List ℕ
after_caller n p more = decimal n ++ (codes " " ++ (decimal p ++ more))

-- an answer of a call
abbrev pub answer_text : ℕ → ℕ → Answer ℕ → List ℕ
answer_text n p a = after_caller n p (codes " " ++ answer_words decimal a)

abbrev pub refused_text : ℕ → ℕ → Refusal → List ℕ
refused_text n p q = after_caller n p (codes " " ++ refusal_words q)

-- what is printed of an answer, where there is one
abbrev pub answered_text : ℕ → ℕ → Option (Answer ℕ) → Option (List ℕ)
answered_text n p (Some a) = Some (answer_text n p a)
answered_text n p None = None

abbrev pub reply_text : ℕ → ℕ → Reply ℕ → Option (List ℕ)
reply_text n p (Ok Placed) = None
reply_text n p (Ok (Made s)) = answered_text n p s.answer
reply_text n p (Err q) = Some (refused_text n p q)

abbrev pub caller_of : {K : Type 0} → Call K → ℕ
caller_of (Place p q) = p
caller_of (Step p) = p

-- the bytes of a text, where there is one
abbrev pub bytes_of : {S : Type 0} → (S → List ℕ) → Option S → Option (List ℕ)
bytes_of bytes (Some s) = Some (bytes s)
bytes_of bytes None = None

-- a refused block: its place among the blocks, and the number of the question
abbrev pub refused_block_text : ℕ → BlockRefusal → List ℕ
refused_block_text place q = codes "block " ++ (decimal place ++ (codes " " ++ decimal (block_number q)))
