-- What is printed of a conflict, of an answer, of a refusal and of the error of a memory that was not made.
use Rattle.std.specs.Prelude.{ℕ, List, [], ◌++◌, Some, codes, decimal, Option}
use Rattle.std.specs.Option.{option_map}
use Rattle.tables.specs.Numbers.{refusal_number}
use Rattle.tables.specs.declared.fresh_error.FreshError.{FreshError}
use Rattle.tables.specs.declared.fresh_error.FreshError.TheVariants.{Refused, NoMemory}
use Rattle.tables.specs.declared.refusal.Refusal.{Refusal}
use Rattle.tables.specs.declared.reply.Answer.{Answer}
use Rattle.tables.specs.declared.reply.Answer.TheVariants.{Begun, Read, Written, Committed, Aborted, Withdrawn}
use Rattle.tables.specs.declared.reply.Conflict.{Conflict}
use Rattle.tables.specs.declared.reply.Conflict.TheVariants.{Held, Changed, Spent}

-- a conflict: its cause, and its object where it has one
abbrev pub conflict_words : Conflict → List ℕ
conflict_words (Held x) = codes "held " ++ decimal x
conflict_words (Changed x) = codes "changed " ++ decimal x
conflict_words Spent = codes "spent"

-- an answer: its word, its values and the step count; `of` is the text of a content
abbrev pub answer_words : {K : Type 0} → (K → List ℕ) → Answer K → List ℕ
answer_words of (Begun steps) = codes "begun " ++ decimal steps
answer_words of (Read v steps) = codes "read " ++ (of v ++ (codes " " ++ decimal steps))
answer_words of (Written steps) = codes "written " ++ decimal steps
answer_words of (Committed steps) = codes "committed " ++ decimal steps
answer_words of (Aborted c steps) = codes "aborted " ++ (conflict_words c ++ (codes " " ++ decimal steps))
answer_words of (Withdrawn steps) = codes "withdrawn " ++ decimal steps

-- the text of the content that an answer has, where it has one and something is said of its text
abbrev pub content_text : {K : Type 0} → (K → Option (List ℕ)) → Answer K → Option (List ℕ)
content_text of (Begun steps) = Some []
content_text of (Read v steps) = of v
content_text of (Written steps) = Some []
content_text of (Committed steps) = Some []
content_text of (Aborted c steps) = Some []
content_text of (Withdrawn steps) = Some []

abbrev pub answer_output : {K : Type 0} → (K → Option (List ℕ)) → Answer K → Option (List ℕ)
answer_output of a = option_map (λ text. answer_words (λ _. text) a) (content_text of a)

-- a refusal: the number of its question
abbrev pub refusal_words : Refusal → List ℕ
refusal_words q = codes "refused " ++ decimal (refusal_number q)

abbrev pub fresh_error_words : FreshError → List ℕ
fresh_error_words (Refused q) = codes "no such memory: " ++ refusal_words q
fresh_error_words NoMemory = codes "no memory for the tables"
