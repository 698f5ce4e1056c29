-- The trace of a journal: what it has on record of the placings and steps that were carried out; and the memories that lists of
-- calls reach from a fresh one.
use Rattle.std.specs.Prelude.{◌≡◌, ℕ, true, List, [], ◌∷◌, length, Ok, Err, slice_index_or}
use Rattle.tables.specs.Fresh.{fresh_tables}
use Rattle.tables.specs.Tables.{Tables, object_at, numbers_ok}
use Rattle.law.specs.Trace.{Trace, entry}
use Rattle.law.specs.Trace.Act.{placed, made}
use Rattle.journal.specs.declared.call.Call.{Call}
use Rattle.journal.specs.declared.call.Call.TheVariants.{Place, Step}
use Rattle.journal.specs.declared.call.Done.TheVariants.{Placed, Made}
use Rattle.journal.specs.declared.call.Line.{Line}
use Rattle.journal.specs.Runs.{World, world, Reply, Ran}

-- A line puts a placing or a step on record, unless it was refused.
abbrev pub noted : {K : Type 0} → Call K → Reply K → Trace K → Trace K
noted (Place p q) (Ok Placed) j = entry p (placed q) ∷ j
noted (Place p q) (Ok (Made s)) j = j
noted (Place p q) (Err n) j = j
noted (Step p) (Ok Placed) j = j
noted (Step p) (Ok (Made s)) j = entry p (made s) ∷ j
noted (Step p) (Err n) j = j

-- the trace j with what the lines have on record
abbrev pub trace_on : {K : Type 0} → Trace K → List (Line K) → Trace K
trace_on j [] = j
trace_on j (l ∷ ls) = trace_on (noted l.call l.reply j) ls

-- the content of each object
abbrev pub contents_of : {K : Type 0} → K → Tables K → ℕ → K
contents_of empty t x = (object_at empty t x).content

-- A memory and its bank that lists of calls have reached from a fresh memory, with P processes and the contents `start`, and the
-- trace of these lists.
module _ {K B : Type 0} (empty : K) (number : B → ℕ → ℕ) (moved : B → ℕ → ℕ → B) where
  pub data Reached : ℕ → (ℕ → K) → World K B → Trace K → Type 0 where
    fresh : (contents : List K) (P : ℕ) (b : B) → numbers_ok (length contents) P ≡ true
        → Reached P (λ x. slice_index_or contents x empty) (world (fresh_tables empty contents P) b) []
    later : {P : ℕ} {start : ℕ → K} {w : World K B} {j : Trace K} (cs : List (Call K)) (lines : List (Line K)) (v : World K B)
        → Ran empty number moved w cs lines v → Reached P start w j → Reached P start v (trace_on j lines)
