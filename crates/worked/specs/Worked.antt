-- Worked values of the rules.
use Rattle.std.specs.Prelude.{◌≡◌, ℕ, zero, suc, ◌^◌, true, List, [], ◌∷◌, ◌++◌, replicate, Some, None, Ok, Result}
use Rattle.blocks.specs.Checks.{check_of}
use Rattle.docks.specs.Fare.{fare_of}
use Rattle.tables.specs.Fresh.{fresh_tables}
use Rattle.tables.specs.Lookup.{pair}
use Rattle.tables.specs.Tables.{Tables, process_at}
use Rattle.tables.specs.declared.process.Phase.TheVariants.{Reading}
use Rattle.tables.specs.declared.refusal.Refusal.{Refusal}
use Rattle.tables.specs.declared.reply.Answer.TheVariants as answer
use Rattle.tables.specs.declared.reply.Effect.TheVariants.{Nothing, Stored}
use Rattle.tables.specs.declared.reply.Request.TheVariants as ask
use Rattle.tables.specs.declared.reply.Stepped.{Stepped}
use Rattle.engine.specs.Outcome.{Outcome, answering}
use Rattle.engine.specs.Commit.{seal_stamp, stored_object}
use Rattle.engine.specs.Step.{step_call}
use Rattle.journal.specs.Runs.{Reply, world, journal}
use Rattle.journal.specs.declared.call.Call.{Call}
use Rattle.journal.specs.declared.call.Call.TheVariants.{Place, Step}
use Rattle.journal.specs.declared.call.Line.{Line}
use Rattle.journal.specs.declared.call.Done.TheVariants.{Placed, Made}

-- One process reads object 1 in its first step. Its clock is 5, and its read set has that many pairs, at most one; object
-- 1 has the given stamp and content 7.
abbrev pub reading : ℕ → ℕ → Tables ℕ
reading pairs stamp =
    record {
      objects = stored_object 0 0 ∷ stored_object 7 stamp ∷ [];
      processes = record { live = true; clock = 5; reads = pairs; writes = 0; steps = 0; phase = Reading 1 } ∷ [];
      reads = replicate 32 (pair 0 0);
      writes = replicate 16 (pair 0 0);
      hands = 0 ∷ [];
    }

-- its step, with a bank whose numbers are 0
abbrev pub first_step : Tables ℕ → Outcome (Result (Stepped ℕ) Refusal) ℕ
first_step t = step_call 0 (λ _. 0) t 0

-- Process 0 reads, or writes, the objects below n, one after another; each takes one step.
abbrev pub reads : ℕ → List (Call ℕ)
reads zero = []
reads (suc n) = reads n ++ (Place 0 (ask.Read n) ∷ Step 0 ∷ [])

abbrev pub writes : ℕ → List (Call ℕ)
writes zero = []
writes (suc n) = writes n ++ (Place 0 (ask.Write n 7) ∷ Step 0 ∷ [])

-- a whole transaction with r reads and w writes, whose commit is given `steps` steps
abbrev pub transaction : ℕ → ℕ → ℕ → List (Call ℕ)
transaction r w steps =
    (Place 0 ask.Begin ∷ Step 0 ∷ []) ++ (reads r ++ (writes w ++ (Place 0 ask.Commit ∷ replicate steps (Step 0))))

-- the last line's reply in the journal of such a transaction on a fresh memory of one process, with a silent bank
abbrev pub last : Reply ℕ → List (Line ℕ) → Reply ℕ
last r [] = r
last r (l ∷ ls) = last l.reply ls

abbrev pub commits : ℕ → ℕ → ℕ → Reply ℕ
commits r w steps =
    last (Ok Placed)
    (journal 0 (λ _ _. 0) (λ b _ _. b) (world {B = Unit {0}} (fresh_tables 0 (replicate 32 0) 1) tt) (transaction r w steps))

abbrev pub Worked : Type 0
Worked =
    -- the stamp of a sealing step, from the clock and the bank's number; at clock 2^40 none is left
    (seal_stamp 4 9 ≡ Some 10)
    × (seal_stamp 9 4 ≡ Some 10)
    × (seal_stamp (2 ^ 40) 0 ≡ None)
    -- stamp 5 at clock 5 needs no extension: the look's step answers
    × ((first_step (reading 1 5)).reply ≡ Ok (answering Nothing (answer.Read 7 1)))
    -- stamp 6 at clock 5 with an empty read set: one step, and the clock is 6
    × (((first_step (reading 0 6)).reply ≡ Ok (answering Nothing (answer.Read 7 1))) × ((process_at (first_step (reading 0 6)).tables 0).clock ≡ 6))
    -- a commit of nothing takes 1 step, of 2 writes 3, of 32 reads and 16 writes 49
    × (commits 0 0 1 ≡ Ok (Made (answering Nothing (answer.Committed 1))))
    × (commits 0 2 3 ≡ Ok (Made (answering (Stored 1) (answer.Committed 3))))
    × (commits 32 16 49 ≡ Ok (Made (answering (Stored 15) (answer.Committed 49))))
    -- 14 tenths of a penny are 1 penny, 15 are 2
    × ((fare_of 1 14 ≡ 1) × (fare_of 1 15 ≡ 2))
    -- a block whose byte 509 alone is 255 and whose other bytes are 0
    × (check_of (replicate 509 0 ++ (255 ∷ 0 ∷ 0 ∷ [])) ≡ 64529)
