-- A step call: its reply, and what the tables and the bank hold then.
use Rattle.std.specs.Prelude.{ℕ, cond, Some, None, Err, Option, Result, ◌==◌, nat_lt}
use Rattle.tables.specs.Tables.{Tables, process_at}
use Rattle.tables.specs.declared.process.Phase.{Phase}
use Rattle.tables.specs.declared.process.Phase.TheVariants.{Idle, Beginning, Reading, Writing, Extending, Certifying, Storing, Freeing}
use Rattle.tables.specs.declared.refusal.Refusal.{Refusal}
use Rattle.tables.specs.declared.refusal.Refusal.TheVariants.{NoRequest}
use Rattle.tables.specs.declared.reply.Effect.TheVariants.{Nothing}
use Rattle.tables.specs.declared.reply.Stepped.{Stepped}
use Rattle.engine.specs.Outcome.{Outcome, outcome, accepted}
use Rattle.engine.specs.Look.{pair_looked}
use Rattle.engine.specs.Ends.{free_step}
use Rattle.engine.specs.Begin.{begin_step}
use Rattle.engine.specs.Commit.{committed, seal_stamp, sealed_at, sealed_bank, store_step}
use Rattle.engine.specs.Looked.{after_look, read_step, write_step}
use Rattle.engine.specs.Sound.{refused}

-- A step of a commit before anything is stored: it certifies a pair, answers with both sets empty, or seals.
abbrev pub commit_step : {K : Type 0} → K → ℕ → Tables K → ℕ → ℕ → Outcome (Stepped K) K
commit_step empty number t p next =
    cond (nat_lt next (process_at t p).reads)
    (after_look empty t p (Certifying next) (pair_looked empty t p next))
    (cond ((process_at t p).writes == 0)
    (committed empty t p Nothing)
    (sealed_at empty t p (seal_stamp (process_at t p).clock number)))

abbrev pub commit_bank : {K B : Type 0} → (B → ℕ → ℕ) → (B → ℕ → ℕ → B) → Tables K → B → ℕ → ℕ → B
commit_bank number moved t b p next =
    cond (nat_lt next (process_at t p).reads) b
    (cond ((process_at t p).writes == 0) b (sealed_bank moved b p (seal_stamp (process_at t p).clock (number b p))))

-- the step of each phase; number is the bank's
abbrev pub phase_step : {K : Type 0} → K → (ℕ → ℕ) → Tables K → ℕ → Phase → Outcome (Result (Stepped K) Refusal) K
phase_step empty number t p Idle = outcome (Err NoRequest) t
phase_step empty number t p (Beginning next least) = accepted (begin_step number t p next least)
phase_step empty number t p (Reading x) = accepted (read_step empty t p x)
phase_step empty number t p (Writing x) = accepted (write_step empty t p x)
phase_step empty number t p (Extending x to next a) =
    accepted (after_look empty t p (Extending x to next a) (pair_looked empty t p next))
phase_step empty number t p (Certifying next) = accepted (commit_step empty (number p) t p next)
phase_step empty number t p (Storing next) = accepted (store_step empty t p next)
phase_step empty number t p (Freeing next e) = accepted (free_step empty t p next e)

-- only a commit moves the bank
abbrev pub phase_bank : {K B : Type 0} → (B → ℕ → ℕ) → (B → ℕ → ℕ → B) → Tables K → B → ℕ → Phase → B
phase_bank number moved t b p Idle = b
phase_bank number moved t b p (Beginning next least) = b
phase_bank number moved t b p (Reading x) = b
phase_bank number moved t b p (Writing x) = b
phase_bank number moved t b p (Extending x to next a) = b
phase_bank number moved t b p (Certifying next) = commit_bank number moved t b p next
phase_bank number moved t b p (Storing next) = b
phase_bank number moved t b p (Freeing next e) = b

-- a step call that the questions on the tables refuse, or not
abbrev pub step_unless : {K : Type 0} → Option Refusal → K → (ℕ → ℕ) → Tables K → ℕ → Outcome (Result (Stepped K) Refusal) K
step_unless (Some q) empty number t p = outcome (Err q) t
step_unless None empty number t p = phase_step empty number t p (process_at t p).phase

abbrev pub step_call : {K : Type 0} → K → (ℕ → ℕ) → Tables K → ℕ → Outcome (Result (Stepped K) Refusal) K
step_call empty number t p = step_unless (refused empty t p) empty number t p

abbrev pub bank_unless : {K B : Type 0} → Option Refusal → (B → ℕ → ℕ) → (B → ℕ → ℕ → B) → Tables K → B → ℕ → B
bank_unless (Some q) number moved t b p = b
bank_unless None number moved t b p = phase_bank number moved t b p (process_at t p).phase

abbrev pub step_bank : {K B : Type 0} → K → (B → ℕ → ℕ) → (B → ℕ → ℕ → B) → Tables K → B → ℕ → B
step_bank empty number moved t b p = bank_unless (refused empty t p) number moved t b p
