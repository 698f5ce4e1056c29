-- A run: calls performed one after another, each line of the journal being what that call replies.
use Rattle.std.specs.Prelude.{◌≡◌, ℕ, List, [], ◌∷◌, Ok, Err, Result}
use Rattle.tables.specs.Tables.{Tables}
use Rattle.tables.specs.declared.refusal.Refusal.{Refusal}
use Rattle.tables.specs.declared.reply.Stepped.{Stepped}
use Rattle.engine.specs.Place.{place_call}
use Rattle.engine.specs.Step.{step_call, step_bank}
use Rattle.journal.specs.declared.call.Call.{Call}
use Rattle.journal.specs.declared.call.Call.TheVariants.{Place, Step}
use Rattle.journal.specs.declared.call.Done.{Done}
use Rattle.journal.specs.declared.call.Done.TheVariants.{Placed, Made}
use Rattle.journal.specs.declared.call.Line.{Line}

-- the tables of a memory and its bank
pub record World (K B : Type 0) : Type 0 where
  pub tables : Tables K
  pub bank : B

abbrev pub world : {K B : Type 0} → Tables K → B → World K B
world t b = record { tables = t; bank = b }

-- what a call came to, or the question that refused it
abbrev pub Reply : Type 0 → Type 0
Reply K = Result (Done K) Refusal

abbrev pub placing_reply : {K : Type 0} → Result (Unit {0}) Refusal → Reply K
placing_reply (Ok done) = Ok Placed
placing_reply (Err q) = Err q

abbrev pub step_reply : {K : Type 0} → Result (Stepped K) Refusal → Reply K
step_reply (Ok s) = Ok (Made s)
step_reply (Err q) = Err q

-- what a call replies
abbrev pub reply_to : {K B : Type 0} → K → (B → ℕ → ℕ) → World K B → Call K → Reply K
reply_to empty number w (Place p q) = placing_reply (place_call empty w.tables p q).reply
reply_to empty number w (Step p) = step_reply (step_call empty (number w.bank) w.tables p).reply

-- what the tables and the bank hold after a call
abbrev pub after_call : {K B : Type 0} → K → (B → ℕ → ℕ) → (B → ℕ → ℕ → B) → World K B → Call K → World K B
after_call empty number moved w (Place p q) = world (place_call empty w.tables p q).tables w.bank
after_call empty number moved w (Step p) =
    world (step_call empty (number w.bank) w.tables p).tables (step_bank empty number moved w.tables w.bank p)

abbrev pub line : {K : Type 0} → Call K → Reply K → Line K
line c r = record { call = c; reply = r }

module _ {K B : Type 0} (empty : K) (number : B → ℕ → ℕ) (moved : B → ℕ → ℕ → B) where
  -- the journal of a list of calls
  abbrev pub journal : World K B → List (Call K) → List (Line K)
  journal w [] = []
  journal w (c ∷ cs) = line c (reply_to empty number w c) ∷ journal (after_call empty number moved w c) cs

  -- what the tables and the bank hold after a list of calls
  abbrev pub after_calls : World K B → List (Call K) → World K B
  after_calls w [] = w
  after_calls w (c ∷ cs) = after_calls (after_call empty number moved w c) cs

  -- a run of a list of calls: its journal, and what the tables and the bank hold then
  pub record Ran (w : World K B) (cs : List (Call K)) (lines : List (Line K)) (v : World K B) : Type 0 where
    pub written : lines ≡ journal w cs
    pub left : v ≡ after_calls w cs
