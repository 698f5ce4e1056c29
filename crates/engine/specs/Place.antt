-- A placing: its reply, and what the tables hold then. Only the process's own record and hand place change.
use Rattle.std.specs.Prelude.{ℕ, ◌^◌, Bool, true, false, cond, not, length, Some, None, Ok, Err, Option, Result, nat_lt}
use Rattle.tables.specs.Tables.{Tables, process_at, with_process, with_hand}
use Rattle.tables.specs.declared.process.Ending.TheVariants as ending
use Rattle.tables.specs.declared.process.Phase.{Phase}
use Rattle.tables.specs.declared.process.Phase.TheVariants.{Idle, Beginning, Reading, Writing, Extending, Certifying, Storing, Freeing}
use Rattle.tables.specs.declared.process.Process.{Process}
use Rattle.tables.specs.declared.refusal.Refusal.{Refusal}
use Rattle.tables.specs.declared.refusal.Refusal.TheVariants.{InHand, Transaction, Object, Room}
use Rattle.tables.specs.declared.reply.Request.{Request}
use Rattle.tables.specs.declared.reply.Request.TheVariants.{Begin, Read, Write, Commit, Withdraw}
use Rattle.engine.specs.Outcome.{Outcome, outcome}
use Rattle.engine.specs.Sound.{refused, readable, writable}

abbrev pub is_idle : Phase → Bool
is_idle Idle = true
is_idle (Beginning next least) = false
is_idle (Reading x) = false
is_idle (Writing x) = false
is_idle (Extending x to next a) = false
is_idle (Certifying next) = false
is_idle (Storing next) = false
is_idle (Freeing next e) = false

-- a transaction is open, or for a begin none
abbrev pub due : {K : Type 0} → Request K → Bool → Bool
due Begin live = not live
due (Read x) live = live
due (Write x v) live = live
due Commit live = live
due Withdraw live = live

-- the questions on the object of an access
abbrev pub access_no : {K : Type 0} → Tables K → ℕ → Bool → Option Refusal
access_no t x fits = cond (nat_lt x (length t.objects)) (cond fits None (Some Room)) (Some Object)

abbrev pub object_no : {K : Type 0} → Tables K → ℕ → Request K → Option Refusal
object_no t p Begin = None
object_no t p (Read x) = access_no t x (readable t p x)
object_no t p (Write x v) = access_no t x (writable t p x)
object_no t p Commit = None
object_no t p Withdraw = None

-- the questions on the request, in their order
abbrev pub request_no : {K : Type 0} → Tables K → ℕ → Request K → Option Refusal
request_no t p q =
    cond (is_idle (process_at t p).phase)
    (cond (due q (process_at t p).live) (object_no t p q) (Some Transaction))
    (Some InHand)

-- the phase that a request starts in
abbrev pub first_phase : {K : Type 0} → Request K → Phase
first_phase Begin = Beginning 0 (2 ^ 40)
first_phase (Read x) = Reading x
first_phase (Write x v) = Writing x
first_phase Commit = Certifying 0
first_phase Withdraw = Freeing 0 ending.Withdraw

abbrev pub placed : {K : Type 0} → Process → Request K → Process
placed r q = record { live = true; clock = r.clock; reads = r.reads; writes = r.writes; steps = 0; phase = first_phase q }

-- the content of a write goes into the hand place
abbrev pub handed : {K : Type 0} → Tables K → ℕ → Request K → Tables K
handed t p Begin = t
handed t p (Read x) = t
handed t p (Write x v) = with_hand t p v
handed t p Commit = t
handed t p Withdraw = t

-- the first no of two questions
abbrev pub first_no : Option Refusal → Option Refusal → Option Refusal
first_no (Some e) next = Some e
first_no None next = next

abbrev pub place_no : {K : Type 0} → K → Tables K → ℕ → Request K → Option Refusal
place_no empty t p q = first_no (refused empty t p) (request_no t p q)

abbrev pub place_unless : {K : Type 0} → Option Refusal → Tables K → ℕ → Request K → Outcome (Result (Unit {0}) Refusal) K
place_unless (Some e) t p q = outcome (Err e) t
place_unless None t p q = outcome (Ok tt) (with_process (handed t p q) p (placed (process_at t p) q))

abbrev pub place_call : {K : Type 0} → K → Tables K → ℕ → Request K → Outcome (Result (Unit {0}) Refusal) K
place_call empty t p q = place_unless (place_no empty t p q) t p q
