-- What a step of a request is, as events, by what it replies: the ways that a request can take, one constructor each.
use Rattle.std.proofs.Common.{◌≡◌, ℕ, ◌+◌, ◌<◌, true, List, [], ◌∷◌, ◌++◌, Some, None, Option, arith}
use Rattle.tables.specs.Tables.{Tables, process_at, hand_at}
use Rattle.tables.specs.declared.process.Access.TheVariants as access
use Rattle.tables.specs.declared.process.Ending.{Ending}
use Rattle.tables.specs.declared.process.Ending.TheVariants as ending
use Rattle.tables.specs.declared.process.Phase.{Phase}
use Rattle.tables.specs.declared.process.Phase.TheVariants.{Idle, Beginning, Reading, Writing, Extending, Certifying, Storing, Freeing}
use Rattle.tables.specs.declared.process.Process.{Process}
use Rattle.tables.specs.declared.reply.Answer.{Answer}
use Rattle.tables.specs.declared.reply.Answer.TheVariants as answer_is
use Rattle.tables.specs.declared.reply.Conflict.{Conflict}
use Rattle.tables.specs.declared.reply.Effect.TheVariants.{Nothing, Took, Sealed, Stored, Freed}
use Rattle.tables.specs.declared.reply.Request.{Request}
use Rattle.tables.specs.declared.reply.Request.TheVariants.{Begin, Read, Write, Commit, Withdraw}
use Rattle.tables.specs.declared.reply.Stepped.{Stepped}
use Rattle.engine.specs.Outcome.{going, answering}
use Rattle.protocol.specs.Protocol.{State, Event, next}
use Rattle.protocol.specs.Protocol.Held.{nobody, by}
use Rattle.protocol.specs.Protocol.Phase.{running}
use Rattle.protocol.specs.Protocol.Cause.{withdrawn}
use Rattle.protocol.specs.Protocol.Event.{ready, look, check, extend, answer, own, write, certify, pass, seal, finish, store, fail, free, commit, close}
use Rattle.refinement.proofs.Deciding.{cause_of}
use Rattle.refinement.proofs.Placing.{Shown}

-- the request that a phase belongs to; h is the content in the hand place. One in conflict is any but a begin.
abbrev pub Asks : {K : Type 0} → K → Phase → Request K → Type 0
Asks h Idle r = ⊥
Asks h (Beginning next least) r = r ≡ Begin
Asks h (Reading x) r = r ≡ Read x
Asks h (Writing x) r = r ≡ Write x h
Asks h (Extending x to next access.Read) r = r ≡ Read x
Asks h (Extending x to next access.Write) r = r ≡ Write x h
Asks h (Certifying next) r = r ≡ Commit
Asks h (Storing next) r = r ≡ Commit
Asks h (Freeing next (ending.Abort c)) r = r ≡ Begin → ⊥
Asks h (Freeing next ending.Withdraw) r = r ≡ Withdraw

-- the conflict for which a transaction is given up
abbrev pub conflict_of : Ending → Option Conflict
conflict_of (ending.Abort c) = Some c
conflict_of ending.Withdraw = None

-- the conflict that the request in hand was stopped by
abbrev pub stopped_by : Phase → Option Conflict
stopped_by Idle = None
stopped_by (Beginning next least) = None
stopped_by (Reading x) = None
stopped_by (Writing x) = None
stopped_by (Extending x to next a) = None
stopped_by (Certifying next) = None
stopped_by (Storing next) = None
stopped_by (Freeing next e) = conflict_of e

-- A step of process p in the state s: the request, the steps that it has made before, the conflict that it was stopped by, the
-- reply, the events with the newest first, and the conflict that the request is stopped by then.
pub data Block {K : Type 0} (s : State K) (p : ℕ) : Request K → ℕ → Option Conflict → Stepped K → List (Event K) → Option Conflict → Type 0 where
  reads_bank : (n : ℕ) → Block s p Begin n None (going Nothing) [] None
  begins : (n c : ℕ) → Block s p Begin n None (answering Nothing (answer_is.Begun (n + 1))) (ready p c ∷ []) None
  -- a read
  reads_own : (x : ℕ) (v : K) (n : ℕ) → n ≡ 0 → Block s p (Read x) n None (answering Nothing (answer_is.Read v (n + 1))) (own p x v ∷ []) None
  reads_now : (x st : ℕ) (v : K) (n : ℕ) → n ≡ 0
      → Block s p (Read x) n None (answering Nothing (answer_is.Read v (n + 1))) (answer p x st v ∷ look p x v ∷ []) None
  reads_later : (x st : ℕ) (v : K) (n : ℕ) → n ≡ 0
      → Block s p (Read x) n None (answering Nothing (answer_is.Read v (n + 1))) (answer p x st v ∷ extend p ∷ look p x v ∷ []) None
  reads_waits : (x : ℕ) (v : K) (n : ℕ) → n ≡ 0 → Block s p (Read x) n None (going Nothing) (look p x v ∷ []) None
  extends_read : (x y n : ℕ) → Block s p (Read x) n None (going Nothing) (check p y ∷ []) None
  reads_extended : (x st : ℕ) (v : K) (y n : ℕ)
      → Block s p (Read x) n None (answering Nothing (answer_is.Read v (n + 1))) (answer p x st v ∷ extend p ∷ check p y ∷ []) None
  -- a write
  rewrites : (x : ℕ) (v w : K) (n : ℕ) → n ≡ 0 → s.held x ≡ by p w
      → Block s p (Write x v) n None (answering Nothing (answer_is.Written (n + 1))) (write p x v ∷ []) None
  takes_now : (x : ℕ) (v : K) (n : ℕ) → n ≡ 0 → s.held x ≡ nobody
      → Block s p (Write x v) n None (answering (Took x) (answer_is.Written (n + 1))) (write p x v ∷ []) None
  takes_later : (x : ℕ) (v : K) (n : ℕ) → n ≡ 0 → s.held x ≡ nobody
      → Block s p (Write x v) n None (answering (Took x) (answer_is.Written (n + 1))) (extend p ∷ write p x v ∷ []) None
  takes_waits : (x : ℕ) (v : K) (n : ℕ) → n ≡ 0 → s.held x ≡ nobody → Block s p (Write x v) n None (going (Took x)) (write p x v ∷ []) None
  extends_write : (x : ℕ) (v : K) (y n : ℕ) → 0 < n → Block s p (Write x v) n None (going Nothing) (check p y ∷ []) None
  writes_extended : (x : ℕ) (v : K) (y n : ℕ) → 0 < n
      → Block s p (Write x v) n None (answering Nothing (answer_is.Written (n + 1))) (extend p ∷ check p y ∷ []) None
  -- a commit
  passes : (y n : ℕ) → Block s p Commit n None (going Nothing) (pass p y ∷ []) None
  passes_last : (y n : ℕ) → Block s p Commit n None (answering Nothing (answer_is.Committed (n + 1))) (close p ∷ finish p ∷ pass p y ∷ []) None
  commits_nothing : (n : ℕ) → Block s p Commit n None (answering Nothing (answer_is.Committed (n + 1))) (close p ∷ finish p ∷ []) None
  seals : (t : ℕ) (b : ℕ → ℕ) (n : ℕ) → Block s p Commit n None (going Sealed) (seal p t b ∷ []) None
  stores : (x : ℕ) (v : K) (t n : ℕ) → Block s p Commit n None (going (Stored x)) (store p x v t ∷ []) None
  stores_last : (x : ℕ) (v : K) (t n : ℕ)
      → Block s p Commit n None (answering (Stored x) (answer_is.Committed (n + 1))) (commit p t ∷ store p x v t ∷ []) None
  -- a conflict, and a withdrawal
  stops : (r : Request K) (c : Conflict) (n : ℕ) → Block s p r n None (going Nothing) (fail p (cause_of c) ∷ []) (Some c)
  aborts : (r : Request K) (c : Conflict) (n : ℕ)
      → Block s p r n None (answering Nothing (answer_is.Aborted c (n + 1))) (close p ∷ fail p (cause_of c) ∷ []) None
  frees : (r : Request K) (o : Option Conflict) (x : ℕ) (v : K) (n : ℕ) → Block s p r n o (going (Freed x)) (free p x v ∷ []) o
  aborts_freed : (r : Request K) (c : Conflict) (x : ℕ) (v : K) (n : ℕ)
      → Block s p r n (Some c) (answering (Freed x) (answer_is.Aborted c (n + 1))) (close p ∷ free p x v ∷ []) None
  aborts_empty : (r : Request K) (c : Conflict) (n : ℕ) → Block s p r n (Some c) (answering Nothing (answer_is.Aborted c (n + 1))) (close p ∷ []) None
  withdraws_freed : (x : ℕ) (v : K) (n : ℕ)
      → Block s p Withdraw n None (answering (Freed x) (answer_is.Withdrawn (n + 1))) (close p ∷ free p x v ∷ []) None
  withdraws_empty : (n : ℕ) → Block s p Withdraw n None (answering Nothing (answer_is.Withdrawn (n + 1))) (close p ∷ []) None

-- The first step of a commit also begins certification, and the first step of a withdrawal gives the transaction up.
pub data Act {K : Type 0} (s : State K) (p : ℕ) : Request K → ℕ → Option Conflict → Stepped K → List (Event K) → Option Conflict → Type 0 where
  plain : {r : Request K} {n : ℕ} {o o' : Option Conflict} {z : Stepped K} {es : List (Event K)} → (r ≡ Commit → s.phase p ≡ running → ⊥)
      → Block s p r n o z es o' → Act s p r n o z es o'
  certifying_first : {n : ℕ} {o' : Option Conflict} {z : Stepped K} {es : List (Event K)} → n ≡ 0
      → Block (next s (certify p)) p Commit n None z es o' → Act s p Commit n None z (es ++ certify p ∷ []) o'
  withdrawing_first : {n : ℕ} {o' : Option Conflict} {z : Stepped K} {es : List (Event K)} → n ≡ 0
      → Block (next s (fail p withdrawn)) p Withdraw n None z es o' → Act s p Withdraw n None z (es ++ fail p withdrawn ∷ []) o'

-- an extension under way has made a step: the look of its read or write
abbrev pub HasStepped : Phase → ℕ → Type 0
HasStepped Idle n = Unit {0}
HasStepped (Beginning next least) n = Unit {0}
HasStepped (Reading x) n = Unit {0}
HasStepped (Writing x) n = Unit {0}
HasStepped (Extending x to next a) n = 0 < n
HasStepped (Certifying next) n = Unit {0}
HasStepped (Storing next) n = Unit {0}
HasStepped (Freeing next e) n = Unit {0}

-- it holds of a request that has made a step, in whatever phase
pub has_stepped : (f : Phase) (n : ℕ) → 0 < n → HasStepped f n
has_stepped f n l = grind arith

-- how the record of a process stands after a step of its request: the request goes on, or it is answered
abbrev pub Goes : {K : Type 0} → Request K → ℕ → Option Conflict → Option (Answer K) → Process → K → Type 0
Goes r n o None q h = Asks h q.phase r × (q.steps ≡ n + 1) × (stopped_by q.phase ≡ o)
Goes r n o (Some a) q h = (q.phase ≡ Idle) × (q.steps ≡ 0)

-- A step of process p, from the tables t to the tables u, that replies z; number is the bank's then.
pub record Advance {K : Type 0} (e : K) (P : ℕ) (number : ℕ → ℕ) (t u : Tables K) (s : State K) (p : ℕ) (z : Stepped K) : Type 0 where
  pub events : List (Event K)
  pub shown : Shown e P number u s events
  pub live : (process_at t p).live ≡ true
  pub conflict : Option Conflict
  pub act : HasStepped (process_at t p).phase (process_at t p).steps → (r : Request K) → Asks (hand_at e t p) (process_at t p).phase r
      → Act s p r (process_at t p).steps (stopped_by (process_at t p).phase) z events conflict
  pub goes : (r : Request K) → Asks (hand_at e t p) (process_at t p).phase r
      → Goes r (process_at t p).steps conflict z.answer (process_at u p) (hand_at e u p)
  pub others : (q : ℕ) → (q ≡ p → ⊥) → (process_at u q ≡ process_at t q) × (hand_at e u q ≡ hand_at e t q)
