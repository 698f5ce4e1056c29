-- A call leaves the number of processes as it is.
use Rattle.std.proofs.Common.{◌≡◌, ℕ, ◌+◌, ◌&&◌, eqb, ltb, length, set, Some, None, Ok, Err, Option, Result, refl}
use Rattle.std.proofs.lemmas.Bool.{cond_both}
use Rattle.std.proofs.lemmas.List.{length-set}
use Rattle.tables.specs.Lookup.{value_of, place_of}
use Rattle.tables.specs.Tables.{Tables, process_at, read_set, write_set}
use Rattle.tables.specs.declared.memory.Object.{Object}
use Rattle.tables.specs.declared.process.Access.{Access}
use Rattle.tables.specs.declared.process.Access.TheVariants as access
use Rattle.tables.specs.declared.process.Phase.{Phase}
use Rattle.tables.specs.declared.process.Phase.TheVariants.{Idle, Beginning, Reading, Writing, Extending, Certifying, Storing, Freeing}
use Rattle.tables.specs.declared.process.Process.{Process}
use Rattle.tables.specs.declared.refusal.Refusal.{Refusal}
use Rattle.tables.specs.declared.reply.Conflict.{Conflict}
use Rattle.tables.specs.declared.reply.Request.{Request}
use Rattle.tables.specs.declared.reply.Request.TheVariants as ask
use Rattle.engine.specs.Commit.{seal_stamp, sealed_at}
use Rattle.engine.specs.Ends.{stopped}
use Rattle.engine.specs.Extend.{extended}
use Rattle.engine.specs.Look.{looked, pair_looked}
use Rattle.engine.specs.Looked.{passed, after_look, read_at_value, write_at_place}
use Rattle.engine.specs.Outcome.{Outcome}
use Rattle.engine.specs.Place.{place_no, place_unless, place_call}
use Rattle.engine.specs.Reads.{joined, current}
use Rattle.engine.specs.Sound.{refused}
use Rattle.engine.specs.Step.{commit_step, phase_step, step_unless, step_call}

module _ {K : Type 0} (e : K) (t : Tables K) (p : ℕ) where
  abbrev Same : {R : Type 0} → Outcome R K → Type 0
  Same z = length z.tables.processes ≡ length t.processes

  -- the record of p replaced
  one : (r : Process) → length (set t.processes p r) ≡ length t.processes
  one r = length-set t.processes p r

  stops : (c : Conflict) → Same (stopped e t p c)
  stops c = cond_both (eqb (process_at t p).writes 0) _ _ (λ (z : Outcome _ K). Same z) (λ _. one _) (λ _. one _)

  joins : (x stamp clock : ℕ) (seen : Option ℕ) → length (joined t p x stamp clock seen).processes ≡ length t.processes
  joins x stamp clock (Some u) = one _
  joins x stamp clock None = one _

  reads : (x : ℕ) (o : Object K) (seen : Option ℕ) → length (joined (Rattle.tables.specs.Tables.with_hand t p o.content) p x o.stamp (Prim.Native.Nat.max (process_at t p).clock o.stamp) seen).processes ≡ length t.processes
  reads x o (Some u) = one _
  reads x o None = one _

  extends : (x to : ℕ) (a : Access) → Same (extended e t p x to a)
  extends x to access.Read = joins x to to (value_of (read_set t p) x)
  extends x to access.Write = one _

  passes : (f : Phase) (o : Object K) → Same (passed e t p f o)
  passes Idle o = refl
  passes (Beginning next least) o = refl
  passes (Reading x) o =
      cond_both (current (process_at t p) o.stamp) _ _ (λ (z : Outcome _ K). Same z) (λ _. reads x o (value_of (read_set t p) x)) (λ _. one _)
  passes (Writing x) o = cond_both (current (process_at t p) o.stamp) _ _ (λ (z : Outcome _ K). Same z) (λ _. one _) (λ _. one _)
  passes (Extending x to next a) o =
      cond_both (eqb (next + 1) (process_at t p).reads) _ _ (λ (z : Outcome _ K). Same z) (λ _. extends x to a) (λ _. one _)
  passes (Certifying next) o =
      cond_both (eqb (next + 1) (process_at t p).reads && eqb (process_at t p).writes 0) _ _ (λ (z : Outcome _ K). Same z) (λ _. one _) (λ _. one _)
  passes (Storing next) o = refl
  passes (Freeing next x) o = refl

  looks : (f : Phase) (l : Result (Object K) Conflict) → Same (after_look e t p f l)
  looks f (Err c) = stops c
  looks f (Ok o) = passes f o

  fetches : (x : ℕ) (v : Option K) → Same (read_at_value e t p x v)
  fetches x (Some v) = one _
  fetches x None = looks (Reading x) (looked e t p x (value_of (read_set t p) x))

  writes : (x : ℕ) (i : Option ℕ) → Same (write_at_place e t p x i)
  writes x (Some i) = one _
  writes x None = looks (Writing x) (looked e t p x None)

  seals : (s : Option ℕ) → Same (sealed_at e t p s)
  seals (Some s) = one _
  seals None = stops _

  commits : (number next : ℕ) → Same (commit_step e number t p next)
  commits number next =
      cond_both (ltb next (process_at t p).reads) _ _ (λ (z : Outcome _ K). Same z)
      (λ _. looks (Certifying next) (pair_looked e t p next))
      (λ _. cond_both (eqb (process_at t p).writes 0) _ _ (λ (z : Outcome _ K). Same z)
      (λ _. one _)
      (λ _. seals (seal_stamp (process_at t p).clock number)))

  phase : (number : ℕ → ℕ) (f : Phase) → Same (phase_step e number t p f)
  phase number Idle = refl
  phase number (Beginning next least) =
      cond_both (eqb (next + 1) (length t.processes)) _ _ (λ (z : Outcome _ K). Same z) (λ _. one _) (λ _. one _)
  phase number (Reading x) = fetches x (value_of (write_set t p) x)
  phase number (Writing x) = writes x (place_of (write_set t p) x 0)
  phase number (Extending x to next a) = looks (Extending x to next a) (pair_looked e t p next)
  phase number (Certifying next) = commits (number p) next
  phase number (Storing next) =
      cond_both (eqb (next + 1) (process_at t p).writes) _ _ (λ (z : Outcome _ K). Same z) (λ _. one _) (λ _. one _)
  phase number (Freeing next x) =
      cond_both (eqb (process_at t p).writes 0) _ _ (λ (z : Outcome _ K). Same z) (λ _. one _)
      (λ _. cond_both (eqb (next + 1) (process_at t p).writes) _ _ (λ (z : Outcome _ K). Same z) (λ _. one _) (λ _. one _))

  unless : (number : ℕ → ℕ) (r : Option Refusal) → Same (step_unless r e number t p)
  unless number (Some q) = refl
  unless number None = phase number (process_at t p).phase

  pub step_counts : (number : ℕ → ℕ) → Same (step_call e number t p)
  step_counts number = unless number (refused e t p)

  placed_unless : (q : Request K) (r : Option Refusal) → Same (place_unless r t p q)
  placed_unless q (Some n) = refl
  placed_unless ask.Begin None = one _
  placed_unless (ask.Read x) None = one _
  placed_unless (ask.Write x v) None = one _
  placed_unless ask.Commit None = one _
  placed_unless ask.Withdraw None = one _

  pub place_counts : (q : Request K) → Same (place_call e t p q)
  place_counts q = placed_unless q (place_no e t p q)
