-- No call of a run from a good memory is refused for the state of the tables.
use Rattle.std.proofs.Common.{ℕ, ◌^◌, ◌≤◌, Bool, cond, List, [], ◌∷◌, length, Some, None, Option, sym, subst, inl, inr, rules}
use Rattle.std.proofs.lemmas.Bool.{cases_lt}
use Rattle.tables.specs.Tables.{Tables, process_at}
use Rattle.tables.specs.declared.process.Phase.{Phase}
use Rattle.tables.specs.declared.refusal.Refusal.{Refusal}
use Rattle.tables.specs.declared.refusal.Refusal.TheVariants as refusal
use Rattle.tables.specs.declared.reply.Request.{Request}
use Rattle.engine.specs.Place.{is_idle, due, object_no, request_no, first_no, place_no, place_unless, place_call}
use Rattle.engine.specs.Sound.{refused}
use Rattle.engine.specs.Step.{phase_step, step_unless, step_call}
use Rattle.journal.specs.declared.call.Call.{Call}
use Rattle.journal.specs.declared.call.Call.TheVariants.{Place, Step}
use Rattle.journal.specs.Runs.{World, reply_to, after_call, journal, placing_reply, step_reply}
use Rattle.journal.specs.Trust.{OfTheCall, Trusted, AllTrusted, IsFresh}
use Rattle.refinement.proofs.Own.{Good}
use Rattle.refinement.proofs.Kept.{unrefused, absent, step_good, place_good, fresh_good}

-- a refusal, where there is one, is of the call
abbrev MaybeOfTheCall : Option Refusal → Type 0
MaybeOfTheCall None = Unit {0}
MaybeOfTheCall (Some q) = OfTheCall q

module _ {K : Type 0} (e : K) (t : Tables K) (p : ℕ) (g : Good e t) where
  first : MaybeOfTheCall (refused e t p)
  first =
      elim (cases_lt p (length t.processes)) [
        | inl l ↦ subst MaybeOfTheCall (sym (unrefused e t p g l)) tt
        | inr l ↦ subst MaybeOfTheCall (sym (absent e t p g l)) tt
      ]

  phase_trusted : (number : ℕ → ℕ) (f : Phase) → Trusted (step_reply (phase_step e number t p f).reply)
  phase_trusted number f = search rules

  step_trusted : (number : ℕ → ℕ) (r : Option Refusal) → MaybeOfTheCall r → Trusted (step_reply (step_unless r e number t p).reply)
  step_trusted number None h = phase_trusted number (process_at t p).phase
  step_trusted number (Some q) h = h

  access_trusted : (a b : Bool) → MaybeOfTheCall (cond a (cond b None (Some refusal.Room)) (Some refusal.Object))
  access_trusted a b = search rules

  object_trusted : (q : Request K) → MaybeOfTheCall (object_no t p q)
  object_trusted q = search rules

  request_trusted : (a b : Bool) (o : Option Refusal) → MaybeOfTheCall o → MaybeOfTheCall (cond a (cond b o (Some refusal.Transaction)) (Some refusal.InHand))
  request_trusted a b o h = search rules

  both_trusted : (a b : Option Refusal) → MaybeOfTheCall a → MaybeOfTheCall b → MaybeOfTheCall (first_no a b)
  both_trusted None b h k = k
  both_trusted (Some q) b h k = h

  place_trusted : (q : Request K) (r : Option Refusal) → MaybeOfTheCall r → Trusted {K = K} (placing_reply (place_unless r t p q).reply)
  place_trusted q None h = tt
  place_trusted q (Some x) h = h

  pub step_is_trusted : (number : ℕ → ℕ) → Trusted (step_reply (step_call e number t p).reply)
  step_is_trusted number = step_trusted number (refused e t p) first

  pub place_is_trusted : (q : Request K) → Trusted {K = K} (placing_reply (place_call e t p q).reply)
  place_is_trusted q =
      place_trusted q (place_no e t p q)
      (both_trusted (refused e t p) (request_no t p q) first
      (request_trusted (is_idle (process_at t p).phase) (due q (process_at t p).live) (object_no t p q) (object_trusted q)))

module _ {K B : Type 0} (e : K) (number : B → ℕ → ℕ) (moved : B → ℕ → ℕ → B) (ranged : (b : B) (q : ℕ) → number b q ≤ 2 ^ 40) where
  call_trusted : (w : World K B) (c : Call K) → Good e w.tables → Trusted (reply_to e number w c)
  call_trusted w (Place p q) g = place_is_trusted e w.tables p g q
  call_trusted w (Step p) g = step_is_trusted e w.tables p g (number w.bank)

  pub call_good : (w : World K B) (c : Call K) → Good e w.tables → Good e (after_call e number moved w c).tables
  call_good w (Place p q) g = place_good e w.tables p q g
  call_good w (Step p) g = step_good e (number w.bank) w.tables p g (ranged w.bank)

  pub all_trusted : (w : World K B) (cs : List (Call K)) → Good e w.tables → AllTrusted (journal e number moved w cs)
  all_trusted w [] g = tt
  all_trusted w (c ∷ cs) g = (call_trusted w c g, all_trusted (after_call e number moved w c) cs (call_good w c g))

  -- every run from a fresh memory
  pub fresh_trusted : (w : World K B) (cs : List (Call K)) → IsFresh e w.tables → AllTrusted (journal e number moved w cs)
  fresh_trusted w cs f = all_trusted w cs (subst (Good e) (sym f.3) (fresh_good e f.0 f.1 f.2))
