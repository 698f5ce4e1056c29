-- Every list of calls, on a memory that lists of calls have reached from a fresh one, keeps the law over the whole run.
use Rattle.std.proofs.Common.{◌≡◌, ℕ, ◌^◌, ◌≤◌, List, [], ◌∷◌, Ok, Err, Result, sym, refl, subst}
use Rattle.tables.specs.Tables.{Tables}
use Rattle.tables.specs.declared.refusal.Refusal.{Refusal}
use Rattle.tables.specs.declared.reply.Stepped.{Stepped}
use Rattle.engine.specs.Place.{place_call}
use Rattle.engine.specs.Step.{step_call}
use Rattle.refinement.proofs.Calls.{step_refused, place_refused}
use Rattle.law.specs.Trace.{Trace}
use Rattle.law.specs.Law.{Lawful}
use Rattle.law.proofs.Course.{Course, course_step, course_place, course_fresh, lawful_run}
use Rattle.journal.specs.declared.call.Call.{Call}
use Rattle.journal.specs.declared.call.Call.TheVariants.{Place, Step}
use Rattle.journal.specs.declared.call.Line.{Line}
use Rattle.journal.specs.Runs.{World, reply_to, placing_reply, step_reply, after_call, journal, after_calls}
use Rattle.journal.specs.Trust.{AllTrusted}
use Rattle.journal.specs.Traces.{noted, trace_on, contents_of, Reached}
use Rattle.journal.specs.Traces.Reached.{fresh, later}
use Rattle.journal.proofs.Trusting.{all_trusted}

module _ {K B : Type 0} (e : K) (number : B → ℕ → ℕ) (moved : B → ℕ → ℕ → B) (ranged : (b : B) (q : ℕ) → number b q ≤ 2 ^ 40) (rises : (b : B) (p u q : ℕ) → number b q ≤ number (moved b p u) q) where
  -- the course of a memory and its bank
  abbrev CourseOf : ℕ → (ℕ → K) → (ℕ → ℕ) → World K B → Trace K → Type 0
  CourseOf P start b w j = Course e P start b (number w.bank) w.tables j

  call_course : (P : ℕ) (start : ℕ → K) (b : ℕ → ℕ) (w : World K B) (j : Trace K) (c : Call K) → CourseOf P start b w j → CourseOf P start b (after_call e number moved w c) (noted c (reply_to e number w c) j)
  call_course P start b w j (Place p q) k = go (place_call e w.tables p q).reply refl
    where
      go : (r : Result (Unit {0}) Refusal) → (place_call e w.tables p q).reply ≡ r → CourseOf P start b (after_call e number moved w (Place p q)) (noted (Place p q) (placing_reply r) j)
      go (Ok tt) h = course_place e number moved ranged rises P start b w.tables (number w.bank) p j k q h
      go (Err r) h = subst (λ (t : Tables K). Course e P start b (number w.bank) t j) (sym (place_refused e w.tables p q r h)) k
  call_course P start b w j (Step p) k = go (step_call e (number w.bank) w.tables p).reply refl
    where
      go : (r : Result (Stepped K) Refusal) → (step_call e (number w.bank) w.tables p).reply ≡ r → CourseOf P start b (after_call e number moved w (Step p)) (noted (Step p) (step_reply r) j)
      go (Ok z) h = course_step e number moved ranged rises P start b w.tables w.bank p j k z h
      go (Err r) h =
          let s = step_refused e number moved rises w.tables w.bank p r h in
          subst (λ (t : Tables K). Course e P start b (number (after_call e number moved w (Step p)).bank) t j) (sym s.0)
          (subst (λ (c : B). Course e P start b (number c) w.tables j) (sym s.1) k)

  calls_course : (P : ℕ) (start : ℕ → K) (b : ℕ → ℕ) (w : World K B) (j : Trace K) (cs : List (Call K)) → CourseOf P start b w j → CourseOf P start b (after_calls e number moved w cs) (trace_on j (journal e number moved w cs))
  calls_course P start b w j [] k = k
  calls_course P start b w j (c ∷ cs) k = calls_course P start b (after_call e number moved w c) (noted c (reply_to e number w c) j) cs (call_course P start b w j c k)

  reached_course : {P : ℕ} {start : ℕ → K} {w : World K B} {j : Trace K} → Reached e number moved P start w j → (b : ℕ → ℕ) × CourseOf P start b w j
  reached_course (fresh contents P b h) = (number b, course_fresh e (number b) contents P h)
  reached_course {P} {start} (later {w = w} {j = j} cs lines v r k) =
      let c = reached_course k in (
        c.0,
        subst (λ (x : World K B). CourseOf P start c.0 x (trace_on j lines)) (sym r.left)
            (subst (λ (l : List (Line K)). CourseOf P start c.0 (after_calls e number moved w cs) (trace_on j l)) (sym r.written) (calls_course P start c.0 w j cs c.1)),
      )

  -- the law over the whole run
  pub law_holds : (P : ℕ) (start : ℕ → K) (w : World K B) (j : Trace K) → Reached e number moved P start w j → Lawful P start j (contents_of e w.tables)
  law_holds P start w j r = let c = reached_course r in lawful_run e P start c.0 (number w.bank) w.tables j c.1

  -- no call is refused for the state of the tables
  pub still_trusted : (P : ℕ) (start : ℕ → K) (w : World K B) (j : Trace K) (cs : List (Call K)) → Reached e number moved P start w j → AllTrusted (journal e number moved w cs)
  still_trusted P start w j cs r = let c = reached_course r in all_trusted e number moved ranged w cs c.1.good
