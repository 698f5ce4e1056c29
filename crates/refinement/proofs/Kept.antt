-- Every call keeps a memory good, a fresh memory is good, and no call on a good memory is refused for its tables.
use Rattle.std.proofs.Common.{◌≡◌, ℕ, ◌+◌, ◌-◌, ◌*◌, ◌^◌, ◌<◌, ◌≤◌, Bool, true, cond, ◌&&◌, eqb, List, [], length, Some, None, Option, sym, refl, ap, ◌∙◌, subst, inl, inr, arith}
use Rattle.std.proofs.lemmas.Bool.{cases_Bool, and_from, eqb-true, eqb-false, lt-ltb, eq-eqb}
use Rattle.tables.specs.Lookup.{pair}
use Rattle.tables.specs.Tables.{Tables, process_at, read_set, write_set, with_process, with_hand, blank_object, sizes_ok}
use Rattle.tables.specs.declared.memory.Object.{Object}
use Rattle.tables.specs.declared.process.Process.{Process}
use Rattle.engine.specs.Sound.{object_ok}
use Rattle.refinement.proofs.Windows.{window}
use Rattle.refinement.proofs.Own.{Good, sound_from}
use Rattle.refinement.proofs.Changes.{sets_stay, hands_good}
use Rattle.refinement.proofs.Frames.{own_at}
use Rattle.refinement.proofs.Phases.{phase_good}
use Rattle.tables.specs.declared.refusal.Refusal.{Refusal}
use Rattle.tables.specs.declared.refusal.Refusal.TheVariants as refusal
use Rattle.tables.specs.declared.reply.Request.{Request}
use Rattle.tables.specs.declared.reply.Request.TheVariants as ask
use Rattle.engine.specs.Step.{step_unless, step_call}
use Rattle.engine.specs.Place.{access_no, object_no, request_no, placed, handed, first_no, place_no, place_unless, place_call}
use Rattle.engine.specs.Sound.{refused, readable, writable}
use Rattle.std.proofs.lemmas.List.{get_or-replicate, get_or-map, length-map, length-replicate}
use Rattle.tables.specs.Fresh.{unheld, fresh_tables}
use Rattle.tables.specs.Tables.{numbers_ok, idle_process}

-- a call that the first questions do not refuse names a process
pub within : {K : Type 0} (e : K) (t : Tables K) (p : ℕ) → refused e t p ≡ None → p < length t.processes
unfolding refused
within e t p h = grind arith

-- on a good memory the first questions refuse only a process that is not there
pub unrefused : {K : Type 0} (e : K) (t : Tables K) (p : ℕ) → Good e t → p < length t.processes → refused e t p ≡ None
unfolding refused
unrefused e t p g l =
    let a = g.sizes in
    let b = lt-ltb p (length t.processes) l in
    let c = sound_from e t p g l in
    simp (a, b, c)

pub absent : {K : Type 0} (e : K) (t : Tables K) (p : ℕ) → Good e t → length t.processes ≤ p → refused e t p ≡ Some refusal.Process
unfolding refused
absent e t p g l = grind arith

step_at : {K : Type 0} (e : K) (number : ℕ → ℕ) (t : Tables K) (p : ℕ) (r : Option Refusal) → Good e t → ((q : ℕ) → number q ≤ 2 ^ 40) → refused e t p ≡ r → Good e (step_unless r e number t p).tables
step_at e number t p (Some q) g ranged h = g
step_at e number t p None g ranged h = phase_good e t p g (within e t p h) number (process_at t p).phase ranged refl

pub step_good : {K : Type 0} (e : K) (number : ℕ → ℕ) (t : Tables K) (p : ℕ) → Good e t → ((q : ℕ) → number q ≤ 2 ^ 40) → Good e (step_call e number t p).tables
step_good e number t p g ranged = step_at e number t p (refused e t p) g ranged refl

-- what a placing that is not refused tells
access_yes : {K : Type 0} (t : Tables K) (x : ℕ) (fits : Bool) → access_no t x fits ≡ None → (x < length t.objects) × (fits ≡ true)
access_yes t x fits h = grind arith

object_yes : {K : Type 0} (t : Tables K) (p : ℕ) (q : Request K) → request_no t p q ≡ None → object_no t p q ≡ None
object_yes t p q h = grind arith

module _ {K : Type 0} (e : K) (t : Tables K) (p : ℕ) (g : Good e t) (l : p < length t.processes) where
  -- a request is placed
  pub placed_good : (q : Request K) → object_no t p q ≡ None → Good e (with_process (handed t p q) p (placed (process_at t p) q))
  placed_good ask.Begin h =
      sets_stay e t p g l (placed {K = K} (process_at t p) ask.Begin) refl refl (g.owns p l).clock (omega arith, omega arith, omega arith)
  placed_good (ask.Read x) h =
      let a = access_yes t x (readable t p x) h in
      sets_stay e t p g l (placed {K = K} (process_at t p) (ask.Read x)) refl refl (g.owns p l).clock (a.0, a.1, refl)
  placed_good (ask.Write x v) h =
      let a = access_yes t x (writable t p x) h in
      sets_stay e (with_hand t p v) p (hands_good e t p g l v) l (placed (process_at t p) (ask.Write x v)) refl refl (g.owns p l).clock (a.0, a.1, refl)
  placed_good ask.Commit h =
      let a = (g.owns p l).read_count in
      let b = (g.owns p l).write_count in
      sets_stay e t p g l (placed {K = K} (process_at t p) ask.Commit) refl refl (g.owns p l).clock (omega arith, omega arith)
  placed_good ask.Withdraw h =
      sets_stay e t p g l (placed {K = K} (process_at t p) ask.Withdraw) refl refl (g.owns p l).clock (
        elim (cases_Bool (eqb (process_at t p).writes 0)) [ inl z ↦ inl (eqb-true (process_at t p).writes 0 z) | inr z ↦ inr (let n = eqb-false (process_at t p).writes 0 z in omega arith) ],
        tt,
        freeing (process_at t p).writes (g.owns p l).write_count,
      )
    where
      freeing : (n : ℕ) → n ≤ 16 → 0 + cond (eqb n 0) 1 (n - 0) ≤ 49
      freeing n h = elim (cases_Bool (eqb n 0)) [ inl z ↦ simp z (omega arith) | inr z ↦ simp z (omega arith) ]

place_at : {K : Type 0} (e : K) (t : Tables K) (p : ℕ) (q : Request K) (r : Option Refusal) → Good e t → place_no e t p q ≡ r → Good e (place_unless r t p q).tables
place_at e t p q (Some x) g h = g
place_at e t p q None g h =
    let a = both (refused e t p) (request_no t p q) h in placed_good e t p g (within e t p a.0) q (object_yes t p q a.1)
  where
    both : (a b : Option Refusal) → first_no a b ≡ None → (a ≡ None) × (b ≡ None)
    both a b h = grind arith

pub place_good : {K : Type 0} (e : K) (t : Tables K) (p : ℕ) (q : Request K) → Good e t → Good e (place_call e t p q).tables
place_good e t p q g = place_at e t p q (place_no e t p q) g refl

-- a fresh memory
pub fresh_good : {K : Type 0} (e : K) (contents : List K) (n : ℕ) → numbers_ok (length contents) n ≡ true → Good e (fresh_tables e contents n)
fresh_good e contents n h =
    let t = fresh_tables e contents n in
    let lo : length t.objects ≡ length contents = length-map contents unheld in
    let lp : length t.processes ≡ n = length-replicate n idle_process in
    let lr : length t.reads ≡ n * 32 = length-replicate (n * 32) (pair 0 0) in
    let lw : length t.writes ≡ n * 16 = length-replicate (n * 16) (pair 0 e) in
    let lh : length t.hands ≡ n = length-replicate n e in
    let sized : sizes_ok t ≡ (numbers_ok (length contents) n && eqb (n * 32) (n * 32) && eqb (n * 16) (n * 16) && eqb n n) =
    λ i. numbers_ok (lo i) (lp i) && eqb (lr i) (lp i * 32) && eqb (lw i) (lp i * 16) && eqb (lh i) (lp i) in
    record {
      sizes = sized ∙ and_from _ (eqb n n) (and_from _ (eqb (n * 16) (n * 16)) (and_from _ (eqb (n * 32) (n * 32)) h (eq-eqb (n * 32) (n * 32) refl)) (eq-eqb (n * 16) (n * 16) refl)) (eq-eqb n n refl);
      objects = λ x l. ap (λ (o : Object _). object_ok o (length t.processes)) (get_or-map unheld contents x e (blank_object e) (subst (λ (k : ℕ). x < k) lo l));
      owns = λ p l.
          let q : process_at t p ≡ idle_process = get_or-replicate n p idle_process idle_process (subst (λ (k : ℕ). p < k) lp l) in
          own_at (length t.processes) (length t.processes) (length t.objects) (length t.objects) idle_process (process_at t p) [] (read_set t p) [] (write_set t p)
          refl refl (sym q)
          (ap (λ (r : Process). window t.reads (p * 32) r.reads) (sym q))
          (ap (λ (r : Process). window t.writes (p * 16) r.writes) (sym q))
          (record {
            read_count = omega arith;
            write_count = omega arith;
            clock = omega arith;
            reads_below = refl;
            writes_below = refl;
            reads_apart = refl;
            writes_apart = refl;
            stamps = refl;
            phase = refl;
          });
    }
