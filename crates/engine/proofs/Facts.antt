-- What the tests of soundness tell of the record of a process.
use Rattle.std.proofs.Common.{◌≡◌, ℕ, ◌+◌, ◌*◌, ◌<◌, ◌≤◌, Bool, true, ◌&&◌, ◌||◌, eqb, ltb, List, [], ◌∷◌, length, get_or, take, drop, is_some, refl, ap, ◌∙◌, inl, inr, arith}
use Rattle.std.proofs.lemmas.Bool.{and_parts, ltb-true, cases_Bool}
use Rattle.std.proofs.lemmas.Bool.Decides.{nat_tests}
use Rattle.std.proofs.lemmas.List.{get_or-take, get_or-drop, length-take, length-drop}
use Rattle.std.proofs.lemmas.List.Sums.{AllPass-from_list_all}
use Rattle.tables.specs.declared.map.Slot.{Slot}
use Rattle.tables.specs.declared.memory.Object.{Object}
use Rattle.tables.specs.declared.process.Access.{Access}
use Rattle.tables.specs.declared.process.Phase.{Phase}
use Rattle.tables.specs.declared.process.Phase.TheVariants.{Idle, Beginning, Reading, Writing, Extending, Certifying, Storing, Freeing}
use Rattle.tables.specs.declared.process.Process.{Process}
use Rattle.tables.specs.Lookup.{pair, value_of, place_of}
use Rattle.tables.specs.Tables.{Tables, process_at, write_set, sizes_ok}
use Rattle.engine.specs.Sound.{named_ok, all_named, counts_ok, sets_ok, phase_ok, access_room, ending_ok}
use Rattle.engine.specs.Ready.{Ready, Sound, PhaseFacts, JoinsIn}

-- pair i of a set, the n places from `at` on, names an object
named_at : {K V : Type 0} (e : K) (os : List (Object K)) (m : ℕ) (xs : List (Slot V)) (at n i : ℕ) (d : Slot V) → all_named e os m (take n (drop at xs)) ≡ true → at + n ≤ length xs → i < n → (get_or xs (at + i) d).object < length os
named_at {V = V} e os m xs at n i d h l w =
    let k : i < length (take n (drop at xs)) = simp (length-take, length-drop) (omega arith) in
    let z = AllPass-from_list_all (λ (s : Slot V). named_ok e os m s.object) (take n (drop at xs)) h i d k in
    rw (← get_or-drop at xs i d, ← get_or-take n (drop at xs) i d w) (ltb-true _ _ (and_parts _ _ z).0)

pub ready : {K : Type 0} (t : Tables K) (p : ℕ) → sizes_ok t ≡ true → p < length t.processes → counts_ok (process_at t p) ≡ true → Ready t p
ready t p h l c = grind arith

pub sound_facts : {K : Type 0} (e : K) (t : Tables K) (p : ℕ) → Ready t p → sets_ok e t p ≡ true → Sound e t p
sound_facts e t p k s =
    let both = and_parts _ _ (and_parts _ _ (and_parts _ _ (and_parts _ _ s).0).0).0 in
    record {
      ready = k;
      reads_named = λ i w. named_at e t.objects (length t.processes) t.reads (p * 32) (process_at t p).reads i (pair 0 0) both.0 (omega arith) w;
      writes_named = λ i w. named_at e t.objects (length t.processes) t.writes (p * 16) (process_at t p).writes i (pair 0 e) both.1 (omega arith) w;
    }

-- an object has a value exactly where it has a place
pub value_place : {V : Type 0} (xs : List (Slot V)) (x n : ℕ) → is_some (value_of xs x) ≡ is_some (place_of xs x n)
value_place [] x n = refl
value_place (s ∷ ss) x n =
    elim (cases_Bool (eqb s.object x)) [ inl e ↦ simp e | inr e ↦ simp e (value_place ss x (n + 1)) ]

joins : {K : Type 0} (t : Tables K) (p x : ℕ) (a : Access) → access_room t p x a ≡ true → JoinsIn t p x a
joins t p x a h = grind arith

free_facts : (next n : ℕ) (ok : Bool) → ((eqb n 0 || ltb next n) && ok) ≡ true → 0 < n → next < n
free_facts next n ok h l = grind (arith, nat_tests)

pub phase_facts : {K : Type 0} (e : K) (t : Tables K) (p : ℕ) (f : Phase) → phase_ok e t p (process_at t p) f ≡ true → PhaseFacts t p f
phase_facts e t p Idle h = tt
phase_facts e t p (Beginning next least) h = ltb-true _ _ (and_parts _ _ h).0
phase_facts e t p (Reading x) h =
    let a = and_parts _ _ h in
    (ltb-true _ _ (and_parts _ _ a.0).0, λ w v. ltb-true _ _ (simp (w, v) at a.1))
phase_facts e t p (Writing x) h =
    let a = and_parts _ _ h in
    (ltb-true _ _ (and_parts _ _ a.0).0, λ w. ltb-true _ _ (simp (value_place (write_set t p) x 0, w) at a.1))
phase_facts e t p (Extending x to next a) h =
    let f = and_parts _ _ h in
    (ltb-true _ _ (and_parts _ _ f.0).1, joins t p x a f.1)
phase_facts e t p (Certifying next) h = tt
phase_facts e t p (Storing next) h = ltb-true _ _ h
phase_facts e t p (Freeing next a) h =
    free_facts next (process_at t p).writes (ending_ok e t.objects (length t.processes) a) h

-- r, the record of p, whose tests have passed
pub sound_record : {K : Type 0} (e : K) (t : Tables K) (p : ℕ) (r : Process) → r ≡ process_at t p → sizes_ok t ≡ true → p < length t.processes → counts_ok (process_at t p) ≡ true → sets_ok e t p ≡ true → phase_ok e t p (process_at t p) (process_at t p).phase ≡ true → Sound e t p × PhaseFacts t p r.phase
sound_record e t p r q h l c s f = (sound_facts e t p (ready t p h l c) s, phase_facts e t p r.phase (ap (λ (z : Process). phase_ok e t p (process_at t p) z.phase) q ∙ f))
