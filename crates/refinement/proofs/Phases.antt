-- Every step and every placing keeps a memory good.
use Rattle.std.proofs.Common.{◌≡◌, ℕ, ◌+◌, ◌-◌, ◌^◌, ◌<◌, ◌≤◌, min, max, Bool, true, false, cond, ◌&&◌, ◌||◌, eqb, ltb, leb, ◌⊎◌, List, length, Some, None, Option, Result, sym, refl, subst, inr, arith}
use Rattle.std.proofs.lemmas.Bool.{and_parts, and_from, leb-true, le-leb, ltb-true, eqb-false, cond_both}
use Rattle.std.proofs.lemmas.List.{length-set}
use Rattle.tables.specs.Lookup.{value_of, place_of}
use Rattle.tables.specs.Tables.{Tables, process_at, object_at, read_at, write_at, read_set, write_set, with_hand}
use Rattle.tables.specs.declared.map.Slot.{Slot}
use Rattle.tables.specs.declared.memory.Object.{Object}
use Rattle.tables.specs.declared.process.Access.{Access}
use Rattle.tables.specs.declared.process.Access.TheVariants as access
use Rattle.tables.specs.declared.process.Ending.{Ending}
use Rattle.tables.specs.declared.process.Phase.{Phase}
use Rattle.tables.specs.declared.process.Phase.TheVariants.{Idle, Beginning, Reading, Writing, Extending, Certifying, Storing, Freeing}
use Rattle.tables.specs.declared.reply.Conflict.{Conflict}
use Rattle.tables.specs.declared.reply.Conflict.TheVariants as conflict
use Rattle.engine.specs.Outcome.{Outcome, advanced, completed}
use Rattle.engine.specs.Look.{foreign, differs, judged, pair_looked}
use Rattle.engine.specs.Ends.{unheld_object, released, free_step}
use Rattle.engine.specs.Begin.{begin_step}
use Rattle.engine.specs.Reads.{current, admitted}
use Rattle.engine.specs.Writes.{write_joined, held}
use Rattle.engine.specs.Extend.{extended}
use Rattle.engine.specs.Commit.{seal_stamp, sealed, sealed_at, stored_object, stored, store_step}
use Rattle.engine.specs.Looked.{passed, after_look}
use Rattle.engine.specs.Sound.{object_ok, holder_ok, room}
use Rattle.refinement.proofs.Sets.{no_value}
use Rattle.refinement.proofs.Own.{EndingNamed, AccessFits, PhaseOwn, Own, Good}
use Rattle.refinement.proofs.Changes.{sound_of, ok_at, stamp_ok, sets_stay, completes, advances, hands_good, object_good, ends, joined_good, holds, replaces, stops}
use Rattle.engine.specs.Looked.{read_at_value, write_at_place}
use Rattle.engine.specs.Step.{commit_step, phase_step}

none_room : {V : Type 0} (xs : List (Slot V)) (n most x : ℕ) → room xs n most x ≡ true → value_of xs x ≡ None → n < most
none_room xs n most x h q = ltb-true _ _ (simp q at h)

-- an access that is not current has read something
not_current : (n : ℕ) (b : Bool) → (b || eqb n 0) ≡ false → 0 < n
not_current n b q = grind arith

module _ {K : Type 0} (e : K) (t : Tables K) (p : ℕ) (g : Good e t) (l : p < length t.processes) where
  own : Own t p
  own = g.owns p l

  at_phase : (f : Phase) → (process_at t p).phase ≡ f → PhaseOwn (length t.processes) (length t.objects) (process_at t p) (read_set t p) (write_set t p) f
  at_phase f q = subst (λ (z : Phase). PhaseOwn (length t.processes) (length t.objects) (process_at t p) (read_set t p) (write_set t p) z) q own.phase

  -- a step that looks at the object x, found as o
  looks : (f : Phase) (o : Object K) (x : ℕ) (seen : Option ℕ) → x < length t.objects → (process_at t p).steps + 1 + (process_at t p).writes ≤ 49 → Good e (passed e t p f o).tables → Good e (after_look e t p f (judged o p x seen)).tables
  looks f o x seen hx few h =
      cond_both (foreign o.holder p) _ _ (λ (z : Result (Object K) Conflict). Good e (after_look e t p f z).tables)
      (λ _. stops e t p g l (conflict.Held x) hx few)
      (λ _. cond_both (differs seen o.stamp) _ _ (λ (z : Result (Object K) Conflict). Good e (after_look e t p f z).tables)
      (λ _. stops e t p g l (conflict.Changed x) hx few)
      (λ _. h))

  begins : (number : ℕ → ℕ) (next least : ℕ) → ((q : ℕ) → number q ≤ 2 ^ 40) → (process_at t p).phase ≡ Beginning next least → Good e (begin_step number t p next least).tables
  begins number next least ranged q =
      let h = at_phase (Beginning next least) q in
      let a = h.0 in
      let b = h.1 in
      let c = h.2 in
      let low : min (number next) least ≤ 2 ^ 40 = omega arith in
      cond_both (eqb (next + 1) (length t.processes)) _ _ (λ (z : Outcome _ K). Good e z.tables)
      (λ _. completes e t p g l (min (number next) least) low)
      (λ d. let n = eqb-false (next + 1) (length t.processes) d in advances e t p g l (Beginning (next + 1) (min (number next) least)) (omega arith, low, omega arith))

  -- the look of a read has passed
  admits : (x : ℕ) (o : Object K) → x < length t.objects → object_ok o (length t.processes) ≡ true → (value_of (read_set t p) x ≡ None → (process_at t p).reads < 32) → (process_at t p).steps ≡ 0 → room (read_set t p) (process_at t p).reads 32 x ≡ true → Good e (admitted t p x o).tables
  admits x o hx ho few zero free =
      let u = with_hand t p o.content in
      let gu = hands_good e t p g l o.content in
      let st = stamp_ok o (length t.processes) ho in
      let ck = own.clock in
      let rc = own.read_count in
      let wc = own.write_count in
      cond_both (current (process_at t p) o.stamp) _ _ (λ (z : Outcome _ K). Good e z.tables)
      (λ _. joined_good e u p gu l x o.stamp (max (process_at t p).clock o.stamp) (value_of (read_set t p) x) refl hx st (omega arith) few)
      (λ q. let some : 0 < (process_at t p).reads = not_current (process_at t p).reads (leb o.stamp (process_at t p).clock) q in
      advances e u p gu l (Extending x o.stamp 0 access.Read) (hx, st, some, free, omega arith))

  reads_good : (x : ℕ) (v : Option K) → value_of (write_set t p) x ≡ v → (process_at t p).phase ≡ Reading x → Good e (read_at_value e t p x v).tables
  reads_good x (Some v) w q =
      let gu = hands_good e t p g l v in completes e (with_hand t p v) p gu l (process_at t p).clock own.clock
  reads_good x None w q =
      let h = at_phase (Reading x) q in
      let o = object_at e t x in
      let zero = h.2 in
      let wc = own.write_count in
      let free = simp w at h.1 in
      looks (Reading x) o x (value_of (read_set t p) x) h.0 (omega arith)
      (admits x o h.0 (ok_at e t.objects (length t.processes) x g.objects) (none_room (read_set t p) (process_at t p).reads 32 x free) zero free)

  -- the look of a write has passed
  holds_good : (x : ℕ) (o : Object K) → x < length t.objects → object_ok o (length t.processes) ≡ true → (process_at t p).writes < 16 → value_of (write_set t p) x ≡ None → (process_at t p).steps ≡ 0 → Good e (held e t p x o).tables
  holds_good x o hx ho few none zero =
      let st = stamp_ok o (length t.processes) ho in
      let ck = own.clock in
      let rc = own.read_count in
      cond_both (current (process_at t p) o.stamp) _ _ (λ (z : Outcome _ K). Good e z.tables)
      (λ _. holds e t p g l x o (completed (write_joined (process_at t p)) (max (process_at t p).clock o.stamp)) hx ho few none refl refl (omega arith) refl)
      (λ q. let some : 0 < (process_at t p).reads = not_current (process_at t p).reads (leb o.stamp (process_at t p).clock) q in
      holds e t p g l x o (advanced (write_joined (process_at t p)) (Extending x o.stamp 0 access.Write)) hx ho few none refl refl own.clock
      (hx, st, some, tt, omega arith))

  writes_good : (x : ℕ) (i : Option ℕ) → place_of (write_set t p) x 0 ≡ i → (process_at t p).phase ≡ Writing x → Good e (write_at_place e t p x i).tables
  writes_good x (Some i) w q = replaces e t p g l x i w
  writes_good x None w q =
      let h = at_phase (Writing x) q in
      let o = object_at e t x in
      let zero = h.2 in
      let none = no_value (write_set t p) x w in
      let few = none_room (write_set t p) (process_at t p).writes 16 x h.1 none in
      looks (Writing x) o x None h.0 (omega arith)
      (holds_good x o h.0 (ok_at e t.objects (length t.processes) x g.objects) few none zero)

  extends : (x to next : ℕ) (a : Access) → (process_at t p).phase ≡ Extending x to next a → Good e (after_look e t p (Extending x to next a) (pair_looked e t p next)).tables
  extends x to next a q =
      let h = at_phase (Extending x to next a) q in
      let b = h.2 in
      let c = h.4 in
      let s = sound_of e t p g l in
      looks (Extending x to next a) (object_at e t (read_at t p next).object) (read_at t p next).object (Some (read_at t p next).value) (s.reads_named next b) (omega arith)
      (cond_both (eqb (next + 1) (process_at t p).reads) _ _ (λ (z : Outcome _ K). Good e z.tables)
      (λ _. finishes a h.0 h.1 h.3)
      (λ d. let n = eqb-false (next + 1) (process_at t p).reads d in
      advances e t p g l (Extending x to (next + 1) a) (h.0, h.1, omega arith, h.3, omega arith)))
    where
      finishes : (a : Access) → x < length t.objects → to ≤ 2 ^ 40 → AccessFits (process_at t p) (read_set t p) x a → Good e (extended e t p x to a).tables
      finishes access.Read hx ht h =
          joined_good e t p g l x to to (value_of (read_set t p) x) refl hx ht ht (none_room (read_set t p) (process_at t p).reads 32 x h)
      finishes access.Write hx ht h = completes e t p g l to ht

  certifies : (next : ℕ) → next < (process_at t p).reads → (process_at t p).phase ≡ Certifying next → Good e (after_look e t p (Certifying next) (pair_looked e t p next)).tables
  certifies next b q =
      let h = at_phase (Certifying next) q in
      let c = h.1 in
      let s = sound_of e t p g l in
      looks (Certifying next) (object_at e t (read_at t p next).object) (read_at t p next).object (Some (read_at t p next).value) (s.reads_named next b) (omega arith)
      (cond_both (eqb (next + 1) (process_at t p).reads && eqb (process_at t p).writes 0) _ _ (λ (z : Outcome _ K). Good e z.tables)
      (λ _. ends e t p g l)
      (λ _. advances e t p g l (Certifying (next + 1)) (omega arith, omega arith)))

  seals : (number next : ℕ) → number ≤ 2 ^ 40 → 0 < (process_at t p).writes → (process_at t p).phase ≡ Certifying next → Good e (sealed_at e t p (seal_stamp (process_at t p).clock number)).tables
  seals number next ranged some q =
      let h = at_phase (Certifying next) q in
      let c = h.1 in
      cond_both (leb (1 + max (process_at t p).clock number) (2 ^ 40)) _ _ (λ (z : Option ℕ). Good e (sealed_at e t p z).tables)
      (λ b. sets_stay e t p g l (sealed (process_at t p) (1 + max (process_at t p).clock number)) refl refl (leb-true (1 + max (process_at t p).clock number) (2 ^ 40) b) (some, omega arith))
      (λ _. stops e t p g l conflict.Spent tt (omega arith))

  stores : (next : ℕ) → (process_at t p).phase ≡ Storing next → Good e (store_step e t p next).tables
  stores next q =
      let h = at_phase (Storing next) q in
      let a = h.0 in
      let b = h.1 in
      let u = stored e t p next in
      let ok : object_ok (stored_object (write_at e t p next).value (process_at t p).clock) (length t.processes) ≡ true =
      and_from (leb (process_at t p).clock (2 ^ 40)) true (le-leb (process_at t p).clock (2 ^ 40) own.clock) refl in
      let gu = object_good e t p g l (write_at e t p next).object (stored_object (write_at e t p next).value (process_at t p).clock) ok in
      cond_both (eqb (next + 1) (process_at t p).writes) _ _ (λ (z : Outcome _ K). Good e z.tables)
      (λ _. ends e u p gu l)
      (λ d. let n = eqb-false (next + 1) (process_at t p).writes d in advances e u p gu l (Storing (next + 1)) (omega arith, omega arith))

  frees : (next : ℕ) (x : Ending) → (process_at t p).phase ≡ Freeing next x → Good e (free_step e t p next x).tables
  frees next x q =
      let h = at_phase (Freeing next x) q in
      let y = (write_at e t p next).object in
      let u = released e t y in
      let here = ok_at e t.objects (length t.processes) y g.objects in
      let ok : object_ok (unheld_object (object_at e t y)) (length t.processes) ≡ true =
      and_from (leb (object_at e t y).stamp (2 ^ 40)) true (and_parts (leb (object_at e t y).stamp (2 ^ 40)) (holder_ok (object_at e t y).holder (length t.processes)) here).0 refl in
      let gu = object_good e t p g l y (unheld_object (object_at e t y)) ok in
      cond_both (eqb (process_at t p).writes 0) _ _ (λ (z : Outcome _ K). Good e z.tables)
      (λ _. ends e t p g l)
      (λ d. cond_both (eqb (next + 1) (process_at t p).writes) _ _ (λ (z : Outcome _ K). Good e z.tables)
      (λ _. ends e u p gu l)
      (λ m. advances e u p gu l (Freeing (next + 1) x) (
        inr (more (process_at t p).writes next d h.0 m),
        subst (λ (n : ℕ). EndingNamed n x) (sym (length-set t.objects y (unheld_object (object_at e t y)))) h.1,
        fewer (process_at t p).writes next (process_at t p).steps d h.0 h.2,
      )))
    where
      more : (n i : ℕ) → eqb n 0 ≡ false → (n ≡ 0) ⊎ (i < n) → eqb (i + 1) n ≡ false → i + 1 < n
      more n i d h m = grind arith

      fewer : (n i s : ℕ) → eqb n 0 ≡ false → (n ≡ 0) ⊎ (i < n) → s + cond (eqb n 0) 1 (n - i) ≤ 49 → s + 1 + cond (eqb n 0) 1 (n - (i + 1)) ≤ 49
      fewer n i s d h b = grind arith

  commits : (number next : ℕ) → number ≤ 2 ^ 40 → (process_at t p).phase ≡ Certifying next → Good e (commit_step e number t p next).tables
  commits number next ranged q =
      cond_both (ltb next (process_at t p).reads) _ _ (λ (z : Outcome _ K). Good e z.tables)
      (λ b. certifies next (ltb-true next (process_at t p).reads b) q)
      (λ _. cond_both (eqb (process_at t p).writes 0) _ _ (λ (z : Outcome _ K). Good e z.tables)
      (λ _. ends e t p g l)
      (λ d. let n = eqb-false (process_at t p).writes 0 d in seals number next ranged (omega arith) q))

  -- the step of each phase
  pub phase_good : (number : ℕ → ℕ) (f : Phase) → ((q : ℕ) → number q ≤ 2 ^ 40) → (process_at t p).phase ≡ f → Good e (phase_step e number t p f).tables
  phase_good number Idle ranged q = g
  phase_good number (Beginning next least) ranged q = begins number next least ranged q
  phase_good number (Reading x) ranged q = reads_good x (value_of (write_set t p) x) refl q
  phase_good number (Writing x) ranged q = writes_good x (place_of (write_set t p) x 0) refl q
  phase_good number (Extending x to next a) ranged q = extends x to next a q
  phase_good number (Certifying next) ranged q = commits (number p) next (ranged p) q
  phase_good number (Storing next) ranged q = stores next q
  phase_good number (Freeing next x) ranged q = frees next x q
