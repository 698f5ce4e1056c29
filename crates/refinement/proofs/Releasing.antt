-- The steps that store or free an object, as blocks of events.
use Rattle.std.proofs.Common.{◌≡◌, ℕ, zero, suc, ◌+◌, ◌*◌, ◌<◌, Bool, true, false, cond, not, List, [], ◌∷◌, length, get_or, drop, set, Some, None, Option, sym, refl, ap, ◌∙◌, subst, inl, inr, arith}
use Rattle.std.proofs.lemmas.Bool.{cases_eq, and_parts, not-true, eq-eqb, ne_eqb}
use Rattle.std.proofs.lemmas.List.{get_or-set_same, get_or-set_other, drop_more, drop_all}
use Rattle.tables.specs.Lookup.{pair, value_of}
use Rattle.tables.specs.Tables.{Tables, process_at, object_at, hand_at, read_set, write_set, with_process, with_object, write_at, idle_process, blank_object}
use Rattle.tables.specs.declared.map.Slot.{Slot}
use Rattle.tables.specs.declared.process.Phase.TheVariants.{Storing, Freeing}
use Rattle.tables.specs.declared.process.Process.{Process}
use Rattle.engine.specs.Outcome.{advanced, closed}
use Rattle.engine.specs.Look.{foreign}
use Rattle.protocol.specs.Table.{put}
use Rattle.protocol.specs.Protocol.{State, next}
use Rattle.protocol.specs.Protocol.Held.{nobody, by}
use Rattle.protocol.specs.Protocol.Phase.{out, running, aborting, sealing}
use Rattle.protocol.specs.Protocol.Event.{store, free, commit, close}
use Rattle.protocol.proofs.Updates.{put_same, put_other, put_is}
use Rattle.protocol.proofs.Invariant.{differ}
use Rattle.refinement.proofs.Frames.{Frame, frame_process, frame_object, frame_ended, frame_both}
use Rattle.refinement.proofs.Own.{Good}
use Rattle.refinement.proofs.Sets.{names, apart, among, value_first, value_among, none_of}
use Rattle.refinement.proofs.Windows.{window, window_length}
use Rattle.refinement.proofs.Changes.{sizes_facts, sound_of}
use Rattle.refinement.proofs.Rows.{Row, row, row_others}
use Rattle.refinement.proofs.Placing.{Shown, live_at}
use Rattle.refinement.proofs.View.{gone, pending_of, HolderAs, FreeingAs, RowAs, View, row_at, holder_of, held_mine}
use Rattle.engine.specs.Ends.{ended, released, unheld_object}
use Rattle.refinement.proofs.Extending.{window_get_or}
use Rattle.tables.specs.declared.process.Ending.{Ending}
use Rattle.tables.specs.declared.memory.Object.{Object}
use Rattle.engine.specs.Commit.{stored, stored_object}
use Rattle.refinement.proofs.Objects.{object_view}

-- after the pair of an object no other pair names it
later_none : {V : Type 0} (ws : List (Slot V)) (i : ℕ) (d : Slot V) → apart (names ws) ≡ true → i < length ws → value_of (drop (i + 1) ws) (get_or ws i d).object ≡ None
later_none [] i d h l = absurd (omega arith)
later_none (s ∷ ss) zero d h l =
    let a = and_parts (not (among s.object (names ss))) (apart (names ss)) h in
    none_of (value_of ss s.object) (value_among ss s.object ∙ not-true (among s.object (names ss)) a.0)
later_none (s ∷ ss) (suc i) d h l =
    let a = and_parts (not (among s.object (names ss))) (apart (names ss)) h in
    let e : suc i + 1 ≡ suc (i + 1) = omega arith in
    ap (λ (k : ℕ). value_of (drop k (s ∷ ss)) (get_or ss i d).object) e ∙ later_none ss i d a.1 (omega arith)

module _ {K : Type 0} (e : K) (number : ℕ → ℕ) (t : Tables K) (s : State K) (p i : ℕ) (g : Good e t) (v : View e number t s) (l : p < length t.processes) (live : (process_at t p).live ≡ true)
    (within : i < (process_at t p).writes) (at_gone : gone (process_at t p).phase ≡ i) where
  -- the object of pair i, and its pending content
  abbrev pub the_object : ℕ
  the_object = (write_at e t p i).object

  abbrev pub the_content : K
  the_content = (write_at e t p i).value

  write_length : length (write_set t p) ≡ (process_at t p).writes
  write_length =
      let z = sizes_facts t g.sizes in
      let size = z.writes in
      let few = (g.owns p l).write_count in
      window_length t.writes (p * 16) (process_at t p).writes (omega arith)

  pair_is : get_or (write_set t p) i (pair 0 e) ≡ write_at e t p i
  pair_is = window_get_or t.writes (p * 16) (process_at t p).writes i (pair 0 e) within

  pending_is : pending_of t p ≡ write_at e t p i ∷ drop (i + 1) (write_set t p)
  pending_is =
      let size = write_length in
      ap (λ (n : ℕ). drop n (write_set t p)) at_gone
      ∙ drop_more (write_set t p) i (pair 0 e) (omega arith)
      ∙ ap (λ (k : Slot K). k ∷ drop (i + 1) (write_set t p)) pair_is

  here : value_of (pending_of t p) the_object ≡ Some the_content
  here =
      ap (λ (k : List (Slot K)). value_of k the_object) pending_is
      ∙ value_first (write_at e t p i) (drop (i + 1) (write_set t p)) the_object
      ∙ ap (λ (b : Bool). cond b (Some the_content) (value_of (drop (i + 1) (write_set t p)) the_object)) (eq-eqb the_object the_object refl)

  gone_now : value_of (drop (i + 1) (write_set t p)) the_object ≡ None
  gone_now =
      let size = write_length in
      ap (λ (k : Slot K). value_of (drop (i + 1) (write_set t p)) k.object) (sym pair_is)
      ∙ later_none (write_set t p) i (pair 0 e) (g.owns p l).writes_apart (omega arith)

  away : (y : ℕ) → (the_object ≡ y → ⊥) → value_of (drop (i + 1) (write_set t p)) y ≡ value_of (pending_of t p) y
  away y n =
      sym (ap (λ (k : List (Slot K)). value_of k y) pending_is
      ∙ value_first (write_at e t p i) (drop (i + 1) (write_set t p)) y
      ∙ ap (λ (b : Bool). cond b (Some the_content) (value_of (drop (i + 1) (write_set t p)) y)) (ne_eqb the_object y n))

  holder_p : (object_at e t the_object).holder ≡ Some p
  holder_p = v.holds p the_object the_content here

  pub held_p : s.held the_object ≡ by p the_content
  held_p = held_mine e number t s v p the_object the_content here

  clear : foreign (object_at e t the_object).holder p ≡ false
  clear = ap (λ (o : Option ℕ). foreign o p) holder_p ∙ ap not (eq-eqb p p refl)

  within_objects : the_object < length t.objects
  within_objects = (sound_of e t p g l).writes_named i within

  -- the object becomes o, with nobody as its holder
  pub release_view : (u : Tables K) (o : Object K) (z : State K) → u.objects ≡ set t.objects the_object o → o.holder ≡ None → Frame t u p → pending_of u p ≡ drop (i + 1) (write_set t p)
      → ((y : ℕ) → (the_object ≡ y → ⊥) → z.content y ≡ s.content y) → z.content the_object ≡ o.content
      → ((y : ℕ) → (the_object ≡ y → ⊥) → z.stamp y ≡ s.stamp y) → z.stamp the_object ≡ o.stamp
      → z.held ≡ put s.held the_object nobody → z.bank ≡ s.bank
      → ((q : ℕ) → (p ≡ q → ⊥) → row z q ≡ row s q)
      → RowAs number (process_at u p) (read_set u p) (hand_at e u p) (process_at u p).live (row z p)
      → (z.phase p ≡ running → ⊥)
      → View e number u z
  release_view u o z eo unheld f pend content content_here stamp stamp_here held bank others mine_row still =
      let object_here : object_at e u the_object ≡ o = ap (λ (os : List (Object K)). get_or os the_object (blank_object e)) eo ∙ get_or-set_same t.objects the_object o (blank_object e) within_objects in
      let object_away : (y : ℕ) → (the_object ≡ y → ⊥) → object_at e u y ≡ object_at e t y =
      λ y n. ap (λ (os : List (Object K)). get_or os y (blank_object e)) eo ∙ get_or-set_other t.objects the_object y o (blank_object e) (λ m. n (sym m)) in
      object_view e number t u s z p the_object nobody g v f clear object_away
      (λ y n. ap (λ (k : List (Slot K)). value_of k y) pend ∙ away y n)
      (λ y. elim (cases_eq the_object y) [
        | inl n ↦ subst (λ (k : ℕ). z.content k ≡ (object_at e u k).content) n (content_here ∙ ap (λ (b : Object K). b.content) (sym object_here))
        | inr n ↦ content y n ∙ v.contents y ∙ ap (λ (b : Object K). b.content) (sym (object_away y n))
      ])
      (λ y. elim (cases_eq the_object y) [
        | inl n ↦ subst (λ (k : ℕ). z.stamp k ≡ (object_at e u k).stamp) n (stamp_here ∙ ap (λ (b : Object K). b.stamp) (sym object_here))
        | inr n ↦ stamp y n ∙ v.stamps y ∙ ap (λ (b : Object K). b.stamp) (sym (object_away y n))
      ])
      stamp held
      (subst (λ (b : Option ℕ). HolderAs u the_object b nobody) (sym (ap (λ (b : Object K). b.holder) object_here ∙ unheld)) refl)
      (λ w h. absurd (let k : value_of (drop (i + 1) (write_set t p)) the_object ≡ Some w = ap (λ (c : List (Slot K)). value_of c the_object) (sym pend) ∙ h in let a = gone_now in cc))
      bank others mine_row
      (λ y w run h. absurd (still run))

  -- nothing is left, once this was the last pair
  nothing_left : i + 1 ≡ (process_at t p).writes → drop (i + 1) (write_set t p) ≡ []
  nothing_left last = let size = write_length in drop_all (i + 1) (write_set t p) (omega arith)

  pub holds_no_more : i + 1 ≡ (process_at t p).writes → (y : ℕ) (w : K) → put s.held the_object nobody y ≡ by p w → ⊥
  holds_no_more last y w h =
      elim (put_is s.held the_object nobody y (by p w) h) [
        | inl a ↦ (let b = a.1 in cc)
        | inr a ↦
            (let b = holder_of t y (object_at e t y).holder (s.held y) p w (v.held y) a.1 in
            let c : value_of (drop (i + 1) (write_set t p)) y ≡ Some w = away y a.0 ∙ b.1 in
            let d : value_of (drop (i + 1) (write_set t p)) y ≡ None = ap (λ (k : List (Slot K)). value_of k y) (nothing_left last) in
            cc)
      ]

  -- p's record after the step, with the object changed to o
  module _ (o : Object K) where
    frame_on : (r : Process) → Frame t (with_process (with_object t the_object o) p r) p
    frame_on r = frame_both t (with_object t the_object o) (with_process (with_object t the_object o) p r) p (frame_object t p the_object o) (frame_process (with_object t the_object o) p r)

    pending_on : (r : Process) → gone r.phase ≡ i + 1 → r.writes ≡ (process_at t p).writes → pending_of (with_process (with_object t the_object o) p r) p ≡ drop (i + 1) (write_set t p)
    pending_on r gn rw_is =
        ap (λ (k : Process). drop (gone k.phase) (window t.writes (p * 16) k.writes)) (get_or-set_same t.processes p r idle_process l)
        ∙ ap (λ (n : ℕ). drop n (window t.writes (p * 16) r.writes)) gn
        ∙ ap (λ (n : ℕ). drop (i + 1) (window t.writes (p * 16) n)) rw_is

    row_on : (r : Process) (w : Row K) → RowAs number r (window t.reads (p * 32) r.reads) (hand_at e t p) r.live w → RowAs number (process_at (with_process (with_object t the_object o) p r) p) (read_set (with_process (with_object t the_object o) p r) p) (hand_at e (with_process (with_object t the_object o) p r) p) (process_at (with_process (with_object t the_object o) p r) p).live w
    row_on r w a =
        let is : process_at (with_process (with_object t the_object o) p r) p ≡ r = get_or-set_same t.processes p r idle_process l in
        row_at number r (process_at (with_process (with_object t the_object o) p r) p) _ _ _ _ w w (sym is) (ap (λ (k : Process). window t.reads (p * 32) k.reads) (sym is)) refl refl a

    frame_end : Frame t (ended e (with_object t the_object o) p) p
    frame_end =
        let z = sizes_facts t g.sizes in
        frame_both t (with_object t the_object o) (ended e (with_object t the_object o) p) p (frame_object t p the_object o) (frame_ended (with_object t the_object o) p e l z.reads z.writes)

    is_closed : process_at (ended e (with_object t the_object o) p) p ≡ closed (process_at t p)
    is_closed = get_or-set_same t.processes p (closed (process_at t p)) idle_process l

    pending_end : i + 1 ≡ (process_at t p).writes → pending_of (ended e (with_object t the_object o) p) p ≡ drop (i + 1) (write_set t p)
    pending_end last =
        ap (λ (k : Process). drop (gone k.phase) (window (ended e (with_object t the_object o) p).writes (p * 16) k.writes)) is_closed ∙ sym (nothing_left last)

    row_end : (w : Row K) → w.phase ≡ out → RowAs number (process_at (ended e (with_object t the_object o) p) p) (read_set (ended e (with_object t the_object o) p) p) (hand_at e (ended e (with_object t the_object o) p) p) (process_at (ended e (with_object t the_object o) p) p).live w
    row_end w h =
        row_at number (closed (process_at t p)) (process_at (ended e (with_object t the_object o) p) p) (window (ended e (with_object t the_object o) p).reads (p * 32) 0) _ _ _ w w (sym is_closed) (ap (λ (k : Process). window (ended e (with_object t the_object o) p).reads (p * 32) k.reads) (sym is_closed)) refl refl (h, refl, refl, refl)

  -- an object is stored, and others are left
  pub store_on : (process_at t p).phase ≡ Storing i → Shown e (length t.processes) number (with_process (stored e t p i) p (advanced (process_at t p) (Storing (i + 1)))) s (store p the_object the_content (process_at t p).clock ∷ [])
  store_on q =
      let a = live_at e number t s p g v l (Storing i) live q in
      let o = stored_object the_content (process_at t p).clock in
      let r = advanced (process_at t p) (Storing (i + 1)) in
      let z = next s (store p the_object the_content (process_at t p).clock) in
      record {
        lawful = (tt, (a, held_p));
        view =
            release_view (with_process (stored e t p i) p r) o z refl refl (frame_on o r) (pending_on o r refl refl)
            (λ y n. put_other s.content the_object the_content y n) (put_same s.content the_object the_content the_object refl)
            (λ y n. put_other s.stamp the_object (process_at t p).clock y n) (put_same s.stamp the_object (process_at t p).clock the_object refl)
            refl refl (λ k d. refl)
            (row_on o r (row s p) (subst (λ (b : Bool). RowAs number r (read_set t p) (hand_at e t p) b (row s p)) (sym live) a))
            (λ run. differ (sealing (process_at t p).clock) running tt (sym a ∙ run));
      }

  -- the last object is stored
  pub store_last : (process_at t p).phase ≡ Storing i → i + 1 ≡ (process_at t p).writes → Shown e (length t.processes) number (ended e (stored e t p i) p) s (commit p (process_at t p).clock ∷ store p the_object the_content (process_at t p).clock ∷ [])
  store_last q last =
      let a = live_at e number t s p g v l (Storing i) live q in
      let o = stored_object the_content (process_at t p).clock in
      let s1 = next s (store p the_object the_content (process_at t p).clock) in
      let ev = commit p (process_at t p).clock in
      let z = next s1 ev in
      record {
        lawful = ((tt, (a, held_p)), (a, λ y w h. holds_no_more last y w h));
        view =
            release_view (ended e (stored e t p i) p) o z refl refl (frame_end o) (pending_end o last)
            (λ y n. put_other s.content the_object the_content y n) (put_same s.content the_object the_content the_object refl)
            (λ y n. put_other s.stamp the_object (process_at t p).clock y n) (put_same s.stamp the_object (process_at t p).clock the_object refl)
            refl refl (λ k d. row_others s1 ev p k refl d)
            (row_end o (row z p) (put_same s.phase p out p refl))
            (λ run. differ out running tt (sym (put_same s.phase p out p refl) ∙ run));
      }

  -- an object is freed, and others are left
  pub free_on : (x : Ending) → (process_at t p).phase ≡ Freeing i x → s.phase p ≡ aborting → Shown e (length t.processes) number (with_process (released e t the_object) p (advanced (process_at t p) (Freeing (i + 1) x))) s (free p the_object the_content ∷ [])
  free_on x q a =
      let o = unheld_object (object_at e t the_object) in
      let r = advanced (process_at t p) (Freeing (i + 1) x) in
      let z = next s (free p the_object the_content) in
      record {
        lawful = (tt, (a, held_p));
        view =
            release_view (with_process (released e t the_object) p r) o z refl refl (frame_on o r) (pending_on o r refl refl)
            (λ y n. refl) (v.contents the_object) (λ y n. refl) (v.stamps the_object)
            refl refl (λ k d. refl)
            (row_on o r (row s p) (subst (λ (b : Bool). RowAs number r (read_set t p) (hand_at e t p) b (row s p)) (sym live) (freeing x a)))
            (λ run. differ aborting running tt (sym a ∙ run));
      }
    where
      freeing : (x : Ending) → s.phase p ≡ aborting → FreeingAs (advanced (process_at t p) (Freeing (i + 1) x)) (read_set t p) (i + 1) x (row s p)
      freeing x a = grind arith

  -- the last object is freed
  pub free_last : s.phase p ≡ aborting → i + 1 ≡ (process_at t p).writes → Shown e (length t.processes) number (ended e (released e t the_object) p) s (close p ∷ free p the_object the_content ∷ [])
  free_last a last =
      let o = unheld_object (object_at e t the_object) in
      let s1 = next s (free p the_object the_content) in
      let z = next s1 (close p) in
      record {
        lawful = ((tt, (a, held_p)), (a, λ y w h. holds_no_more last y w h));
        view =
            release_view (ended e (released e t the_object) p) o z refl refl (frame_end o) (pending_end o last)
            (λ y n. refl) (v.contents the_object) (λ y n. refl) (v.stamps the_object)
            refl refl (λ k d. row_others s1 (close p) p k refl d)
            (row_end o (row z p) (put_same s.phase p out p refl))
            (λ run. differ out running tt (sym (put_same s.phase p out p refl) ∙ run));
      }
