-- Sealing, and the steps of a write, as blocks of events.
use Rattle.std.proofs.Common.{◌≡◌, ℕ, suc, ◌+◌, ◌-◌, ◌*◌, ◌<◌, ◌≤◌, Bool, true, false, cond, not, eqb, ◌⊎◌, List, [], ◌∷◌, ◌++◌, length, drop, set, is_some, Some, None, Option, sym, refl, ap, ◌∙◌, subst, inl, inr, arith}
use Rattle.std.proofs.lemmas.Bool.{cases_eq, cases_Bool, eq-eqb, ne_eqb}
use Rattle.std.proofs.lemmas.List.{get_or-set_same, get_or-set_other}
use Rattle.tables.specs.Lookup.{pair, value_of, place_of}
use Rattle.tables.specs.Tables.{Tables, process_at, object_at, hand_at, read_set, write_set, with_process, with_object, with_write, idle_process, blank_object}
use Rattle.tables.specs.declared.map.Slot.{Slot}
use Rattle.tables.specs.declared.process.Access.TheVariants as access
use Rattle.tables.specs.declared.process.Phase.TheVariants.{Writing, Extending, Certifying}
use Rattle.tables.specs.declared.process.Process.{Process}
use Rattle.engine.specs.Outcome.{advanced, completed}
use Rattle.engine.specs.Look.{foreign}
use Rattle.protocol.specs.Table.{put}
use Rattle.protocol.specs.Protocol.{State, Held, May, next}
use Rattle.protocol.specs.Protocol.Held.{by}
use Rattle.protocol.specs.Protocol.Seen.{saw}
use Rattle.protocol.specs.Protocol.Phase.{running, sealing}
use Rattle.protocol.specs.Protocol.Event.{extend, write, seal}
use Rattle.protocol.proofs.Updates.{put_same, put_other}
use Rattle.protocol.proofs.Invariant.{differ}
use Rattle.refinement.proofs.Frames.{Frame, frame_process, frame_object, frame_write, frame_both}
use Rattle.refinement.proofs.Own.{Good}
use Rattle.refinement.proofs.Sets.{place_found}
use Rattle.refinement.proofs.Windows.{window, window_push, window_at}
use Rattle.refinement.proofs.Changes.{sizes_facts, place_within}
use Rattle.refinement.proofs.Rows.{Row, row, acted, row_acted, row_others}
use Rattle.refinement.proofs.Placing.{Shown, pending_at, rest_covers}
use Rattle.refinement.proofs.View.{gone, pending_of, HolderAs, PassedTo, Rests, Certifies, RowAs, View, row_at, open_to, held_mine}
use Rattle.refinement.proofs.Extending.{all_passed}
use Rattle.tables.specs.declared.memory.Object.{Object}
use Rattle.engine.specs.Writes.{held_by, write_joined, holding}
use Rattle.engine.specs.Commit.{sealed}
use Rattle.refinement.proofs.OwnRow.{quiet_view}
use Rattle.refinement.proofs.Objects.{object_view}
use Rattle.refinement.proofs.Reading.{value_push}
use Rattle.engine.proofs.Facts.{value_place}

-- look-ups in a set whose pair for x has another value
value_replaced : {V : Type 0} (ws : List (Slot V)) (x n i : ℕ) (w : V) → place_of ws x n ≡ Some i → (y : ℕ) → value_of (set ws (i - n) (pair x w)) y ≡ cond (eqb x y) (Some w) (value_of ws y)
value_replaced [] x n i w h y = cc
value_replaced (s ∷ ss) x n i w h y =
    elim (cases_Bool (eqb s.object x)) [
      | inl a ↦
          (let f : Some n ≡ Some i = simp a at h in
          let same : n ≡ i = cc in
          let z : i - n ≡ 0 = omega arith in
          ap (λ (k : ℕ). value_of (set (s ∷ ss) k (pair x w)) y) z
          ∙ elim (cases_Bool (eqb x y)) [
            | inl b ↦ simp b
            | inr b ↦ (let c : eqb s.object y ≡ false = apart_from s.object x y a b in simp (b, c))
          ])
      | inr a ↦
          (let f : place_of ss x (n + 1) ≡ Some i = simp a at h in
          let r = place_found ss x (n + 1) i f in
          let low = r.0 in
          let z : i - n ≡ suc (i - (n + 1)) = omega arith in
          ap (λ (k : ℕ). value_of (set (s ∷ ss) k (pair x w)) y) z
          ∙ elim (cases_Bool (eqb s.object y)) [
            | inl b ↦ (let c : eqb x y ≡ false = other s.object x y a b in simp (b, c))
            | inr b ↦ simp b (value_replaced ss x (n + 1) i w f y)
          ])
    ]
  where
    apart_from : (a x y : ℕ) → eqb a x ≡ true → eqb x y ≡ false → eqb a y ≡ false
    apart_from a x y m n = grind arith

    other : (a x y : ℕ) → eqb a x ≡ false → eqb a y ≡ true → eqb x y ≡ false
    other a x y n m = grind arith

module _ {K : Type 0} (e : K) (number : ℕ → ℕ) (t : Tables K) (s : State K) (p : ℕ) (g : Good e t) (v : View e number t s) (l : p < length t.processes) (live : (process_at t p).live ≡ true) where
  -- the sealing step, to the stamp st; larger is the bank's numbers after it
  pub seal_shown : (i st : ℕ) (larger : ℕ → ℕ) → (process_at t p).phase ≡ Certifying i → Certifies (process_at t p) (read_set t p) i (row s p) → i ≡ (process_at t p).reads → (process_at t p).clock < st → number p < st → ((q : ℕ) → number q ≤ larger q)
      → Shown e (length t.processes) larger (with_process t p (sealed (process_at t p) st)) s (seal p st larger ∷ [])
  seal_shown i st larger q a last later above grows =
      let b = a.clock in
      let c = v.bank p in
      let r = sealed (process_at t p) st in
      let is : process_at (with_process t p r) p ≡ r = get_or-set_same t.processes p r idle_process l in
      record {
        lawful = (
          tt,
          (
            a.phase,
            (λ y u w k. all_passed e number t s p g v l (s.passed p) a.seen (subst (λ (n : ℕ). PassedTo (read_set t p) n (s.passed p)) last a.passed) y u w k),
            omega arith,
            omega arith,
            l,
            λ n. let d = v.bank n in let f = grows n in omega arith,
          ),
        );
        view =
            quiet_view e number larger t (with_process t p r) s (next s (seal p st larger)) p g v (frame_process t p r) refl
            (ap (λ (z : Process). drop (gone z.phase) (window t.writes (p * 16) z.writes)) is ∙ sym (pending_at e number t s p g v l (Certifying i) q))
            refl refl refl (λ n. refl) grows
            (λ n d. row_others s (seal p st larger) p n refl d)
            (row_at larger r (process_at (with_process t p r) p) _ _ _ _ (acted s.stamp (seal p st larger) (row s p)) (row (next s (seal p st larger)) p) (sym is) (ap (λ (z : Process). window t.reads (p * 32) z.reads) (sym is)) refl (sym (row_acted s (seal p st larger) p refl))
            (subst (λ (z : Bool). RowAs larger r (read_set t p) (hand_at e t p) z (acted s.stamp (seal p st larger) (row s p))) (sym live) refl))
            (λ x k run h. absurd (differ (sealing st) running tt (sym (put_same s.phase p (sealing st) p refl) ∙ run)));
      }

  -- p becomes the holder of x
  module _ (x : ℕ) (r : Process) (q : (process_at t p).phase ≡ Writing x) (hx : x < length t.objects) (a : Rests (process_at t p) (read_set t p) (row s p))
      (clear : foreign (object_at e t x).holder p ≡ false) (none : value_of (write_set t p) x ≡ None) (room : (process_at t p).writes < 16)
      (rw_is : r.writes ≡ (process_at t p).writes + 1) (gone_is : gone r.phase ≡ 0) where
    size : length t.writes ≡ length t.processes * 16
    size = (sizes_facts t g.sizes).writes

    frame : Frame t (holding e t p x (object_at e t x) r) p
    frame =
        let o = held_by (object_at e t x) p in
        let m = with_object t x o in
        let n = with_write m p (process_at t p).writes (pair x (hand_at e t p)) in
        frame_both t n (with_process n p r) p (frame_both t m n p (frame_object t p x o) (frame_write m p (process_at t p).writes (pair x (hand_at e t p)) room)) (frame_process n p r)

    is_r : process_at (holding e t p x (object_at e t x) r) p ≡ r
    is_r = get_or-set_same t.processes p r idle_process l

    pending_is : pending_of (holding e t p x (object_at e t x) r) p ≡ write_set t p ++ pair x (hand_at e t p) ∷ []
    pending_is =
        let z = size in
        ap (λ (k : Process). drop (gone k.phase) (window (set t.writes (p * 16 + (process_at t p).writes) (pair x (hand_at e t p))) (p * 16) k.writes)) is_r
        ∙ ap (λ (k : ℕ). drop k (window (set t.writes (p * 16 + (process_at t p).writes) (pair x (hand_at e t p))) (p * 16) r.writes)) gone_is
        ∙ ap (λ (k : ℕ). window (set t.writes (p * 16 + (process_at t p).writes) (pair x (hand_at e t p))) (p * 16) k) rw_is
        ∙ window_push t.writes (p * 16) (process_at t p).writes (pair x (hand_at e t p)) (omega arith)

    lookup_is : (y : ℕ) → value_of (pending_of (holding e t p x (object_at e t x) r) p) y ≡ cond (eqb x y) (Some (hand_at e t p)) (value_of (write_set t p) y)
    lookup_is y = ap (λ (k : List (Slot K)). value_of k y) pending_is ∙ value_push (write_set t p) x y (hand_at e t p) none

    before : pending_of t p ≡ write_set t p
    before = pending_at e number t s p g v l (Writing x) q

    object_is : object_at e (holding e t p x (object_at e t x) r) x ≡ held_by (object_at e t x) p
    object_is = get_or-set_same t.objects x (held_by (object_at e t x) p) (blank_object e) hx

    object_other : (y : ℕ) → (x ≡ y → ⊥) → object_at e (holding e t p x (object_at e t x) r) y ≡ object_at e t y
    object_other y n = get_or-set_other t.objects x y (held_by (object_at e t x) p) (blank_object e) (λ m. n (sym m))

    content_is : (y : ℕ) → (object_at e (holding e t p x (object_at e t x) r) y).content ≡ (object_at e t y).content
    content_is y =
        elim (cases_eq x y) [
          | inl n ↦ subst (λ (k : ℕ). (object_at e (holding e t p x (object_at e t x) r) k).content ≡ (object_at e t k).content) n (ap (λ (o : Object K). o.content) object_is)
          | inr n ↦ ap (λ (o : Object K). o.content) (object_other y n)
        ]

    stamp_is : (y : ℕ) → (object_at e (holding e t p x (object_at e t x) r) y).stamp ≡ (object_at e t y).stamp
    stamp_is y =
        elim (cases_eq x y) [
          | inl n ↦ subst (λ (k : ℕ). (object_at e (holding e t p x (object_at e t x) r) k).stamp ≡ (object_at e t k).stamp) n (ap (λ (o : Object K). o.stamp) object_is)
          | inr n ↦ ap (λ (o : Object K). o.stamp) (object_other y n)
        ]

    -- z is the state after the block, and j the row of p there
    pub hold_view : (z : State K) (j : Row K) → z.content ≡ s.content → z.stamp ≡ s.stamp → z.held ≡ put s.held x (by p (hand_at e t p)) → z.bank ≡ s.bank
        → ((n : ℕ) → (p ≡ n → ⊥) → row z n ≡ row s n) → row z p ≡ j
        → RowAs number r (window t.reads (p * 32) r.reads) (hand_at e t p) r.live j
        → (s.clock p ≤ j.clock) → ((s.stamp x ≤ j.clock) ⊎ (s.stamp x ≤ j.need))
        → View e number (holding e t p x (object_at e t x) r) z
    hold_view z j content stamp held bank others mine_is mine_row on cx =
        object_view e number t (holding e t p x (object_at e t x) r) s z p x (by p (hand_at e t p)) g v frame clear object_other
        (λ y n. lookup_is y ∙ ap (λ (b : Bool). cond b (Some (hand_at e t p)) (value_of (write_set t p) y)) (ne_eqb x y n) ∙ ap (λ (k : List (Slot K)). value_of k y) (sym before))
        (λ y. ap (λ (c : ℕ → K). c y) content ∙ v.contents y ∙ sym (content_is y))
        (λ y. ap (λ (c : ℕ → ℕ). c y) stamp ∙ v.stamps y ∙ sym (stamp_is y))
        (λ y n. ap (λ (c : ℕ → ℕ). c y) stamp)
        held
        (subst (λ (o : Object K). HolderAs (holding e t p x (object_at e t x) r) x o.holder (by p (hand_at e t p))) (sym object_is)
        (hand_at e t p, lookup_is x ∙ ap (λ (b : Bool). cond b (Some (hand_at e t p)) (value_of (write_set t p) x)) (eq-eqb x x refl), refl))
        (λ w k. ap (λ (o : Object K). o.holder) object_is)
        bank others
        (row_at number r (process_at (holding e t p x (object_at e t x) r) p) _ _ _ _ j (row z p) (sym is_r) (ap (λ (k : Process). window t.reads (p * 32) k.reads) (sym is_r)) refl (sym mine_is) mine_row)
        (λ y k run h.
        let b = ap (λ (c : Row K). c.clock) mine_is in
        let d = ap (λ (c : Row K). c.need) mine_is in
        let st : z.stamp y ≡ s.stamp y = ap (λ (c : ℕ → ℕ). c y) stamp in
        elim (cases_eq x y) [
          | inl n ↦ (let sx : s.stamp x ≡ s.stamp y = ap s.stamp n in elim cx [ inl c ↦ inl (omega arith) | inr c ↦ inr (omega arith) ])
          | inr n ↦
              (let h' : s.held y ≡ by p k = sym (put_other s.held x (by p (hand_at e t p)) y n) ∙ sym (ap (λ (c : ℕ → Held K). c y) held) ∙ h in
              let c = rest_covers e number t s p g v l a y k h' in
              inl (omega arith))
        ])

  -- a write whose look has passed, over an object that p does not hold
  module _ (x : ℕ) (q : (process_at t p).phase ≡ Writing x) (hx : x < length t.objects) (a : Rests (process_at t p) (read_set t p) (row s p))
      (clear : foreign (object_at e t x).holder p ≡ false) (none : value_of (write_set t p) x ≡ None) (room : (process_at t p).writes < 16) where
    write_may : May (length t.processes) s (write p x (hand_at e t p))
    write_may = (record { runs = a.phase; done = a.hand; level = a.level }, open_to e number t s v p x clear)

    stamp_here : s.stamp x ≡ (object_at e t x).stamp
    stamp_here = v.stamps x

    -- the stamp is at most the clock
    pub held_now : (c : ℕ) → c ≡ (process_at t p).clock → (object_at e t x).stamp ≤ (process_at t p).clock
        → Shown e (length t.processes) number (holding e t p x (object_at e t x) (completed (write_joined (process_at t p)) c)) s (write p x (hand_at e t p) ∷ [])
    held_now c same low =
        let b = a.clock in
        let d = stamp_here in
        record {
          lawful = (tt, write_may);
          view =
              hold_view x (completed (write_joined (process_at t p)) c) q hx a clear none room refl refl (next s (write p x (hand_at e t p))) (acted s.stamp (write p x (hand_at e t p)) (row s p)) refl refl refl refl
              (λ n i. row_others s (write p x (hand_at e t p)) p n refl i) (row_acted s (write p x (hand_at e t p)) p refl)
              (subst (λ (z : Bool). RowAs number (completed (write_joined (process_at t p)) c) (read_set t p) (hand_at e t p) z (acted s.stamp (write p x (hand_at e t p)) (row s p))) (sym live)
              (record { phase = a.phase; seen = a.seen; clock = a.clock ∙ sym same; hand = a.hand; level = omega arith }))
              (omega arith) (inr (omega arith));
        }

    -- it is later, and nothing was read
    pub held_later : (c : ℕ) → c ≡ (object_at e t x).stamp → (process_at t p).reads ≡ 0 → (process_at t p).clock < (object_at e t x).stamp
        → Shown e (length t.processes) number (holding e t p x (object_at e t x) (completed (write_joined (process_at t p)) c)) s (extend p ∷ write p x (hand_at e t p) ∷ [])
    held_later c same none_read late =
        let b = a.clock in
        let d = stamp_here in
        let s1 = next s (write p x (hand_at e t p)) in
        let n = put_same s.need p (s.stamp x) p refl in
        record {
          lawful = (
            (tt, write_may),
            (a.phase, omega arith, λ y k w h. absurd (unread y k w h)),
          );
          view =
              hold_view x (completed (write_joined (process_at t p)) c) q hx a clear none room refl refl (next s1 (extend p)) (acted s.stamp (extend p) (acted s.stamp (write p x (hand_at e t p)) (row s p))) refl refl refl refl
              (λ m i. row_others s1 (extend p) p m refl i ∙ row_others s (write p x (hand_at e t p)) p m refl i)
              (row_acted s1 (extend p) p refl ∙ ap (acted s.stamp (extend p)) (row_acted s (write p x (hand_at e t p)) p refl))
              (subst (λ (z : Bool). RowAs number (completed (write_joined (process_at t p)) c) (read_set t p) (hand_at e t p) z (acted s.stamp (extend p) (acted s.stamp (write p x (hand_at e t p)) (row s p)))) (sym live)
              (record { phase = a.phase; seen = a.seen; clock = stamp_here ∙ sym same; hand = a.hand; level = omega arith }))
              (omega arith) (inl (omega arith));
        }
      where
        unread : (y k : ℕ) (w : K) → s.seen p y ≡ saw k w → ⊥
        unread y k w h = grind arith

    -- it is later, and an extension follows
    pub held_waiting : (process_at t p).clock < (object_at e t x).stamp
        → Shown e (length t.processes) number (holding e t p x (object_at e t x) (advanced (write_joined (process_at t p)) (Extending x (object_at e t x).stamp 0 access.Write))) s (write p x (hand_at e t p) ∷ [])
    held_waiting late =
        let b = a.clock in
        let d = stamp_here in
        let r = advanced (write_joined (process_at t p)) (Extending x (object_at e t x).stamp 0 access.Write) in
        record {
          lawful = (tt, write_may);
          view =
              hold_view x r q hx a clear none room refl refl (next s (write p x (hand_at e t p))) (acted s.stamp (write p x (hand_at e t p)) (row s p)) refl refl refl refl
              (λ n i. row_others s (write p x (hand_at e t p)) p n refl i) (row_acted s (write p x (hand_at e t p)) p refl)
              (subst (λ (z : Bool). RowAs number r (read_set t p) (hand_at e t p) z (acted s.stamp (write p x (hand_at e t p)) (row s p))) (sym live)
              (record { phase = a.phase; seen = a.seen; clock = a.clock; hand = a.hand; need = stamp_here; later = late; passed = λ i h. absurd (omega arith) }))
              (omega arith) (inr (omega arith));
        }

  -- the pending content of an object that p holds
  pub rewrite_held : (x i : ℕ) → (process_at t p).phase ≡ Writing x → place_of (write_set t p) x 0 ≡ Some i → (w : K) × (value_of (pending_of t p) x ≡ Some w) × (s.held x ≡ by p w)
  rewrite_held x i q at =
      let old = some_of (value_of (write_set t p) x) (value_place (write_set t p) x 0 ∙ ap is_some at) in
      let pend = ap (λ (k : List (Slot K)). value_of k x) (pending_at e number t s p g v l (Writing x) q) ∙ old.1 in
      (old.0, pend, held_mine e number t s v p x old.0 pend)
    where
      some_of : (o : Option K) → is_some o ≡ true → (k : K) × (o ≡ Some k)
      some_of o h = grind arith

  -- a write to an object that p holds: its pair is in place i
  pub rewrite_shown : (x i : ℕ) → (process_at t p).phase ≡ Writing x → Rests (process_at t p) (read_set t p) (row s p) → place_of (write_set t p) x 0 ≡ Some i
      → Shown e (length t.processes) number (with_process (with_write t p i (pair x (hand_at e t p))) p (completed (process_at t p) (process_at t p).clock)) s (write p x (hand_at e t p) ∷ [])
  rewrite_shown x i q a at =
      let w = hand_at e t p in
      let m = with_write t p i (pair x w) in
      let r = completed (process_at t p) (process_at t p).clock in
      let u = with_process m p r in
      let n = (process_at t p).writes in
      let inside = place_within e t p g l x i at in
      let is : process_at u p ≡ r = get_or-set_same t.processes p r idle_process l in
      let before : pending_of t p ≡ write_set t p = pending_at e number t s p g v l (Writing x) q in
      let pend : pending_of u p ≡ set (write_set t p) i (pair x w) =
      ap (λ (k : Process). drop (gone k.phase) (window m.writes (p * 16) k.writes)) is ∙ window_at t.writes (p * 16) n i (pair x w) in
      let lookup : (y : ℕ) → value_of (pending_of u p) y ≡ cond (eqb x y) (Some w) (value_of (write_set t p) y) =
      λ y. ap (λ (k : List (Slot K)). value_of k y) pend ∙ ap (λ (k : ℕ). value_of (set (write_set t p) k (pair x w)) y) (omega arith) ∙ value_replaced (write_set t p) x 0 i w at y in
      let old = rewrite_held x i q at in
      let holder : (object_at e t x).holder ≡ Some p = v.holds p x old.0 old.1 in
      let clear : foreign (object_at e t x).holder p ≡ false = ap (λ (o : Option ℕ). foreign o p) holder ∙ ap not (eq-eqb p p refl) in
      let cov : s.stamp x ≤ s.clock p = rest_covers e number t s p g v l a x old.0 old.2 in
      let z = next s (write p x w) in
      let ra = row_acted s (write p x w) p refl in
      record {
        lawful = (tt, (record { runs = a.phase; done = a.hand; level = a.level }, open_to e number t s v p x clear));
        view =
            object_view e number t u s z p x (by p w) g v (frame_both t m u p (frame_write t p i (pair x w) inside) (frame_process m p r)) clear
            (λ y d. refl)
            (λ y d. lookup y ∙ ap (λ (b : Bool). cond b (Some w) (value_of (write_set t p) y)) (ne_eqb x y d) ∙ ap (λ (k : List (Slot K)). value_of k y) (sym before))
            v.contents v.stamps (λ y d. refl) refl
            (subst (λ (o : Option ℕ). HolderAs u x o (by p w)) (sym holder) (w, lookup x ∙ ap (λ (b : Bool). cond b (Some w) (value_of (write_set t p) x)) (eq-eqb x x refl), refl))
            (λ k h. holder) refl (λ k d. row_others s (write p x w) p k refl d)
            (row_at number r (process_at u p) _ _ _ _ (acted s.stamp (write p x w) (row s p)) (row z p) (sym is) (ap (λ (k : Process). window t.reads (p * 32) k.reads) (sym is)) refl (sym ra)
            (subst (λ (b : Bool). RowAs number r (read_set t p) (hand_at e t p) b (acted s.stamp (write p x w) (row s p))) (sym live)
            (record { phase = a.phase; seen = a.seen; clock = a.clock; hand = a.hand; level = cov })))
            (λ y k run h.
            elim (cases_eq x y) [
              | inl d ↦ (let sx = ap s.stamp d in inl (omega arith))
              | inr d ↦ inl (rest_covers e number t s p g v l a y k (sym (put_other s.held x (by p w) y d) ∙ h))
            ]);
      }
