-- The steps of a read, and snapshot extension, as blocks of events.
use Rattle.std.proofs.Common.{◌≡◌, ℕ, ◌+◌, ◌*◌, ◌<◌, ◌≤◌, Bool, true, false, cond, eqb, List, [], ◌∷◌, ◌++◌, length, drop, Some, None, Option, sym, refl, ap, ◌∙◌, subst, inl, inr, arith}
use Rattle.std.proofs.lemmas.Bool.{cases_Bool}
use Rattle.std.proofs.lemmas.List.{get_or-set_same}
use Rattle.tables.specs.Lookup.{pair, value_of}
use Rattle.tables.specs.Tables.{Tables, process_at, object_at, hand_at, read_set, write_set, with_process, with_hand, with_read}
use Rattle.tables.specs.declared.map.Slot.{Slot}
use Rattle.tables.specs.declared.process.Access.TheVariants as access
use Rattle.tables.specs.declared.process.Phase.{Phase}
use Rattle.tables.specs.declared.process.Phase.TheVariants.{Idle, Reading, Extending}
use Rattle.tables.specs.declared.process.Process.{Process}
use Rattle.engine.specs.Outcome.{advanced, completed}
use Rattle.engine.specs.Look.{foreign, differs}
use Rattle.protocol.specs.Table.{put}
use Rattle.protocol.specs.Protocol.{LawfulFrom, State, May, Idle as Rest}
use Rattle.protocol.specs.Protocol.Held.{nobody}
use Rattle.protocol.specs.Protocol.Seen.{saw}
use Rattle.protocol.specs.Protocol.Hand.{full}
use Rattle.protocol.specs.Protocol.Event.{look, extend, answer, own}
use Rattle.refinement.proofs.Frames.{Frame, frame_hand}
use Rattle.refinement.proofs.Own.{Good}
use Rattle.refinement.proofs.Sets.{value_first}
use Rattle.refinement.proofs.Windows.{window, window_push}
use Rattle.refinement.proofs.Changes.{sizes_facts}
use Rattle.refinement.proofs.Rows.{Row, row}
use Rattle.refinement.proofs.Blocks.{acted_all, shows}
use Rattle.refinement.proofs.Placing.{Shown, live_at, pending_at, rest_covers, rests_on}
use Rattle.refinement.proofs.View.{gone, pending_of, SeenAs, Rests, LiveAs, RowAs, View, same_to, held_mine}

-- look-ups in a set with one pair more
pub value_push : {V : Type 0} (xs : List (Slot V)) (x y : ℕ) (u : V) → value_of xs x ≡ None → value_of (xs ++ pair x u ∷ []) y ≡ cond (eqb x y) (Some u) (value_of xs y)
value_push [] x y u h = value_first (pair x u) [] y
value_push (s ∷ ss) x y u h =
    elim (cases_Bool (eqb s.object x)) [
      | inl a ↦ (let z : Some s.value ≡ None = simp a at h in cc)
      | inr a ↦
          (let h' : value_of ss x ≡ None = simp a at h in
          elim (cases_Bool (eqb s.object y)) [
            | inl b ↦ (let n : eqb x y ≡ false = other s.object x y a b in simp (b, n))
            | inr b ↦ simp b (value_push ss x y u h')
          ])
    ]
  where
    other : (a x y : ℕ) → eqb a x ≡ false → eqb a y ≡ true → eqb x y ≡ false
    other a x y n m = grind arith

module _ {K : Type 0} (e : K) (number : ℕ → ℕ) (t : Tables K) (s : State K) (p : ℕ) (g : Good e t) (v : View e number t s) (l : p < length t.processes) where
  rest_of : Rests (process_at t p) (read_set t p) (row s p) → Rest s p
  rest_of a = record { runs = a.phase; done = a.hand; level = a.level }

  -- a pending content is read
  pub own_shown : (x : ℕ) (w : K) → (process_at t p).live ≡ true → (process_at t p).phase ≡ Reading x → value_of (write_set t p) x ≡ Some w
      → Shown e (length t.processes) number (with_process (with_hand t p w) p (completed (process_at t p) (process_at t p).clock)) s (own p x w ∷ [])
  own_shown x w live q h =
      let a = live_at e number t s p g v l (Reading x) live q in
      let pend = pending_at e number t s p g v l (Reading x) q in
      let mineq : value_of (pending_of t p) x ≡ Some w = ap (λ (z : List (Slot K)). value_of z x) pend ∙ h in
      record {
        lawful = (tt, (rest_of a, held_mine e number t s v p x w mineq));
        view =
            shows e number t s p g v l (with_hand t p w) (completed (process_at t p) (process_at t p).clock) (own p x w ∷ []) (refl, tt) (frame_hand t p w) refl refl (sym pend)
            (subst (λ (b : Bool). RowAs number (completed (process_at t p) (process_at t p).clock) (read_set t p) (hand_at e (with_hand t p w) p) b (row s p)) (sym live)
            (rests_on e number t s p g v l (completed (process_at t p) (process_at t p).clock) (read_set t p) refl a))
            (λ y k run c. v.covered p y k run c);
      }

  row_for : (r : Process) → r.live ≡ true → r.phase ≡ Idle → (rs : List (Slot ℕ)) (h : K) (w : Row K) → Rests r rs w → RowAs number r rs h r.live w
  row_for r rl rp rs h w a =
      subst (λ (b : Bool). RowAs number r rs h b w) (sym rl) (subst (λ (f : Phase). LiveAs number r rs h f w) (sym rp) a)

  -- what a look that has passed says of the object x
  module _ (x : ℕ) (a : Rests (process_at t p) (read_set t p) (row s p)) (none : value_of (write_set t p) x ≡ None) (q : (process_at t p).phase ≡ Reading x)
      (clear : foreign (object_at e t x).holder p ≡ false) (fresh : differs (value_of (read_set t p) x) (object_at e t x).stamp ≡ false) where
    nobody_holds : s.held x ≡ nobody
    nobody_holds = grind arith

    pend : (r : Process) → r.phase ≡ Idle → r.writes ≡ (process_at t p).writes → drop (gone r.phase) (window t.writes (p * 16) r.writes) ≡ pending_of t p
    pend r rp wr = cc

    look_may : May (length t.processes) s (look p x (object_at e t x).content)
    look_may = (rest_of a, nobody_holds, same_to e number t s v p x (a.seen x) fresh, v.contents x)

    -- the read set once x is in it, at the stamp that was found
    abbrev pub In-set : List (Slot ℕ) → Type 0
    In-set rs = (y : ℕ) → value_of rs y ≡ cond (eqb x y) (Some (object_at e t x).stamp) (value_of (read_set t p) y)

    seen_put : (rs : List (Slot ℕ)) → In-set rs → (y : ℕ) → SeenAs (value_of rs y) (put (s.seen p) x (saw (object_at e t x).stamp (object_at e t x).content) y)
    seen_put rs h y = grind arith

    -- what was seen is the stamp that was found
    present : (u : ℕ) (o : Option ℕ) → o ≡ Some u → differs o (object_at e t x).stamp ≡ false → u ≡ (object_at e t x).stamp
    present u o n d = grind arith

    -- x is in the read set already
    pub in_already : (u : ℕ) → value_of (read_set t p) x ≡ Some u → In-set (read_set t p)
    in_already u h y = grind arith

    -- the pair joins
    pub in_joined : (process_at t p).reads < 32 → value_of (read_set t p) x ≡ None → In-set (window (with_read t p (process_at t p).reads (pair x (object_at e t x).stamp)).reads (p * 32) ((process_at t p).reads + 1))
    in_joined few h y =
        let z = sizes_facts t g.sizes in
        let size = z.reads in
        ap (λ (rs : List (Slot ℕ)). value_of rs y) (window_push t.reads (p * 32) (process_at t p).reads (pair x (object_at e t x).stamp) (omega arith))
        ∙ value_push (read_set t p) x y (object_at e t x).stamp h

    stamp_is : s.stamp x ≡ (object_at e t x).stamp
    stamp_is = v.stamps x

    -- The events of a read that is answered in its first step; with a later stamp, the read set is empty.
    pub now_lawful : (object_at e t x).stamp ≤ (process_at t p).clock → LawfulFrom (length t.processes) s (answer p x (object_at e t x).stamp (object_at e t x).content ∷ look p x (object_at e t x).content ∷ [])
    now_lawful low = grind arith

    pub later_lawful : (process_at t p).reads ≡ 0 → (process_at t p).clock < (object_at e t x).stamp → LawfulFrom (length t.processes) s (answer p x (object_at e t x).stamp (object_at e t x).content ∷ extend p ∷ look p x (object_at e t x).content ∷ [])
    later_lawful none_read late = grind arith

    -- the row once the read is answered
    now_row : (r : Process) (rs : List (Slot ℕ)) → In-set rs → r.clock ≡ (process_at t p).clock → (object_at e t x).stamp ≤ (process_at t p).clock
        → Rests r rs (acted_all s.stamp (answer p x (object_at e t x).stamp (object_at e t x).content ∷ look p x (object_at e t x).content ∷ []) (row s p))
    now_row r rs h c low = grind arith

    later_row : (r : Process) (rs : List (Slot ℕ)) → In-set rs → r.clock ≡ (object_at e t x).stamp
        → Rests r rs (acted_all s.stamp (answer p x (object_at e t x).stamp (object_at e t x).content ∷ extend p ∷ look p x (object_at e t x).content ∷ []) (row s p))
    later_row r rs h c = grind arith

    -- the answered read, over tables w with the record r
    pub now_shown : (w : Tables K) (r : Process) → Frame t w p → w.objects ≡ t.objects → w.writes ≡ t.writes → r.live ≡ true → r.phase ≡ Idle → r.writes ≡ (process_at t p).writes → r.clock ≡ (process_at t p).clock → In-set (window w.reads (p * 32) r.reads) → (object_at e t x).stamp ≤ (process_at t p).clock
        → Shown e (length t.processes) number (with_process w p r) s (answer p x (object_at e t x).stamp (object_at e t x).content ∷ look p x (object_at e t x).content ∷ [])
    now_shown w r f eo ew rl rp wr rc h low =
        let b = a.clock in
        record {
          lawful = now_lawful low;
          view =
              shows e number t s p g v l w r (answer p x (object_at e t x).stamp (object_at e t x).content ∷ look p x (object_at e t x).content ∷ []) (refl, (refl, tt)) f eo ew
              (pend r rp wr)
              (row_for r rl rp (window w.reads (p * 32) r.reads) (hand_at e w p) _ (now_row r (window w.reads (p * 32) r.reads) h rc low))
              (λ y k run c. inl (rest_covers e number t s p g v l a y k c));
        }

    pub later_shown : (w : Tables K) (r : Process) → Frame t w p → w.objects ≡ t.objects → w.writes ≡ t.writes → r.live ≡ true → r.phase ≡ Idle → r.writes ≡ (process_at t p).writes → r.clock ≡ (object_at e t x).stamp → In-set (window w.reads (p * 32) r.reads) → (process_at t p).reads ≡ 0 → (process_at t p).clock < (object_at e t x).stamp
        → Shown e (length t.processes) number (with_process w p r) s (answer p x (object_at e t x).stamp (object_at e t x).content ∷ extend p ∷ look p x (object_at e t x).content ∷ [])
    later_shown w r f eo ew rl rp wr rc h none_read late =
        record {
          lawful = later_lawful none_read late;
          view =
              shows e number t s p g v l w r (answer p x (object_at e t x).stamp (object_at e t x).content ∷ extend p ∷ look p x (object_at e t x).content ∷ []) (refl, (refl, (refl, tt))) f eo ew
              (pend r rp wr)
              (row_for r rl rp (window w.reads (p * 32) r.reads) (hand_at e w p) _ (later_row r (window w.reads (p * 32) r.reads) h rc))
              (λ y k run c. let i = rest_covers e number t s p g v l a y k c in let b = a.clock in let d = stamp_is in inl (omega arith));
        }

    -- a read whose stamp is later than the clock waits for an extension
    pub waiting_shown : (process_at t p).live ≡ true → (process_at t p).clock < (object_at e t x).stamp
        → Shown e (length t.processes) number (with_process (with_hand t p (object_at e t x).content) p (advanced (process_at t p) (Extending x (object_at e t x).stamp 0 access.Read))) s (look p x (object_at e t x).content ∷ [])
    waiting_shown live late =
        let w = with_hand t p (object_at e t x).content in
        let z = sizes_facts t g.sizes in
        let size = z.hands in
        let in_hand : hand_at e w p ≡ (object_at e t x).content = get_or-set_same t.hands p (object_at e t x).content e (omega arith) in
        record {
          lawful = (tt, look_may);
          view =
              shows e number t s p g v l w (advanced (process_at t p) (Extending x (object_at e t x).stamp 0 access.Read)) (look p x (object_at e t x).content ∷ []) (refl, tt) (frame_hand t p (object_at e t x).content) refl refl
              (sym (pending_at e number t s p g v l (Reading x) q))
              (subst (λ (b : Bool). RowAs number (advanced (process_at t p) (Extending x (object_at e t x).stamp 0 access.Read)) (read_set t p) (hand_at e w p) b (acted_all s.stamp (look p x (object_at e t x).content ∷ []) (row s p))) (sym live) (
                record {
                  phase = a.phase;
                  seen = a.seen;
                  clock = a.clock;
                  hand = ap (λ (k : ℕ). full x k (object_at e t x).content) stamp_is ∙ ap (full x (object_at e t x).stamp) (sym in_hand);
                  need = stamp_is;
                  later = late;
                  passed = λ i h. absurd (omega arith);
                },
                λ u h. present u (value_of (read_set t p) x) h fresh,
              ))
              (λ y k run c. inl (rest_covers e number t s p g v l a y k c));
        }
