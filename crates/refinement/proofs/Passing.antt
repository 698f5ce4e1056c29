-- The steps of snapshot extension and certification whose look has passed, as blocks of events.
use Rattle.std.proofs.Common.{◌≡◌, ℕ, ◌+◌, ◌*◌, ◌<◌, ◌≤◌, Bool, true, false, cond, eqb, List, [], ◌∷◌, length, drop, Some, sym, refl, ap, ◌∙◌, subst, inl, arith}
use Rattle.tables.specs.Lookup.{value_of}
use Rattle.tables.specs.Tables.{Tables, process_at, object_at, hand_at, read_at, read_set, with_process}
use Rattle.tables.specs.declared.map.Slot.{Slot}
use Rattle.tables.specs.declared.process.Access.{Access}
use Rattle.tables.specs.declared.process.Access.TheVariants as access
use Rattle.tables.specs.declared.process.Phase.{Phase}
use Rattle.tables.specs.declared.process.Phase.TheVariants.{Idle, Extending}
use Rattle.tables.specs.declared.process.Process.{Process}
use Rattle.engine.specs.Outcome.{advanced, completed}
use Rattle.engine.specs.Look.{foreign, differs}
use Rattle.protocol.specs.Table.{put}
use Rattle.protocol.specs.Protocol.{LawfulFrom, State, May}
use Rattle.protocol.specs.Protocol.Held.{by}
use Rattle.protocol.specs.Protocol.Seen.{saw}
use Rattle.protocol.specs.Protocol.Hand.{empty, full}
use Rattle.protocol.specs.Protocol.Event.{check, extend, answer}
use Rattle.protocol.proofs.Updates.{put_same}
use Rattle.refinement.proofs.Frames.{Frame}
use Rattle.refinement.proofs.Own.{Good}
use Rattle.refinement.proofs.Windows.{window}
use Rattle.refinement.proofs.Rows.{row}
use Rattle.refinement.proofs.Blocks.{frame_none, acted_all, shows}
use Rattle.refinement.proofs.Placing.{Shown, live_at, pending_at}
use Rattle.refinement.proofs.View.{gone, SeenAs, PassedTo, Extends, LiveAs, RowAs, View}
use Rattle.refinement.proofs.Extending.{open_pair, same_pair, passed_more, all_passed}

-- what is seen once x is in the read set at a stamp
seen_put : {K : Type 0} (rs ns : List (Slot ℕ)) (x u : ℕ) (w : K) (f : ℕ → _) → ((y : ℕ) → value_of ns y ≡ cond (eqb x y) (Some u) (value_of rs y)) → ((y : ℕ) → SeenAs (value_of rs y) (f y)) → (y : ℕ) → SeenAs (value_of ns y) (put f x (saw u w) y)
seen_put rs ns x u w f h a y = grind arith

module _ {K : Type 0} (e : K) (number : ℕ → ℕ) (t : Tables K) (s : State K) (p : ℕ) (g : Good e t) (v : View e number t s) (l : p < length t.processes) (live : (process_at t p).live ≡ true) where
  module _ (x to i : ℕ) (h : _) (a : Extends (process_at t p) (read_set t p) to i h (row s p)) (within : i < (process_at t p).reads)
      (clear : foreign (object_at e t (read_at t p i).object).holder p ≡ false)
      (fresh : differs (Some (read_at t p i).value) (object_at e t (read_at t p i).object).stamp ≡ false) where
    check_may : May (length t.processes) s (check p (read_at t p i).object)
    check_may = (a.phase, open_pair e number t s p g v l i within a.seen clear fresh, same_pair e number t s p g v l i within a.seen clear fresh)

    passed_now : PassedTo (read_set t p) (i + 1) (put (s.passed p) (read_at t p i).object true)
    passed_now = passed_more e number t s p g v l i within a.seen clear fresh (s.passed p) a.passed

    extend_may : i + 1 ≡ (process_at t p).reads → LawfulFrom (length t.processes) s (extend p ∷ check p (read_at t p i).object ∷ [])
    extend_may last =
        let b = a.clock in
        let c = a.need in
        let d = a.later in (
          (tt, check_may),
          (
            a.phase,
            omega arith,
            λ y u w k. ap (λ (f : ℕ → Bool). f y) (put_same s.passed p (put (s.passed p) (read_at t p i).object true) p refl)
                ∙ all_passed e number t s p g v l (put (s.passed p) (read_at t p i).object true) a.seen
                (subst (λ (n : ℕ). PassedTo (read_set t p) n (put (s.passed p) (read_at t p i).object true)) last passed_now) y u w k,
          ),
        )

    -- the next pair
    pub more_row : (r : Process) → r.clock ≡ (process_at t p).clock → Extends r (read_set t p) to (i + 1) h (acted_all s.stamp (check p (read_at t p i).object ∷ []) (row s p))
    more_row r c =
        let d = a.later in
        record { phase = a.phase; seen = a.seen; clock = a.clock ∙ sym c; hand = a.hand; need = a.need; later = omega arith; passed = passed_now }

    pub covers_extended : (y : ℕ) (k : K) → s.held y ≡ by p k → s.stamp y ≤ s.need p
    covers_extended y k c = grind arith

  -- an extension that goes on
  pub extending_shown : (x to i : ℕ) (acc : Access) → (process_at t p).phase ≡ Extending x to i acc → i < (process_at t p).reads
      → foreign (object_at e t (read_at t p i).object).holder p ≡ false → differs (Some (read_at t p i).value) (object_at e t (read_at t p i).object).stamp ≡ false
      → Shown e (length t.processes) number (with_process t p (advanced (process_at t p) (Extending x to (i + 1) acc))) s (check p (read_at t p i).object ∷ [])
  extending_shown x to i access.Read q within clear fresh =
      let a = live_at e number t s p g v l (Extending x to i access.Read) live q in
      record {
        lawful = (tt, check_may x to i (full x to (hand_at e t p)) a.0 within clear fresh);
        view =
            shows e number t s p g v l t (advanced (process_at t p) (Extending x to (i + 1) access.Read)) (check p (read_at t p i).object ∷ []) (refl, tt) (frame_none t p) refl refl
            (sym (pending_at e number t s p g v l (Extending x to i access.Read) q))
            (subst (λ (b : Bool). RowAs number (advanced (process_at t p) (Extending x to (i + 1) access.Read)) (read_set t p) (hand_at e t p) b (acted_all s.stamp (check p (read_at t p i).object ∷ []) (row s p))) (sym live)
            (more_row x to i (full x to (hand_at e t p)) a.0 within clear fresh (advanced (process_at t p) (Extending x to (i + 1) access.Read)) refl, a.1))
            (λ y k run c. v.covered p y k run c);
      }
  extending_shown x to i access.Write q within clear fresh =
      let a = live_at e number t s p g v l (Extending x to i access.Write) live q in
      record {
        lawful = (tt, check_may x to i empty a within clear fresh);
        view =
            shows e number t s p g v l t (advanced (process_at t p) (Extending x to (i + 1) access.Write)) (check p (read_at t p i).object ∷ []) (refl, tt) (frame_none t p) refl refl
            (sym (pending_at e number t s p g v l (Extending x to i access.Write) q))
            (subst (λ (b : Bool). RowAs number (advanced (process_at t p) (Extending x to (i + 1) access.Write)) (read_set t p) (hand_at e t p) b (acted_all s.stamp (check p (read_at t p i).object ∷ []) (row s p))) (sym live)
            (more_row x to i empty a within clear fresh (advanced (process_at t p) (Extending x to (i + 1) access.Write)) refl))
            (λ y k run c. v.covered p y k run c);
      }

  -- the last pass of a write's extension
  pub write_extended : (x to i : ℕ) → (process_at t p).phase ≡ Extending x to i access.Write → i + 1 ≡ (process_at t p).reads
      → foreign (object_at e t (read_at t p i).object).holder p ≡ false → differs (Some (read_at t p i).value) (object_at e t (read_at t p i).object).stamp ≡ false
      → Shown e (length t.processes) number (with_process t p (completed (process_at t p) to)) s (extend p ∷ check p (read_at t p i).object ∷ [])
  write_extended x to i q last clear fresh =
      let a = live_at e number t s p g v l (Extending x to i access.Write) live q in
      let within : i < (process_at t p).reads = omega arith in
      record {
        lawful = extend_may x to i empty a within clear fresh last;
        view =
            shows e number t s p g v l t (completed (process_at t p) to) (extend p ∷ check p (read_at t p i).object ∷ []) (refl, (refl, tt)) (frame_none t p) refl refl
            (sym (pending_at e number t s p g v l (Extending x to i access.Write) q))
            (subst (λ (b : Bool). RowAs number (completed (process_at t p) to) (read_set t p) (hand_at e t p) b (acted_all s.stamp (extend p ∷ check p (read_at t p i).object ∷ []) (row s p))) (sym live)
            (record { phase = a.phase; seen = a.seen; clock = a.need; hand = a.hand; level = omega arith }))
            (λ y k run c. inl (covers_extended x to i empty a within clear fresh y k c));
      }

  -- the last pass of a read's extension, over tables w with the record r
  pub read_extended : (x to i : ℕ) (w : Tables K) (r : Process) → (process_at t p).phase ≡ Extending x to i access.Read → i + 1 ≡ (process_at t p).reads
      → foreign (object_at e t (read_at t p i).object).holder p ≡ false → differs (Some (read_at t p i).value) (object_at e t (read_at t p i).object).stamp ≡ false
      → Frame t w p → w.objects ≡ t.objects → w.writes ≡ t.writes → r.live ≡ true → r.phase ≡ Idle → r.writes ≡ (process_at t p).writes → r.clock ≡ to
      → ((y : ℕ) → value_of (window w.reads (p * 32) r.reads) y ≡ cond (eqb x y) (Some to) (value_of (read_set t p) y))
      → Shown e (length t.processes) number (with_process w p r) s (answer p x to (hand_at e t p) ∷ extend p ∷ check p (read_at t p i).object ∷ [])
  read_extended x to i w r q last clear fresh f eo ew rl rp wr rc inset =
      let b = live_at e number t s p g v l (Extending x to i access.Read) live q in
      let a = b.0 in
      let within : i < (process_at t p).reads = omega arith in
      let h = full x to (hand_at e t p) in
      record {
        lawful = (
          extend_may x to i h a within clear fresh last,
          (a.phase, a.hand, (let c = put_same s.clock p (s.need p) p refl in omega arith)),
        );
        view =
            shows e number t s p g v l w r (answer p x to (hand_at e t p) ∷ extend p ∷ check p (read_at t p i).object ∷ []) (refl, (refl, (refl, tt))) f eo ew
            (ap (λ (z : Phase). drop (gone z) (window t.writes (p * 16) r.writes)) rp ∙ ap (window t.writes (p * 16)) wr ∙ sym (pending_at e number t s p g v l (Extending x to i access.Read) q))
            (subst (λ (z : Bool). RowAs number r (window w.reads (p * 32) r.reads) (hand_at e w p) z (acted_all s.stamp (answer p x to (hand_at e t p) ∷ extend p ∷ check p (read_at t p i).object ∷ []) (row s p))) (sym rl)
            (subst (λ (z : Phase). LiveAs number r (window w.reads (p * 32) r.reads) (hand_at e w p) z (acted_all s.stamp (answer p x to (hand_at e t p) ∷ extend p ∷ check p (read_at t p i).object ∷ []) (row s p))) (sym rp)
            (record {
              phase = a.phase;
              seen = seen_put (read_set t p) (window w.reads (p * 32) r.reads) x to (hand_at e t p) (s.seen p) inset a.seen;
              clock = a.need ∙ sym rc;
              hand = refl;
              level = omega arith;
            })))
            (λ y k run c. inl (covers_extended x to i h a within clear fresh y k c));
      }
