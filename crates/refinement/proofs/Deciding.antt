-- Certification, conflicts and the withdrawal of a transaction that holds nothing, as blocks of events.
use Rattle.std.proofs.Common.{◌≡◌, ℕ, ◌+◌, ◌<◌, Bool, true, false, ◌⊎◌, List, [], ◌∷◌, ◌++◌, length, drop, Some, sym, refl, ap, ◌∙◌, subst, inl, inr, arith}
use Rattle.tables.specs.Tables.{Tables, process_at, object_at, hand_at, read_at, read_set, write_set, with_process}
use Rattle.tables.specs.declared.process.Phase.{Phase}
use Rattle.tables.specs.declared.process.Phase.TheVariants.{Certifying, Freeing}
use Rattle.engine.specs.Outcome.{advanced}
use Rattle.engine.specs.Look.{foreign, differs}
use Rattle.protocol.specs.Table.{put}
use Rattle.protocol.specs.Protocol.{states, LawfulFrom, State, Event, May, Cause, Why}
use Rattle.protocol.specs.Protocol.Phase.{running, certifying, aborting}
use Rattle.protocol.specs.Protocol.Event.{certify, pass, finish, fail, close}
use Rattle.protocol.proofs.Blocks.{joined, lawful_on}
use Rattle.protocol.proofs.Updates.{put_same}
use Rattle.protocol.proofs.Invariant.{differ}
use Rattle.refinement.proofs.Own.{Good}
use Rattle.refinement.proofs.Rows.{row}
use Rattle.refinement.proofs.Blocks.{frame_none, acted_all, shows, shows_ended, stays}
use Rattle.refinement.proofs.Placing.{Shown, pending_at, holds_none}
use Rattle.refinement.proofs.View.{gone, PassedTo, Certifies, NotBegun, LiveAs, RowAs, View}
use Rattle.engine.specs.Ends.{ended}
use Rattle.refinement.proofs.Extending.{open_pair, same_pair, passed_more, all_passed}
use Rattle.tables.specs.declared.process.Ending.TheVariants.{Abort, Withdraw}
use Rattle.tables.specs.declared.reply.Conflict.{Conflict}
use Rattle.tables.specs.declared.reply.Conflict.TheVariants as conflict
use Rattle.protocol.specs.Protocol.Cause.{busy, stale, spent, withdrawn}

-- the cause of a conflict, in the protocol's terms
abbrev pub cause_of : Conflict → Cause
cause_of (conflict.Held x) = busy x
cause_of (conflict.Changed x) = stale x
cause_of conflict.Spent = spent

-- a block after another
pub then_shown : {K : Type 0} (e : K) (P : ℕ) (number : ℕ → ℕ) (u : Tables K) (s : State K) (es fs : List (Event K)) → LawfulFrom P s es → Shown e P number u (states s es) fs → Shown e P number u s (fs ++ es)
then_shown e P number u s es fs h k =
    record { lawful = lawful_on P s fs es h k.lawful; view = subst (View e number u) (sym (joined s fs es)) k.view }

module _ {K : Type 0} (e : K) (number : ℕ → ℕ) (t : Tables K) (s : State K) (p : ℕ) (g : Good e t) (v : View e number t s) (l : p < length t.processes) (live : (process_at t p).live ≡ true) where
  -- certification begins
  pub certify_first : (n : ℕ) → (process_at t p).phase ≡ Certifying n → NotBegun (process_at t p) (read_set t p) n (row s p) → Shown e (length t.processes) number t s (certify p ∷ [])
  certify_first n q a =
      let r = a.2 in
      let zero = a.1 in
      record {
        lawful = (tt, record { runs = r.phase; done = r.hand; level = r.level });
        view =
            stays e number t s p g v l (certify p ∷ []) (refl, tt)
            (subst (λ (b : Bool). RowAs number (process_at t p) (read_set t p) (hand_at e t p) b (acted_all s.stamp (certify p ∷ []) (row s p))) (sym live)
            (subst (λ (f : Phase). LiveAs number (process_at t p) (read_set t p) (hand_at e t p) f (acted_all s.stamp (certify p ∷ []) (row s p))) (sym q)
            (inr (record { phase = refl; seen = r.seen; clock = r.clock; level = r.level; passed = λ i h. absurd (omega arith) }))))
            (λ x k run h. absurd (differ certifying running tt run));
      }

  -- a withdrawal begins
  pub withdraw_first : (n : ℕ) → (process_at t p).phase ≡ Freeing n Withdraw → NotBegun (process_at t p) (read_set t p) n (row s p) → Shown e (length t.processes) number t s (fail p withdrawn ∷ [])
  withdraw_first n q a =
      let r = a.2 in
      record {
        lawful = (tt, (inl r.phase, record { runs = r.phase; done = r.hand; level = r.level }));
        view =
            stays e number t s p g v l (fail p withdrawn ∷ []) (refl, tt)
            (subst (λ (b : Bool). RowAs number (process_at t p) (read_set t p) (hand_at e t p) b (acted_all s.stamp (fail p withdrawn ∷ []) (row s p))) (sym live)
            (subst (λ (f : Phase). LiveAs number (process_at t p) (read_set t p) (hand_at e t p) f (acted_all s.stamp (fail p withdrawn ∷ []) (row s p))) (sym q) (inr refl)))
            (λ x k run h. absurd (differ aborting running tt run));
      }

  -- a conflict, with its cause
  module _ (c : Conflict) (why : Why s p (cause_of c)) (runs : (s.phase p ≡ running) ⊎ (s.phase p ≡ certifying)) where
    pub stop_frees : gone (process_at t p).phase ≡ 0 → Shown e (length t.processes) number (with_process t p (advanced (process_at t p) (Freeing 0 (Abort c)))) s (fail p (cause_of c) ∷ [])
    stop_frees none =
        record {
          lawful = (tt, (runs, why));
          view =
              shows e number t s p g v l t (advanced (process_at t p) (Freeing 0 (Abort c))) (fail p (cause_of c) ∷ []) (refl, tt) (frame_none t p) refl refl
              (sym (ap (λ (n : ℕ). drop n (write_set t p)) none))
              (subst (λ (b : Bool). RowAs number (advanced (process_at t p) (Freeing 0 (Abort c))) (read_set t p) (hand_at e t p) b (acted_all s.stamp (fail p (cause_of c) ∷ []) (row s p))) (sym live) refl)
              (λ x k run h. absurd (differ aborting running tt run));
        }

    pub stop_ends : (process_at t p).writes ≡ 0 → Shown e (length t.processes) number (ended e t p) s (close p ∷ fail p (cause_of c) ∷ [])
    stop_ends none =
        record {
          lawful = ((tt, (runs, why)), (put_same s.phase p aborting p refl, λ x w h. holds_none e number t s p g v l none x w h));
          view = shows_ended e number t s p g v l (close p ∷ fail p (cause_of c) ∷ []) (refl, (refl, tt)) none refl;
        }

  -- a transaction that is given up and holds nothing
  pub closes : s.phase p ≡ aborting → (process_at t p).writes ≡ 0 → Shown e (length t.processes) number (ended e t p) s (close p ∷ [])
  closes over none =
      record {
        lawful = (tt, (over, λ x w h. holds_none e number t s p g v l none x w h));
        view = shows_ended e number t s p g v l (close p ∷ []) (refl, tt) none refl;
      }

  -- certification's look at pair i has passed
  module _ (i : ℕ) (q : (process_at t p).phase ≡ Certifying i) (a : Certifies (process_at t p) (read_set t p) i (row s p)) where
    module _ (within : i < (process_at t p).reads)
        (clear : foreign (object_at e t (read_at t p i).object).holder p ≡ false)
        (fresh : differs (Some (read_at t p i).value) (object_at e t (read_at t p i).object).stamp ≡ false) where
      pass_may : May (length t.processes) s (pass p (read_at t p i).object)
      pass_may = (a.phase, open_pair e number t s p g v l i within a.seen clear fresh, same_pair e number t s p g v l i within a.seen clear fresh)

      passed_now : PassedTo (read_set t p) (i + 1) (put (s.passed p) (read_at t p i).object true)
      passed_now = passed_more e number t s p g v l i within a.seen clear fresh (s.passed p) a.passed

      pub certified_on : Shown e (length t.processes) number (with_process t p (advanced (process_at t p) (Certifying (i + 1)))) s (pass p (read_at t p i).object ∷ [])
      certified_on =
          record {
            lawful = (tt, pass_may);
            view =
                shows e number t s p g v l t (advanced (process_at t p) (Certifying (i + 1))) (pass p (read_at t p i).object ∷ []) (refl, tt) (frame_none t p) refl refl
                (sym (pending_at e number t s p g v l (Certifying i) q))
                (subst (λ (b : Bool). RowAs number (advanced (process_at t p) (Certifying (i + 1))) (read_set t p) (hand_at e t p) b (acted_all s.stamp (pass p (read_at t p i).object ∷ []) (row s p))) (sym live)
                (inr (record { phase = a.phase; seen = a.seen; clock = a.clock; level = a.level; passed = passed_now })))
                (λ x k run h. absurd (differ certifying running tt (sym a.phase ∙ run)));
          }

      pub certified_ends : i + 1 ≡ (process_at t p).reads → (process_at t p).writes ≡ 0 → Shown e (length t.processes) number (ended e t p) s (close p ∷ finish p ∷ pass p (read_at t p i).object ∷ [])
      certified_ends last none =
          record {
            lawful = (
              (
                (tt, pass_may),
                (
                  a.phase,
                  (λ y u w k. ap (λ (f : ℕ → Bool). f y) (put_same s.passed p (put (s.passed p) (read_at t p i).object true) p refl)
                      ∙ all_passed e number t s p g v l (put (s.passed p) (read_at t p i).object true) a.seen
                      (subst (λ (n : ℕ). PassedTo (read_set t p) n (put (s.passed p) (read_at t p i).object true)) last passed_now) y u w k),
                  λ x w h. holds_none e number t s p g v l none x w h,
                ),
              ),
              (put_same s.phase p aborting p refl, λ x w h. holds_none e number t s p g v l none x w h),
            );
            view = shows_ended e number t s p g v l (close p ∷ finish p ∷ pass p (read_at t p i).object ∷ []) (refl, (refl, (refl, tt))) none refl;
          }

    -- past the last pair, with nothing to write
    pub commits_nothing : i ≡ (process_at t p).reads → (process_at t p).writes ≡ 0 → Shown e (length t.processes) number (ended e t p) s (close p ∷ finish p ∷ [])
    commits_nothing last none =
        record {
          lawful = (
            (
              tt,
              (
                a.phase,
                (λ y u w k. all_passed e number t s p g v l (s.passed p) a.seen (subst (λ (n : ℕ). PassedTo (read_set t p) n (s.passed p)) last a.passed) y u w k),
                λ x w h. holds_none e number t s p g v l none x w h,
              ),
            ),
            (put_same s.phase p aborting p refl, λ x w h. holds_none e number t s p g v l none x w h),
          );
          view = shows_ended e number t s p g v l (close p ∷ finish p ∷ []) (refl, (refl, tt)) none refl;
        }
