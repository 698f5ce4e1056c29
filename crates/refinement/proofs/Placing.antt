-- The placings, and the steps that touch no object, as blocks of events.
use Rattle.std.proofs.Common.{◌≡◌, ℕ, ◌+◌, ◌*◌, ◌<◌, ◌≤◌, min, Bool, true, false, List, [], ◌∷◌, length, drop, Some, sym, refl, ap, ◌∙◌, subst, inl, inr, arith}
use Rattle.std.proofs.lemmas.Bool.{cases_lt}
use Rattle.tables.specs.Lookup.{value_of}
use Rattle.tables.specs.Tables.{Tables, process_at, object_at, hand_at, read_set, write_set, with_process}
use Rattle.tables.specs.declared.map.Slot.{Slot}
use Rattle.tables.specs.declared.process.Phase.{Phase}
use Rattle.tables.specs.declared.process.Phase.TheVariants.{Idle, Beginning}
use Rattle.tables.specs.declared.process.Process.{Process}
use Rattle.tables.specs.declared.reply.Request.{Request}
use Rattle.tables.specs.declared.reply.Request.TheVariants as ask
use Rattle.engine.specs.Outcome.{advanced, completed}
use Rattle.engine.specs.Place.{first_phase, placed}
use Rattle.protocol.specs.Protocol.{states, LawfulFrom, State, Event}
use Rattle.protocol.specs.Protocol.Held.{by}
use Rattle.protocol.specs.Protocol.Seen.{unseen}
use Rattle.protocol.specs.Protocol.Phase.{starting, running}
use Rattle.protocol.specs.Protocol.Event.{begin, ready}
use Rattle.protocol.proofs.Invariant.{differ}
use Rattle.refinement.proofs.Frames.{Frame}
use Rattle.refinement.proofs.Own.{Good}
use Rattle.refinement.proofs.Windows.{window}
use Rattle.refinement.proofs.Rows.{row}
use Rattle.refinement.proofs.Blocks.{frame_none, acted_all, shows}
use Rattle.refinement.proofs.View.{gone, pending_of, SeenAs, Rests, LiveAs, RowAs, View, holder_of}

-- the step's tables u show the block es from the state s
pub record Shown {K : Type 0} (e : K) (P : ℕ) (number : ℕ → ℕ) (u : Tables K) (s : State K) (es : List (Event K)) : Type 0 where
  pub lawful : LawfulFrom P s es
  pub view : View e number u (states s es)

module _ {K : Type 0} (e : K) (number : ℕ → ℕ) (t : Tables K) (s : State K) (p : ℕ) (g : Good e t) (v : View e number t s) (l : p < length t.processes) where
  -- the row of p, by its record
  pub mine : (b : Bool) → (process_at t p).live ≡ b → RowAs number (process_at t p) (read_set t p) (hand_at e t p) b (row s p)
  mine b q = subst (λ (z : Bool). RowAs number (process_at t p) (read_set t p) (hand_at e t p) z (row s p)) q (v.rows p)

  pub live_at : (f : Phase) → (process_at t p).live ≡ true → (process_at t p).phase ≡ f → LiveAs number (process_at t p) (read_set t p) (hand_at e t p) f (row s p)
  live_at f q h = subst (λ (z : Phase). LiveAs number (process_at t p) (read_set t p) (hand_at e t p) z (row s p)) h (mine true q)

  pub pending_at : (f : Phase) → (process_at t p).phase ≡ f → pending_of t p ≡ drop (gone f) (write_set t p)
  pending_at f h = ap (λ (z : Phase). drop (gone z) (write_set t p)) h

  -- with an empty write set p holds nothing
  pub holds_none : (process_at t p).writes ≡ 0 → (x : ℕ) (w : K) → s.held x ≡ by p w → ⊥
  holds_none h x w k =
      let a = holder_of t x (object_at e t x).holder (s.held x) p w (v.held x) k in
      empty_pending (process_at t p).writes (gone (process_at t p).phase) h a.1
    where
      empty_pending : (n k : ℕ) → n ≡ 0 → value_of (drop k (window t.writes (p * 16) n)) x ≡ Some w → ⊥
      empty_pending n k h a = grind arith

  -- a resting transaction's clock covers what it holds
  pub rest_covers : Rests (process_at t p) (read_set t p) (row s p) → (x : ℕ) (k : K) → s.held x ≡ by p k → s.stamp x ≤ s.clock p
  rest_covers a x k h = grind arith

  -- the same resting row, for a record with the same clock
  pub rests_on : (r : Process) (rs : List (Slot ℕ)) → r.clock ≡ (process_at t p).clock → Rests (process_at t p) rs (row s p) → Rests r rs (row s p)
  rests_on r rs c a = record { phase = a.phase; seen = a.seen; clock = a.clock ∙ sym c; hand = a.hand; level = a.level }

  first_row : (q : Request K) (h : K) → Rests (process_at t p) (read_set t p) (row s p) → (q ≡ ask.Begin → ⊥) → LiveAs number (placed (process_at t p) q) (read_set t p) h (first_phase q) (row s p)
  first_row q h a n = grind arith

  none_gone : (q : Request K) → gone (first_phase q) ≡ 0
  none_gone q = grind arith

  -- a request other than begin is placed: no event
  pub placed_shown : (w : Tables K) (q : Request K) → Frame t w p → w.objects ≡ t.objects → w.writes ≡ t.writes → w.reads ≡ t.reads → (process_at t p).live ≡ true → (process_at t p).phase ≡ Idle → (q ≡ ask.Begin → ⊥)
      → Shown e (length t.processes) number (with_process w p (placed (process_at t p) q)) s []
  placed_shown w q f eo ew er live idle n =
      let a = live_at Idle live idle in
      record {
        lawful = tt;
        view =
            shows e number t s p g v l w (placed (process_at t p) q) [] tt f eo ew
            (ap (λ (k : ℕ). drop k (write_set t p)) (none_gone q) ∙ sym (pending_at Idle idle))
            (subst (λ (z : List (Slot ℕ)). LiveAs number (placed (process_at t p) q) (window z (p * 32) (process_at t p).reads) (hand_at e w p) (first_phase q) (row s p)) (sym er)
            (first_row q (hand_at e w p) a n))
            (λ x k run h. v.covered p x k run h);
      }

  -- begin is placed
  pub begin_shown : (process_at t p).live ≡ false → Shown e (length t.processes) number (with_process t p (placed {K = K} (process_at t p) ask.Begin)) s (begin p ∷ [])
  begin_shown dead =
      let a = mine false dead in
      record {
        lawful = (tt, a.0);
        view =
            shows e number t s p g v l t (placed {K = K} (process_at t p) ask.Begin) (begin p ∷ []) (refl, tt) (frame_none t p) refl refl
            (sym (pending_at Idle a.1))
            (refl, (λ q h. absurd (omega arith)), a.2, a.3)
            (λ x k run h. absurd (differ starting running tt run));
      }

  -- a step of begin that is not the last
  pub reading_bank : (n least : ℕ) → (process_at t p).live ≡ true → (process_at t p).phase ≡ Beginning n least → Shown e (length t.processes) number (with_process t p (advanced (process_at t p) (Beginning (n + 1) (min (number n) least)))) s []
  reading_bank n least live q =
      let a = live_at (Beginning n least) live q in
      record {
        lawful = tt;
        view =
            shows e number t s p g v l t (advanced (process_at t p) (Beginning (n + 1) (min (number n) least))) [] tt (frame_none t p) refl refl
            (sym (pending_at (Beginning n least) q))
            (subst (λ (b : Bool). RowAs number (advanced (process_at t p) (Beginning (n + 1) (min (number n) least))) (read_set t p) (hand_at e t p) b (row s p)) (sym live)
            (a.0, (λ k h. elim (cases_lt k n) [ inl c ↦ (let d = a.1 k c in omega arith) | inr c ↦ (let same : k ≡ n = omega arith in let m = ap number same in omega arith) ]), a.2, a.3))
            (λ x k run h. v.covered p x k run h);
      }

  -- the last step of begin
  pub ready_shown : (n least : ℕ) → n + 1 ≡ length t.processes → (process_at t p).live ≡ true → (process_at t p).phase ≡ Beginning n least → Shown e (length t.processes) number (with_process t p (completed (process_at t p) (min (number n) least))) s (ready p (min (number n) least) ∷ [])
  ready_shown n least last live q =
      let a = live_at (Beginning n least) live q in
      let low = min (number n) least in
      record {
        lawful =
            (tt, (a.0, λ k h. let b = v.bank k in elim (cases_lt k n) [ inl c ↦ (let d = a.1 k c in omega arith) | inr c ↦ (let same : k ≡ n = omega arith in let m = ap number same in omega arith) ]));
        view =
            shows e number t s p g v l t (completed (process_at t p) low) (ready p low ∷ []) (refl, tt) (frame_none t p) refl refl
            (sym (pending_at (Beginning n least) q))
            (subst (λ (b : Bool). RowAs number (completed (process_at t p) low) (read_set t p) (hand_at e t p) b (acted_all s.stamp (ready p low ∷ []) (row s p))) (sym live)
            (record { phase = refl; seen = λ x. unseen_all x (process_at t p).reads a.2; clock = refl; hand = refl; level = omega arith }))
            (λ x k run h. absurd (holds_none a.3 x k h));
      }
    where
      unseen_all : (x n : ℕ) → n ≡ 0 → SeenAs {K = K} (value_of (window t.reads (p * 32) n) x) (unseen)
      unseen_all x n h = subst (λ (m : ℕ). SeenAs {K = K} (value_of (window t.reads (p * 32) m) x) (unseen)) (sym h) refl
