-- A step that changes its process's own row alone: no object, no holder and no pending content. The bank may grow.
use Rattle.std.proofs.Common.{◌≡◌, ℕ, ◌≤◌, ◌⊎◌, List, get_or, Option, sym, ap, ◌∙◌, subst, inl, inr, arith}
use Rattle.std.proofs.lemmas.Bool.{cases_eq}
use Rattle.tables.specs.Lookup.{value_of}
use Rattle.tables.specs.Tables.{Tables, process_at, object_at, hand_at, read_set, blank_object}
use Rattle.tables.specs.declared.map.Slot.{Slot}
use Rattle.tables.specs.declared.memory.Object.{Object}
use Rattle.protocol.specs.Protocol.{State, Held}
use Rattle.protocol.specs.Protocol.Held.{by}
use Rattle.protocol.specs.Protocol.Phase.{running}
use Rattle.refinement.proofs.Frames.{Frame}
use Rattle.refinement.proofs.Own.{Good}
use Rattle.refinement.proofs.Rows.{row}
use Rattle.refinement.proofs.View.{pending_of, HolderAs, RowAs, View, other_pending, other_row}

-- a holder, over tables with the same pending contents
pub holder_at : {K : Type 0} (t u : Tables K) (x : ℕ) (o : Option ℕ) (h : Held K) → ((q : ℕ) → pending_of u q ≡ pending_of t q) → HolderAs t x o h → HolderAs u x o h
holder_at t u x o h same a = grind arith

-- the clock covers what q holds, over an equal row
covered_at : {K : Type 0} (s z : State K) (q x : ℕ) (v : K) → row z q ≡ row s q → (s.phase q ≡ running → (s.stamp x ≤ s.clock q) ⊎ (s.stamp x ≤ s.need q)) → z.stamp x ≡ s.stamp x → z.phase q ≡ running → (z.stamp x ≤ z.clock q) ⊎ (z.stamp x ≤ z.need q)
covered_at s z q x v same c st run = grind arith

module _ {K : Type 0} (e : K) (number larger : ℕ → ℕ) (t u : Tables K) (s z : State K) (p : ℕ) (g : Good e t) (v : View e number t s) (f : Frame t u p)
    (objects : u.objects ≡ t.objects) (pending : pending_of u p ≡ pending_of t p)
    (content : z.content ≡ s.content) (stamp : z.stamp ≡ s.stamp) (held : z.held ≡ s.held) (bank : (q : ℕ) → z.bank q ≡ larger q) (grows : (q : ℕ) → number q ≤ larger q)
    (others : (q : ℕ) → (p ≡ q → ⊥) → row z q ≡ row s q)
    (mine : RowAs larger (process_at u p) (read_set u p) (hand_at e u p) (process_at u p).live (row z p))
    (covers : (x : ℕ) (w : K) → z.phase p ≡ running → s.held x ≡ by p w → (s.stamp x ≤ z.clock p) ⊎ (s.stamp x ≤ z.need p)) where
  all_pending : (q : ℕ) → pending_of u q ≡ pending_of t q
  all_pending q =
      elim (cases_eq q p) [
        | inl n ↦ ap (pending_of u) n ∙ pending ∙ ap (pending_of t) (sym n)
        | inr d ↦ other_pending e t u p q g f d
      ]

  same_object : (x : ℕ) → object_at e u x ≡ object_at e t x
  same_object x = ap (λ (os : List (Object K)). get_or os x (blank_object e)) objects

  pub quiet_view : View e larger u z
  quiet_view =
      record {
        contents = λ x. ap (λ (c : ℕ → K). c x) content ∙ v.contents x ∙ ap (λ (o : Object K). o.content) (sym (same_object x));
        stamps = λ x. ap (λ (c : ℕ → ℕ). c x) stamp ∙ v.stamps x ∙ ap (λ (o : Object K). o.stamp) (sym (same_object x));
        held = λ x.
            subst (λ (h : Held K). HolderAs u x (object_at e u x).holder h) (sym (ap (λ (c : ℕ → Held K). c x) held))
            (subst (λ (o : Object K). HolderAs u x o.holder (s.held x)) (sym (same_object x))
            (holder_at t u x (object_at e t x).holder (s.held x) all_pending (v.held x)));
        holds = λ q x w h.
            ap (λ (o : Object K). o.holder) (same_object x)
            ∙ v.holds q x w (ap (λ (l : List (Slot K)). value_of l x) (sym (all_pending q)) ∙ h);
        covered = λ q x w run h.
            let h' : s.held x ≡ by q w = sym (ap (λ (c : ℕ → Held K). c x) held) ∙ h in
            let st : z.stamp x ≡ s.stamp x = ap (λ (c : ℕ → ℕ). c x) stamp in
            elim (cases_eq p q) [
              | inl n ↦
                  (let mineq : (s.stamp x ≤ z.clock p) ⊎ (s.stamp x ≤ z.need p) = covers x w (ap z.phase n ∙ run) (h' ∙ ap (λ (k : ℕ). by k w) (sym n)) in
                  let ck : z.clock p ≡ z.clock q = ap z.clock n in
                  let nd : z.need p ≡ z.need q = ap z.need n in
                  elim mineq [ inl k ↦ inl (omega arith) | inr k ↦ inr (omega arith) ])
              | inr d ↦ covered_at s z q x w (others q d) (λ r. v.covered q x w r h') st run
            ];
        rows = λ q.
            elim (cases_eq p q) [
              | inl n ↦ subst (λ (k : ℕ). RowAs larger (process_at u k) (read_set u k) (hand_at e u k) (process_at u k).live (row z k)) n mine
              | inr d ↦ other_row e number larger t u s z p q g v f d (others q d) grows
            ];
        bank = bank;
      }
