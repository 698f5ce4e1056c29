-- A step that changes one object, or the pending content of one: what must be shown for the view after it.
use Rattle.std.proofs.Common.{◌≡◌, ℕ, ◌≤◌, false, ◌⊎◌, List, Some, None, Option, sym, refl, ap, ◌∙◌, subst, inl, inr, arith}
use Rattle.std.proofs.lemmas.Bool.{cases_eq}
use Rattle.tables.specs.Lookup.{value_of}
use Rattle.tables.specs.Tables.{Tables, process_at, object_at, hand_at, read_set}
use Rattle.tables.specs.declared.map.Slot.{Slot}
use Rattle.tables.specs.declared.memory.Object.{Object}
use Rattle.engine.specs.Look.{foreign}
use Rattle.protocol.specs.Table.{put}
use Rattle.protocol.specs.Protocol.{State, Held}
use Rattle.protocol.specs.Protocol.Held.{by}
use Rattle.protocol.specs.Protocol.Phase.{running}
use Rattle.protocol.proofs.Updates.{put_same, put_other}
use Rattle.refinement.proofs.Frames.{Frame}
use Rattle.refinement.proofs.Own.{Good}
use Rattle.refinement.proofs.Rows.{row}
use Rattle.refinement.proofs.View.{pending_of, HolderAs, RowAs, View, other_pending, other_row, holder_of}

module _ {K : Type 0} (e : K) (number : ℕ → ℕ) (t u : Tables K) (s z : State K) (p x : ℕ) (h : Held K) (g : Good e t) (v : View e number t s) (f : Frame t u p)
    -- no other process holds x
    (clear : foreign (object_at e t x).holder p ≡ false)
    -- the other objects stay
    (elsewhere : (y : ℕ) → (x ≡ y → ⊥) → object_at e u y ≡ object_at e t y)
    (pending : (y : ℕ) → (x ≡ y → ⊥) → value_of (pending_of u p) y ≡ value_of (pending_of t p) y)
    -- x
    (content : (y : ℕ) → z.content y ≡ (object_at e u y).content) (stamp : (y : ℕ) → z.stamp y ≡ (object_at e u y).stamp)
    (same_stamp : (y : ℕ) → (x ≡ y → ⊥) → z.stamp y ≡ s.stamp y)
    (held : z.held ≡ put s.held x h) (holder : HolderAs u x (object_at e u x).holder h)
    (mine_only : (w : K) → value_of (pending_of u p) x ≡ Some w → (object_at e u x).holder ≡ Some p)
    -- rows and bank
    (bank : z.bank ≡ s.bank)
    (others : (q : ℕ) → (p ≡ q → ⊥) → row z q ≡ row s q)
    (mine : RowAs number (process_at u p) (read_set u p) (hand_at e u p) (process_at u p).live (row z p))
    (covers : (y : ℕ) (w : K) → z.phase p ≡ running → z.held y ≡ by p w → (z.stamp y ≤ z.clock p) ⊎ (z.stamp y ≤ z.need p)) where
  -- look-ups away from x
  lookup : (q y : ℕ) → (x ≡ y → ⊥) → value_of (pending_of u q) y ≡ value_of (pending_of t q) y
  lookup q y n =
      elim (cases_eq q p) [
        | inl m ↦ ap (λ (k : ℕ). value_of (pending_of u k) y) m ∙ pending y n ∙ ap (λ (k : ℕ). value_of (pending_of t k) y) (sym m)
        | inr d ↦ ap (λ (z : List (Slot K)). value_of z y) (other_pending e t u p q g f d)
      ]

  holder_away : (y : ℕ) (o : Option ℕ) → (x ≡ y → ⊥) → HolderAs t y o (s.held y) → HolderAs u y o (s.held y)
  holder_away y None n a = a
  holder_away y (Some q) n a = (a.0, lookup q y n ∙ a.1, a.2)

  held_away : (y : ℕ) → (x ≡ y → ⊥) → z.held y ≡ s.held y
  held_away y n = ap (λ (c : ℕ → Held K). c y) held ∙ put_other s.held x h y n

  held_here : z.held x ≡ h
  held_here = ap (λ (c : ℕ → Held K). c x) held ∙ put_same s.held x h x refl

  -- no other process has x pending
  no_other : (q : ℕ) (w : K) → (q ≡ p → ⊥) → value_of (pending_of u q) x ≡ Some w → ⊥
  no_other q w d a =
      let b : value_of (pending_of t q) x ≡ Some w = ap (λ (k : List (Slot K)). value_of k x) (sym (other_pending e t u p q g f d)) ∙ a in
      d (own_holder (object_at e t x).holder (v.holds q x w b) clear)
    where
      own_holder : (o : Option ℕ) → o ≡ Some q → foreign o p ≡ false → q ≡ p
      own_holder o n k = grind arith

  covered_other : (q y : ℕ) (w : K) → (p ≡ q → ⊥) → (x ≡ y → ⊥) → z.phase q ≡ running → z.held y ≡ by q w → (z.stamp y ≤ z.clock q) ⊎ (z.stamp y ≤ z.need q)
  covered_other q y w d n run k = grind arith

  pub object_view : View e number u z
  object_view =
      record {
        contents = content;
        stamps = stamp;
        held = λ y.
            elim (cases_eq x y) [
              | inl n ↦ subst (λ (k : ℕ). HolderAs u k (object_at e u k).holder (z.held k)) n (subst (HolderAs u x (object_at e u x).holder) (sym held_here) holder)
              | inr n ↦
                  subst (HolderAs u y (object_at e u y).holder) (sym (held_away y n))
                  (subst (λ (o : Object K). HolderAs u y o.holder (s.held y)) (sym (elsewhere y n)) (holder_away y (object_at e t y).holder n (v.held y)))
            ];
        holds = λ q y w a.
            elim (cases_eq x y) [
              | inl n ↦
                  (let b : value_of (pending_of u q) x ≡ Some w = ap (value_of (pending_of u q)) n ∙ a in
                  elim (cases_eq q p) [
                    | inl m ↦ ap (λ (k : ℕ). (object_at e u k).holder) (sym n) ∙ mine_only w (ap (λ (k : ℕ). value_of (pending_of u k) x) (sym m) ∙ b) ∙ ap Some (sym m)
                    | inr d ↦ absurd (no_other q w d b)
                  ])
              | inr n ↦ ap (λ (o : Object K). o.holder) (elsewhere y n) ∙ v.holds q y w (sym (lookup q y n) ∙ a)
            ];
        covered = λ q y w run k.
            elim (cases_eq p q) [
              | inl m ↦
                  (let c : (z.stamp y ≤ z.clock p) ⊎ (z.stamp y ≤ z.need p) = covers y w (ap z.phase m ∙ run) (k ∙ ap (λ (i : ℕ). by i w) (sym m)) in
                  let ck : z.clock p ≡ z.clock q = ap z.clock m in
                  let nd : z.need p ≡ z.need q = ap z.need m in
                  elim c [ inl i ↦ inl (omega arith) | inr i ↦ inr (omega arith) ])
              | inr d ↦
                  elim (cases_eq x y) [
                    | inl n ↦
                        (let b : h ≡ by q w = sym held_here ∙ ap z.held n ∙ k in
                        let c = holder_of u x (object_at e u x).holder h q w holder b in
                        absurd (no_other q w (λ i. d (sym i)) c.1))
                    | inr n ↦ covered_other q y w d n run k
                  ]
            ];
        rows = λ q.
            elim (cases_eq p q) [
              | inl m ↦ subst (λ (k : ℕ). RowAs number (process_at u k) (read_set u k) (hand_at e u k) (process_at u k).live (row z k)) m mine
              | inr d ↦ other_row e number number t u s z p q g v f d (others q d) (λ k. omega arith)
            ];
        bank = λ q. ap (λ (c : ℕ → ℕ). c q) bank ∙ v.bank q;
      }
