-- The run alone, when one more transaction is put in its place among the others.
use Rattle.std.proofs.Common.{◌≡◌, ℕ, zero, suc, ◌<◌, ◌≤◌, List, [], ◌∷◌, sym, refl, ap, ◌∙◌, inl, inr, arith}
use Rattle.std.proofs.lemmas.Bool.{cases_eq}
use Rattle.protocol.specs.Table.{put}
use Rattle.protocol.specs.Alone.{Operation, after}
use Rattle.protocol.proofs.Sequence.{alone}
use Rattle.protocol.specs.Alone.Operation.{got, set}
use Rattle.protocol.proofs.Updates.{put_same, put_other}

module _ {K : Type 0} where
  -- the operations leave x as it is
  abbrev pub Unwritten : List (Operation K) → ℕ → Type 0
  Unwritten ds x = (m : ℕ → K) → after m ds x ≡ m x

  -- what is left at x turns on what was at x
  pub after_at : (ds : List (Operation K)) (m n : ℕ → K) (x : ℕ) → m x ≡ n x → after m ds x ≡ after n ds x
  after_at [] m n x e = e
  after_at (got y v ∷ ds) m n x e = after_at ds m n x e
  after_at (set y v ∷ ds) m n x e =
      elim (cases_eq y x) [
        | inl h ↦ put_same (after m ds) y v x h ∙ sym (put_same (after n ds) y v x h)
        | inr h ↦ put_other (after m ds) y v x h ∙ after_at ds m n x e ∙ sym (put_other (after n ds) y v x h)
      ]

  module _ (opening : ℕ → K) (script : ℕ → List (Operation K)) (c : ℕ) (ds : List (Operation K)) where
    -- before its place nothing changes
    pub earlier : (k : ℕ) → k ≤ c → (x : ℕ) → alone opening (put script c ds) k x ≡ alone opening script k x
    earlier zero h x = refl
    earlier (suc k) h x =
        ap (λ (ts : List (Operation K)). after (alone opening (put script c ds) k) ts x) (put_other script c ds k (λ e. omega arith))
        ∙ after_at (script k) (alone opening (put script c ds) k) (alone opening script k) x (earlier k (omega arith) x)

    -- what it does not write stays
    pub elsewhere : script c ≡ [] → (x : ℕ) → Unwritten ds x → (k : ℕ)
        → alone opening (put script c ds) k x ≡ alone opening script k x
    elsewhere e x q zero = refl
    elsewhere e x q (suc k) =
        elim (cases_eq c k) [
          | inl h ↦
              ap (λ (ts : List (Operation K)). after (alone opening (put script c ds) k) ts x) (put_same script c ds k h)
              ∙ q (alone opening (put script c ds) k)
              ∙ elsewhere e x q k
              ∙ sym (ap (λ (ts : List (Operation K)). after (alone opening script k) ts x) (ap script (sym h) ∙ e))
          | inr h ↦
              ap (λ (ts : List (Operation K)). after (alone opening (put script c ds) k) ts x) (put_other script c ds k h)
              ∙ after_at (script k) (alone opening (put script c ds) k) (alone opening script k) x (elsewhere e x q k)
        ]

    -- what it writes stays, if no later one writes it
    pub later : (x : ℕ) (v : K) → ((m : ℕ → K) → after m ds x ≡ v) → ((k : ℕ) → c < k → Unwritten (script k) x) → (k : ℕ) → c < k
        → alone opening (put script c ds) k x ≡ v
    later x v w q zero h = absurd (omega arith)
    later x v w q (suc k) h =
        elim (cases_eq c k) [
          | inl e ↦
              ap (λ (ts : List (Operation K)). after (alone opening (put script c ds) k) ts x) (put_same script c ds k e)
              ∙ w (alone opening (put script c ds) k)
          | inr e ↦
              ap (λ (ts : List (Operation K)). after (alone opening (put script c ds) k) ts x) (put_other script c ds k e)
              ∙ q k (omega arith) (alone opening (put script c ds) k)
              ∙ later x v w q k (omega arith)
        ]
