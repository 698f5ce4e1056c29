-- Laws of tables.
use Rattle.std.proofs.Common.{◌≡◌, ℕ, eqb, ◌⊎◌, sym, ◌∙◌, subst, inl, inr}
use Rattle.std.proofs.lemmas.Bool.{cases_eq, eq-eqb, ne_eqb, cond-true, cond-false}
use Rattle.protocol.specs.Table.{put}

pub put_same : {A : Type 0} (t : ℕ → A) (x : ℕ) (a : A) (y : ℕ) → x ≡ y → put t x a y ≡ a
put_same t x a y e = cond-true (eqb x y) a (t y) (eq-eqb x y e)

pub put_other : {A : Type 0} (t : ℕ → A) (x : ℕ) (a : A) (y : ℕ) → (x ≡ y → ⊥) → put t x a y ≡ t y
put_other t x a y n = cond-false (eqb x y) a (t y) (ne_eqb x y n)

-- what an entry of a changed table says
pub put_is : {A : Type 0} (t : ℕ → A) (x : ℕ) (a : A) (y : ℕ) (b : A) → put t x a y ≡ b
    → ((x ≡ y) × (a ≡ b)) ⊎ ((x ≡ y → ⊥) × (t y ≡ b))
put_is t x a y b h =
    elim (cases_eq x y)
    [ inl e ↦ inl (e, sym (put_same t x a y e) ∙ h) | inr n ↦ inr (n, sym (put_other t x a y n) ∙ h) ]

-- an entry is the new one, or another
pub put_when : {A : Type 0} (P : A → Type 0) (t : ℕ → A) (x : ℕ) (a : A) (y : ℕ) → (x ≡ y → P a) → ((x ≡ y → ⊥) → P (t y))
    → P (put t x a y)
put_when P t x a y f g =
    elim (cases_eq x y)
    [ inl e ↦ subst P (sym (put_same t x a y e)) (f e) | inr n ↦ subst P (sym (put_other t x a y n)) (g n) ]
