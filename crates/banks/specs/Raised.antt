-- What raising one number does to a list of them.
use Rattle.std.specs.Prelude.{◌≡◌, ℕ, ◌^◌, ◌<◌, ◌≤◌, max, true, false, leb, ◌⊎◌, List, length, ◌==◌, nat_le, slice_index, slice_index_or, slice_set}
use Rattle.std.proofs.Common.{ap, inl, inr, arith}
use Rattle.std.proofs.lemmas.Bool.{cases_Bool, cases_eq, cases_lt, le-leb, lt-leb, eqb-true, and_parts}
use Rattle.std.proofs.lemmas.List.{get_or-set_same, get_or-set_other, get_or_past, set_past, set-get_or}
use Rattle.banks.specs.Numbers.{ranged, raised, small, small_at}

pub long : (xs : List ℕ) → ranged xs ≡ true → length xs ≡ 64
long xs h = eqb-true (length xs) 64 (and_parts (length xs == 64) (small xs) h).0

pub low : (xs : List ℕ) (p : ℕ) → ranged xs ≡ true → slice_index xs p ≤ 2 ^ 40
low xs p h = small_at xs p (and_parts (length xs == 64) (small xs) h).1

pub none : (xs : List ℕ) (p : ℕ) → ranged xs ≡ true → 63 < p → slice_index xs p ≡ 0
none xs p h k = let l = long xs h in get_or_past xs p 0 (omega arith)

pub raised_at : (xs : List ℕ) (p u q : ℕ) → (slice_index (raised xs p u) q ≡ slice_index xs q) ⊎ (slice_index (raised xs p u) q ≡ max (slice_index xs q) u)
raised_at xs p u q =
    elim (cases_Bool (nat_le u (2 ^ 40))) [
      | inr e ↦ inl (simp e)
      | inl e ↦ elim (cases_lt p (length xs)) [
        | inr o ↦ inl (simp e (ap (λ l. slice_index l q) (set_past xs p (max (slice_index xs p) u) o)))
        | inl b ↦ elim (cases_eq q p) [
          | inl f ↦ inr (simp (e, f) (get_or-set_same xs p (max (slice_index xs p) u) 0 b))
          | inr n ↦ inl (simp e (get_or-set_other xs p q (max (slice_index xs p) u) 0 n))
        ]
      ]
    ]

pub raised_rises : (xs : List ℕ) (p u q : ℕ) → slice_index xs q ≤ slice_index (raised xs p u) q
raised_rises xs p u q = elim (raised_at xs p u q) [ inl e ↦ omega arith | inr e ↦ omega arith ]

pub raised_bounded : (xs : List ℕ) (p u q : ℕ) → slice_index (raised xs p u) q ≤ max (slice_index xs q) u
raised_bounded xs p u q = elim (raised_at xs p u q) [ inl e ↦ omega arith | inr e ↦ omega arith ]

pub raised_outside : (xs : List ℕ) (p u : ℕ) → length xs ≤ p → raised xs p u ≡ xs
raised_outside xs p u o =
    elim (cases_Bool (nat_le u (2 ^ 40))) [
      | inr e ↦ simp e
      | inl e ↦ simp e (set_past xs p (max (slice_index xs p) u) o)
    ]

pub raised_far : (xs : List ℕ) (p u : ℕ) → ranged xs ≡ true → 63 < p → raised xs p u ≡ xs
raised_far xs p u r h = let l = long xs r in raised_outside xs p u (omega arith)

pub raised_beyond : (xs : List ℕ) (p u : ℕ) → 2 ^ 40 < u → raised xs p u ≡ xs
raised_beyond xs p u o = let e : leb u (2 ^ 40) ≡ false = lt-leb u (2 ^ 40) o in simp e

pub raised_up : (xs : List ℕ) (p u : ℕ) → u ≤ 2 ^ 40 → slice_index xs p ≤ u → slice_set xs p u ≡ raised xs p u
raised_up xs p u h k =
    let e : leb u (2 ^ 40) ≡ true = le-leb u (2 ^ 40) h in
    let m : max (slice_index xs p) u ≡ u = omega arith in
    simp (e, m)

pub raised_same : (xs : List ℕ) (p u : ℕ) → u ≤ slice_index xs p → xs ≡ raised xs p u
raised_same xs p u k =
    let m : max (slice_index xs p) u ≡ slice_index_or xs p 0 = omega arith in
    elim (cases_Bool (nat_le u (2 ^ 40))) [
      | inr e ↦ simp e
      | inl e ↦ simp (e, m, set-get_or)
    ]
