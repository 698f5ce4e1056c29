-- A window of a list: n elements from `at` on, and what a change elsewhere or at its end does to it.
use Rattle.std.proofs.Common.{◌≡◌, ℕ, zero, suc, ◌+◌, ◌-◌, ◌<◌, ◌≤◌, ◌⊎◌, List, [], ◌∷◌, ◌++◌, length, take, drop, set, replicate, sym, refl, ap, ◌∙◌, inl, inr, arith}
use Rattle.std.proofs.lemmas.List.{length-take, length-drop, take_more_set, drop-set-add, drop-set-lt, take-set-le, drop-append-le, take-append-le, drop_at, drop-drop, length-append, length-replicate, length-take-le, append_assoc, drop-take, take-take}
use Rattle.engine.specs.Ends.{wiped}

abbrev pub window : {X : Type 0} → List X → ℕ → ℕ → List X
window xs at n = take n (drop at xs)

pub window_length : {X : Type 0} (xs : List X) (at n : ℕ) → at + n ≤ length xs → length (window xs at n) ≡ n
window_length xs at n h = simp (length-take, length-drop) (omega arith)

-- a change outside the window
pub window_set : {X : Type 0} (xs : List X) (at n i : ℕ) (v : X) → (i < at) ⊎ (at + n ≤ i) → window (set xs i v) at n ≡ window xs at n
window_set xs at n i v (inl h) = ap (take n) (drop-set-lt at xs i v h)
window_set xs at n i v (inr h) =
    let j = i - at in
    let e : i ≡ at + j = omega arith in
    ap (λ (k : ℕ). take n (drop at (set xs k v))) e
    ∙ ap (take n) (drop-set-add at xs j v)
    ∙ take-set-le n (drop at xs) j v (omega arith)

-- one element more at the window's end
pub window_push : {X : Type 0} (xs : List X) (at n : ℕ) (v : X) → at + n < length xs → window (set xs (at + n) v) at (n + 1) ≡ window xs at n ++ v ∷ []
window_push xs at n v h =
    ap (take (n + 1)) (drop-set-add at xs n v)
    ∙ take_more_set (drop at xs) n v (simp length-drop (omega arith))

take-of_set : {X : Type 0} (n : ℕ) (xs : List X) (i : ℕ) (v : X) → take n (set xs i v) ≡ set (take n xs) i v
take-of_set zero xs i v = refl
take-of_set (suc n) [] i v = refl
take-of_set (suc n) (x ∷ xs) zero v = refl
take-of_set (suc n) (x ∷ xs) (suc i) v = ap (λ (l : List _). x ∷ l) (take-of_set n xs i v)

-- an element within the window
pub window_at : {X : Type 0} (xs : List X) (at n i : ℕ) (v : X) → window (set xs (at + i) v) at n ≡ set (window xs at n) i v
window_at xs at n i v = ap (take n) (drop-set-add at xs i v) ∙ take-of_set n (drop at xs) i v

before : {X : Type 0} (xs ys : List X) (at n from : ℕ) → from ≤ length xs → at + n ≤ from → window (take from xs ++ ys) at n ≡ window xs at n
before xs ys at n from l o =
    let size : length (take from xs) ≡ from = length-take-le from xs l in
    let k = from - at in
    let e : from ≡ at + k = omega arith in
    ap (take n) (drop-append-le at (take from xs) ys (omega arith))
    ∙ take-append-le n (drop at (take from xs)) ys (simp length-drop (omega arith))
    ∙ ap (λ (j : ℕ). take n (drop at (take j xs))) e
    ∙ ap (take n) (drop-take at k xs)
    ∙ take-take n k (drop at xs) (omega arith)

after : {X : Type 0} (a xs : List X) (at n from : ℕ) → length a ≡ from → from ≤ at → window (a ++ drop from xs) at n ≡ window xs at n
after a xs at n from l o =
    let k = at - from in
    let e : at ≡ from + k = omega arith in
    ap (λ (j : ℕ). take n (drop j (a ++ drop from xs))) e
    ∙ ap (take n) (sym (drop-drop k from (a ++ drop from xs)) ∙ ap (drop k) (drop_at a (drop from xs) from l) ∙ drop-drop k from xs)
    ∙ ap (λ (j : ℕ). take n (drop j xs)) (sym e)

-- a wiped stretch outside the window
pub window_wiped : {X : Type 0} (xs : List X) (at n from m : ℕ) (v : X) → from + m ≤ length xs → (at + n ≤ from) ⊎ (from + m ≤ at) → window (wiped xs from m v) at n ≡ window xs at n
window_wiped xs at n from m v l (inl o) = before xs (replicate m v ++ drop (from + m) xs) at n from (omega arith) o
window_wiped xs at n from m v l (inr o) =
    let size : length (take from xs ++ replicate m v) ≡ from + m =
    length-append (take from xs) (replicate m v)
    ∙ ap (λ (k : ℕ). k + length (replicate m v)) (length-take-le from xs (omega arith))
    ∙ ap (λ (k : ℕ). from + k) (length-replicate m v) in
    ap (λ (z : List _). window z at n) (sym (append_assoc (take from xs) (replicate m v) (drop (from + m) xs)))
    ∙ after (take from xs ++ replicate m v) xs at n (from + m) size o

pub wiped_length : {X : Type 0} (xs : List X) (from m : ℕ) (v : X) → from + m ≤ length xs → length (wiped xs from m v) ≡ length xs
wiped_length xs from m v l = simp (length-append, length-take, length-replicate, length-drop) (omega arith)
