-- The objects that a set's pairs name: below a bound, none twice; one pair more, and one pair's value replaced.
use Rattle.std.proofs.Common.{◌≡◌, ℕ, suc, ◌+◌, ◌-◌, ◌^◌, ◌<◌, ◌≤◌, Bool, true, false, cond, not, ◌&&◌, ◌||◌, eqb, ltb, leb, List, [], ◌∷◌, ◌++◌, map, length, get_or, set, is_some, Some, None, Option, sym, refl, ap, ◌∙◌, inl, inr, arith}
use Rattle.std.proofs.lemmas.Bool.{cases_Bool, and_parts, and_from, ltb-true, lt-ltb, eqb-true, or_parts, or_from}
use Rattle.std.proofs.lemmas.Bool.Decides.{nat_tests}
use Rattle.std.proofs.lemmas.List.{map_push, map-set, set-get_or}
use Rattle.tables.specs.Lookup.{pair, value_of, place_of}
use Rattle.tables.specs.Tables.{blank_object}
use Rattle.tables.specs.declared.map.Slot.{Slot}
use Rattle.tables.specs.declared.memory.Object.{Object}
use Rattle.engine.specs.Sound.{named_ok, object_ok, all_named, distinct, stamps_ok}
use Rattle.engine.proofs.Facts.{value_place}

abbrev pub names : {V : Type 0} → List (Slot V) → List ℕ
names xs = map (λ (s : Slot _). s.object) xs

abbrev pub below : ℕ → List ℕ → Bool
below n [] = true
below n (x ∷ xs) = ltb x n && below n xs

abbrev pub among : ℕ → List ℕ → Bool
among x [] = false
among x (y ∷ ys) = eqb y x || among x ys

abbrev pub apart : List ℕ → Bool
apart [] = true
apart (x ∷ xs) = not (among x xs) && apart xs

pub none_of : {V : Type 0} (o : Option V) → is_some o ≡ false → o ≡ None
none_of o h = grind arith

-- an object with no place has no value
pub no_value : {V : Type 0} (xs : List (Slot V)) (x : ℕ) → place_of xs x 0 ≡ None → value_of xs x ≡ None
no_value xs x h = none_of (value_of xs x) (value_place xs x 0 ∙ ap is_some h)

-- each object of a table of objects has a stamp and a holder in range; n is the number of processes
abbrev pub ObjectsOk : {K : Type 0} → K → List (Object K) → ℕ → Type 0
ObjectsOk e os n = (x : ℕ) → x < length os → object_ok (get_or os x (blank_object e)) n ≡ true

pub below_of_named : {K V : Type 0} (e : K) (os : List (Object K)) (n : ℕ) (xs : List (Slot V)) → all_named e os n xs ≡ true → below (length os) (names xs) ≡ true
below_of_named e os n [] h = refl
below_of_named e os n (s ∷ ss) h =
    let a = and_parts (named_ok e os n s.object) (all_named e os n ss) h in
    let b = and_parts (ltb s.object (length os)) (object_ok (get_or os s.object (blank_object e)) n) a.0 in
    and_from (ltb s.object (length os)) (below (length os) (names ss)) b.0 (below_of_named e os n ss a.1)

pub named_from : {K : Type 0} (e : K) (os : List (Object K)) (n x : ℕ) → ObjectsOk e os n → x < length os → named_ok e os n x ≡ true
named_from e os n x ok h = grind arith

pub named_of_below : {K V : Type 0} (e : K) (os : List (Object K)) (n : ℕ) (xs : List (Slot V)) → ObjectsOk e os n → below (length os) (names xs) ≡ true → all_named e os n xs ≡ true
named_of_below e os n [] ok h = refl
named_of_below e os n (s ∷ ss) ok h =
    let a = and_parts (ltb s.object (length os)) (below (length os) (names ss)) h in
    and_from (named_ok e os n s.object) (all_named e os n ss)
    (named_from e os n s.object ok (ltb-true s.object (length os) a.0))
    (named_of_below e os n ss ok a.1)

-- a look-up in a set with a first pair
pub value_first : {V : Type 0} (s : Slot V) (ss : List (Slot V)) (x : ℕ) → value_of (s ∷ ss) x ≡ cond (eqb s.object x) (Some s.value) (value_of ss x)
value_first s ss x = elim (cases_Bool (eqb s.object x)) [ inl e ↦ simp e | inr e ↦ simp e ]

-- an object has a value exactly where it is named
pub value_among : {V : Type 0} (xs : List (Slot V)) (x : ℕ) → is_some (value_of xs x) ≡ among x (names xs)
value_among [] x = refl
value_among (s ∷ ss) x = grind (arith, value_among ss x)

pub distinct_apart : {V : Type 0} (xs : List (Slot V)) → distinct xs ≡ apart (names xs)
distinct_apart [] = refl
distinct_apart (s ∷ ss) =
    ap (λ (b : Bool). not b && distinct ss) (value_among ss s.object)
    ∙ ap (λ (b : Bool). not (among s.object (names ss)) && b) (distinct_apart ss)

-- one pair more
pub below_push : (n : ℕ) (xs : List ℕ) (x : ℕ) → below n xs ≡ true → x < n → below n (xs ++ x ∷ []) ≡ true
below_push n [] x h l = and_from (ltb x n) true (lt-ltb x n l) refl
below_push n (y ∷ ys) x h l =
    let a = and_parts (ltb y n) (below n ys) h in and_from (ltb y n) (below n (ys ++ x ∷ [])) a.0 (below_push n ys x a.1 l)

among_push : (y : ℕ) (xs : List ℕ) (x : ℕ) → among y xs ≡ false → eqb x y ≡ false → among y (xs ++ x ∷ []) ≡ false
among_push y [] x h e = or_from (eqb x y) false e refl
among_push y (z ∷ zs) x h e =
    let a = or_parts (eqb z y) (among y zs) h in or_from (eqb z y) (among y (zs ++ x ∷ [])) a.0 (among_push y zs x a.1 e)

pub apart_push : (xs : List ℕ) (x : ℕ) → apart xs ≡ true → among x xs ≡ false → apart (xs ++ x ∷ []) ≡ true
apart_push [] x h n = refl
apart_push (y ∷ ys) x h n =
    let a = and_parts (not (among y ys)) (apart ys) h in
    let b = or_parts (eqb y x) (among x ys) n in
    let f : among y ys ≡ false = grind (arith, nat_tests) in
    and_from (not (among y (ys ++ x ∷ []))) (apart (ys ++ x ∷ []))
    (ap not (among_push y ys x f (let flip : eqb x y ≡ false = grind arith in flip)))
    (apart_push ys x a.1 b.1)

pub stamps_push : (xs : List (Slot ℕ)) (s : Slot ℕ) → stamps_ok xs ≡ true → s.value ≤ 2 ^ 40 → stamps_ok (xs ++ s ∷ []) ≡ true
stamps_push [] s h l = grind arith
stamps_push (y ∷ ys) s h l =
    let a = and_parts (leb y.value (2 ^ 40)) (stamps_ok ys) h in
    and_from (leb y.value (2 ^ 40)) (stamps_ok (ys ++ s ∷ [])) a.0 (stamps_push ys s a.1 l)

pub names_push : {V : Type 0} (xs : List (Slot V)) (s : Slot V) → names (xs ++ s ∷ []) ≡ names xs ++ s.object ∷ []
names_push xs s = map_push (λ (z : Slot _). z.object) xs s

-- the place that a look-up gives
pub place_found : {V : Type 0} (xs : List (Slot V)) (x n i : ℕ) → place_of xs x n ≡ Some i → (n ≤ i) × (i < n + length xs) × ((d : ℕ) → get_or (names xs) (i - n) d ≡ x)
place_found [] x n i h = cc
place_found (s ∷ ss) x n i h =
    elim (cases_Bool (eqb s.object x)) [
      | inl e ↦
          (let f : Some n ≡ Some i = simp e at h in
          let g : n ≡ i = cc in
          let o : s.object ≡ x = eqb-true s.object x e in
          let z : i - n ≡ 0 = omega arith in
          (omega arith, omega arith, λ d. ap (λ (k : ℕ). get_or (names (s ∷ ss)) k d) z ∙ o))
      | inr e ↦
          (let f : place_of ss x (n + 1) ≡ Some i = simp e at h in
          let r = place_found ss x (n + 1) i f in
          let a = r.0 in
          let b = r.1 in
          let z : i - n ≡ suc (i - (n + 1)) = omega arith in
          (omega arith, omega arith, λ d. ap (λ (k : ℕ). get_or (names (s ∷ ss)) k d) z ∙ r.2 d))
    ]

-- a pair's value is replaced: the set names the same objects
pub names_same : {V : Type 0} (xs : List (Slot V)) (x i : ℕ) (v : V) → ((d : ℕ) → get_or (names xs) i d ≡ x) → names (set xs i (pair x v)) ≡ names xs
names_same xs x i v h =
    map-set (λ (s : Slot _). s.object) xs i (pair x v)
    ∙ ap (λ (y : ℕ). set (names xs) i y) (sym (h 0))
    ∙ set-get_or (names xs) i 0
