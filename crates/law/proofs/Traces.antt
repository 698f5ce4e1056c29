-- What holds of every trace, of whatever run.
use Rattle.std.proofs.Common.{◌≡◌, ℕ, suc, ◌<◌, ◌≤◌, Bool, true, false, cond, ◌&&◌, ◌||◌, eqb, ◌⊎◌, List, [], ◌∷◌, length, Some, None, Option, sym, refl, ap, ◌∙◌, subst, inl, inr, arith}
use Rattle.std.proofs.lemmas.Bool.{cases_eq, cases_Bool, eq-eqb, ne_eqb, eqb-true, cond-true, cond-false, or_right, and_right}
use Rattle.std.proofs.lemmas.Option.{same_Some}
use Rattle.tables.specs.declared.reply.Answer.{Answer}
use Rattle.tables.specs.declared.reply.Request.{Request}
use Rattle.law.specs.Trace.{Act, Entry, Trace}
use Rattle.law.specs.Ledger.{Desk, Found, Reading, Hold, first, is, among, push, begins, count, whose, belongs, first_at, requests, taken, hold, holds, readings, reading, desk, desk_after, desk_on, certifies, certified_at, request_of, effect_of, answer_of}
use Rattle.law.specs.Ledger.Desk.{asked}
use Rattle.law.specs.Law.{In, Known}

-- a choice by a test that says whether two numbers are equal
pub when : {A : Type 0} (Q : A → Type 0) (b : Bool) (t u : ℕ) (x y : A) → b ≡ eqb t u → (t ≡ u → Q x) → ((t ≡ u → ⊥) → Q y) → Q (cond b x y)
when Q b t u x y e f g =
    elim (cases_eq t u) [
      | inl n ↦ subst Q (sym (cond-true b x y (e ∙ eq-eqb t u n))) (f n)
      | inr n ↦ subst Q (sym (cond-false b x y (e ∙ ne_eqb t u n))) (g n)
    ]

pub known_or : (o : Option ℕ) → (o ≡ None) ⊎ Known o
known_or None = inl refl
known_or (Some m) = inr (m, refl)

pub first_new : (o : Option ℕ) (n : ℕ) → o ≡ None → Some (first o n) ≡ Some n
first_new o n e = cc

pub is_some : (o : Option ℕ) (t : ℕ) → is o t ≡ true → o ≡ Some t
is_some o t e = grind arith

-- one more element of a list
pub pushed : {A : Type 0} (a : A) (o : Option A) (b : Bool) (as' : List A) → In a (push o b as') → ((o ≡ Some a) × (b ≡ true)) ⊎ In a as'
pushed a o b xs h = grind arith

pub push_keeps : {A : Type 0} (a : A) (o : Option A) (b : Bool) (xs : List A) → In a xs → In a (push o b xs)
push_keeps a None b xs h = h
push_keeps a (Some x) true xs h = inr h
push_keeps a (Some x) false xs h = h

pub push_false : {A : Type 0} (o : Option A) (b : Bool) (xs : List A) → b ≡ false → push o b xs ≡ xs
push_false o b xs e = grind arith

pub among_in : (x : ℕ) (xs : List ℕ) → In x xs → among x xs ≡ true
among_in x [] h = absurd h
among_in x (y ∷ ys) (inl h) = ap (λ (b : Bool). b || among x ys) (eq-eqb x y h)
among_in x (y ∷ ys) (inr h) = or_right (eqb x y) (among x ys) (among_in x ys h)

-- the time of a first entry, or of one that is new at the time k
later : (b : Bool) (o : Option ℕ) (k m : ℕ) → ((n : ℕ) → o ≡ Some n → n < k) → cond b (Some (first o k)) o ≡ Some m → m < suc k
later b o k m up e = grind arith

module _ {K : Type 0} where
  -- transactions that are not begun have no entries
  pub whose_below : (j : Trace K) (p t : ℕ) → whose j p ≡ Some t → t < count j
  whose_below [] p t h = cc
  whose_below (l ∷ j) p t h = go (λ e. whose_below j p t e) (begins l.act) (eqb l.process p) h
    where
      go : (whose j p ≡ Some t → t < count j) → (a b : Bool) → cond (a && b) (Some (count j)) (whose j p) ≡ Some t → t < cond a (suc (count j)) (count j)
      go up a b e = grind arith

  count_grows : (l : Entry K) (j : Trace K) → count j ≤ count (l ∷ j)
  count_grows l j = grind arith

  belongs_below : (l : Entry K) (j : Trace K) (t : ℕ) → belongs l j t ≡ true → t < count (l ∷ j)
  belongs_below l j t h = whose_below (l ∷ j) l.process t (is_some (whose (l ∷ j) l.process) t h)

  not_begun : (l : Entry K) (j : Trace K) (t : ℕ) → count (l ∷ j) ≤ t → belongs l j t ≡ false
  not_begun l j t h =
      elim (cases_Bool (belongs l j t)) [ inl e ↦ absurd (let k = belongs_below l j t e in omega arith) | inr e ↦ e ]

  pub unborn_at : (f : Act K → Bool) (j : Trace K) (t : ℕ) → count j ≤ t → first_at f j t ≡ None
  unborn_at f [] t h = refl
  unborn_at f (l ∷ j) t h =
      cond-false (f l.act && belongs l j t) _ _ (and_right (f l.act) (belongs l j t) (not_begun l j t h))
      ∙ unborn_at f j t (let k = count_grows l j in omega arith)

  pub unborn_certified : (j : Trace K) (t : ℕ) → count j ≤ t → certified_at j t ≡ None
  unborn_certified [] t h = refl
  unborn_certified (l ∷ j) t h =
      cond-false (certifies (desk j l.process) l.act && belongs l j t) _ _ (and_right (certifies (desk j l.process) l.act) (belongs l j t) (not_begun l j t h))
      ∙ unborn_certified j t (let k = count_grows l j in omega arith)

  pub unborn_requests : (j : Trace K) (t : ℕ) → count j ≤ t → requests j t ≡ []
  unborn_requests [] t h = refl
  unborn_requests (l ∷ j) t h =
      push_false (request_of l.act) (belongs l j t) (requests j t) (not_begun l j t h) ∙ unborn_requests j t (let k = count_grows l j in omega arith)

  pub unborn_holds : (j : Trace K) (t : ℕ) → count j ≤ t → holds j t ≡ []
  unborn_holds [] t h = refl
  unborn_holds (l ∷ j) t h =
      push_false (hold j (effect_of l.act).takes) (belongs l j t) (holds j t) (not_begun l j t h) ∙ unborn_holds j t (let k = count_grows l j in omega arith)

  pub unborn_readings : (j : Trace K) (t : ℕ) → count j ≤ t → readings j t ≡ []
  unborn_readings [] t h = refl
  unborn_readings (l ∷ j) t h =
      push_false (reading j (whose j l.process) (desk j l.process) (answer_of l.act).content) (belongs l j t) (readings j t) (not_begun l j t h)
      ∙ unborn_readings j t (let k = count_grows l j in omega arith)

  -- times are those of entries on record
  pub first_before : (f : Act K → Bool) (j : Trace K) (t m : ℕ) → first_at f j t ≡ Some m → m < length j
  first_before f [] t m h = cc
  first_before f (l ∷ j) t m h = later (f l.act && belongs l j t) (first_at f j t) (length j) m (λ n e. first_before f j t n e) h

  pub certified_before : (j : Trace K) (t m : ℕ) → certified_at j t ≡ Some m → m < length j
  certified_before [] t m h = cc
  certified_before (l ∷ j) t m h =
      later (certifies (desk j l.process) l.act && belongs l j t) (certified_at j t) (length j) m (λ n e. certified_before j t n e) h

  pub hold_before : (j : Trace K) (t : ℕ) (h : Hold) → In h (holds j t) → h.at < length j
  hold_before [] t h i = absurd i
  hold_before (l ∷ j) t h i =
      elim (pushed h (hold j (effect_of l.act).takes) (belongs l j t) (holds j t) i) [
        | inl e ↦ go (effect_of l.act).takes e.0
        | inr e ↦ (let k = hold_before j t h e in omega arith)
      ]
    where
      go : (o : Option ℕ) → hold j o ≡ Some h → h.at < length (l ∷ j)
      go o e = grind arith

  pub reading_before : (j : Trace K) (t : ℕ) (r : Reading K) → In r (readings j t) → r.at < length j
  reading_before [] t r i = absurd i
  reading_before (l ∷ j) t r i =
      elim (pushed r (reading j (whose j l.process) (desk j l.process) (answer_of l.act).content) (belongs l j t) (readings j t) i) [
        | inl e ↦ go (desk j l.process) (answer_of l.act).content e.0
        | inr e ↦ (let k = reading_before j t r e in omega arith)
      ]
    where
      at_end : (o : Option ℕ) (f : Option Found) (v : K) → Rattle.law.specs.Ledger.reading_of j o f v ≡ Some r → r.at < length (l ∷ j)
      at_end o f v e = grind arith

      go : (d : Desk K) (o : Option K) → reading j (whose j l.process) d o ≡ Some r → r.at < length (l ∷ j)
      go d o e = grind arith

  -- what was taken hold of
  pub hold_taken : (j : Trace K) (t : ℕ) (h : Hold) → In h (holds j t) → In h.object (taken j t)
  hold_taken [] t h i = absurd i
  hold_taken (l ∷ j) t h i =
      elim (pushed h (hold j (effect_of l.act).takes) (belongs l j t) (holds j t) i) [
        | inl e ↦ go (effect_of l.act).takes (belongs l j t) e.0 e.1
        | inr e ↦ push_keeps h.object (effect_of l.act).takes (belongs l j t) (taken j t) (hold_taken j t h e)
      ]
    where
      go : (o : Option ℕ) (b : Bool) → hold j o ≡ Some h → b ≡ true → In h.object (push o b (taken j t))
      go None b e q = cc
      go (Some x) true e q = inl (ap (λ (z : Hold). z.object) (sym (same_Some _ _ e)))
      go (Some x) false e q = cc

  pub taken_held : (j : Trace K) (t x : ℕ) → among x (taken j t) ≡ true → (h : Hold) × In h (holds j t) × (h.object ≡ x)
  taken_held [] t x i = cc
  taken_held (l ∷ j) t x i = go (λ e. taken_held j t x e) (effect_of l.act).takes (belongs l j t) i
    where
      kept : (o : Option Hold) (b : Bool) → (h : Hold) × In h (holds j t) × (h.object ≡ x) → (h : Hold) × In h (push o b (holds j t)) × (h.object ≡ x)
      kept o b k = (k.0, push_keeps k.0 o b (holds j t) k.1, k.2)

      go : (among x (taken j t) ≡ true → (h : Hold) × In h (holds j t) × (h.object ≡ x)) → (o : Option ℕ) (b : Bool) → among x (push o b (taken j t)) ≡ true → (h : Hold) × In h (push (hold j o) b (holds j t)) × (h.object ≡ x)
      go up None b e = kept None b (up e)
      go up (Some y) true e =
          elim (cases_Bool (eqb x y)) [
            | inl q ↦ (record { object = y; over = Rattle.law.specs.Ledger.latest (Rattle.law.specs.Ledger.makers j y); at = length j }, inl refl, sym (eqb-true x y q))
            | inr q ↦ kept (hold j (Some y)) true (up (sym (ap (λ (b : Bool). b || among x (taken j t)) q) ∙ e))
          ]
      go up (Some y) false e = kept (hold j (Some y)) false (up e)

  -- before its first step a request has found nothing
  pub desk_new : (j : Trace K) (p : ℕ) (r : Request K) (n : ℕ) (f : Option Found) → desk j p ≡ asked r n f → n ≡ 0 → f ≡ None
  desk_new [] p r n f h z = cc
  desk_new (l ∷ j) p r n f h z = go (λ e. desk_new j p r n f e z) (eqb l.process p) h
    where
      stepped : (d : Desk K) (a : Option (Answer K)) → desk_on j (whose j p) d a ≡ asked r n f → f ≡ None
      stepped d a e = grind arith

      acted : (a : Act K) → desk_after j (whose j p) (desk j p) a ≡ asked r n f → f ≡ None
      acted a e = grind arith

      go : (desk j p ≡ asked r n f → f ≡ None) → (b : Bool) → cond b (desk_after j (whose j p) (desk j p) l.act) (desk j p) ≡ asked r n f → f ≡ None
      go up b e = grind arith
