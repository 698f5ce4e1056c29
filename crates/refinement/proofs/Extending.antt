-- Looks at the pairs of the read set: snapshot extension and certification, as blocks of events.
use Rattle.std.proofs.Common.{◌≡◌, ℕ, zero, suc, ◌+◌, ◌*◌, ◌<◌, ◌≤◌, Bool, true, false, not, eqb, List, [], ◌∷◌, length, get_or, drop, Some, None, Option, sym, refl, ap, ◌∙◌, inl, inr, arith}
use Rattle.std.proofs.lemmas.Bool.{cases_eq, cases_Bool, eqb-true, and_parts, or_parts, not-true}
use Rattle.std.proofs.lemmas.Bool.Decides.{nat_tests}
use Rattle.std.proofs.lemmas.List.{get_or-take, get_or-drop}
use Rattle.tables.specs.Lookup.{pair, value_of}
use Rattle.tables.specs.Tables.{Tables, process_at, object_at, read_at, read_set}
use Rattle.tables.specs.declared.map.Slot.{Slot}
use Rattle.engine.specs.Look.{foreign, differs}
use Rattle.protocol.specs.Table.{put}
use Rattle.protocol.specs.Protocol.{State, Open, Same}
use Rattle.protocol.specs.Protocol.Seen.{saw}
use Rattle.protocol.proofs.Updates.{put_when}
use Rattle.refinement.proofs.Own.{Good}
use Rattle.refinement.proofs.Sets.{names, apart, among}
use Rattle.refinement.proofs.Windows.{window, window_length}
use Rattle.refinement.proofs.Changes.{sizes_facts}
use Rattle.refinement.proofs.View.{SeenAs, PassedTo, View, open_to, same_to}

-- the value of the object that pair i names, where no object is named twice
among_at : (ns : List ℕ) (i d : ℕ) → i < length ns → among (get_or ns i d) ns ≡ true
among_at [] i d h = absurd (omega arith)
among_at (n ∷ ns) zero d h = grind arith
among_at (n ∷ ns) (suc i) d h = let a = among_at ns i d (omega arith) in grind (arith, nat_tests)

value_at : {V : Type 0} (rs : List (Slot V)) (i : ℕ) (d : Slot V) → apart (names rs) ≡ true → i < length rs → value_of rs (get_or rs i d).object ≡ Some (get_or rs i d).value
value_at [] i d h l = absurd (omega arith)
value_at (s ∷ ss) zero d h l = let a : eqb s.object s.object ≡ true = grind (arith, nat_tests) in simp a
value_at (s ∷ ss) (suc i) d h l =
    let a = and_parts (not (among s.object (names ss))) (apart (names ss)) h in
    let f : among s.object (names ss) ≡ false = not-true (among s.object (names ss)) a.0 in
    let n : eqb s.object (get_or ss i d).object ≡ false = elsewhere s.object ss i d f (omega arith) in
    simp n (value_at ss i d a.1 (omega arith))
  where
    elsewhere : {V : Type 0} (x : ℕ) (xs : List (Slot V)) (i : ℕ) (d : Slot V) → among x (names xs) ≡ false → i < length xs → eqb x (get_or xs i d).object ≡ false
    elsewhere x [] i d f l = absurd (omega arith)
    elsewhere x (y ∷ ys) zero d f l = let b = or_parts (eqb y.object x) (among x (names ys)) f in let c = b.0 in grind (arith, nat_tests)
    elsewhere x (y ∷ ys) (suc i) d f l = let b = or_parts (eqb y.object x) (among x (names ys)) f in elsewhere x ys i d b.1 (omega arith)

-- an object that has a value is named in some place
place_for : {V : Type 0} (rs : List (Slot V)) (x : ℕ) (u : V) (d : Slot V) → value_of rs x ≡ Some u → (i : ℕ) × (i < length rs) × ((get_or rs i d).object ≡ x)
place_for [] x u d h = cc
place_for (s ∷ ss) x u d h =
    elim (cases_Bool (eqb s.object x)) [
      | inl a ↦ (0, omega arith, eqb-true s.object x a)
      | inr a ↦ (let b = place_for ss x u d (simp a at h) in (suc b.0, (let c = b.1 in omega arith), b.2))
    ]

pub window_get_or : {X : Type 0} (xs : List X) (at n i : ℕ) (d : X) → i < n → get_or (window xs at n) i d ≡ get_or xs (at + i) d
window_get_or xs at n i d h = get_or-take n (drop at xs) i d h ∙ get_or-drop at xs i d

module _ {K : Type 0} (e : K) (number : ℕ → ℕ) (t : Tables K) (s : State K) (p : ℕ) (g : Good e t) (v : View e number t s) (l : p < length t.processes) where
  few : (process_at t p).reads ≤ 32
  few = (g.owns p l).read_count

  read_length : length (read_set t p) ≡ (process_at t p).reads
  read_length =
      let z = sizes_facts t g.sizes in
      let size = z.reads in
      let c = few in
      window_length t.reads (p * 32) (process_at t p).reads (omega arith)

  pair_is : (i : ℕ) → i < (process_at t p).reads → get_or (read_set t p) i (pair 0 0) ≡ read_at t p i
  pair_is i h = window_get_or t.reads (p * 32) (process_at t p).reads i (pair 0 0) h

  pub value_is : (i : ℕ) → i < (process_at t p).reads → value_of (read_set t p) (read_at t p i).object ≡ Some (read_at t p i).value
  value_is i within =
      let size = read_length in
      let same = pair_is i within in
      ap (λ (z : Slot ℕ). value_of (read_set t p) z.object) (sym same)
      ∙ value_at (read_set t p) i (pair 0 0) (g.owns p l).reads_apart (omega arith)
      ∙ ap (λ (z : Slot ℕ). Some z.value) same

  -- pair i has passed a look
  module _ (i : ℕ) (within : i < (process_at t p).reads) (seen : (x : ℕ) → SeenAs (value_of (read_set t p) x) (s.seen p x))
      (clear : foreign (object_at e t (read_at t p i).object).holder p ≡ false)
      (fresh : differs (Some (read_at t p i).value) (object_at e t (read_at t p i).object).stamp ≡ false) where
    pub open_pair : Open s p (read_at t p i).object
    open_pair = open_to e number t s v p (read_at t p i).object clear

    pub same_pair : Same s p (read_at t p i).object
    same_pair =
        same_to e number t s v p (read_at t p i).object (seen (read_at t p i).object)
        (ap (λ (o : Option ℕ). differs o (object_at e t (read_at t p i).object).stamp) (value_is i within) ∙ fresh)

    -- one pair more has passed
    pub passed_more : (f : ℕ → Bool) → PassedTo (read_set t p) i f → PassedTo (read_set t p) (i + 1) (put f (read_at t p i).object true)
    passed_more f a j h =
        put_when (λ (b : Bool). b ≡ true) f (read_at t p i).object true (get_or (read_set t p) j (pair 0 0)).object (λ _. refl)
        (λ n. elim (cases_eq j i) [
          | inl c ↦ absurd (n (sym (ap (λ (k : ℕ). (get_or (read_set t p) k (pair 0 0)).object) c ∙ ap (λ (z : Slot ℕ). z.object) (pair_is i within))))
          | inr c ↦ a j (strictly j i h c)
        ])
      where
        strictly : (j i : ℕ) → j < i + 1 → (j ≡ i → ⊥) → j < i
        strictly j i h n = omega arith

  -- all pairs have passed
  pub all_passed : (f : ℕ → Bool) → ((x : ℕ) → SeenAs (value_of (read_set t p) x) (s.seen p x)) → PassedTo (read_set t p) (process_at t p).reads f → (x u : ℕ) (w : K) → s.seen p x ≡ saw u w → f x ≡ true
  all_passed f seen a x u w h = go (value_of (read_set t p) x) refl (seen x)
    where
      go : (o : Option ℕ) → value_of (read_set t p) x ≡ o → SeenAs o (s.seen p x) → f x ≡ true
      go None n b = cc
      go (Some k) n b =
          let size = read_length in
          let c = place_for (read_set t p) x k (pair 0 0) n in
          let i = c.1 in
          sym (ap f c.2) ∙ a c.0 (omega arith)
