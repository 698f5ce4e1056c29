-- Versions, from event to event.
use Rattle.std.proofs.Common.{◌≡◌, ℕ, suc, ◌<◌, ◌≤◌, Bool, true, false, cond, not, T, eqb, ◌⊎◌, List, sym, refl, ap, ◌∙◌, subst, inl, inr, arith}
use Rattle.std.proofs.lemmas.Bool.{cases_eq, cases_Bool, cond-true, cond-false}
use Rattle.protocol.specs.Table.{put}
use Rattle.protocol.specs.Protocol.{Held, Phase}
use Rattle.protocol.specs.Protocol.Held.{nobody, by}
use Rattle.protocol.specs.Protocol.Phase.{certifying, sealing}
use Rattle.protocol.specs.History.{Access, Mark, In}
use Rattle.protocol.specs.History.Access.{rd}
use Rattle.protocol.specs.History.Mark.{none, some}
use Rattle.protocol.proofs.Updates.{put_same, put_other, put_is, put_when}
use Rattle.protocol.proofs.Invariant.{NoneDue, tag, differ, back, row_other, row_same, none_due_back, unheld, one_holder}
use Rattle.protocol.proofs.Facts.{Vers}

-- the table of replaced versions after a seal n of the objects w
abbrev pub replacing : (ℕ → ℕ → Mark) → ℕ → (ℕ → Bool) → (ℕ → ℕ) → ℕ → ℕ → Mark
replacing over n w latest = put over n (λ x. cond (w x) (some (latest x)) none)

pub replaced_is : (over : ℕ → ℕ → Mark) (n : ℕ) (w : ℕ → Bool) (latest : ℕ → ℕ) (u x i : ℕ) → replacing over n w latest u x ≡ some i
    → ((n ≡ u) × (w x ≡ true) × (latest x ≡ i)) ⊎ ((n ≡ u → ⊥) × (over u x ≡ some i))
replaced_is over n w latest u x i e =
    elim (cases_eq n u) [
      | inl m ↦ inl (here m (cases_Bool (w x)))
      | inr m ↦ inr (m, sym (row_other over n (λ z. cond (w z) (some (latest z)) none) u x m) ∙ e)
    ]
  where
    same : n ≡ u → cond (w x) (some (latest x)) none ≡ some i
    same m = sym (row_same over n (λ z. cond (w z) (some (latest z)) none) u x m) ∙ e

    here : n ≡ u → (w x ≡ true) ⊎ (w x ≡ false) → (n ≡ u) × (w x ≡ true) × (latest x ≡ i)
    here m (inl b) =
        let c : some (latest x) ≡ some i = sym (cond-true (w x) (some (latest x)) none b) ∙ same m in
        (m, b, cc)
    here m (inr b) =
        let c : none ≡ some i = sym (cond-false (w x) (some (latest x)) none b) ∙ same m in
        absurd (let z : ◌≡◌ {A = ℕ} 0 1 = cc in omega arith)

module _ {K : Type 0} (held : ℕ → Held K) (f : ℕ → Phase) (stamp : ℕ → ℕ) (log : ℕ → List Access) (seals : ℕ) (maker : ℕ → ℕ)
    (latest stored : ℕ → ℕ) (over : ℕ → ℕ → Mark) (stamp_of : ℕ → ℕ)
    (i : Vers held f stamp log seals maker latest stored over stamp_of) where
  pub vers_turn : (p : ℕ) (b : Phase) → ((x : ℕ) (v : K) (t : ℕ) → held x ≡ by p v → f p ≡ sealing t → ⊥) → T (not (eqb (tag b) 4))
      → Vers held (put f p b) stamp log seals maker latest stored over stamp_of
  vers_turn p b n ns =
      record {
        replaced = i.replaced;
        newest = i.newest;
        present = i.present;
        older = i.older;
        positive = i.positive;
        opening = i.opening;
        stamped = i.stamped;
        settled = λ x c. i.settled x (none_due_back held f p b x (n x) c);
        coming = λ q x v t e d. i.coming q x v t e (back f p b q (sealing t) ns d);
      }

  pub vers_log : (t : ℕ) (l : List Access) → ((j : ℕ) → 0 < j → j ≤ seals → maker j ≡ t → ⊥)
      → Vers held f stamp (put log t l) seals maker latest stored over stamp_of
  vers_log t l n =
      record {
        replaced = i.replaced;
        newest = i.newest;
        present = i.present;
        older = λ j y k a b e.
            i.older j y k a b (subst (In (rd y k)) (put_other log t l (maker j) (λ d. n j a b (sym d))) e);
        positive = i.positive;
        opening = i.opening;
        stamped = i.stamped;
        settled = i.settled;
        coming = i.coming;
      }

  -- x is held by one who is not sealed, and stays with it, comes to it or is freed by it
  pub vers_held : (x : ℕ) (h : Held K) → ((q : ℕ) (w : K) (t : ℕ) → held x ≡ by q w → f q ≡ sealing t → ⊥)
      → ((q : ℕ) (w : K) (t : ℕ) → h ≡ by q w → f q ≡ sealing t → ⊥)
      → Vers (put held x h) f stamp log seals maker latest stored over stamp_of
  vers_held x h n m =
      record {
        replaced = i.replaced;
        newest = i.newest;
        present = i.present;
        older = i.older;
        positive = i.positive;
        opening = i.opening;
        stamped = i.stamped;
        settled = λ y c.
            i.settled y
            (λ q w t e d.
            elim (cases_eq x y)
            [ inl k ↦ n q w t (ap held k ∙ e) d | inr k ↦ c q w t (put_other held x h y k ∙ e) d ]);
        coming = λ q y w t e d.
            elim (put_is held x h y (by q w) e) [ inl k ↦ absurd (m q w t k.1 d) | inr k ↦ i.coming q y w t k.1 d ];
      }

  pub vers_store : (p x : ℕ) (v : K) (t : ℕ) → f p ≡ sealing t → held x ≡ by p v
      → Vers (put held x nobody) f (put stamp x t) log seals maker latest (put stored x (latest x)) over stamp_of
  vers_store p x v t g h =
      record {
        replaced = i.replaced;
        newest = i.newest;
        present = λ y. put_when (λ (z : ℕ). z ≤ seals) stored x (latest x) y (λ n. i.newest x) (λ n. i.present y);
        older = i.older;
        positive = i.positive;
        opening = i.opening;
        stamped = λ y.
            elim (cases_eq x y) [
              | inl n ↦
                  put_same stamp x t y n ∙ sym (i.coming p x v t h g) ∙ ap stamp_of (sym (put_same stored x (latest x) y n))
              | inr n ↦ put_other stamp x t y n ∙ i.stamped y ∙ ap stamp_of (sym (put_other stored x (latest x) y n))
            ];
        settled = λ y c.
            elim (cases_eq x y) [
              | inl n ↦ put_same stored x (latest x) y n ∙ ap latest n
              | inr n ↦
                  put_other stored x (latest x) y n ∙ i.settled y (λ q w u e d. c q w u (put_other held x nobody y n ∙ e) d)
            ];
        coming = λ q y w u e d.
            elim (put_is held x nobody y (by q w) e)
            [ inl k ↦ absurd (unheld nobody q w refl k.1) | inr k ↦ i.coming q y w u k.1 d ];
      }

  module _ (p t m : ℕ) (w : ℕ → Bool) (g : f p ≡ certifying) (had : (x : ℕ) → w x ≡ true → (v : K) × (held x ≡ by p v))
      (has : (x : ℕ) (v : K) → held x ≡ by p v → w x ≡ true) (up : (x : ℕ) (v : K) → held x ≡ by p v → stamp x < t)
      (read : (y k : ℕ) → In (rd y k) (log m) → (k ≤ seals) × (stamp_of k < t)) (pos : 0 < t) where
    -- p is not sealed yet
    now_none_due : (x : ℕ) (v : K) → held x ≡ by p v → NoneDue held f x
    now_none_due x v e q u r d b =
        differ certifying (sealing r) tt (sym g ∙ ap f (one_holder (held x) p q v u e d) ∙ b)

    kept_stamp : (k : ℕ) → k ≤ seals → put stamp_of (suc seals) t k ≡ stamp_of k
    kept_stamp k e = put_other stamp_of (suc seals) t k (λ d. omega arith)

    pub spared : (x : ℕ) → ((v : K) → held x ≡ by p v → ⊥) → cond (w x) (suc seals) (latest x) ≡ latest x
    spared x n =
        elim (cases_Bool (w x))
        [ inl b ↦ absurd (let d = had x b in n d.0 d.1) | inr b ↦ cond-false (w x) (suc seals) (latest x) b ]

    pub grows : (x : ℕ) → (latest x ≤ cond (w x) (suc seals) (latest x)) × (cond (w x) (suc seals) (latest x) ≤ suc seals)
    grows x =
        let a = i.newest x in
        elim (cases_Bool (w x)) [
          | inl b ↦ let c = cond-true (w x) (suc seals) (latest x) b in (omega arith, omega arith)
          | inr b ↦ let c = cond-false (w x) (suc seals) (latest x) b in (omega arith, omega arith)
        ]

    pub vers_seal : Vers held (put f p (sealing t)) stamp log (suc seals) (put maker (suc seals) m)
        (λ x. cond (w x) (suc seals) (latest x)) stored (replacing over (suc seals) w latest) (put stamp_of (suc seals) t)
    vers_seal =
        record {
          replaced = λ u x k e.
              elim (replaced_is over (suc seals) w latest u x k e) [
                | inl d ↦
                    let v = had x d.1 in
                    let a = i.newest x in
                    let b : latest x ≡ k = d.2 in
                    let c = cond-true (w x) (suc seals) (latest x) d.1 in
                    let n : suc seals ≡ u = d.0 in
                    let r : stamp x < t = up x v.0 v.1 in
                    let z : stamp x ≡ stamp_of k =
                    i.stamped x ∙ ap stamp_of (i.settled x (now_none_due x v.0 v.1) ∙ b)
                    in
                    let y = kept_stamp k (omega arith) in
                    let o = put_same stamp_of (suc seals) t u n in
                    (omega arith, omega arith, omega arith)
                | inr d ↦
                    let r = i.replaced u x k d.1 in
                    let a = grows x in
                    let b = i.newest x in
                    let y = kept_stamp k (omega arith) in
                    let z = kept_stamp u (omega arith) in
                    (r.0, omega arith, omega arith)
              ];
          newest = λ x. (grows x).1;
          present = λ x. let a = i.present x in omega arith;
          older = λ j y k a b e.
              elim (cases_eq (suc seals) j) [
                | inl n ↦
                    let d = read y k (subst (λ (z : ℕ). In (rd y k) (log z)) (put_same maker (suc seals) m j n) e) in
                    let c = kept_stamp k d.0 in
                    let o = put_same stamp_of (suc seals) t j n in
                    (omega arith, omega arith)
                | inr n ↦
                    let d = i.older j y k a (omega arith) (subst (λ (z : ℕ). In (rd y k) (log z)) (put_other maker (suc seals) m j n) e) in
                    let c = kept_stamp k (omega arith) in
                    let o = kept_stamp j (omega arith) in
                    (d.0, omega arith)
              ];
          positive = λ j a b.
              put_when (λ (z : ℕ). 0 < z) stamp_of (suc seals) t j (λ n. pos) (λ n. i.positive j a (omega arith));
          opening = kept_stamp 0 (omega arith) ∙ i.opening;
          stamped = λ x. i.stamped x ∙ sym (kept_stamp (stored x) (i.present x));
          settled = λ x c.
              i.settled x (none_due_back held f p (sealing t) x (λ v u e d. differ certifying (sealing u) tt (sym g ∙ d)) c)
              ∙ sym (spared x (λ v e. c p v t e (put_same f p (sealing t) p refl)));
          coming = λ q x v u e d.
              elim (put_is f p (sealing t) q (sealing u) d) [
                | inl n ↦
                    let b = has x v (e ∙ ap (λ (r : ℕ). by r v) (sym n.0)) in
                    ap (put stamp_of (suc seals) t) (cond-true (w x) (suc seals) (latest x) b)
                    ∙ put_same stamp_of (suc seals) t (suc seals) refl
                    ∙ (let a = n.1 in cc)
                | inr n ↦
                    ap (put stamp_of (suc seals) t) (spared x (λ r a. n.0 (one_holder (held x) p q r v a e)))
                    ∙ kept_stamp (latest x) (i.newest x)
                    ∙ i.coming q x v u e n.1
              ];
        }
