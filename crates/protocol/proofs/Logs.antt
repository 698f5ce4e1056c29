-- Logs, from event to event.
use Rattle.std.proofs.Common.{◌≡◌, ℕ, suc, ◌<◌, ◌≤◌, Bool, true, ◌||◌, eqb, ◌⊎◌, List, [], ◌∷◌, sym, refl, ap, ◌∙◌, subst, inl, inr, arith}
use Rattle.std.proofs.lemmas.Bool.{cases_eq, false≢true, eqb-true, eq-eqb, or_cases, or_left, or_right}
use Rattle.protocol.specs.Table.{put}
use Rattle.protocol.specs.Protocol.{Held, Phase}
use Rattle.protocol.specs.Protocol.Held.{nobody, by}
use Rattle.protocol.specs.Protocol.Phase.{starting, running, certifying, sealing}
use Rattle.protocol.specs.History.{Access, Mark, In, version, writes}
use Rattle.protocol.specs.History.Access.{rd, ov}
use Rattle.protocol.specs.History.Mark.{some}
use Rattle.protocol.proofs.Updates.{put_same, put_other, put_is, put_when}
use Rattle.protocol.proofs.Invariant.{Live, differ, back, unheld, one_holder}
use Rattle.protocol.proofs.Facts.{Logs}
use Rattle.protocol.proofs.Versions.{replacing, replaced_is}

-- an access of a longer log of transaction t
pub in_put : (log : ℕ → List Access) (t : ℕ) (d : Access) (u : ℕ) (c : Access) → In c (put log t (d ∷ log t) u)
    → ((t ≡ u) × (c ≡ d)) ⊎ In c (log u)
in_put log t d u c e =
    elim (cases_eq t u)
    [ inl n ↦ one n (subst (In c) (put_same log t (d ∷ log t) u n) e) | inr n ↦ inr (subst (In c) (put_other log t (d ∷ log t) u n) e) ]
  where
    one : t ≡ u → (c ≡ d) ⊎ In c (log t) → ((t ≡ u) × (c ≡ d)) ⊎ In c (log u)
    one n (inl h) = inl (n, h)
    one n (inr h) = inr (subst (λ (z : ℕ). In c (log z)) n h)

pub rd_x : {x y j k : ℕ} → rd x j ≡ rd y k → x ≡ y
rd_x e = cc

pub rd_j : {x y j k : ℕ} → rd x j ≡ rd y k → j ≡ k
rd_j e = cc

pub rd_ov : {x y j k : ℕ} → rd x j ≡ ov y k → ⊥
rd_ov e = let z : ◌≡◌ {A = ℕ} 0 1 = cc in omega arith

module _ {K : Type 0} (held : ℕ → Held K) (f : ℕ → Phase) (current : ℕ → ℕ) (log : ℕ → List Access) (base : ℕ → ℕ) (seals : ℕ)
    (over : ℕ → ℕ → Mark) (i : Logs held f current log base seals over) where
  pub live_was : (p : ℕ) (b : Phase) (q : ℕ) → (Live (λ r. b) p → Live f p) → Live (put f p b) q → Live f q
  live_was p b q k e = elim (cases_eq p q) [ inl d ↦ subst (Live f) d (k (mine d e)) | inr d ↦ other d e ]
    where
      mine : p ≡ q → Live (put f p b) q → Live (λ r. b) p
      mine d (inl h) = inl (sym (put_same f p b q d) ∙ h)
      mine d (inr h) = inr (sym (put_same f p b q d) ∙ h)

      other : (p ≡ q → ⊥) → Live (put f p b) q → Live f q
      other d (inl h) = inl (sym (put_other f p b q d) ∙ h)
      other d (inr h) = inr (sym (put_other f p b q d) ∙ h)

  pub logs_turn : (p : ℕ) (b : Phase) → (Live (λ r. b) p → Live f p) → Logs held (put f p b) current log base seals over
  logs_turn p b k =
      record {
        bound = i.bound;
        based = i.based;
        recent = i.recent;
        has = λ q x v e. i.has q x v (live_was p b q k e);
        had = λ q x e. i.had q x (live_was p b q k e);
      }

  pub logs_begin : (p n : ℕ) → Logs held (put f p starting) (put current p n) log base seals over
  logs_begin p n =
      record {
        bound = i.bound;
        based = i.based;
        recent = i.recent;
        has = λ q x v e h.
            ap (λ (t : ℕ). writes (log t) x) (put_other current p n q (other q e)) ∙ i.has q x v (was q e) h;
        had = λ q x e h.
            i.had q x (was q e) (sym (ap (λ (t : ℕ). writes (log t) x) (put_other current p n q (other q e))) ∙ h);
      }
    where
      other : (q : ℕ) → Live (put f p starting) q → p ≡ q → ⊥
      other q (inl h) n = differ starting running tt (sym (put_same f p starting q n) ∙ h)
      other q (inr h) n = differ starting certifying tt (sym (put_same f p starting q n) ∙ h)

      was : (q : ℕ) → Live (put f p starting) q → Live f q
      was q (inl h) = inl (back f p starting q running tt h)
      was q (inr h) = inr (back f p starting q certifying tt h)

  pub logs_ready : (p : ℕ) → log (current p) ≡ [] → ((x : ℕ) (v : K) → held x ≡ by p v → ⊥)
      → Logs held (put f p running) current log (put base (current p) seals) seals over
  logs_ready p e n =
      record {
        bound = i.bound;
        based = λ t. put_when (λ (z : ℕ). z ≤ seals) base (current p) seals t (λ d. omega arith) (λ d. i.based t);
        recent = λ t x j u k h o m.
            put_when (λ (z : ℕ). z < u) base (current p) seals t
            (λ d. absurd (subst (In (rd x j)) (ap log (sym d) ∙ e) h)) (λ d. i.recent t x j u k h o m);
        has = λ q x v l h.
            elim (cases_eq p q)
            [ inl d ↦ absurd (n x v (h ∙ ap (λ (r : ℕ). by r v) (sym d))) | inr d ↦ i.has q x v (was q d l) h ];
        had = λ q x l h.
            elim (cases_eq p q) [
              | inl d ↦ absurd (false≢true (sym (ap (λ (z : List Access). writes z x) (ap log (ap current (sym d)) ∙ e)) ∙ h))
              | inr d ↦ i.had q x (was q d l) h
            ];
      }
    where
      was : (q : ℕ) → (p ≡ q → ⊥) → Live (put f p running) q → Live f q
      was q d (inl h) = inl (sym (put_other f p running q d) ∙ h)
      was q d (inr h) = inr (sym (put_other f p running q d) ∙ h)

  pub logs_answer : (p x j : ℕ) → j ≤ seals → ((u k : ℕ) → over u x ≡ some k → j < u → base (current p) < u)
      → Logs held f current (put log (current p) (rd x j ∷ log (current p))) base seals over
  logs_answer p x j b n =
      record {
        bound = λ t c e.
            elim (in_put log (current p) (rd x j) t c e)
            [ inl d ↦ (let k : version c ≡ j = ap version d.1 in omega arith) | inr d ↦ i.bound t c d ];
        based = i.based;
        recent = λ t y k u r e o m.
            elim (in_put log (current p) (rd x j) t (rd y k) e) [
              | inl d ↦
                  subst (λ (z : ℕ). base z < u) d.0
                  (n u r (ap (over u) (sym (rd_x d.1)) ∙ o) (let a = rd_j d.1 in omega arith))
              | inr d ↦ i.recent t y k u r d o m
            ];
        has = λ q y v l h. same q y ∙ i.has q y v l h;
        had = λ q y l h. i.had q y l (sym (same q y) ∙ h);
      }
    where
      same : (q y : ℕ) → writes (put log (current p) (rd x j ∷ log (current p)) (current q)) y ≡ writes (log (current q)) y
      same q y =
          elim (cases_eq (current p) (current q)) [
            | inl m ↦
                ap (λ (z : List Access). writes z y) (put_same log (current p) (rd x j ∷ log (current p)) (current q) m)
                ∙ ap (λ (z : ℕ). writes (log z) y) m
            | inr m ↦ ap (λ (z : List Access). writes z y) (put_other log (current p) (rd x j ∷ log (current p)) (current q) m)
          ]

  pub logs_write : (p x : ℕ) (v : K) (j : ℕ) → f p ≡ running → ((q : ℕ) (w : K) → held x ≡ by q w → q ≡ p) → j ≤ seals
      → ((q : ℕ) → Live f q → current p ≡ current q → p ≡ q)
      → Logs (put held x (by p v)) f current (put log (current p) (ov x j ∷ log (current p))) base seals over
  logs_write p x v j g opn b single =
      record {
        bound = λ t c e.
            elim (in_put log (current p) (ov x j) t c e)
            [ inl d ↦ (let k : version c ≡ j = ap version d.1 in omega arith) | inr d ↦ i.bound t c d ];
        based = i.based;
        recent = λ t y k u r e o m.
            elim (in_put log (current p) (ov x j) t (rd y k) e)
            [ inl d ↦ absurd (rd_ov d.1) | inr d ↦ i.recent t y k u r d o m ];
        has = λ q y w l h.
            elim (put_is held x (by p v) y (by q w) h) [
              | inl d ↦
                  let a : p ≡ q = (let z = d.1 in cc) in
                  wide q y a ∙ or_left (eqb x y) (writes (log (current p)) y) (eq-eqb x y d.0)
              | inr d ↦ more q y (i.has q y w l d.1)
            ];
        had = λ q y l h.
            elim (cases_eq p q) [
              | inl n ↦ mine q y n (or_cases (eqb x y) (writes (log (current p)) y) (sym (wide q y n) ∙ h))
              | inr n ↦
                  let d =
                  i.had q y l
                  (sym (ap (λ (z : List Access). writes z y) (put_other log (current p) (ov x j ∷ log (current p)) (current q) (λ m. n (single q l m))))
                  ∙ h)
                  in
                  (d.0, put_other held x (by p v) y (λ m. n (sym (opn q d.0 (ap held m ∙ d.1)))) ∙ d.1)
            ];
      }
    where
      wide : (q y : ℕ) → p ≡ q → writes (put log (current p) (ov x j ∷ log (current p)) (current q)) y ≡ (eqb x y || writes (log (current p)) y)
      wide q y n = ap (λ (z : List Access). writes z y) (put_same log (current p) (ov x j ∷ log (current p)) (current q) (ap current n))

      more : (q y : ℕ) → writes (log (current q)) y ≡ true → writes (put log (current p) (ov x j ∷ log (current p)) (current q)) y ≡ true
      more q y h =
          elim (cases_eq (current p) (current q)) [
            | inl m ↦
                ap (λ (z : List Access). writes z y) (put_same log (current p) (ov x j ∷ log (current p)) (current q) m)
                ∙ or_right (eqb x y) (writes (log (current p)) y) (ap (λ (z : ℕ). writes (log z) y) m ∙ h)
            | inr m ↦ ap (λ (z : List Access). writes z y) (put_other log (current p) (ov x j ∷ log (current p)) (current q) m) ∙ h
          ]

      at_x : (q y : ℕ) → p ≡ q → x ≡ y → (w : K) × (put held x (by p v) y ≡ by q w)
      at_x q y n m = (v, put_same held x (by p v) y m ∙ ap (λ (r : ℕ). by r v) n)

      mine : (q y : ℕ) → p ≡ q → (eqb x y ≡ true) ⊎ (writes (log (current p)) y ≡ true) → (w : K) × (put held x (by p v) y ≡ by q w)
      mine q y n (inl h) = at_x q y n (eqb-true x y h)
      mine q y n (inr h) =
          let d = i.had p y (inl g) h in
          elim (cases_eq x y) [
            | inl m ↦ at_x q y n m
            | inr m ↦ (d.0, put_other held x (by p v) y m ∙ d.1 ∙ ap (λ (r : ℕ). by r d.0) n)
          ]

  pub logs_free : (p x : ℕ) (v : K) → held x ≡ by p v → (Live f p → ⊥) → Logs (put held x nobody) f current log base seals over
  logs_free p x v h n =
      record {
        bound = i.bound;
        based = i.based;
        recent = i.recent;
        has = λ q y w l e.
            elim (put_is held x nobody y (by q w) e)
            [ inl k ↦ absurd (unheld nobody q w refl k.1) | inr k ↦ i.has q y w l k.1 ];
        had = λ q y l e.
            let d = i.had q y l e in (
              d.0,
              put_other held x nobody y
                  (λ m. n (subst (Live f) (sym (one_holder (held x) p q v d.0 h (ap held m ∙ d.1))) l)) ∙ d.1,
            );
      }

  pub logs_seal : (p t : ℕ) (w : ℕ → Bool) (latest : ℕ → ℕ)
      → Logs held (put f p (sealing t)) current log base (suc seals) (replacing over (suc seals) w latest)
  logs_seal p t w latest =
      record {
        bound = λ u c e. let a = i.bound u c e in omega arith;
        based = λ u. let a = i.based u in omega arith;
        recent = λ u x j r k e o m.
            let a = i.based u in
            elim (replaced_is over (suc seals) w latest r x k o)
            [ inl d ↦ (let b : suc seals ≡ r = d.0 in omega arith) | inr d ↦ i.recent u x j r k e d.1 m ];
        has = λ q x v e. i.has q x v (was q e);
        had = λ q x e. i.had q x (was q e);
      }
    where
      was : (q : ℕ) → Live (put f p (sealing t)) q → Live f q
      was q (inl h) = inl (back f p (sealing t) q running tt h)
      was q (inr h) = inr (back f p (sealing t) q certifying tt h)
