-- Transactions and processes, from event to event.
use Rattle.std.proofs.Common.{◌≡◌, ℕ, suc, ◌<◌, not, T, eqb, List, sym, ap, ◌∙◌, subst, inl, inr, arith}
use Rattle.std.proofs.lemmas.Bool.{cases_eq}
use Rattle.protocol.specs.Table.{put}
use Rattle.protocol.specs.Protocol.{Phase}
use Rattle.protocol.specs.Protocol.Phase.{out, starting, running, certifying, sealing}
use Rattle.protocol.specs.History.{Access}
use Rattle.protocol.proofs.Updates.{put_same, put_other, put_when}
use Rattle.protocol.proofs.Invariant.{tag, differ, back}
use Rattle.protocol.proofs.Facts.{Early, Who}

-- phases that a process comes into, when it is not in none
module _ (f : ℕ → Phase) (current : ℕ → ℕ) (begun : ℕ) (log : ℕ → List Access) (seals : ℕ) (maker : ℕ → ℕ)
    (i : Who f current begun log seals maker) where
  -- not being out now, q was not out before
  pub was_in : (p : ℕ) (b : Phase) (q : ℕ) → (f p ≡ out → ⊥) → (put f p b q ≡ out → ⊥) → f q ≡ out → ⊥
  was_in p b q n m e =
      elim (cases_eq p q) [ inl d ↦ n (ap f d ∙ e) | inr d ↦ m (put_other f p b q d ∙ e) ]

  pub early_was : (p : ℕ) (b : Phase) (q : ℕ) → (Early (λ r. b) p → Early f p) → Early (put f p b) q → Early f q
  early_was p b q k e = elim (cases_eq p q) [ inl d ↦ subst (Early f) d (k (mine d e)) | inr d ↦ other d e ]
    where
      mine : p ≡ q → Early (put f p b) q → Early (λ r. b) p
      mine d (inl h) = inl (sym (put_same f p b q d) ∙ h)
      mine d (inr (inl h)) = inr (inl (sym (put_same f p b q d) ∙ h))
      mine d (inr (inr h)) = inr (inr (sym (put_same f p b q d) ∙ h))

      other : (p ≡ q → ⊥) → Early (put f p b) q → Early f q
      other d (inl h) = inl (sym (put_other f p b q d) ∙ h)
      other d (inr (inl h)) = inr (inl (sym (put_other f p b q d) ∙ h))
      other d (inr (inr h)) = inr (inr (sym (put_other f p b q d) ∙ h))

  pub current_turn : (p : ℕ) (b : Phase) → (f p ≡ out → ⊥) → (Early (λ r. b) p → Early f p) → T (not (eqb (tag b) 5))
      → Who (put f p b) current begun log seals maker
  current_turn p b n k ns =
      record {
        alive = λ q m. i.alive q (was_in p b q n m);
        single = λ q r m o. i.single q r (was_in p b q n m) (was_in p b r n o);
        made = i.made;
        once = i.once;
        unsealed = λ q j e. i.unsealed q j (early_was p b q k e);
        blank = i.blank;
        clean = λ q e. i.clean q (back f p b q starting ns e);
      }

  pub current_seal : (p t : ℕ) → f p ≡ certifying
      → Who (put f p (sealing t)) current begun log (suc seals) (put maker (suc seals) (current p))
  current_seal p t g =
      record {
        alive = λ q m. i.alive q (was_in p (sealing t) q inside m);
        single = λ q r m o. i.single q r (was_in p (sealing t) q inside m) (was_in p (sealing t) r inside o);
        made = λ j d e.
            put_when (λ (w : ℕ). w < begun) maker (suc seals) (current p) j (λ n. i.alive p inside) (λ n. i.made j d (omega arith));
        once = λ j k a b c d e.
            elim (cases_eq (suc seals) j) [
              | inl n ↦
                  elim (cases_eq (suc seals) k) [
                    | inl m ↦ sym n ∙ m
                    | inr m ↦
                        absurd
                        (i.unsealed p k (inr (inr g)) c (omega arith)
                        (sym (put_other maker (suc seals) (current p) k m) ∙ sym e ∙ put_same maker (suc seals) (current p) j n))
                  ]
              | inr n ↦
                  elim (cases_eq (suc seals) k) [
                    | inl m ↦
                        absurd
                        (i.unsealed p j (inr (inr g)) a (omega arith)
                        (sym (put_other maker (suc seals) (current p) j n) ∙ e ∙ put_same maker (suc seals) (current p) k m))
                    | inr m ↦
                        i.once j k a (omega arith) c (omega arith)
                        (sym (put_other maker (suc seals) (current p) j n) ∙ e ∙ put_other maker (suc seals) (current p) k m)
                  ]
            ];
        unsealed = λ q j e a b d.
            elim (cases_eq (suc seals) j) [
              | inl n ↦
                  not_p q e
                  (i.single p q inside (in_of q (early_was p (sealing t) q never e)) (sym (put_same maker (suc seals) (current p) j n) ∙ d))
              | inr n ↦
                  i.unsealed q j (early_was p (sealing t) q never e) a (omega arith) (sym (put_other maker (suc seals) (current p) j n) ∙ d)
            ];
        blank = i.blank;
        clean = λ q e. i.clean q (back f p (sealing t) q starting tt e);
      }
    where
      inside : f p ≡ out → ⊥
      inside e = differ certifying out tt (sym g ∙ e)

      never : Early (λ r. sealing t) p → Early f p
      never (inl h) = absurd (differ (sealing t) starting tt h)
      never (inr (inl h)) = absurd (differ (sealing t) running tt h)
      never (inr (inr h)) = absurd (differ (sealing t) certifying tt h)

      in_of : (q : ℕ) → Early f q → f q ≡ out → ⊥
      in_of q (inl h) e = differ starting out tt (sym h ∙ e)
      in_of q (inr (inl h)) e = differ running out tt (sym h ∙ e)
      in_of q (inr (inr h)) e = differ certifying out tt (sym h ∙ e)

      not_p : (q : ℕ) → Early (put f p (sealing t)) q → p ≡ q → ⊥
      not_p q (inl h) n = differ (sealing t) starting tt (sym (put_same f p (sealing t) q n) ∙ h)
      not_p q (inr (inl h)) n = differ (sealing t) running tt (sym (put_same f p (sealing t) q n) ∙ h)
      not_p q (inr (inr h)) n = differ (sealing t) certifying tt (sym (put_same f p (sealing t) q n) ∙ h)

  pub current_log : (p : ℕ) (l : List Access) → f p ≡ running → Who f current begun (put log (current p) l) seals maker
  current_log p l g =
      record {
        alive = i.alive;
        single = i.single;
        made = i.made;
        once = i.once;
        unsealed = i.unsealed;
        blank = λ t e.
            let b = i.alive p (λ d. differ running out tt (sym g ∙ d)) in
            put_other log (current p) l t (λ d. omega arith) ∙ i.blank t e;
        clean = λ q e.
            put_other log (current p) l (current q)
            (λ d.
            differ running starting tt
            (sym g
            ∙ ap f (i.single p q (λ b. differ running out tt (sym g ∙ b)) (λ b. differ starting out tt (sym e ∙ b)) d)
            ∙ e))
            ∙ i.clean q e;
      }

  pub current_begin : (p : ℕ) → f p ≡ out → Who (put f p starting) (put current p begun) (suc begun) log seals maker
  current_begin p g =
      record {
        alive = λ q m.
            put_when (λ (w : ℕ). w < suc begun) current p begun q (λ n. omega arith) (λ n. let b = i.alive q (other q n m) in omega arith);
        single = λ q r m o e.
            elim (cases_eq p q) [
              | inl n ↦
                  elim (cases_eq p r) [
                    | inl k ↦ sym n ∙ k
                    | inr k ↦
                        let a = i.alive r (other r k o) in
                        let b : begun ≡ current r = sym (put_same current p begun q n) ∙ e ∙ put_other current p begun r k in
                        absurd (omega arith)
                  ]
              | inr n ↦
                  elim (cases_eq p r) [
                    | inl k ↦
                        let a = i.alive q (other q n m) in
                        let b : current q ≡ begun = sym (put_other current p begun q n) ∙ e ∙ put_same current p begun r k in
                        absurd (omega arith)
                    | inr k ↦
                        i.single q r (other q n m) (other r k o) (sym (put_other current p begun q n) ∙ e ∙ put_other current p begun r k)
                  ]
            ];
        made = λ j a b. let c = i.made j a b in omega arith;
        once = i.once;
        unsealed = λ q j e a b d.
            elim (cases_eq p q) [
              | inl n ↦ let c = i.made j a b in let k : maker j ≡ begun = d ∙ put_same current p begun q n in omega arith
              | inr n ↦ i.unsealed q j (earlier q n e) a b (d ∙ put_other current p begun q n)
            ];
        blank = λ t e. i.blank t (omega arith);
        clean = λ q e.
            elim (cases_eq p q) [
              | inl n ↦ ap log (put_same current p begun q n) ∙ i.blank begun (omega arith)
              | inr n ↦ ap log (put_other current p begun q n) ∙ i.clean q (sym (put_other f p starting q n) ∙ e)
            ];
      }
    where
      other : (q : ℕ) → (p ≡ q → ⊥) → (put f p starting q ≡ out → ⊥) → f q ≡ out → ⊥
      other q n m e = m (put_other f p starting q n ∙ e)

      earlier : (q : ℕ) → (p ≡ q → ⊥) → Early (put f p starting) q → Early f q
      earlier q n (inl h) = inl (sym (put_other f p starting q n) ∙ h)
      earlier q n (inr (inl h)) = inr (inl (sym (put_other f p starting q n) ∙ h))
      earlier q n (inr (inr h)) = inr (inr (sym (put_other f p starting q n) ∙ h))
