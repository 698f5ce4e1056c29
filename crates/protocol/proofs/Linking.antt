-- The record by transactions, and the record by processes and places that the proof goes by.
use Rattle.std.proofs.Common.{◌≡◌, ℕ, zero, suc, ◌<◌, ◌≤◌, Bool, true, false, cond, not, T, eqb, ◌⊎◌, List, [], ◌∷◌, sym, refl, ap, ◌∙◌, subst, inl, inr, arith}
use Rattle.std.proofs.lemmas.Bool.{cases_eq, cases_Bool, cond-true, cond-false}
use Rattle.protocol.specs.Table.{put}
use Rattle.protocol.specs.Protocol.{Phase}
use Rattle.protocol.specs.Protocol.Phase.{out, starting, running, certifying}
use Rattle.protocol.specs.History.{History, Mark}
use Rattle.protocol.specs.History.Mark.{some}
use Rattle.protocol.proofs.Updates.{put_same, put_other, put_is, put_when}
use Rattle.protocol.proofs.Invariant.{Live, tag, differ, back}
use Rattle.protocol.proofs.Facts.{Early}
use Rattle.protocol.specs.Alone.{Operation, after, Agrees, memory, Replays}
use Rattle.protocol.proofs.Sequence.{Sequence, add, alone}
use Rattle.protocol.specs.Alone.Operation.{got, set}
use Rattle.protocol.specs.Commits.{Commits, performed, committed}
use Rattle.protocol.specs.Serial.{Strict, Among, EndedBefore}
use Rattle.protocol.proofs.Alone.{after_at}

abbrev pub Young : (ℕ → Phase) → ℕ → Type 0
Young f p = (f p ≡ starting) ⊎ (f p ≡ running)

pub record Linked {K : Type 0} (f : ℕ → Phase) (current : ℕ → ℕ) (begun : ℕ) (begun_at : ℕ → ℕ) (ended : ℕ → Mark) (h : Sequence K) (y : Commits K)
    : Type 0 where
  pub counts : h.count ≡ y.certs
  pub same : (p : ℕ) → Live f p → h.operations p ≡ y.operations (current p)
  pub placed : (p : ℕ) → f p ≡ certifying → y.order (h.place p) ≡ current p
  pub sits : (p : ℕ) → f p ≡ certifying → h.place p < y.certs
  pub fresh : (p k : ℕ) → Young f p → k < y.certs → y.order k ≡ current p → ⊥
  pub once : (j k : ℕ) → j < y.certs → k < y.certs → y.order j ≡ y.order k → j ≡ k
  pub known : (k : ℕ) → k < y.certs → y.order k < begun
  pub opens : (p : ℕ) → Early f p → y.sealed (current p) ≡ false
  pub empty_new : (t : ℕ) → begun ≤ t → (y.sealed t ≡ false) × (y.operations t ≡ [])
  pub empty_start : (p : ℕ) → f p ≡ starting → y.operations (current p) ≡ []
  pub scripts : (k : ℕ) → k < y.certs → h.script k ≡ cond (y.sealed (y.order k)) (y.operations (y.order k)) []
  pub strict : (j k n : ℕ) → j < y.certs → k < y.certs → ended (y.order j) ≡ some n → n < begun_at (y.order k) → j < k

module _ {K : Type 0} (f : ℕ → Phase) (current : ℕ → ℕ) (begun : ℕ) (begun_at : ℕ → ℕ) (ended : ℕ → Mark) (h : Sequence K) (y : Commits K)
    (i : Linked f current begun begun_at ended h y) where
  -- another phase, not certifying
  pub link_turn : (p : ℕ) (b : Phase) → (Live (λ r. b) p → Live f p) → (Young (λ r. b) p → Young f p) → (Early (λ r. b) p → Early f p)
      → T (not (eqb (tag b) 2)) → T (not (eqb (tag b) 5)) → Linked (put f p b) current begun begun_at ended h y
  link_turn p b kl ky ke nc ns =
      record {
        counts = i.counts;
        same = λ q e. i.same q (lives q e);
        placed = λ q e. i.placed q (back f p b q certifying nc e);
        sits = λ q e. i.sits q (back f p b q certifying nc e);
        fresh = λ q k e. i.fresh q k (youngs q e);
        once = i.once;
        known = i.known;
        opens = λ q e. i.opens q (earlies q e);
        empty_new = i.empty_new;
        empty_start = λ q e. i.empty_start q (back f p b q starting ns e);
        scripts = i.scripts;
        strict = i.strict;
      }
    where
      mine : (q : ℕ) (c : Phase) → p ≡ q → put f p b q ≡ c → b ≡ c
      mine q c d e = sym (put_same f p b q d) ∙ e

      other : (q : ℕ) (c : Phase) → (p ≡ q → ⊥) → put f p b q ≡ c → f q ≡ c
      other q c d e = sym (put_other f p b q d) ∙ e

      lives : (q : ℕ) → Live (put f p b) q → Live f q
      lives q (inl e) = elim (cases_eq p q) [ inl d ↦ subst (Live f) d (kl (inl (mine q running d e))) | inr d ↦ inl (other q running d e) ]
      lives q (inr e) = elim (cases_eq p q) [ inl d ↦ subst (Live f) d (kl (inr (mine q certifying d e))) | inr d ↦ inr (other q certifying d e) ]

      youngs : (q : ℕ) → Young (put f p b) q → Young f q
      youngs q (inl e) = elim (cases_eq p q) [ inl d ↦ subst (Young f) d (ky (inl (mine q starting d e))) | inr d ↦ inl (other q starting d e) ]
      youngs q (inr e) = elim (cases_eq p q) [ inl d ↦ subst (Young f) d (ky (inr (mine q running d e))) | inr d ↦ inr (other q running d e) ]

      earlies : (q : ℕ) → Early (put f p b) q → Early f q
      earlies q (inl e) = elim (cases_eq p q) [ inl d ↦ subst (Early f) d (ke (inl (mine q starting d e))) | inr d ↦ inl (other q starting d e) ]
      earlies q (inr e) = inr (lives q e)

  pub link_begin : (p now : ℕ) → f p ≡ out → ((t n : ℕ) → begun ≤ t → ended t ≡ some n → ⊥)
      → Linked (put f p starting) (put current p begun) (suc begun) (put begun_at begun now) ended h y
  link_begin p now g unborn =
      record {
        counts = i.counts;
        same = λ q e. i.same q (lives q e) ∙ ap y.operations (sym (put_other current p begun q (not_p q e)));
        placed = λ q e. i.placed q (certs q e) ∙ sym (put_other current p begun q (not_p q (inr e)));
        sits = λ q e. i.sits q (certs q e);
        fresh = λ q k e n d.
            elim (cases_eq p q) [
              | inl m ↦ (let a = i.known k n in let b : y.order k ≡ begun = d ∙ put_same current p begun q m in omega arith)
              | inr m ↦ i.fresh q k (young q m e) n (d ∙ put_other current p begun q m)
            ];
        once = i.once;
        known = λ k n. let a = i.known k n in omega arith;
        opens = λ q e.
            elim (cases_eq p q) [
              | inl m ↦ ap y.sealed (put_same current p begun q m) ∙ (i.empty_new begun (omega arith)).0
              | inr m ↦ ap y.sealed (put_other current p begun q m) ∙ i.opens q (early q m e)
            ];
        empty_new = λ t n. i.empty_new t (omega arith);
        empty_start = λ q e.
            elim (cases_eq p q) [
              | inl m ↦ ap y.operations (put_same current p begun q m) ∙ (i.empty_new begun (omega arith)).1
              | inr m ↦ ap y.operations (put_other current p begun q m) ∙ i.empty_start q (sym (put_other f p starting q m) ∙ e)
            ];
        scripts = i.scripts;
        strict = λ j k n a b e m.
            let c = i.known k b in
            i.strict j k n a b e (subst (λ (z : ℕ). n < z) (put_other begun_at begun now (y.order k) (λ d. omega arith)) m);
      }
    where
      certs : (q : ℕ) → put f p starting q ≡ certifying → f q ≡ certifying
      certs q e = back f p starting q certifying tt e

      lives : (q : ℕ) → Live (put f p starting) q → Live f q
      lives q (inl e) = inl (back f p starting q running tt e)
      lives q (inr e) = inr (certs q e)

      not_p : (q : ℕ) → Live (put f p starting) q → p ≡ q → ⊥
      not_p q (inl e) n = differ starting running tt (sym (put_same f p starting q n) ∙ e)
      not_p q (inr e) n = differ starting certifying tt (sym (put_same f p starting q n) ∙ e)

      young : (q : ℕ) → (p ≡ q → ⊥) → Young (put f p starting) q → Young f q
      young q m (inl e) = inl (sym (put_other f p starting q m) ∙ e)
      young q m (inr e) = inr (sym (put_other f p starting q m) ∙ e)

      early : (q : ℕ) → (p ≡ q → ⊥) → Early (put f p starting) q → Early f q
      early q m (inl e) = inl (sym (put_other f p starting q m) ∙ e)
      early q m (inr e) = inr (lives q e)

  pub link_ready : (p : ℕ) → f p ≡ starting
      → Linked (put f p running) current begun begun_at ended (record { operations = put h.operations p []; place = h.place; count = h.count; script = h.script }) y
  link_ready p g =
      record {
        counts = i.counts;
        same = λ q e.
            elim (cases_eq p q) [
              | inl m ↦ put_same h.operations p [] q m ∙ sym (i.empty_start p g) ∙ ap (λ (z : ℕ). y.operations (current z)) m
              | inr m ↦ put_other h.operations p [] q m ∙ i.same q (lives q m e)
            ];
        placed = λ q e. i.placed q (back f p running q certifying tt e);
        sits = λ q e. i.sits q (back f p running q certifying tt e);
        fresh = λ q k e. i.fresh q k (young q e);
        once = i.once;
        known = i.known;
        opens = λ q e.
            elim (cases_eq p q) [ inl m ↦ i.opens q (inl (ap f (sym m) ∙ g)) | inr m ↦ i.opens q (early q m e) ];
        empty_new = i.empty_new;
        empty_start = λ q e. i.empty_start q (back f p running q starting tt e);
        scripts = i.scripts;
        strict = i.strict;
      }
    where
      lives : (q : ℕ) → (p ≡ q → ⊥) → Live (put f p running) q → Live f q
      lives q m (inl e) = inl (sym (put_other f p running q m) ∙ e)
      lives q m (inr e) = inr (sym (put_other f p running q m) ∙ e)

      young : (q : ℕ) → Young (put f p running) q → Young f q
      young q (inl e) = inl (back f p running q starting tt e)
      young q (inr e) =
          elim (cases_eq p q) [ inl m ↦ inl (ap f (sym m) ∙ g) | inr m ↦ inr (sym (put_other f p running q m) ∙ e) ]

      early : (q : ℕ) → (p ≡ q → ⊥) → Early (put f p running) q → Early f q
      early q m (inl e) = inl (back f p running q starting tt e)
      early q m (inr e) = inr (lives q m e)

  pub link_performed : (p : ℕ) (d : Operation K) → f p ≡ running → ((q : ℕ) → (f q ≡ out → ⊥) → current p ≡ current q → p ≡ q) → current p < begun
      → Linked f current begun begun_at ended (add h p d) (performed y (current p) d)
  link_performed p d g single alive =
      record {
        counts = i.counts;
        same = λ q e.
            elim (cases_eq p q) [
              | inl m ↦
                  put_same h.operations p (d ∷ h.operations p) q m
                  ∙ ap (λ (l : List (Operation K)). d ∷ l) (i.same p (inl g))
                  ∙ sym (put_same y.operations (current p) (d ∷ y.operations (current p)) (current q) (ap current m))
              | inr m ↦
                  put_other h.operations p (d ∷ h.operations p) q m
                  ∙ i.same q e
                  ∙ sym (put_other y.operations (current p) (d ∷ y.operations (current p)) (current q) (λ n. m (single q (inside q e) n)))
            ];
        placed = i.placed;
        sits = i.sits;
        fresh = i.fresh;
        once = i.once;
        known = i.known;
        opens = i.opens;
        empty_new = λ t n.
            let a = i.empty_new t n in
            (a.0, put_other y.operations (current p) (d ∷ y.operations (current p)) t (λ e. omega arith) ∙ a.1);
        empty_start = λ q e.
            put_other y.operations (current p) (d ∷ y.operations (current p)) (current q)
            (λ n. differ running starting tt (sym g ∙ ap f (single q (λ z. differ starting out tt (sym e ∙ z)) n) ∙ e))
            ∙ i.empty_start q e;
        scripts = λ k n.
            i.scripts k n
            ∙ ap (λ (l : List (Operation K)). cond (y.sealed (y.order k)) l [])
            (sym (put_other y.operations (current p) (d ∷ y.operations (current p)) (y.order k) (λ e. i.fresh p k (inr g) n (sym e))));
        strict = i.strict;
      }
    where
      inside : (q : ℕ) → Live f q → f q ≡ out → ⊥
      inside q (inl e) z = differ running out tt (sym e ∙ z)
      inside q (inr e) z = differ certifying out tt (sym e ∙ z)

  pub link_certify : (p : ℕ) → f p ≡ running → h.script h.count ≡ [] → ((q : ℕ) → (f q ≡ out → ⊥) → current p ≡ current q → p ≡ q)
      → current p < begun → ((n : ℕ) → ended (current p) ≡ some n → ⊥)
      → Linked (put f p certifying) current begun begun_at ended
      (record { operations = h.operations; place = put h.place p h.count; count = suc h.count; script = h.script })
      (record { operations = y.operations; sealed = y.sealed; certs = suc y.certs; order = put y.order y.certs (current p) })
  link_certify p g blank single alive going =
      record {
        counts = ap suc i.counts;
        same = λ q e. i.same q (lives q e);
        placed = λ q e.
            elim (cases_eq p q) [
              | inl m ↦
                  put_same y.order y.certs (current p) (put h.place p h.count q)
                  (sym i.counts ∙ sym (put_same h.place p h.count q m))
                  ∙ ap current m
              | inr m ↦
                  let c = sym (put_other f p certifying q m) ∙ e in
                  let a = put_other h.place p h.count q m in
                  let b = i.sits q c in
                  put_other y.order y.certs (current p) (put h.place p h.count q) (λ d. omega arith)
                  ∙ ap y.order a
                  ∙ i.placed q c
            ];
        sits = λ q e.
            let z = i.counts in
            elim (cases_eq p q) [
              | inl m ↦ (let a = put_same h.place p h.count q m in omega arith)
              | inr m ↦
                  let a = put_other h.place p h.count q m in
                  let b = i.sits q (sym (put_other f p certifying q m) ∙ e) in
                  omega arith
            ];
        fresh = λ q k e n d.
            elim (put_is y.order y.certs (current p) k (current q) d) [
              | inl m ↦ not_p q e (single q (in_young q (young q e)) m.1)
              | inr m ↦ (let z = m.0 in i.fresh q k (young q e) (below k n m.0) m.1)
            ];
        once = λ j k a b e.
            elim (cases_eq y.certs j) [
              | inl m ↦
                  elim (cases_eq y.certs k) [
                    | inl n ↦ sym m ∙ n
                    | inr n ↦
                        absurd
                        (i.fresh p k (inr g) (below k b n)
                        (sym (put_other y.order y.certs (current p) k n) ∙ sym e ∙ put_same y.order y.certs (current p) j m))
                  ]
              | inr m ↦
                  elim (cases_eq y.certs k) [
                    | inl n ↦
                        absurd
                        (i.fresh p j (inr g) (below j a m)
                        (sym (put_other y.order y.certs (current p) j m) ∙ e ∙ put_same y.order y.certs (current p) k n))
                    | inr n ↦
                        i.once j k (below j a m) (below k b n)
                        (sym (put_other y.order y.certs (current p) j m) ∙ e ∙ put_other y.order y.certs (current p) k n)
                  ]
            ];
        known = λ k n. put_when (λ (z : ℕ). z < begun) y.order y.certs (current p) k (λ m. alive) (λ m. i.known k (below k n m));
        opens = λ q e. i.opens q (early q e);
        empty_new = i.empty_new;
        empty_start = λ q e. i.empty_start q (back f p certifying q starting tt e);
        scripts = λ k n.
            elim (cases_eq y.certs k) [
              | inl m ↦
                  ap h.script (sym m ∙ sym i.counts)
                  ∙ blank
                  ∙ sym (cond-false (y.sealed (put y.order y.certs (current p) k)) (y.operations (put y.order y.certs (current p) k)) []
                  (ap y.sealed (put_same y.order y.certs (current p) k m) ∙ i.opens p (inr (inl g))))
              | inr m ↦
                  i.scripts k (below k n m)
                  ∙ ap (λ (z : ℕ). cond (y.sealed z) (y.operations z) []) (sym (put_other y.order y.certs (current p) k m))
            ];
        strict = λ j k n a b e m.
            elim (cases_eq y.certs j) [
              | inl r ↦ absurd (going n (ap ended (sym (put_same y.order y.certs (current p) j r)) ∙ e))
              | inr r ↦
                  let ja = below j a r in
                  elim (cases_eq y.certs k) [
                    | inl s ↦ omega arith
                    | inr s ↦
                        i.strict j k n ja (below k b s) (ap ended (sym (put_other y.order y.certs (current p) j r)) ∙ e)
                        (subst (λ (z : ℕ). n < begun_at z) (put_other y.order y.certs (current p) k s) m)
                  ]
            ];
      }
    where
      below : (k : ℕ) → k < suc y.certs → (y.certs ≡ k → ⊥) → k < y.certs
      below k n m = omega arith

      lives : (q : ℕ) → Live (put f p certifying) q → Live f q
      lives q (inl e) = inl (back f p certifying q running tt e)
      lives q (inr e) =
          elim (cases_eq p q) [ inl m ↦ inl (ap f (sym m) ∙ g) | inr m ↦ inr (sym (put_other f p certifying q m) ∙ e) ]

      young : (q : ℕ) → Young (put f p certifying) q → Young f q
      young q (inl e) = inl (back f p certifying q starting tt e)
      young q (inr e) = inr (back f p certifying q running tt e)

      in_young : (q : ℕ) → Young f q → f q ≡ out → ⊥
      in_young q (inl e) z = differ starting out tt (sym e ∙ z)
      in_young q (inr e) z = differ running out tt (sym e ∙ z)

      not_p : (q : ℕ) → Young (put f p certifying) q → p ≡ q → ⊥
      not_p q (inl e) n = differ certifying starting tt (sym (put_same f p certifying q n) ∙ e)
      not_p q (inr e) n = differ certifying running tt (sym (put_same f p certifying q n) ∙ e)

      early : (q : ℕ) → Early (put f p certifying) q → Early f q
      early q (inl e) = inl (back f p certifying q starting tt e)
      early q (inr e) = inr (lives q e)

  pub link_seal : (p : ℕ) (b : Phase) → T (not (eqb (tag b) 1)) → T (not (eqb (tag b) 2)) → T (not (eqb (tag b) 5)) → f p ≡ certifying → ((q : ℕ) → (f q ≡ out → ⊥) → current p ≡ current q → p ≡ q) → current p < begun
      → Linked (put f p b) current begun begun_at ended
      (record { operations = h.operations; place = h.place; count = h.count; script = put h.script (h.place p) (h.operations p) })
      (record { operations = y.operations; sealed = put y.sealed (current p) true; certs = y.certs; order = y.order })
  link_seal p b nr nc ns g single alive =
      record {
        counts = i.counts;
        same = λ q e. i.same q (lives q e);
        placed = λ q e. i.placed q (certs q e);
        sits = λ q e. i.sits q (certs q e);
        fresh = λ q k e. i.fresh q k (young q e);
        once = i.once;
        known = i.known;
        opens = λ q e.
            put_other y.sealed (current p) true (current q) (λ n. not_p q e (single q (in_early q (early q e)) n)) ∙ i.opens q (early q e);
        empty_new = λ u n.
            let a = i.empty_new u n in
            (put_other y.sealed (current p) true u (λ e. omega arith) ∙ a.0, a.1);
        empty_start = λ q e. i.empty_start q (back f p b q starting ns e);
        scripts = λ k n.
            elim (cases_eq (h.place p) k) [
              | inl m ↦
                  let o : current p ≡ y.order k = sym (i.placed p g) ∙ ap y.order m in
                  put_same h.script (h.place p) (h.operations p) k m
                  ∙ i.same p (inr g)
                  ∙ ap y.operations o
                  ∙ sym (cond-true (put y.sealed (current p) true (y.order k)) (y.operations (y.order k)) [] (put_same y.sealed (current p) true (y.order k) o))
              | inr m ↦
                  put_other h.script (h.place p) (h.operations p) k m
                  ∙ i.scripts k n
                  ∙ ap (λ (z : Bool). cond z (y.operations (y.order k)) [])
                  (sym (put_other y.sealed (current p) true (y.order k) (λ e. m (i.once (h.place p) k (i.sits p g) n (i.placed p g ∙ e)))))
            ];
        strict = i.strict;
      }
    where
      certs : (q : ℕ) → put f p b q ≡ certifying → f q ≡ certifying
      certs q e = back f p b q certifying nc e

      lives : (q : ℕ) → Live (put f p b) q → Live f q
      lives q (inl e) = inl (back f p b q running nr e)
      lives q (inr e) = inr (certs q e)

      young : (q : ℕ) → Young (put f p b) q → Young f q
      young q (inl e) = inl (back f p b q starting ns e)
      young q (inr e) = inr (back f p b q running nr e)

      early : (q : ℕ) → Early (put f p b) q → Early f q
      early q (inl e) = inl (back f p b q starting ns e)
      early q (inr e) = inr (lives q e)

      in_early : (q : ℕ) → Early f q → f q ≡ out → ⊥
      in_early q (inl e) z = differ starting out tt (sym e ∙ z)
      in_early q (inr (inl e)) z = differ running out tt (sym e ∙ z)
      in_early q (inr (inr e)) z = differ certifying out tt (sym e ∙ z)

      not_p : (q : ℕ) → Early (put f p b) q → p ≡ q → ⊥
      not_p q (inl e) n = differ b starting ns (sym (put_same f p b q n) ∙ e)
      not_p q (inr (inl e)) n = differ b running nr (sym (put_same f p b q n) ∙ e)
      not_p q (inr (inr e)) n = differ b certifying nc (sym (put_same f p b q n) ∙ e)

  pub link_end : (p now : ℕ) → ((t : ℕ) → t < begun → begun_at t < now) → Linked f current begun begun_at (put ended (current p) (some now)) h y
  link_end p now begun_at_now =
      record {
        counts = i.counts;
        same = i.same;
        placed = i.placed;
        sits = i.sits;
        fresh = i.fresh;
        once = i.once;
        known = i.known;
        opens = i.opens;
        empty_new = i.empty_new;
        empty_start = i.empty_start;
        scripts = i.scripts;
        strict = λ j k n a b e m.
            elim (put_is ended (current p) (some now) (y.order j) (some n) e) [
              | inl d ↦
                  let z : now ≡ n = (let c = d.1 in cc) in
                  let w = begun_at_now (y.order k) (i.known k b) in
                  absurd (omega arith)
              | inr d ↦ i.strict j k n a b d.1 m
            ];
      }

  -- from places to the list of the committed
  module _ (opening : ℕ → K) where
    pub memory_is : (k : ℕ) → k ≤ y.certs → (x : ℕ) → memory opening y.operations (committed y k) x ≡ alone opening h.script k x
    memory_is zero n x = refl
    memory_is (suc k) n x =
        elim (cases_Bool (y.sealed (y.order k))) [
          | inl b ↦
              ap (λ (l : List ℕ). memory opening y.operations l x) (cond-true (y.sealed (y.order k)) (y.order k ∷ committed y k) (committed y k) b)
              ∙ after_at (y.operations (y.order k)) (memory opening y.operations (committed y k)) (alone opening h.script k) x (memory_is k (omega arith) x)
              ∙ ap (λ (l : List (Operation K)). after (alone opening h.script k) l x)
              (sym (i.scripts k (omega arith) ∙ cond-true (y.sealed (y.order k)) (y.operations (y.order k)) [] b))
          | inr b ↦
              ap (λ (l : List ℕ). memory opening y.operations l x) (cond-false (y.sealed (y.order k)) (y.order k ∷ committed y k) (committed y k) b)
              ∙ memory_is k (omega arith) x
              ∙ ap (λ (l : List (Operation K)). after (alone opening h.script k) l x)
              (sym (i.scripts k (omega arith) ∙ cond-false (y.sealed (y.order k)) (y.operations (y.order k)) [] b))
        ]

    agrees_at : (ds : List (Operation K)) (m n : ℕ → K) → ((x : ℕ) → m x ≡ n x) → Agrees m ds → Agrees n ds
    agrees_at [] m n e a = tt
    agrees_at (got x v ∷ ds) m n e a = (agrees_at ds m n e a.0, sym (after_at ds m n x (e x)) ∙ a.1)
    agrees_at (set x v ∷ ds) m n e a = agrees_at ds m n e a

    pub replays_all : ((k : ℕ) → Agrees (alone opening h.script k) (h.script k)) → (k : ℕ) → k ≤ y.certs
        → Replays opening y.operations (committed y k)
    replays_all a zero n = tt
    replays_all a (suc k) n =
        elim (cases_Bool (y.sealed (y.order k))) [
          | inl b ↦
              subst (Replays opening y.operations) (sym (cond-true (y.sealed (y.order k)) (y.order k ∷ committed y k) (committed y k) b)) (
                replays_all a k (omega arith),
                agrees_at (y.operations (y.order k)) (alone opening h.script k) (memory opening y.operations (committed y k))
                    (λ x. sym (memory_is k (omega arith) x))
                    (subst (Agrees (alone opening h.script k))
                    (i.scripts k (omega arith) ∙ cond-true (y.sealed (y.order k)) (y.operations (y.order k)) [] b) (a k)),
              )
          | inr b ↦
              subst (Replays opening y.operations) (sym (cond-false (y.sealed (y.order k)) (y.order k ∷ committed y k) (committed y k) b))
              (replays_all a k (omega arith))
        ]

  among : (k : ℕ) (u : ℕ) → Among u (committed y k) → (j : ℕ) × (j < k) × (u ≡ y.order j)
  among zero u e = absurd e
  among (suc k) u e =
      elim (cases_Bool (y.sealed (y.order k))) [
        | inl b ↦ first (subst (Among u) (cond-true (y.sealed (y.order k)) (y.order k ∷ committed y k) (committed y k) b) e) (among k u)
        | inr b ↦
            let r = among k u (subst (Among u) (cond-false (y.sealed (y.order k)) (y.order k ∷ committed y k) (committed y k) b) e) in
            (r.0, (let n = r.1 in omega arith), r.2)
      ]
    where
      first : (u ≡ y.order k) ⊎ Among u (committed y k) → (Among u (committed y k) → (j : ℕ) × (j < k) × (u ≡ y.order j))
          → (j : ℕ) × (j < suc k) × (u ≡ y.order j)
      first (inl d) r = (k, omega arith, d)
      first (inr d) r = let z = r d in (z.0, (let n = z.1 in omega arith), z.2)

  pub strict_all : (a : History) → a.begun_at ≡ begun_at → a.ended ≡ ended → (k : ℕ) → k ≤ y.certs → Strict a (committed y k)
  strict_all a eb ee zero n = tt
  strict_all a eb ee (suc k) n =
      elim (cases_Bool (y.sealed (y.order k))) [
        | inl b ↦
            subst (Strict a) (sym (cond-true (y.sealed (y.order k)) (y.order k ∷ committed y k) (committed y k) b))
            (strict_all a eb ee k (omega arith), λ u e d. never u (among k u e) d)
        | inr b ↦
            subst (Strict a) (sym (cond-false (y.sealed (y.order k)) (y.order k ∷ committed y k) (committed y k) b))
            (strict_all a eb ee k (omega arith))
      ]
    where
      never : (u : ℕ) → (j : ℕ) × (j < k) × (u ≡ y.order j) → EndedBefore a (y.order k) u → ⊥
      never u r d =
          let m = r.1 in
          let z : k < r.0 =
          i.strict k r.0 d.0 (omega arith) (omega arith) (sym (ap (λ (f : ℕ → Mark). f (y.order k)) ee) ∙ d.1)
          (subst (λ (f : ℕ → ℕ). d.0 < f (y.order r.0)) eb (subst (λ (w : ℕ). d.0 < a.begun_at w) r.2 d.2))
          in
          omega arith
