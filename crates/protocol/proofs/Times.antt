-- Consistency and times, from event to event.
use Rattle.std.proofs.Common.{◌≡◌, ℕ, suc, ◌<◌, ◌≤◌, Bool, true, ◌⊎◌, List, [], ◌∷◌, sym, refl, ap, ◌∙◌, subst, inl, inr, arith}
use Rattle.std.proofs.lemmas.Bool.{cases_eq}
use Rattle.protocol.specs.Table.{put}
use Rattle.protocol.specs.Protocol.{Phase}
use Rattle.protocol.specs.Protocol.Phase.{out, starting, running, certifying}
use Rattle.protocol.specs.History.{Access, Mark, In, version}
use Rattle.protocol.specs.History.Access.{rd, ov}
use Rattle.protocol.specs.History.Mark.{some}
use Rattle.protocol.proofs.Updates.{put_same, put_other, put_is, put_when}
use Rattle.protocol.proofs.Invariant.{Live, differ, back}
use Rattle.protocol.proofs.Facts.{Even, Newer, Cons, Times}
use Rattle.protocol.proofs.Versions.{replacing, replaced_is}
use Rattle.protocol.proofs.Logs.{rd_j, rd_ov, in_put}

some_n : {m n : ℕ} → some m ≡ some n → m ≡ n
some_n e = cc

-- whether a version of that maker was read before
read_before : (j : ℕ) (l : List Access) → ((y : ℕ) × In (rd y j) l) ⊎ ((y : ℕ) → In (rd y j) l → ⊥)
read_before j [] = inr (λ y e. e)
read_before j (ov x k ∷ l) =
    elim (read_before j l) [ inl h ↦ inl (h.0, inr h.1) | inr h ↦ inr (λ y e. later y h e) ]
  where
    later : (y : ℕ) → ((z : ℕ) → In (rd z j) l → ⊥) → In (rd y j) (ov x k ∷ l) → ⊥
    later y h (inl e) = rd_ov e
    later y h (inr e) = h y e
read_before j (rd x k ∷ l) =
    elim (cases_eq k j) [
      | inl n ↦ inl (x, inl (ap (λ (z : ℕ). rd x z) (sym n)))
      | inr n ↦ elim (read_before j l) [ inl h ↦ inl (h.0, inr h.1) | inr h ↦ inr (λ y e. later n y h e) ]
    ]
  where
    later : (k ≡ j → ⊥) → (y : ℕ) → ((z : ℕ) → In (rd z j) l → ⊥) → In (rd y j) (rd x k ∷ l) → ⊥
    later n y h (inl e) = n (sym (rd_j e))
    later n y h (inr e) = h y e

-- stamps of later seals do not matter
even_back : (stamp_of : ℕ → ℕ) (seals t base : ℕ) (l : List Access) → ((c : Access) → In c l → version c ≤ seals)
    → Even (put stamp_of (suc seals) t) base l → Even stamp_of base l
even_back stamp_of seals t base [] h e = tt
even_back stamp_of seals t base (rd x j ∷ l) h e =
    (even_back stamp_of seals t base l (λ c d. h c (inr d)) e.0, λ n o c d. one_of c (h c (inr d)) (e.1 n o c d))
  where
    one_of : (c : Access) → version c ≤ seals
        → (version c ≡ 0) ⊎ ((version c ≡ j) ⊎ (put stamp_of (suc seals) t (version c) < put stamp_of (suc seals) t j))
        → (version c ≡ 0) ⊎ ((version c ≡ j) ⊎ (stamp_of (version c) < stamp_of j))
    one_of c b (inl a) = inl a
    one_of c b (inr (inl a)) = inr (inl a)
    one_of c b (inr (inr a)) =
        let k : j ≤ seals = h (rd x j) (inl refl) in
        let m = put_other stamp_of (suc seals) t (version c) (λ z. omega arith) in
        let n = put_other stamp_of (suc seals) t j (λ z. omega arith) in
        inr (inr (omega arith))
even_back stamp_of seals t base (ov x j ∷ l) h e = even_back stamp_of seals t base l (λ c d. h c (inr d)) e

module _ (log : ℕ → List Access) (base stamp_of : ℕ → ℕ) (seals : ℕ) (maker : ℕ → ℕ) (over : ℕ → ℕ → Mark)
    (i : Cons log base stamp_of seals maker over) where
  pub cons_ready : (t n : ℕ) → log t ≡ [] → Cons log (put base t n) stamp_of seals maker over
  cons_ready t n e =
      record {
        even = λ u h y v d.
            elim (cases_eq t u) [
              | inl m ↦ absurd (subst (In (rd y v)) (ap log (sym m) ∙ e) d)
              | inr m ↦ i.even u (subst (λ (z : ℕ). Even stamp_of z (log u)) (put_other base t n u m) h) y v d
            ];
        whole = i.whole;
      }

  module _ (t : ℕ) (fresh : (j : ℕ) → 0 < j → j ≤ seals → maker j ≡ t → ⊥) where
    other_log : (l : List Access) (n y v : ℕ) → 0 < n → n ≤ seals → over n y ≡ some v → Newer over (put log t l (maker n)) v
    other_log l n y v a b o =
        subst (λ (z : List Access). Newer over z v) (sym (put_other log t l (maker n) (λ d. fresh n a b (sym d)))) (i.whole n y v a b o)

    pub cons_write : (x j : ℕ) → Cons (put log t (ov x j ∷ log t)) base stamp_of seals maker over
    cons_write x j =
        record {
          even = λ u h y v d z k w r e o m.
              i.even u (less u h) y v (was u y v d) z k w r (was u z k e) o m;
          whole = other_log (ov x j ∷ log t);
        }
      where
        less : (u : ℕ) → Even stamp_of (base u) (put log t (ov x j ∷ log t) u) → Even stamp_of (base u) (log u)
        less u h =
            elim (cases_eq t u) [
              | inl m ↦
                  subst (λ (z : ℕ). Even stamp_of (base u) (log z)) m
                  (subst (Even stamp_of (base u)) (put_same log t (ov x j ∷ log t) u m) h)
              | inr m ↦ subst (Even stamp_of (base u)) (put_other log t (ov x j ∷ log t) u m) h
            ]

        was : (u y v : ℕ) → In (rd y v) (put log t (ov x j ∷ log t) u) → In (rd y v) (log u)
        was u y v d = elim (in_put log t (ov x j) u (rd y v) d) [ inl e ↦ absurd (rd_ov e.1) | inr e ↦ e ]

    pub cons_answer : (x j since : ℕ)
        → ((base t < j → (c : Access) → In c (log t) → (version c ≡ 0) ⊎ ((version c ≡ j) ⊎ (stamp_of (version c) < stamp_of j)))
        → Newer over (log t) j)
        → ((y k u r : ℕ) → rd y k ≡ rd x j → over u y ≡ some r → k < u → since < u)
        → ((c : Access) → In c (log t) → version c ≤ since) → j ≤ since
        → Cons (put log t (rd x j ∷ log t)) base stamp_of seals maker over
    cons_answer x j since new last within b =
        record {
          even = λ u h y v d.
              elim (cases_eq t u) [
                | inl m ↦
                    subst (λ (z : List Access). Newer over z v) (sym (put_same log t (rd x j ∷ log t) u m))
                    (all (subst (λ (z : ℕ). Even stamp_of (base z) (rd x j ∷ log t)) (sym m)
                    (subst (Even stamp_of (base u)) (put_same log t (rd x j ∷ log t) u m) h))
                    y v (subst (In (rd y v)) (put_same log t (rd x j ∷ log t) u m) d))
                | inr m ↦
                    subst (λ (z : List Access). Newer over z v) (sym (put_other log t (rd x j ∷ log t) u m))
                    (i.even u (subst (Even stamp_of (base u)) (put_other log t (rd x j ∷ log t) u m) h) y v
                    (subst (In (rd y v)) (put_other log t (rd x j ∷ log t) u m) d))
              ];
          whole = other_log (rd x j ∷ log t);
        }
      where
        bounds : (y v : ℕ) → In (rd y v) (rd x j ∷ log t) → v ≤ since
        bounds y v (inl e) = let a : v ≡ j = rd_j e in omega arith
        bounds y v (inr e) = within (rd y v) e

        all : Even stamp_of (base t) (rd x j ∷ log t) → (y v : ℕ) → In (rd y v) (rd x j ∷ log t) → Newer over (rd x j ∷ log t) v
        all h y v d z k u r (inl e) o m = let a = last z k u r e o m in let c = bounds y v d in omega arith
        all h y v (inl d) z k u r (inr e) o m =
            let c : v ≡ j = rd_j d in
            elim (read_before j (log t)) [
              | inl w ↦ (let a = i.even t h.0 w.0 j w.1 z k u r e o m in omega arith)
              | inr w ↦ (let a = new (λ n. h.1 n w) z k u r e o m in omega arith)
            ]
        all h y v (inr d) z k u r (inr e) o m = i.even t h.0 y v d z k u r e o m

  pub cons_seal : (m t since : ℕ) (w : ℕ → Bool) (latest : ℕ → ℕ) → ((t : ℕ) (c : Access) → In c (log t) → version c ≤ seals)
      → ((x : ℕ) → latest x ≤ seals) → ((n x v : ℕ) → over n x ≡ some v → (v < n) × (n ≤ latest x))
      → ((x j u k : ℕ) → In (rd x j) (log m) → over u x ≡ some k → j < u → since < u) → ((x : ℕ) → w x ≡ true → latest x ≤ since)
      → Cons log base (put stamp_of (suc seals) t) (suc seals) (put maker (suc seals) m) (replacing over (suc seals) w latest)
  cons_seal m t since w latest bound newest replaced passed fixed =
      record {
        even = λ u h y v d x j r k e o n.
            elim (replaced_is over (suc seals) w latest r x k o) [
              | inl a ↦ (let b = bound u (rd y v) d in let c : suc seals ≡ r = a.0 in omega arith)
              | inr a ↦ i.even u (even_back stamp_of seals t (base u) (log u) (bound u) h) y v d x j r k e a.1 n
            ];
        whole = λ n y v a b o x j r k e p c.
            elim (replaced_is over (suc seals) w latest n y v o) [
              | inl d ↦
                  let z : suc seals ≡ n = d.0 in
                  let l : latest y ≡ v = d.2 in
                  let f = newest y in
                  let q = fixed y d.1 in
                  elim (replaced_is over (suc seals) w latest r x k p) [
                    | inl g ↦ (let z' : suc seals ≡ r = g.0 in omega arith)
                    | inr g ↦
                        let s =
                        passed x j r k (subst (λ (z : ℕ). In (rd x j) (log z)) (put_same maker (suc seals) m n d.0) e) g.1 c
                        in
                        omega arith
                  ]
              | inr d ↦
                  let s = replaced n y v d.1 in
                  let f = newest y in
                  elim (replaced_is over (suc seals) w latest r x k p) [
                    | inl g ↦ (let z' : suc seals ≡ r = g.0 in omega arith)
                    | inr g ↦
                        i.whole n y v a (omega arith) d.1 x j r k
                        (subst (λ (z : ℕ). In (rd x j) (log z)) (put_other maker (suc seals) m n d.0) e) g.1 c
                  ]
            ];
      }

module _ (f : ℕ → Phase) (current : ℕ → ℕ) (begun : ℕ) (log : ℕ → List Access) (begun_at : ℕ → ℕ) (ended : ℕ → Mark) (now : ℕ)
    (base : ℕ → ℕ) (seals : ℕ) (maker dawn dusk : ℕ → ℕ)
    (i : Times f current begun log begun_at ended now base seals maker dawn dusk) where
  pub times_tick : Times f current begun log begun_at ended (suc now) base seals maker dawn dusk
  times_tick =
      record {
        dawned = i.dawned;
        dusked = i.dusked;
        begun_at_now = λ t h. let a = i.begun_at_now t h in omega arith;
        ended_now = λ t n h. let a = i.ended_now t n h in omega arith;
        ordered = i.ordered;
        seal_dawn = i.seal_dawn;
        seal_dusk = i.seal_dusk;
        read_dusk = i.read_dusk;
        lasted = i.lasted;
        read_dawn = i.read_dawn;
        live_dawn = i.live_dawn;
        going = i.going;
        unborn = i.unborn;
      }

  -- p comes into another phase and stays open
  pub times_turn : (p : ℕ) (b : Phase) → (f p ≡ out → ⊥) → (Live (λ r. b) p → Live f p)
      → Times (put f p b) current begun log begun_at ended now base seals maker dawn dusk
  times_turn p b n k =
      record {
        dawned = i.dawned;
        dusked = i.dusked;
        begun_at_now = i.begun_at_now;
        ended_now = i.ended_now;
        ordered = i.ordered;
        seal_dawn = i.seal_dawn;
        seal_dusk = i.seal_dusk;
        read_dusk = i.read_dusk;
        lasted = i.lasted;
        read_dawn = i.read_dawn;
        live_dawn = λ q e. i.live_dawn q (was q e);
        going = λ q m e. i.going q m (inside q e);
        unborn = i.unborn;
      }
    where
      was : (q : ℕ) → Live (put f p b) q → Live f q
      was q e = elim (cases_eq p q) [ inl d ↦ subst (Live f) d (k (mine d e)) | inr d ↦ other d e ]
        where
          mine : p ≡ q → Live (put f p b) q → Live (λ r. b) p
          mine d (inl h) = inl (sym (put_same f p b q d) ∙ h)
          mine d (inr h) = inr (sym (put_same f p b q d) ∙ h)

          other : (p ≡ q → ⊥) → Live (put f p b) q → Live f q
          other d (inl h) = inl (sym (put_other f p b q d) ∙ h)
          other d (inr h) = inr (sym (put_other f p b q d) ∙ h)

      inside : (q : ℕ) → (put f p b q ≡ out → ⊥) → f q ≡ out → ⊥
      inside q m e = elim (cases_eq p q) [ inl d ↦ n (ap f d ∙ e) | inr d ↦ m (put_other f p b q d ∙ e) ]

  pub times_ready : (p : ℕ) → f p ≡ starting → log (current p) ≡ []
      → Times (put f p running) current begun log begun_at ended now (put base (current p) seals) seals maker dawn dusk
  times_ready p g e =
      record {
        dawned = i.dawned;
        dusked = i.dusked;
        begun_at_now = i.begun_at_now;
        ended_now = i.ended_now;
        ordered = i.ordered;
        seal_dawn = i.seal_dawn;
        seal_dusk = i.seal_dusk;
        read_dusk = i.read_dusk;
        lasted = i.lasted;
        read_dawn = λ t c d.
            put_when (λ (z : ℕ). dawn t ≤ z) base (current p) seals t (λ n. i.dawned t) (λ n. i.read_dawn t c d);
        live_dawn = λ q l.
            elim (cases_eq (current p) (current q)) [
              | inl n ↦ (let a = put_same base (current p) seals (current q) n in let b = i.dawned (current q) in omega arith)
              | inr n ↦
                  let a = put_other base (current p) seals (current q) n in
                  let b = i.live_dawn q (other q (λ d. n (ap current d)) l) in
                  omega arith
            ];
        going = λ q m h. i.going q m (inside q h);
        unborn = i.unborn;
      }
    where
      other : (q : ℕ) → (p ≡ q → ⊥) → Live (put f p running) q → Live f q
      other q d (inl h) = inl (sym (put_other f p running q d) ∙ h)
      other q d (inr h) = inr (sym (put_other f p running q d) ∙ h)

      inside : (q : ℕ) → (put f p running q ≡ out → ⊥) → f q ≡ out → ⊥
      inside q m h =
          elim (cases_eq p q)
          [ inl d ↦ differ starting out tt (sym g ∙ ap f d ∙ h) | inr d ↦ m (put_other f p running q d ∙ h) ]

  pub times_log : (p : ℕ) (c : Access) → f p ≡ running → Times f current begun (put log (current p) (c ∷ log (current p))) begun_at ended now base seals maker dawn dusk
  times_log p c g =
      record {
        dawned = i.dawned;
        dusked = i.dusked;
        begun_at_now = i.begun_at_now;
        ended_now = i.ended_now;
        ordered = i.ordered;
        seal_dawn = i.seal_dawn;
        seal_dusk = i.seal_dusk;
        read_dusk = λ t n d e h.
            elim (in_put log (current p) c t d h)
            [ inl a ↦ absurd (i.going p n (λ b. differ running out tt (sym g ∙ b)) (ap ended a.0 ∙ e)) | inr a ↦ i.read_dusk t n d e a ];
        lasted = i.lasted;
        read_dawn = λ t d h.
            elim (in_put log (current p) c t d h)
            [ inl a ↦ subst (λ (z : ℕ). dawn z ≤ base z) a.0 (i.live_dawn p (inl g)) | inr a ↦ i.read_dawn t d a ];
        live_dawn = i.live_dawn;
        going = i.going;
        unborn = i.unborn;
      }

  pub times_begin : (p : ℕ) → f p ≡ out → ((j : ℕ) → 0 < j → j ≤ seals → maker j < begun) → log begun ≡ []
      → ((q : ℕ) → (f q ≡ out → ⊥) → current q < begun)
      → Times (put f p starting) (put current p begun) (suc begun) log (put begun_at begun now) ended (suc now) base seals maker
      (put dawn begun seals) dusk
  times_begin p g made blank alive =
      record {
        dawned = λ t. put_when (λ (z : ℕ). z ≤ seals) dawn begun seals t (λ n. omega arith) (λ n. i.dawned t);
        dusked = i.dusked;
        begun_at_now = λ t h.
            put_when (λ (z : ℕ). z < suc now) begun_at begun now t (λ n. omega arith) (λ n. let a = i.begun_at_now t (omega arith) in omega arith);
        ended_now = λ t n h. let a = i.ended_now t n h in omega arith;
        ordered = λ t u n h e b.
            elim (cases_eq begun t) [
              | inl m ↦ (let a = put_same dawn begun seals t m in let c = i.dusked u in omega arith)
              | inr m ↦
                  let a = put_other dawn begun seals t m in
                  let c = put_other begun_at begun now t m in
                  let d = i.ordered t u n (omega arith) e (omega arith) in
                  omega arith
            ];
        seal_dawn = λ j a b.
            let c = made j a b in
            let d = put_other dawn begun seals (maker j) (λ n. omega arith) in
            let e = i.seal_dawn j a b in
            omega arith;
        seal_dusk = i.seal_dusk;
        read_dusk = i.read_dusk;
        lasted = λ t n h.
            elim (cases_eq begun t) [
              | inl m ↦ absurd (i.unborn t n (omega arith) h)
              | inr m ↦ (let a = put_other dawn begun seals t m in let c = i.lasted t n h in omega arith)
            ];
        read_dawn = λ t c h.
            elim (cases_eq begun t) [
              | inl m ↦ absurd (subst (In c) (ap log (sym m) ∙ blank) h)
              | inr m ↦ (let a = put_other dawn begun seals t m in let d = i.read_dawn t c h in omega arith)
            ];
        live_dawn = λ q l.
            let n = other q l in
            let a : put current p begun q ≡ current q = put_other current p begun q n in
            let c = alive q (inside q (was q l)) in
            let d : put dawn begun seals (current q) ≡ dawn (current q) = put_other dawn begun seals (current q) (λ m. omega arith) in
            let e = i.live_dawn q (was q l) in
            subst (λ (z : ℕ). put dawn begun seals z ≤ base z) (sym a) (omega arith);
        going = λ q n m h.
            elim (cases_eq p q) [
              | inl d ↦ i.unborn begun n (omega arith) (ap ended (sym (put_same current p begun q d)) ∙ h)
              | inr d ↦ i.going q n (λ e. m (put_other f p starting q d ∙ e)) (ap ended (sym (put_other current p begun q d)) ∙ h)
            ];
        unborn = λ t n h. i.unborn t n (omega arith);
      }
    where
      other : (q : ℕ) → Live (put f p starting) q → p ≡ q → ⊥
      other q (inl h) n = differ starting running tt (sym (put_same f p starting q n) ∙ h)
      other q (inr h) n = differ starting certifying tt (sym (put_same f p starting q n) ∙ h)

      was : (q : ℕ) → Live (put f p starting) q → Live f q
      was q (inl h) = inl (back f p starting q running tt h)
      was q (inr h) = inr (back f p starting q certifying tt h)

      inside : (q : ℕ) → Live f q → f q ≡ out → ⊥
      inside q (inl h) e = differ running out tt (sym h ∙ e)
      inside q (inr h) e = differ certifying out tt (sym h ∙ e)

  pub times_seal : (p : ℕ) → (f p ≡ out → ⊥) → Times f current begun log begun_at ended now base (suc seals) (put maker (suc seals) (current p)) dawn dusk
  times_seal p g =
      record {
        dawned = λ t. let a = i.dawned t in omega arith;
        dusked = λ t. let a = i.dusked t in omega arith;
        begun_at_now = i.begun_at_now;
        ended_now = i.ended_now;
        ordered = i.ordered;
        seal_dawn = λ j a b.
            elim (cases_eq (suc seals) j) [
              | inl n ↦ subst (λ (z : ℕ). dawn z < j) (sym (put_same maker (suc seals) (current p) j n)) (let c = i.dawned (current p) in omega arith)
              | inr n ↦ subst (λ (z : ℕ). dawn z < j) (sym (put_other maker (suc seals) (current p) j n)) (i.seal_dawn j a (omega arith))
            ];
        seal_dusk = λ j n a b h.
            elim (cases_eq (suc seals) j) [
              | inl m ↦ absurd (i.going p n g (ap ended (sym (put_same maker (suc seals) (current p) j m)) ∙ h))
              | inr m ↦
                  subst (λ (z : ℕ). j ≤ dusk z) (sym (put_other maker (suc seals) (current p) j m))
                  (i.seal_dusk j n a (omega arith) (ap ended (sym (put_other maker (suc seals) (current p) j m)) ∙ h))
            ];
        read_dusk = i.read_dusk;
        lasted = i.lasted;
        read_dawn = i.read_dawn;
        live_dawn = i.live_dawn;
        going = i.going;
        unborn = i.unborn;
      }

  pub times_end : (p : ℕ) → (f p ≡ out → ⊥) → ((t : ℕ) (c : Access) → In c (log t) → version c ≤ seals)
      → ((q : ℕ) → (f q ≡ out → ⊥) → current p ≡ current q → p ≡ q) → current p < begun
      → Times (put f p out) current begun log begun_at (put ended (current p) (some now)) (suc now) base seals maker dawn (put dusk (current p) seals)
  times_end p g bound single alive =
      record {
        dawned = i.dawned;
        dusked = λ t. put_when (λ (z : ℕ). z ≤ seals) dusk (current p) seals t (λ n. omega arith) (λ n. i.dusked t);
        begun_at_now = λ t h. let a = i.begun_at_now t h in omega arith;
        ended_now = λ t n h.
            elim (put_is ended (current p) (some now) t (some n) h)
            [ inl d ↦ (let a = some_n d.1 in omega arith) | inr d ↦ (let a = i.ended_now t n d.1 in omega arith) ];
        ordered = λ t u n h e b.
            elim (put_is ended (current p) (some now) u (some n) e) [
              | inl d ↦ (let a = some_n d.1 in let c = i.begun_at_now t h in absurd (omega arith))
              | inr d ↦
                  let a = put_other dusk (current p) seals u d.0 in
                  let c = i.ordered t u n h d.1 b in
                  omega arith
            ];
        seal_dawn = i.seal_dawn;
        seal_dusk = λ j n a b h.
            put_when (λ (z : ℕ). j ≤ z) dusk (current p) seals (maker j) (λ m. b)
            (λ m. i.seal_dusk j n a b (sym (put_other ended (current p) (some now) (maker j) m) ∙ h));
        read_dusk = λ t n c h e.
            put_when (λ (z : ℕ). version c ≤ z) dusk (current p) seals t (λ m. bound t c e)
            (λ m. i.read_dusk t n c (sym (put_other ended (current p) (some now) t m) ∙ h) e);
        lasted = λ t n h.
            put_when (λ (z : ℕ). dawn t ≤ z) dusk (current p) seals t (λ m. i.dawned t)
            (λ m. i.lasted t n (sym (put_other ended (current p) (some now) t m) ∙ h));
        read_dawn = i.read_dawn;
        live_dawn = λ q l. i.live_dawn q (was q l);
        going = λ q n m h.
            let d : p ≡ q → ⊥ = λ d. m (put_same f p out q d) in
            let o : f q ≡ out → ⊥ = λ e. m (put_other f p out q d ∙ e) in
            i.going q n o (sym (put_other ended (current p) (some now) (current q) (λ e. d (single q o e))) ∙ h);
        unborn = λ t n h e.
            i.unborn t n h (sym (put_other ended (current p) (some now) t (λ m. omega arith)) ∙ e);
      }
    where
      was : (q : ℕ) → Live (put f p out) q → Live f q
      was q (inl h) = inl (back f p out q running tt h)
      was q (inr h) = inr (back f p out q certifying tt h)
