-- A process, from event to event.
use Rattle.std.proofs.Common.{◌≡◌, ℕ, suc, ◌<◌, ◌≤◌, Bool, true, false, ◌⊎◌, List, [], ◌∷◌, sym, refl, ap, ◌∙◌, inl, inr, arith}
use Rattle.std.proofs.lemmas.Bool.{cases_eq, cases_lt, false≢true}
use Rattle.protocol.specs.Table.{put}
use Rattle.protocol.specs.Protocol.Seen.{unseen, saw}
use Rattle.protocol.specs.Protocol.Hand.{empty, full}
use Rattle.protocol.specs.History.{Access, Mark, In, version}
use Rattle.protocol.specs.History.Access.{rd, ov}
use Rattle.protocol.specs.History.Mark.{some}
use Rattle.protocol.proofs.Updates.{put_same, put_other, put_when}
use Rattle.protocol.proofs.Invariant.{unfull}
use Rattle.protocol.proofs.Facts.{Row, Met, Newer, Proc}
use Rattle.protocol.proofs.Versions.{replacing, replaced_is}
use Rattle.protocol.proofs.Logs.{rd_x, rd_j, rd_ov}

-- a hand tells what it holds
full_x : {K : Type 0} {x y t u : ℕ} {v w : K} → full x t v ≡ full y u w → x ≡ y
full_x e = cc

full_t : {K : Type 0} {x y t u : ℕ} {v w : K} → full x t v ≡ full y u w → t ≡ u
full_t e = cc

module _ {K : Type 0} where
  -- the rows that events leave
  abbrev pub row_ready : (ℕ → Bool) → ℕ → ℕ → ℕ → Row K
  row_ready passed c seals fetched =
      record {
        seen = λ y. unseen;
        passed = passed;
        hand = empty;
        clock = c;
        need = 0;
        log = [];
        base = seals;
        since = seals;
        target = 0;
        start = c;
        fetched = fetched;
      }

  abbrev pub row_look : Row K → ℕ → ℕ → K → ℕ → ℕ → Row K
  row_look r x t v seals j =
      record {
        seen = r.seen;
        passed = λ y. false;
        hand = full x t v;
        clock = r.clock;
        need = t;
        log = r.log;
        base = r.base;
        since = seals;
        target = j;
        start = r.start;
        fetched = j;
      }

  abbrev pub row_check : Row K → ℕ → Row K
  row_check r x =
      record {
        seen = r.seen;
        passed = put r.passed x true;
        hand = r.hand;
        clock = r.clock;
        need = r.need;
        log = r.log;
        base = r.base;
        since = r.since;
        target = r.target;
        start = r.start;
        fetched = r.fetched;
      }

  abbrev pub row_extend : Row K → Row K
  row_extend r =
      record {
        seen = r.seen;
        passed = r.passed;
        hand = r.hand;
        clock = r.need;
        need = r.need;
        log = r.log;
        base = r.base;
        since = r.since;
        target = r.target;
        start = r.start;
        fetched = r.fetched;
      }

  abbrev pub row_answer : Row K → ℕ → ℕ → K → Row K
  row_answer r x t v =
      record {
        seen = put r.seen x (saw t v);
        passed = r.passed;
        hand = empty;
        clock = r.clock;
        need = r.need;
        log = rd x r.fetched ∷ r.log;
        base = r.base;
        since = r.since;
        target = r.target;
        start = r.start;
        fetched = r.fetched;
      }

  abbrev pub row_write : Row K → ℕ → ℕ → ℕ → ℕ → Row K
  row_write r x t seals j =
      record {
        seen = r.seen;
        passed = λ y. false;
        hand = r.hand;
        clock = r.clock;
        need = t;
        log = ov x j ∷ r.log;
        base = r.base;
        since = seals;
        target = j;
        start = r.start;
        fetched = r.fetched;
      }

  abbrev pub row_certify : Row K → ℕ → Row K
  row_certify r seals =
      record {
        seen = r.seen;
        passed = λ y. false;
        hand = r.hand;
        clock = r.clock;
        need = r.need;
        log = r.log;
        base = r.base;
        since = seals;
        target = r.target;
        start = r.start;
        fetched = r.fetched;
      }

  module _ (P : ℕ) (bank stamp stored : ℕ → ℕ) (over : ℕ → ℕ → Mark) (stamp_of : ℕ → ℕ) (seals : ℕ) where
    pub proc_ready : (passed : ℕ → Bool) (c fetched : ℕ) → stamp_of 0 ≡ 0 → ((q : ℕ) → q < P → c ≤ bank q)
        → Proc P bank stamp stored over stamp_of seals (row_ready passed c seals fetched)
    proc_ready passed c fetched z b =
        record {
          sees = λ x j e. absurd e;
          takes = λ x t v e. absurd (unfull empty x t v refl e);
          needs = sym z;
          low = omega arith;
          mid = omega arith;
          high = omega arith;
          hand_newer = λ x t v u k e. absurd (unfull empty x t v refl e);
          within = λ d e. absurd e;
          pass_newer = λ x j u k b e. absurd e;
          clocked = inl (omega arith);
          aimed = λ e. inl refl;
          ahead = λ j m n. absurd (omega arith);
          reached = λ y k e. absurd e;
          banked = b;
        }

    module _ (r : Row K) (i : Proc P bank stamp stored over stamp_of seals r) where
      pub proc_move : (b : ℕ → ℕ) → ((q : ℕ) → bank q ≤ b q) → Proc P b stamp stored over stamp_of seals r
      proc_move b h =
          record {
            sees = i.sees;
            takes = i.takes;
            needs = i.needs;
            low = i.low;
            mid = i.mid;
            high = i.high;
            hand_newer = i.hand_newer;
            within = i.within;
            pass_newer = i.pass_newer;
            clocked = i.clocked;
            aimed = i.aimed;
            ahead = i.ahead;
            reached = i.reached;
            banked = λ q n. let a = i.banked q n in let c = h q in omega arith;
          }

      -- an object gets a later version
      dates : (x t k : ℕ) → stamp x < t → (y u j : ℕ) → (u < stamp y) ⊎ ((u ≡ stamp y) × (stored y ≡ j))
          → (u < put stamp x t y) ⊎ ((u ≡ put stamp x t y) × (put stored x k y ≡ j))
      dates x t k h y u j d =
          elim (cases_eq x y) [
            | inl n ↦
                let a = put_same stamp x t y n in
                let b : stamp x ≡ stamp y = ap stamp n in
                inl (elim d [ inl e ↦ omega arith | inr e ↦ (let f = e.0 in omega arith) ])
            | inr n ↦
                let a = put_other stamp x t y n in
                elim d [ inl e ↦ inl (omega arith) | inr e ↦ inr (e.0 ∙ sym a, put_other stored x k y n ∙ e.1) ]
          ]

      pub proc_store : (x t k : ℕ) → stamp x < t → Proc P bank (put stamp x t) (put stored x k) over stamp_of seals r
      proc_store x t k h =
          record {
            sees = λ y j e. let d = i.sees y j e in (d.0, d.1, d.2, dates x t k h y d.0 j d.3);
            takes = λ y u v e. let d = i.takes y u v e in (d.0, d.1, dates x t k h y u r.target d.2);
            needs = i.needs;
            low = i.low;
            mid = i.mid;
            high = i.high;
            hand_newer = i.hand_newer;
            within = i.within;
            pass_newer = i.pass_newer;
            clocked = i.clocked;
            aimed = i.aimed;
            ahead = i.ahead;
            reached = i.reached;
            banked = i.banked;
          }

      pub proc_seal : (t : ℕ) (w : ℕ → Bool) (latest : ℕ → ℕ) → r.start < t
          → Proc P bank stamp stored (replacing over (suc seals) w latest) (put stamp_of (suc seals) t) (suc seals) r
      proc_seal t w latest h =
          record {
            sees = i.sees;
            takes = i.takes;
            needs = i.needs ∙ sym (kept r.target (let a = i.high in let b = i.mid in omega arith));
            low = i.low;
            mid = let a = i.mid in omega arith;
            high = i.high;
            hand_newer = λ x u v n k e o m.
                elim (replaced_is over (suc seals) w latest n x k o) [
                  | inl d ↦ (let a = i.mid in let b : suc seals ≡ n = d.0 in omega arith)
                  | inr d ↦ i.hand_newer x u v n k e d.1 m
                ];
            within = i.within;
            pass_newer = λ x j n k b e o m.
                elim (replaced_is over (suc seals) w latest n x k o) [
                  | inl d ↦ (let a = i.mid in let b : suc seals ≡ n = d.0 in omega arith)
                  | inr d ↦ i.pass_newer x j n k b e d.1 m
                ];
            clocked =
                elim i.clocked [
                  | inl a ↦ inl a
                  | inr a ↦
                      let b : a.0 ≤ seals = few a.0 a.2 in
                      inr (
                        a.0,
                        a.1 ∙ sym (kept a.0 b),
                        a.2,
                        λ x j n k e o m.
                            elim (replaced_is over (suc seals) w latest n x k o)
                            [ inl d ↦ (let c : suc seals ≡ n = d.0 in omega arith) | inr d ↦ a.3 x j n k e d.1 m ],
                      )
                ];
            aimed = i.aimed;
            ahead = λ j a b.
                put_when (λ (z : ℕ). r.start < z) stamp_of (suc seals) t j (λ n. h) (λ n. i.ahead j a (omega arith));
            reached = λ y k e.
                let a = i.within (rd y k) e in
                let b = i.mid in
                let c = kept k (omega arith) in
                let d = i.reached y k e in
                omega arith;
            banked = i.banked;
          }
        where
          kept : (k : ℕ) → k ≤ seals → put stamp_of (suc seals) t k ≡ stamp_of k
          kept k e = put_other stamp_of (suc seals) t k (λ d. omega arith)

          few : (n : ℕ) → (n ≡ 0) ⊎ (Met n r.log ⊎ (n ≡ r.target)) → n ≤ seals
          few n (inl e) = omega arith
          few n (inr (inl e)) = let a = i.within e.0 e.1 in let b = i.mid in let c = e.2 in omega arith
          few n (inr (inr e)) = let a = i.high in let b = i.mid in omega arith

      -- the version of its clock, when the process turns to another
      turned : r.hand ≡ empty → (w j : ℕ) (l : List Access) → ((c : Access) → In c r.log → In c l) → (w ≡ 0) ⊎ (Met w r.log ⊎ (w ≡ r.target))
          → (w ≡ 0) ⊎ (Met w l ⊎ (w ≡ j))
      turned h w j l k (inl e) = inl e
      turned h w j l k (inr (inl e)) = inr (inl (e.0, k e.0 e.1, e.2))
      turned h w j l k (inr (inr e)) =
          elim (i.aimed h) [ inl a ↦ inl (e ∙ a) | inr a ↦ inr (inl (a.0, k a.0 a.1, a.2 ∙ sym e)) ]

      pub proc_look : (x : ℕ) (v : K) → r.hand ≡ empty → ((u k : ℕ) → over u x ≡ some k → u ≤ stored x) → stamp x ≡ stamp_of (stored x)
          → stored x ≤ seals → Proc P bank stamp stored over stamp_of seals (row_look r x (stamp x) v seals (stored x))
      proc_look x v h last z b =
          record {
            sees = i.sees;
            takes = λ y t w e.
                let a = full_x e in
                let c = full_t e in
                (sym c, refl, inr (sym c ∙ ap stamp a, ap stored (sym a)));
            needs = z;
            low = let a = i.low in let c = i.mid in omega arith;
            mid = omega arith;
            high = b;
            hand_newer = λ y t w u k e o m. let a = last u k (ap (over u) (full_x e) ∙ o) in absurd (omega arith);
            within = λ c e. let a = i.within c e in let d = i.mid in omega arith;
            pass_newer = λ y j u k e. absurd (false≢true e);
            clocked =
                elim i.clocked
                [ inl a ↦ inl a | inr a ↦ inr (a.0, a.1, turned h a.0 (stored x) r.log (λ c e. e) a.2, a.3) ];
            aimed = λ e. absurd (unfull empty x (stamp x) v refl (sym e));
            ahead = i.ahead;
            reached = i.reached;
            banked = i.banked;
          }

      pub proc_write : (x : ℕ) → r.hand ≡ empty → stamp x ≡ stamp_of (stored x) → stored x ≤ seals
          → Proc P bank stamp stored over stamp_of seals (row_write r x (stamp x) seals (stored x))
      proc_write x h z b =
          record {
            sees = λ y j e. i.sees y j (still y j e);
            takes = λ y t w e. absurd (unfull r.hand y t w h e);
            needs = z;
            low = let a = i.low in let c = i.mid in omega arith;
            mid = omega arith;
            high = b;
            hand_newer = λ y t w u k e. absurd (unfull r.hand y t w h e);
            within = λ c e. inside c e;
            pass_newer = λ y j u k e. absurd (false≢true e);
            clocked =
                elim i.clocked [
                  | inl a ↦ inl a
                  | inr a ↦
                      inr (
                        a.0,
                        a.1,
                        turned h a.0 (stored x) (ov x (stored x) ∷ r.log) (λ c e. inr e) a.2,
                        λ y j u k e o m. a.3 y j u k (still y j e) o m,
                      )
                ];
            aimed = λ e. inr (ov x (stored x), inl refl, refl);
            ahead = i.ahead;
            reached = λ y k e. i.reached y k (still y k e);
            banked = i.banked;
          }
        where
          still : (y j : ℕ) → In (rd y j) (ov x (stored x) ∷ r.log) → In (rd y j) r.log
          still y j (inl e) = absurd (rd_ov e)
          still y j (inr e) = e

          inside : (c : Access) → In c (ov x (stored x) ∷ r.log) → version c ≤ seals
          inside c (inl e) = let a : version c ≡ stored x = ap version e in omega arith
          inside c (inr e) = let a = i.within c e in let d = i.mid in omega arith

      pub proc_certify : r.hand ≡ empty → Proc P bank stamp stored over stamp_of seals (row_certify r seals)
      proc_certify h =
          record {
            sees = i.sees;
            takes = i.takes;
            needs = i.needs;
            low = let a = i.low in let c = i.mid in omega arith;
            mid = omega arith;
            high = let a = i.high in let c = i.mid in omega arith;
            hand_newer = λ y t w u k e. absurd (unfull r.hand y t w h e);
            within = λ c e. let a = i.within c e in let d = i.mid in omega arith;
            pass_newer = λ y j u k e. absurd (false≢true e);
            clocked = i.clocked;
            aimed = i.aimed;
            ahead = i.ahead;
            reached = i.reached;
            banked = i.banked;
          }

      pub proc_check : (x : ℕ) → ((t : ℕ) (w : K) → r.seen x ≡ saw t w → t ≡ stamp x) → ((u k : ℕ) → over u x ≡ some k → u ≤ stored x)
          → Proc P bank stamp stored over stamp_of seals (row_check r x)
      proc_check x same last =
          record {
            sees = i.sees;
            takes = i.takes;
            needs = i.needs;
            low = i.low;
            mid = i.mid;
            high = i.high;
            hand_newer = i.hand_newer;
            within = i.within;
            pass_newer = λ y j u k b e o m.
                elim (cases_eq x y) [
                  | inl n ↦ absurd (no y j u k n e o m (i.sees y j e))
                  | inr n ↦ i.pass_newer y j u k (sym (put_other r.passed x true y n) ∙ b) e o m
                ];
            clocked = i.clocked;
            aimed = i.aimed;
            ahead = i.ahead;
            reached = i.reached;
            banked = i.banked;
          }
        where
          no : (y j u k : ℕ) → x ≡ y → In (rd y j) r.log → over u y ≡ some k → j < u
              → (t : ℕ) × (w : K) × (r.seen y ≡ saw t w) × ((t < stamp y) ⊎ ((t ≡ stamp y) × (stored y ≡ j))) → ⊥
          no y j u k n e o m d =
              let a : d.0 ≡ stamp x = same d.0 d.1 (ap r.seen n ∙ d.2) in
              let b : stamp x ≡ stamp y = ap stamp n in
              let c : stored x ≡ stored y = ap stored n in
              let l = last u k (ap (over u) n ∙ o) in
              elim d.3 [ inl f ↦ omega arith | inr f ↦ (let z = f.1 in omega arith) ]

      pub proc_extend : r.clock < r.need → ((x t : ℕ) (w : K) → r.seen x ≡ saw t w → r.passed x ≡ true)
          → Proc P bank stamp stored over stamp_of seals (row_extend r)
      proc_extend h all =
          record {
            sees = i.sees;
            takes = i.takes;
            needs = i.needs;
            low = i.low;
            mid = i.mid;
            high = i.high;
            hand_newer = i.hand_newer;
            within = i.within;
            pass_newer = i.pass_newer;
            clocked =
                inr (
                  r.target,
                  i.needs,
                  inr (inr refl),
                  λ x j u k e o m.
                      let d = i.sees x j e in
                      let a = i.pass_newer x j u k (all x d.0 d.1 d.2) e o m in
                      let b = i.high in
                      omega arith,
                );
            aimed = i.aimed;
            ahead = i.ahead;
            reached = λ y k e. let a = i.reached y k e in omega arith;
            banked = i.banked;
          }

      module _ (x t : ℕ) (v : K) (h : r.hand ≡ full x t v) (b : r.need ≤ r.clock)
          (same : (u : ℕ) (w : K) → r.seen x ≡ saw u w → u ≡ t) where
        pub aim : r.fetched ≡ r.target
        aim = (i.takes x t v h).1

        -- a version that replaced the one just read is newer than all before
        pub new_newer : (y j u k : ℕ) → rd y j ≡ rd x r.fetched → over u y ≡ some k → j < u → r.since < u
        new_newer y j u k e o m =
            let a : j ≡ r.fetched = rd_j e in
            let c = aim in
            i.hand_newer x t v u k h (ap (over u) (sym (rd_x e)) ∙ o) (omega arith)

        small : (w : ℕ) → (w ≡ 0) ⊎ (Met w r.log ⊎ (w ≡ r.target)) → w ≤ r.since
        small w (inl e) = omega arith
        small w (inr (inl e)) = let a = i.within e.0 e.1 in let c = e.2 in omega arith
        small w (inr (inr e)) = let a = i.high in omega arith

        longer : (w : ℕ) → (w ≡ 0) ⊎ (Met w r.log ⊎ (w ≡ r.target)) → (w ≡ 0) ⊎ (Met w (rd x r.fetched ∷ r.log) ⊎ (w ≡ r.target))
        longer w (inl e) = inl e
        longer w (inr (inl e)) = inr (inl (e.0, inr e.1, e.2))
        longer w (inr (inr e)) = inr (inr e)

        pub proc_answer : Proc P bank stamp stored over stamp_of seals (row_answer r x t v)
        proc_answer =
            record {
              sees = λ y j e. looks y j e;
              takes = λ y u w e. absurd (unfull empty y u w refl e);
              needs = i.needs;
              low = i.low;
              mid = i.mid;
              high = i.high;
              hand_newer = λ y u w n k e. absurd (unfull empty y u w refl e);
              within = λ c e. inside c e;
              pass_newer = λ y j u k d e o m. passes y j u k d e o m;
              clocked =
                  elim i.clocked [
                    | inl a ↦ inl a
                    | inr a ↦ inr (a.0, a.1, longer a.0 a.2, λ y j u k e o m. newer a.0 (small a.0 a.2) a.3 y j u k e o m)
                  ];
              aimed = λ e. inr (rd x r.fetched, inl refl, aim);
              ahead = i.ahead;
              reached = λ y k e. reaches y k e;
              banked = i.banked;
            }
          where
            looks : (y j : ℕ) → In (rd y j) (rd x r.fetched ∷ r.log)
                → (u : ℕ) × (w : K) × (put r.seen x (saw t v) y ≡ saw u w) × ((u < stamp y) ⊎ ((u ≡ stamp y) × (stored y ≡ j)))
            looks y j (inl e) =
                let n : x ≡ y = sym (rd_x e) in
                let a : j ≡ r.target = rd_j e ∙ aim in (
                  t,
                  v,
                  put_same r.seen x (saw t v) y n,
                  elim (i.takes x t v h).2 [
                    | inl d ↦ inl (let c : stamp x ≡ stamp y = ap stamp n in omega arith)
                    | inr d ↦ inr (d.0 ∙ ap stamp n, ap stored (sym n) ∙ d.1 ∙ sym a)
                  ],
                )
            looks y j (inr e) =
                let d = i.sees y j e in
                elim (cases_eq x y) [
                  | inl n ↦
                      let a : d.0 ≡ t = same d.0 d.1 (ap r.seen n ∙ d.2) in (
                        t,
                        v,
                        put_same r.seen x (saw t v) y n,
                        elim d.3 [ inl f ↦ inl (omega arith) | inr f ↦ inr (sym a ∙ f.0, f.1) ],
                      )
                  | inr n ↦ (d.0, d.1, put_other r.seen x (saw t v) y n ∙ d.2, d.3)
                ]

            inside : (c : Access) → In c (rd x r.fetched ∷ r.log) → version c ≤ r.since
            inside c (inl e) = let a : version c ≡ r.target = ap version e ∙ aim in let d = i.high in omega arith
            inside c (inr e) = i.within c e

            passes : (y j u k : ℕ) → r.passed y ≡ true → In (rd y j) (rd x r.fetched ∷ r.log) → over u y ≡ some k → j < u → r.since < u
            passes y j u k d (inl e) o m = new_newer y j u k e o m
            passes y j u k d (inr e) o m = i.pass_newer y j u k d e o m

            newer : (w : ℕ) → w ≤ r.since → Newer over r.log w → Newer over (rd x r.fetched ∷ r.log) w
            newer w a n y j u k (inl e) o m = let c = new_newer y j u k e o m in omega arith
            newer w a n y j u k (inr e) o m = n y j u k e o m

            reaches : (y k : ℕ) → In (rd y k) (rd x r.fetched ∷ r.log) → stamp_of k ≤ r.clock
            reaches y k (inl e) =
                let a : stamp_of k ≡ stamp_of r.target = ap stamp_of (rd_j e ∙ aim) in
                let c = i.needs in
                omega arith
            reaches y k (inr e) = i.reached y k e

        -- fairly bound, it reads nothing that has been replaced before the maker's seal
        pub reads_newer : stamp_of 0 ≡ 0 → ((j : ℕ) → 0 < j → j ≤ seals → 0 < stamp_of j)
            → ((y j u k : ℕ) → In (rd y j) r.log → over u y ≡ some k → j < u → r.base < u)
            → (r.base < r.fetched → (c : Access) → In c r.log → (version c ≡ 0) ⊎ ((version c ≡ r.fetched) ⊎ (stamp_of (version c) < stamp_of r.fetched)))
            → Newer over r.log r.fetched
        reads_newer zero_is pos recent fair y j u k e o m =
            elim (cases_lt r.fetched u) [
              | inl n ↦ n
              | inr n ↦
                  let a = aim in
                  let c = recent y j u k e o m in
                  let d = i.high in
                  let f = i.mid in
                  let need_is : r.need ≡ stamp_of r.fetched = i.needs ∙ ap stamp_of (sym a) in
                  let start_lt = i.ahead r.fetched (omega arith) (omega arith) in
                  let positive = pos r.fetched (omega arith) (omega arith) in
                  elim i.clocked [
                    | inl z ↦ absurd (omega arith)
                    | inr z ↦
                        let clock_is : r.clock ≡ stamp_of z.0 = z.1 in
                        let below : z.0 < u = z.3 y j u k e o m in
                        case (omega arith) z.0 clock_is below need_is positive n z.2
                  ]
            ]
          where
            case : {u : ℕ} → r.base < r.fetched → (w : ℕ) → r.clock ≡ stamp_of w → w < u → r.need ≡ stamp_of r.fetched → 0 < stamp_of r.fetched → u ≤ r.fetched
                → (w ≡ 0) ⊎ (Met w r.log ⊎ (w ≡ r.target)) → r.fetched < u
            case {u} bd w ci below ni positive n (inl q) =
                let l : stamp_of w ≡ 0 = ap stamp_of q ∙ zero_is in absurd (omega arith)
            case {u} bd w ci below ni positive n (inr (inl q)) =
                met (fair bd q.0 q.1)
              where
                met : (version q.0 ≡ 0) ⊎ ((version q.0 ≡ r.fetched) ⊎ (stamp_of (version q.0) < stamp_of r.fetched)) → r.fetched < u
                met (inl d) = let l : stamp_of w ≡ 0 = ap stamp_of (sym q.2 ∙ d) ∙ zero_is in absurd (omega arith)
                met (inr (inl d)) = let l : w ≡ r.fetched = sym q.2 ∙ d in absurd (omega arith)
                met (inr (inr d)) = let l : stamp_of (version q.0) ≡ stamp_of w = ap stamp_of q.2 in absurd (omega arith)
            case {u} bd w ci below ni positive n (inr (inr q)) = let a = aim in absurd (omega arith)
