-- A placing keeps all that is on record in agreement with the protocol.
use Rattle.std.proofs.Common.{◌≡◌, ℕ, suc, ◌≤◌, cond, eqb, ◌⊎◌, List, [], ◌∷◌, ◌++◌, length, Some, None, Option, sym, refl, ap, ◌∙◌, subst, inl, inr, arith}
use Rattle.std.proofs.lemmas.Bool.{cases_eq, eq-eqb, ne_eqb, cond-true, cond-false}
use Rattle.tables.specs.declared.reply.Request.{Request}
use Rattle.tables.specs.declared.reply.Request.TheVariants.{Begin, Read, Write, Commit, Withdraw}
use Rattle.protocol.specs.Table.{put}
use Rattle.protocol.specs.Protocol.{Event, Lawful, state}
use Rattle.protocol.specs.Protocol.Phase.{out, starting, running, sealing}
use Rattle.protocol.specs.Protocol.Event.{begin}
use Rattle.protocol.specs.History.{history}
use Rattle.protocol.specs.Commits.{commits_of}
use Rattle.protocol.proofs.Updates.{put_same, put_other}
use Rattle.protocol.proofs.Invariant.{differ, back}
use Rattle.protocol.proofs.Laws.{all}
use Rattle.law.specs.Trace.{Trace, entry}
use Rattle.law.specs.Trace.Act.{placed}
use Rattle.law.specs.Ledger.{Found, is, push, count, whose, begun_at, ended_at, placed_at, sealed_at, stored_at, makers, taken, readings, holds, requests, desk, certified_at}
use Rattle.law.specs.Ledger.Desk.{free, asked}
use Rattle.law.specs.Law.{Known}
use Rattle.law.proofs.Traces.{unborn_at, unborn_requests}
use Rattle.law.proofs.Times.{ends_place}
use Rattle.law.proofs.Requests.{todo, started, ops_ask}
use Rattle.law.proofs.Standing.{Standing, HandAs, Owing, in_starting, in_running}
use Rattle.law.proofs.Core.{OnRecord, Core, CoreOf, played}
use Rattle.law.proofs.Others.{StandingOf, standing_at, desk_other}
use Rattle.law.proofs.Matches.{Matches}

module _ {K : Type 0} where
  -- what is on record once a request of a transaction is
  abbrev with_request : Trace K → Option ℕ → Request K → OnRecord K
  with_request j w r =
      record {
        ended_at = ended_at j;
        placed_at = placed_at j;
        sealed_at = sealed_at j;
        begun_at = begun_at j;
        stored_at = stored_at j;
        makers = makers j;
        taken = taken j;
        readings = readings j;
        holds = holds j;
        requests = λ u. push (Some r) (is w u) (requests j u);
      }

  module _ (P : ℕ) (start : ℕ → K) (b : ℕ → ℕ) (j : Trace K) (es : List (Event K)) (lawful : Lawful P start b es) (c : Matches start b j es) (p : ℕ) where
    desk_new : (r : Request K) → asked r 0 None ≡ desk (entry p (placed r) ∷ j) p
    desk_new r = sym (cond-true (eqb p p) (asked r 0 None) (desk j p) (eq-eqb p p refl))

    -- a request of the running transaction of p
    module _ (who : whose j p ≡ Some ((history es).current p)) (run : (state start b es).phase p ≡ running) (idle : desk j p ≡ free) where
      in_run : (state start b es).phase p ≡ out → ⊥
      in_run e = differ running out tt (sym run ∙ e)

      own_is : (u : ℕ) → is (whose j p) u ≡ eqb ((history es).current p) u
      own_is u = ap (λ (o : Option ℕ). is o u) who

      core_ask : (r : Request K) → Core start (with_request j (whose j p) r) (played start b es)
      core_ask r =
          let k = c.base.core in
          record {
            ends = k.ends;
            seals = k.seals;
            bases = k.bases;
            versions = k.versions;
            logs = k.logs;
            ops = ops_ask _ _ _ _ k.ops ((history es).current p) (is (whose j p)) own_is r ((all P start b es lawful).linked.opens p (inr (inl run)));
            contents = k.contents;
            logged = k.logged;
            owing = k.owing;
          }

      asked_now : (r : Request K) → cond (is (whose j p) ((history es).current p)) (r ∷ requests j ((history es).current p)) (requests j ((history es).current p)) ≡ r ∷ requests j ((history es).current p)
      asked_now r = cond-true (is (whose j p) ((history es).current p)) _ _ (own_is ((history es).current p) ∙ eq-eqb ((history es).current p) ((history es).current p) refl)

      -- p's transaction, with the request in hand
      mine : (r : Request K) → todo (asked r 0 None) ≡ r ∷ []
          → Standing start (makers j) (history es).maker (history es).seals (commits_of es).operations (desk (entry p (placed r) ∷ j) p) ((state start b es).phase p) ((state start b es).hand p) ((history es).fetched p) (begun_at j ((history es).current p)) ((commits_of es).sealed ((history es).current p))
          (push (Some r) (is (whose j p) ((history es).current p)) (requests j ((history es).current p))) ((commits_of es).operations ((history es).current p)) (holds j ((history es).current p))
      mine r next =
          let st = c.base.standing p in_run in
          standing_at start _ _ _ _ _ _ _ _ _ _ _ _ _ _ _ _ _ _ _ _ _ _ (desk_new r) (sym run) refl refl refl refl (sym (asked_now r)) refl refl
          (in_running start (makers j) (history es).maker (history es).seals (commits_of es).operations (asked r 0 None) ((state start b es).hand p) ((history es).fetched p) _ _ (r ∷ requests j ((history es).current p)) _ _ (st.answered (inl run)) (st.covers (inl run)) no_hand
          (ap (λ (rs : List (Request K)). r ∷ rs) before ∙ ap (λ (rs : List (Request K)). rs ++ started ((commits_of es).operations ((history es).current p))) (sym next)))
        where
          no_hand : HandAs start (history es).maker (history es).seals (commits_of es).operations (asked r 0 None) ((state start b es).hand p) ((history es).fetched p)
          no_hand x k v g = absurd (let l = (c.base.standing p in_run).in_hand run x k v g in let i : free ≡ asked (Read x) l.0.0 _ = sym idle ∙ l.0.1 in cc)

          before : requests j ((history es).current p) ≡ started ((commits_of es).operations ((history es).current p))
          before = grind arith

      others : (r : Request K) (q : ℕ) → (p ≡ q → ⊥) → ((state start b es).phase q ≡ out → ⊥)
          → Standing start (makers j) (history es).maker (history es).seals (commits_of es).operations (desk (entry p (placed r) ∷ j) q) ((state start b es).phase q) ((state start b es).hand q) ((history es).fetched q) (begun_at j ((history es).current q)) ((commits_of es).sealed ((history es).current q))
          (push (Some r) (is (whose j p) ((history es).current q)) (requests j ((history es).current q))) ((commits_of es).operations ((history es).current q)) (holds j ((history es).current q))
      others r q d o =
          standing_at start _ _ _ _ _ _ _ _ _ _ _ _ _ _ _ _ _ _ _ _ _ _ (sym (desk_other j p q (placed r) d)) refl refl refl refl refl
          (sym (cond-false (is (whose j p) ((history es).current q)) _ _ (own_is ((history es).current q) ∙ ne_eqb ((history es).current p) ((history es).current q) (λ e. d ((all P start b es lawful).kept.currents.single p q in_run o e)))))
          refl refl (c.base.standing q o)

      both : (r : Request K) → todo (asked r 0 None) ≡ r ∷ [] → (q : ℕ) → ((state start b es).phase q ≡ out → ⊥)
          → Standing start (makers j) (history es).maker (history es).seals (commits_of es).operations (desk (entry p (placed r) ∷ j) q) ((state start b es).phase q) ((state start b es).hand q) ((history es).fetched q) (begun_at j ((history es).current q)) ((commits_of es).sealed ((history es).current q))
          (push (Some r) (is (whose j p) ((history es).current q)) (requests j ((history es).current q))) ((commits_of es).operations ((history es).current q)) (holds j ((history es).current q))
      both r next q o =
          elim (cases_eq p q) [
            | inl e ↦ subst (λ (v : ℕ). Standing start (makers j) (history es).maker (history es).seals (commits_of es).operations (desk (entry p (placed r) ∷ j) v) ((state start b es).phase v) ((state start b es).hand v) ((history es).fetched v) (begun_at j ((history es).current v)) ((commits_of es).sealed ((history es).current v))
                (push (Some r) (is (whose j p) ((history es).current v)) (requests j ((history es).current v))) ((commits_of es).operations ((history es).current v)) (holds j ((history es).current v))) e (mine r next)
            | inr e ↦ others r q e o
          ]

      still_certified : (r : Request K) (q n : ℕ) (f : Option Found) → ((state start b es).phase q ≡ out → ⊥) → desk (entry p (placed r) ∷ j) q ≡ asked Commit n f → ((state start b es).phase q ≡ running) ⊎ Known (certified_at j ((history es).current q))
      still_certified r q n f o e = grind arith

      pub matches_ask : (r : Request K) → (r ≡ Begin → ⊥) → Matches start b (entry p (placed r) ∷ j) es
      matches_ask Begin d = absurd (d refl)
      matches_ask (Read x) d =
          record { base = record { counts = c.base.counts; who = c.base.who; core = core_ask (Read x); ordered = c.base.ordered; standing = both (Read x) refl }; certs = c.certs; certified = still_certified (Read x) }
      matches_ask (Write x v) d =
          record { base = record { counts = c.base.counts; who = c.base.who; core = core_ask (Write x v); ordered = c.base.ordered; standing = both (Write x v) refl }; certs = c.certs; certified = still_certified (Write x v) }
      matches_ask Commit d =
          record { base = record { counts = c.base.counts; who = c.base.who; core = core_ask Commit; ordered = c.base.ordered; standing = both Commit refl }; certs = c.certs; certified = still_certified Commit }
      matches_ask Withdraw d =
          record { base = record { counts = c.base.counts; who = c.base.who; core = core_ask Withdraw; ordered = c.base.ordered; standing = both Withdraw refl }; certs = c.certs; certified = still_certified Withdraw }

    -- a begin of p
    module _ (ended : (state start b es).phase p ≡ out) where
      abbrev l' : Trace K
      l' = entry p (placed Begin) ∷ j

      -- the new transaction is the next
      new : (history es).begun ≡ count j
      new = sym c.base.counts

      own_new : (u : ℕ) → is (cond (eqb p p) (Some (count j)) (whose j p)) u ≡ eqb (history es).begun u
      own_new u = grind arith

      unborn : (t : ℕ) → t ≡ (history es).begun → count j ≤ t
      unborn t e = let n = new in omega arith

      not_p : (q : ℕ) → ((state start b es).phase q ≡ out → ⊥) → p ≡ q → ⊥
      not_p q o e = o (ap (state start b es).phase (sym e) ∙ ended)

      -- the other processes
      put_back : (q : ℕ) → (p ≡ q → ⊥) → put (state start b es).phase p starting q ≡ (state start b es).phase q
      put_back q d = put_other (state start b es).phase p starting q d

      owing : Owing (put (state start b es).phase p starting) (state start b es).held (put (history es).current p (history es).begun) (history es).latest (history es).maker (commits_of es).operations
      owing =
          record {
            owes = λ q x v u e h.
                let k = back (state start b es).phase p starting q (sealing u) tt e in
                let d : p ≡ q → ⊥ = not_p q (λ o. differ (sealing u) out tt (sym k ∙ o)) in
                let o = c.base.core.owing.owes q x v u k h in
                subst (λ (t : ℕ). Rattle.law.proofs.Standing.Owed (history es).latest (history es).maker (commits_of es).operations t x v) (sym (put_other (history es).current p (history es).begun q d)) o;
          }

      core : CoreOf start b l' (begin p ∷ es)
      core =
          let k = c.base.core in
          record {
            ends = ends_place _ _ _ _ (λ u. is (cond (eqb p p) (Some (count j)) (whose j p)) u) (history es).begun (length j) (history es).now own_new (unborn_at _ j (history es).begun (unborn (history es).begun refl)) (all P start b es lawful).kept.times.ended_now k.ends;
            seals = k.seals;
            bases = k.bases;
            versions = k.versions;
            logs = k.logs;
            ops = ops_ask _ _ _ _ k.ops (history es).begun (λ u. is (cond (eqb p p) (Some (count j)) (whose j p)) u) own_new Begin ((all P start b es lawful).linked.empty_new (history es).begun (omega arith)).0;
            contents = k.contents;
            logged = k.logged;
            owing = owing;
          }

      mine_new : StandingOf start b l' (begin p ∷ es) p
      mine_new =
          let t = (history es).begun in
          let at : put (history es).current p t p ≡ t = put_same (history es).current p t p refl in
          standing_at start _ _ _ _ _ _ _ _ _ _ _ _ _ _ _ _ _ _ _ _ _ _ refl (sym (put_same (state start b es).phase p starting p refl)) refl refl refl refl refl refl refl
          (in_starting start _ _ _ _ _ _ _ _ _ _ _ _
          (ap (begun_at j) at ∙ unborn_at _ j t (unborn t refl))
          (ap (requests l') at ∙ cond-true (is (cond (eqb p p) (Some (count j)) (whose j p)) t) _ _ (own_new t ∙ eq-eqb t t refl) ∙ ap (λ (rs : List (Request K)). Begin ∷ rs) (unborn_requests j t (unborn t refl)))
          (ap (commits_of es).operations at ∙ ((all P start b es lawful).linked.empty_new t (omega arith)).1))

      other_new : (q : ℕ) → (p ≡ q → ⊥) → ((state start b es).phase q ≡ out → ⊥) → StandingOf start b l' (begin p ∷ es) q
      other_new q d o =
          let t = (history es).current q in
          let at : put (history es).current p (history es).begun q ≡ t = put_other (history es).current p (history es).begun q d in
          let few = (all P start b es lawful).kept.currents.alive q o in
          standing_at start _ _ _ _ _ _ _ _ _ _ _ _ _ _ _ _ _ _ _ _ _ _ (sym (desk_other j p q (placed Begin) d)) (sym (put_back q d)) refl refl (ap (begun_at j) (sym at)) (ap (commits_of es).sealed (sym at))
          (sym (ap (requests l') at ∙ cond-false (is (cond (eqb p p) (Some (count j)) (whose j p)) t) _ _ (own_new t ∙ ne_eqb (history es).begun t (λ e. let i = e in omega arith))))
          (ap (commits_of es).operations (sym at)) (ap (holds j) (sym at)) (c.base.standing q o)

      pub matches_begin : Matches start b l' (begin p ∷ es)
      matches_begin =
          record {
            base =
                record {
                  counts = ap suc c.base.counts;
                  who = λ q u e. who_new q u (cases_eq p q) e;
                  core = core;
                  ordered = c.base.ordered;
                  standing = λ q o.
                      elim (cases_eq p q) [
                        | inl e ↦ subst (StandingOf start b l' (begin p ∷ es)) e mine_new
                        | inr e ↦ other_new q e (λ k. o (put_back q e ∙ k))
                      ];
                };
            certs = c.certs;
            certified = λ q n f o e.
                elim (cases_eq p q) [
                  | inl d ↦ absurd (let k : asked Begin 0 None ≡ asked Commit n f = desk_new Begin ∙ ap (desk l') d ∙ e in cc)
                  | inr d ↦
                      elim (c.certified q n f (λ k. o (put_back q d ∙ k)) (sym (desk_other j p q (placed Begin) d) ∙ e)) [
                        | inl k ↦ inl (put_back q d ∙ k)
                        | inr k ↦ inr (k.0, ap (certified_at j) (put_other (history es).current p (history es).begun q d) ∙ k.1)
                      ]
                ];
          }
        where
          who_new : (q u : ℕ) → (p ≡ q) ⊎ (p ≡ q → ⊥) → cond (eqb p q) (Some (count j)) (whose j q) ≡ Some u → put (history es).current p (history es).begun q ≡ u
          who_new q u d e = grind arith
