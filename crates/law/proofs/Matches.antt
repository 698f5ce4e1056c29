-- A step of the engine keeps all that is on record in agreement with the protocol.
use Rattle.std.proofs.Common.{◌≡◌, ℕ, suc, ◌<◌, true, false, cond, eqb, ◌⊎◌, List, [], ◌∷◌, ◌++◌, length, Some, Option, sym, refl, ap, ◌∙◌, subst, inl, inr, arith}
use Rattle.std.proofs.lemmas.List.{append_assoc}
use Rattle.std.proofs.lemmas.Bool.{cases_eq, cases_Bool, ne_eqb}
use Rattle.tables.specs.declared.reply.Answer.{Answer}
use Rattle.tables.specs.declared.reply.Conflict.{Conflict}
use Rattle.tables.specs.declared.reply.Request.{Request}
use Rattle.tables.specs.declared.reply.Request.TheVariants.{Commit, Withdraw}
use Rattle.tables.specs.declared.reply.Stepped.{Stepped}
use Rattle.protocol.specs.Protocol.{State, Phase, Event, May, Lawful, LawfulFrom, state, states, fresh, next}
use Rattle.protocol.specs.Protocol.Phase.{out, running, certifying, aborting}
use Rattle.protocol.specs.Protocol.Cause.{withdrawn}
use Rattle.protocol.specs.Protocol.Event.{certify, fail}
use Rattle.protocol.specs.History.{History, history, enter}
use Rattle.protocol.specs.Commits.{commits_of}
use Rattle.protocol.proofs.Blocks.{joined, lawful_on}
use Rattle.protocol.proofs.Updates.{put_same, put_other}
use Rattle.protocol.proofs.Invariant.{differ, one_holder}
use Rattle.protocol.proofs.Laws.{all}
use Rattle.protocol.proofs.Sequence.{sequence}
use Rattle.refinement.proofs.Acts.{Block, Act}
use Rattle.refinement.proofs.Acts.Act.{plain, certifying_first, withdrawing_first}
use Rattle.law.specs.Trace.{Trace, entry}
use Rattle.law.specs.Trace.Act.{made}
use Rattle.law.specs.Ledger.{Found, Desk, Hold, first, is, among, count, whose, wrote, makers, latest, taken, holds, requests, desk, desk_on, certified_at}
use Rattle.law.specs.Ledger.Desk.{asked}
use Rattle.law.specs.Law.{In, Known}
use Rattle.law.proofs.Traces.{hold_taken, among_in, certified_before}
use Rattle.law.proofs.Times.{Certs, certs_at, certs_begin, noted_has}
use Rattle.law.proofs.Requests.{AsksAs, todo, started}
use Rattle.law.proofs.Standing.{Going, in_certifying, in_aborting}
use Rattle.law.proofs.Core.{CoreOf, core_certify, core_fail}
use Rattle.law.proofs.Others.{StandingOf, standing_at, certified_other, desk_other, line_others, actor, Within, event_others}
use Rattle.law.proofs.Blocks.{block_core, block_standing}

module _ {K : Type 0} where
  -- events of process p within its transaction
  abbrev pub AllWithin : ℕ → List (Event K) → Type 0
  AllWithin p [] = Unit {0}
  AllWithin p (e ∷ es) = (actor e ≡ p) × Within e × AllWithin p es

  -- what a block leaves alone
  pub record Leaves (p : ℕ) (fs es : List (Event K)) : Type 0 where
    pub within : AllWithin p fs
    pub begun : (history (fs ++ es)).begun ≡ (history es).begun
    pub current : (history (fs ++ es)).current ≡ (history es).current
    pub certs : (commits_of (fs ++ es)).certs ≡ (commits_of es).certs
    pub order : (commits_of (fs ++ es)).order ≡ (commits_of es).order

  module _ (start : ℕ → K) (b : ℕ → ℕ) (es : List (Event K)) (p : ℕ) where
    pub leaves : {r : Request K} {n : ℕ} {o o' : Option Conflict} {z : Stepped K} {fs : List (Event K)} → Block (state start b es) p r n o z fs o' → Leaves p fs es
    leaves h = grind arith

    newly : (P : ℕ) {r : Request K} {n : ℕ} {o o' : Option Conflict} {z : Stepped K} {fs : List (Event K)} → Block (state start b es) p r n o z fs o' → LawfulFrom P (state start b es) fs
        → (u : ℕ) → (commits_of (fs ++ es)).sealed u ≡ true → ((commits_of es).sealed u ≡ true) ⊎ (((history es).current p ≡ u) × ((state start b es).phase p ≡ certifying))
    newly P d m u h = grind arith

    -- the versions that a block makes are of objects that p has written
    made_by : (j : Trace K) (P : ℕ) {r : Request K} {n : ℕ} {o o' : Option Conflict} {z : Stepped K} {fs : List (Event K)} → Block (state start b es) p r n o z fs o' → LawfulFrom P (state start b es) fs
        → (x : ℕ) → ((state start b es).phase p ≡ certifying → wrote j (whose j p) x ≡ false) → makers (entry p (made z) ∷ j) x ≡ makers j x
    made_by j P d m x w = grind arith

  -- the phases of the other processes
  phase_other : (s : State K) (e : Event K) (q : ℕ) → Within e → (actor e ≡ q → ⊥) → (next s e).phase q ≡ s.phase q
  phase_other s e q w d = grind arith

  current_same : (a : History) (e : Event K) → Within e → (enter a e).current ≡ a.current
  current_same a e w = grind arith

  module _ (P : ℕ) (start : ℕ → K) (b : ℕ → ℕ) (p q : ℕ) (d : p ≡ q → ⊥) where
    phases_other : (es fs : List (Event K)) → AllWithin p fs → (state start b (fs ++ es)).phase q ≡ (state start b es).phase q
    phases_other es [] w = refl
    phases_other es (e ∷ fs) w = phase_other (state start b (fs ++ es)) e q w.1 (λ n. d (sym w.0 ∙ n)) ∙ phases_other es fs w.2

    currents_same : (es fs : List (Event K)) → AllWithin p fs → (history (fs ++ es)).current ≡ (history es).current
    currents_same es [] w = refl
    currents_same es (e ∷ fs) w = current_same (history (fs ++ es)) e w.1 ∙ currents_same es fs w.2

    events_other : (j : Trace K) (es fs : List (Event K)) → AllWithin p fs → Lawful P start b (fs ++ es) → ((history es).current p ≡ (history es).current q → ⊥) → StandingOf start b j es q → StandingOf start b j (fs ++ es) q
    events_other j es [] w m apart c = c
    events_other j es (e ∷ fs) w m apart c =
        let same = currents_same es fs w.2 in
        event_others P start b j (fs ++ es) m.0 q (events_other j es fs w.2 m.0 apart c) e w.1 m.1 (λ n. d (sym w.0 ∙ n))
        (λ n. apart (ap (λ (f : ℕ → ℕ). f p) (sym same) ∙ ap (history (fs ++ es)).current (sym w.0) ∙ n ∙ ap (λ (f : ℕ → ℕ). f q) same))

  -- all but the order of certifications
  pub record Base (start : ℕ → K) (b : ℕ → ℕ) (j : Trace K) (es : List (Event K)) : Type 0 where
    pub counts : count j ≡ (history es).begun
    pub who : (p u : ℕ) → whose j p ≡ Some u → (history es).current p ≡ u
    pub core : CoreOf start b j es
    pub ordered : (t : ℕ) → (commits_of es).sealed t ≡ true → (i : ℕ) × (i < (commits_of es).certs) × ((commits_of es).order i ≡ t)
    pub standing : (p : ℕ) → ((state start b es).phase p ≡ out → ⊥) → StandingOf start b j es p

  module _ (P : ℕ) (start : ℕ → K) (b : ℕ → ℕ) (j : Trace K) (es : List (Event K)) (lawful : Lawful P start b es) (c : Base start b j es) (p : ℕ) (who : whose j p ≡ Some ((history es).current p))
      (in' : (state start b es).phase p ≡ out → ⊥) where
    apart : (q : ℕ) → (p ≡ q → ⊥) → ((state start b es).phase q ≡ out → ⊥) → (history es).current p ≡ (history es).current q → ⊥
    apart q d o e = d ((all P start b es lawful).kept.currents.single p q in' o e)

    pub not_mine : (q : ℕ) → (p ≡ q → ⊥) → ((state start b es).phase q ≡ out → ⊥) → is (whose j p) ((history es).current q) ≡ false
    not_mine q d o = ap (λ (k : Option ℕ). is k ((history es).current q)) who ∙ ne_eqb ((history es).current p) ((history es).current q) (apart q d o)

    -- what another transaction holds, p has not written
    not_written : (q : ℕ) → (p ≡ q → ⊥) → Going ((state start b es).phase q) → (h : Hold) → In h (holds j ((history es).current q)) → (state start b es).phase p ≡ certifying → wrote j (whose j p) h.object ≡ false
    not_written q d going h i cert =
        ap (λ (k : Option ℕ). wrote j k h.object) who
        ∙ elim (cases_Bool (among h.object (taken j ((history es).current p)))) [
          | inl e ↦ absurd (
              let mine = (all P start b es lawful).kept.logs.had p h.object (inr cert) (sym (c.core.versions.wrote ((history es).current p) h.object) ∙ e) in
              let theirs = (all P start b es lawful).kept.logs.had q h.object going (sym (c.core.versions.wrote ((history es).current q) h.object) ∙ among_in h.object (taken j ((history es).current q)) (hold_taken j ((history es).current q) h i)) in
              d (one_holder ((state start b es).held h.object) p q mine.0 theirs.0 mine.1 theirs.1)
              )
          | inr e ↦ e
        ]

    -- a block of p
    pub base_block : {r : Request K} {n : ℕ} {o o' : Option Conflict} {z : Stepped K} {fs : List (Event K)} (f : Option Found) → Block (state start b es) p r n o z fs o'
        → LawfulFrom P (state start b es) fs → desk j p ≡ asked r n f → Base start b (entry p (made z) ∷ j) (fs ++ es)
    base_block {z = z} {fs = fs} f k m q =
        let l = leaves start b es p k in
        let whole = lawful_on P (fresh start b) fs es lawful m in
        record {
          counts = c.counts ∙ sym l.begun;
          who = λ u v e. ap (λ (g : ℕ → ℕ). g u) l.current ∙ c.who u v e;
          core = block_core P start b j es lawful c.core p who (c.standing p in') f k m q;
          ordered = λ t h. sealed_at_order t (newly start b es p P k m t h) l.certs l.order;
          standing = λ u o.
              elim (cases_eq p u) [
                | inl e ↦ subst (λ (v : ℕ). ((state start b (fs ++ es)).phase v ≡ out → ⊥) → StandingOf start b (entry p (made z) ∷ j) (fs ++ es) v) e
                    (λ g. block_standing P start b j es lawful c.core p who (c.standing p in') f k m q g) o
                | inr e ↦
                    (let still = phases_other P start b p u e es fs l.within in
                    let o' : (state start b es).phase u ≡ out → ⊥ = λ g. o (still ∙ g) in
                    events_other P start b p u e (entry p (made z) ∷ j) es fs l.within whole (apart u e o')
                    (line_others start b j es p z u e (not_mine u e o') (λ going h i. ap latest (made_by start b es p j P k m h.object (not_written u e going h i))) (c.standing u o')))
              ];
        }
      where
        sealed_at_order : (t : ℕ) → ((commits_of es).sealed t ≡ true) ⊎ (((history es).current p ≡ t) × ((state start b es).phase p ≡ certifying)) → (commits_of (fs ++ es)).certs ≡ (commits_of es).certs → (commits_of (fs ++ es)).order ≡ (commits_of es).order
            → (i : ℕ) × (i < (commits_of (fs ++ es)).certs) × ((commits_of (fs ++ es)).order i ≡ t)
        sealed_at_order t (inl h) ec eo = let i = c.ordered t h in (i.0, subst (λ (g : ℕ). i.0 < g) (sym ec) i.1, ap (λ (g : ℕ → ℕ). g i.0) eo ∙ i.2)
        sealed_at_order t (inr h) ec eo =
            let k = (all P start b es lawful).linked in
            let s = (all P start b es lawful).linked.sits p h.1 in
            ((sequence es).place p, subst (λ (g : ℕ). (sequence es).place p < g) (sym ec) s, ap (λ (g : ℕ → ℕ). g ((sequence es).place p)) eo ∙ k.placed p h.1 ∙ h.0)

    -- p begins its certification, before the step is on record
    pub base_certify : (n : ℕ) (f : Option Found) → desk j p ≡ asked Commit n f → (state start b es).phase p ≡ running → Lawful P start b (certify p ∷ es) → Base start b j (certify p ∷ es)
    base_certify n f q run m =
        record {
          counts = c.counts;
          who = c.who;
          core = core_certify P start b j es lawful c.core p who;
          ordered = λ t h. let i = c.ordered t h in let l = i.1 in (i.0, omega arith, put_other (commits_of es).order (commits_of es).certs ((history es).current p) i.0 (λ e. let k = e in omega arith) ∙ i.2);
          standing = λ u o.
              elim (cases_eq p u) [
                | inl e ↦ subst (λ (v : ℕ). StandingOf start b j (certify p ∷ es) v) e
                    (standing_at start _ _ _ _ _ _ _ _ _ _ _ _ _ _ _ _ _ _ _ _ _ _ refl (sym (put_same (state start b es).phase p certifying p refl)) refl refl refl refl refl refl refl
                    (in_certifying start _ _ _ _ _ _ _ _ _ _ _ _ ((c.standing p in').answered (inl run)) ((c.standing p in').covers (inl run)) asks))
                | inr e ↦
                    (let o' : (state start b es).phase u ≡ out → ⊥ = λ g. o (put_other (state start b es).phase p certifying u e ∙ g) in
                    events_other P start b p u e j es (certify p ∷ []) (refl, tt, tt) m (apart u e o') (c.standing u o'))
              ];
        }
      where
        asks : requests j ((history es).current p) ≡ Commit ∷ started ((commits_of es).operations ((history es).current p))
        asks =
            subst (λ (g : Phase). AsksAs g (desk j p) (requests j ((history es).current p)) ((commits_of es).operations ((history es).current p))) run (c.standing p in').asks
            ∙ ap (λ (k : Desk K). todo k ++ started ((commits_of es).operations ((history es).current p))) q

    -- p gives its transaction up, before the step is on record
    pub base_withdraw : Lawful P start b (fail p withdrawn ∷ es) → Base start b j (fail p withdrawn ∷ es)
    base_withdraw m =
        record {
          counts = c.counts;
          who = c.who;
          core = core_fail P start b j es lawful c.core p who withdrawn;
          ordered = c.ordered;
          standing = λ u o.
              elim (cases_eq p u) [
                | inl e ↦ subst (λ (v : ℕ). StandingOf start b j (fail p withdrawn ∷ es) v) e
                    (standing_at start _ _ _ _ _ _ _ _ _ _ _ _ _ _ _ _ _ _ _ _ _ _ refl (sym (put_same (state start b es).phase p aborting p refl)) refl refl refl refl refl refl refl
                    (in_aborting start _ _ _ _ _ _ _ _ _ _ _ _))
                | inr e ↦
                    (let o' : (state start b es).phase u ≡ out → ⊥ = λ g. o (put_other (state start b es).phase p aborting u e ∙ g) in
                    events_other P start b p u e j es (fail p withdrawn ∷ []) (refl, tt, tt) m (apart u e o') (c.standing u o'))
              ];
        }

  -- all that is on record agrees with the protocol
  pub record Matches (start : ℕ → K) (b : ℕ → ℕ) (j : Trace K) (es : List (Event K)) : Type 0 where
    pub base : Base start b j es
    pub certs : Certs (certified_at j) (commits_of es).certs (commits_of es).order
    -- a commit in hand that has made a step has begun its certification
    pub certified : (p n : ℕ) (f : Option Found) → ((state start b es).phase p ≡ out → ⊥) → desk j p ≡ asked Commit n f
        → ((state start b es).phase p ≡ running) ⊎ Known (certified_at j ((history es).current p))

  -- a commit in hand after a step was in hand before it
  still_commit : (j : Trace K) (w : Option ℕ) (r : Request K) (n : ℕ) (f : Option Found) (a : Option (Answer K)) (m : ℕ) (g : Option Found) → desk_on j w (asked r n f) a ≡ asked Commit m g → r ≡ Commit
  still_commit j w r n f a m g e = grind arith

  -- the two parts of a lawful block
  pub lawful_split : (P : ℕ) (s : State K) (fs es : List (Event K)) → LawfulFrom P s (fs ++ es) → LawfulFrom P s es × LawfulFrom P (states s es) fs
  lawful_split P s [] es m = (m, tt)
  lawful_split P s (e ∷ fs) es m =
      let k = lawful_split P s fs es m.0 in (k.0, (k.1, subst (λ (z : State K). May P z e) (joined s fs es) m.1))

  module _ (P : ℕ) (start : ℕ → K) (b : ℕ → ℕ) (j : Trace K) (es : List (Event K)) (lawful : Lawful P start b es) (c : Matches start b j es) (p : ℕ) (who : whose j p ≡ Some ((history es).current p))
      (in' : (state start b es).phase p ≡ out → ⊥) where
    own_is : (u : ℕ) → is (whose j p) u ≡ eqb ((history es).current p) u
    own_is u = ap (λ (o : Option ℕ). is o u) who

    desk_is : (z : Stepped K) (d : Desk K) → desk j p ≡ d → desk (entry p (made z) ∷ j) p ≡ desk_on j (whose j p) d z.answer
    desk_is z d q = grind arith

    -- the certifications on record, unless one begins
    certified_same : (z : Stepped K) (r : Request K) (n : ℕ) (f : Option Found) → desk j p ≡ asked r n f → (r ≡ Commit → Known (certified_at j ((history es).current p))) → (u : ℕ) → certified_at (entry p (made z) ∷ j) u ≡ certified_at j u
    certified_same z r n f q known u = grind arith

    -- of the other processes
    certified_others : (z : Stepped K) (u n : ℕ) (f : Option Found) → (p ≡ u → ⊥) → ((state start b es).phase u ≡ out → ⊥) → desk (entry p (made z) ∷ j) u ≡ asked Commit n f
        → ((state start b es).phase u ≡ running) ⊎ Known (certified_at (entry p (made z) ∷ j) ((history es).current u))
    certified_others z u n f d o e =
        elim (c.certified u n f o (sym (desk_other j p u (made z) d) ∙ e)) [
          | inl g ↦ inl g
          | inr g ↦ inr (g.0, certified_other j p z ((history es).current u) (not_mine P start b j es lawful c.base p who in' u d o) ∙ g.1)
        ]

    pub matches_step : {r : Request K} {n : ℕ} {o o' : Option Conflict} {z : Stepped K} {fs : List (Event K)} (f : Option Found) → Act (state start b es) p r n o z fs o'
        → LawfulFrom P (state start b es) fs → desk j p ≡ asked r n f → Matches start b (entry p (made z) ∷ j) (fs ++ es)
    matches_step {r = r} {n = n} {z = z} {fs = fs} f (plain nr k) m q =
        let l = leaves start b es p k in
        let known : r ≡ Commit → Known (certified_at j ((history es).current p)) = λ e.
        elim (c.certified p n f in' (q ∙ ap (λ (x : Request K). asked x n f) e)) [ inl g ↦ absurd (nr e g) | inr g ↦ g ] in
        record {
          base = base_block P start b j es lawful c.base p who in' f k m q;
          certs = certs_at (certified_at j) _ _ _ (certified_same z r n f q known)
              (subst (λ (x : ℕ). Certs (certified_at j) x (commits_of (fs ++ es)).order) (sym l.certs) (subst (λ (x : ℕ → ℕ). Certs (certified_at j) (commits_of es).certs x) (sym l.order) c.certs));
          certified = λ u x g o e. here l known u x g o e (cases_eq p u);
        }
      where
        here : Leaves p fs es → (r ≡ Commit → Known (certified_at j ((history es).current p))) → (u x : ℕ) (g : Option Found) → ((state start b (fs ++ es)).phase u ≡ out → ⊥) → desk (entry p (made z) ∷ j) u ≡ asked Commit x g → (p ≡ u) ⊎ (p ≡ u → ⊥)
            → ((state start b (fs ++ es)).phase u ≡ running) ⊎ Known (certified_at (entry p (made z) ∷ j) ((history (fs ++ es)).current u))
        here l known u x g o e (inl d) =
            let e' : desk_on j (whose j p) (asked r n f) z.answer ≡ asked Commit x g = sym (desk_is z (asked r n f) q) ∙ ap (desk (entry p (made z) ∷ j)) d ∙ e in
            let rc = still_commit j (whose j p) r n f z.answer x g e' in
            let y = known rc in
            inr (y.0, ap (λ (h : ℕ → ℕ). certified_at (entry p (made z) ∷ j) (h u)) l.current ∙ ap (λ (v : ℕ). certified_at (entry p (made z) ∷ j) ((history es).current v)) (sym d) ∙ certified_same z r n f q known ((history es).current p) ∙ y.1)
        here l known u x g o e (inr d) =
            let still = phases_other P start b p u d es fs l.within in
            elim (certified_others z u x g d (λ h. o (still ∙ h)) e) [
              | inl h ↦ inl (still ∙ h)
              | inr h ↦ inr (h.0, ap (λ (k : ℕ → ℕ). certified_at (entry p (made z) ∷ j) (k u)) l.current ∙ h.1)
            ]
    matches_step {n = n} {z = z} f (certifying_first {es = fs} zero k) m q =
        let parts = lawful_split P (state start b es) fs (certify p ∷ []) m in
        let run = parts.0.1.runs in
        let whole : Lawful P start b (certify p ∷ es) = (lawful, parts.0.1) in
        let first' = base_certify P start b j es lawful c.base p who in' n f q run whole in
        let l = leaves start b (certify p ∷ es) p k in
        subst (Matches start b (entry p (made z) ∷ j)) (sym (append_assoc fs (certify p ∷ []) es))
        (record {
          base = base_block P start b j (certify p ∷ es) whole first' p who in_certification f k parts.1 q;
          certs = subst (λ (x : ℕ). Certs (certified_at (entry p (made z) ∷ j)) x (commits_of (fs ++ certify p ∷ es)).order) (sym l.certs)
              (subst (λ (x : ℕ → ℕ). Certs (certified_at (entry p (made z) ∷ j)) (suc (commits_of es).certs) x) (sym l.order)
              (certs_at _ _ _ _ now_certified (certs_begin (certified_at j) (commits_of es).certs (commits_of es).order (is (whose j p)) ((history es).current p) (length j) own_is (certified_before j) (λ i. (all P start b es lawful).linked.fresh p i (inr run)) c.certs)));
          certified = λ u x g o e. here l u x g o e (cases_eq p u);
        })
      where
        in_certification : (state start b (certify p ∷ es)).phase p ≡ out → ⊥
        in_certification e = differ certifying out tt (sym (put_same (state start b es).phase p certifying p refl) ∙ e)

        now_certified : (u : ℕ) → certified_at (entry p (made z) ∷ j) u ≡ cond (is (whose j p) u) (Some (first (certified_at j u) (length j))) (certified_at j u)
        now_certified u = cc

        here : Leaves p fs (certify p ∷ es) → (u x : ℕ) (g : Option Found) → ((state start b (fs ++ certify p ∷ es)).phase u ≡ out → ⊥) → desk (entry p (made z) ∷ j) u ≡ asked Commit x g → (p ≡ u) ⊎ (p ≡ u → ⊥)
            → ((state start b (fs ++ certify p ∷ es)).phase u ≡ running) ⊎ Known (certified_at (entry p (made z) ∷ j) ((history (fs ++ certify p ∷ es)).current u))
        here l u x g o e (inl d) =
            let y = noted_has (is (whose j p)) ((history es).current p) (length j) own_is (certified_at j) in
            inr (y.0, ap (λ (h : ℕ → ℕ). certified_at (entry p (made z) ∷ j) (h u)) l.current ∙ ap (λ (v : ℕ). certified_at (entry p (made z) ∷ j) ((history es).current v)) (sym d) ∙ now_certified ((history es).current p) ∙ y.1)
        here l u x g o e (inr d) =
            let still = phases_other P start b p u d (certify p ∷ es) fs l.within ∙ put_other (state start b es).phase p certifying u d in
            elim (certified_others z u x g d (λ h. o (still ∙ h)) e) [
              | inl h ↦ inl (still ∙ h)
              | inr h ↦ inr (h.0, ap (λ (k : ℕ → ℕ). certified_at (entry p (made z) ∷ j) (k u)) l.current ∙ h.1)
            ]
    matches_step {n = n} {z = z} f (withdrawing_first {es = fs} zero k) m q =
        let parts = lawful_split P (state start b es) fs (fail p withdrawn ∷ []) m in
        let whole : Lawful P start b (fail p withdrawn ∷ es) = (lawful, parts.0.1) in
        let first' = base_withdraw P start b j es lawful c.base p who in' whole in
        let l = leaves start b (fail p withdrawn ∷ es) p k in
        subst (Matches start b (entry p (made z) ∷ j)) (sym (append_assoc fs (fail p withdrawn ∷ []) es))
        (record {
          base = base_block P start b j (fail p withdrawn ∷ es) whole first' p who given_up f k parts.1 q;
          certs = certs_at (certified_at j) _ _ _ (certified_same z Withdraw n f q no_commit)
              (subst (λ (x : ℕ). Certs (certified_at j) x (commits_of (fs ++ fail p withdrawn ∷ es)).order) (sym l.certs) (subst (λ (x : ℕ → ℕ). Certs (certified_at j) (commits_of es).certs x) (sym l.order) c.certs));
          certified = λ u x g o e. here l u x g o e (cases_eq p u);
        })
      where
        given_up : (state start b (fail p withdrawn ∷ es)).phase p ≡ out → ⊥
        given_up e = differ aborting out tt (sym (put_same (state start b es).phase p aborting p refl) ∙ e)

        no_commit : ◌≡◌ {A = Request K} Withdraw Commit → Known (certified_at j ((history es).current p))
        no_commit e = cc

        here : Leaves p fs (fail p withdrawn ∷ es) → (u x : ℕ) (g : Option Found) → ((state start b (fs ++ fail p withdrawn ∷ es)).phase u ≡ out → ⊥) → desk (entry p (made z) ∷ j) u ≡ asked Commit x g → (p ≡ u) ⊎ (p ≡ u → ⊥)
            → ((state start b (fs ++ fail p withdrawn ∷ es)).phase u ≡ running) ⊎ Known (certified_at (entry p (made z) ∷ j) ((history (fs ++ fail p withdrawn ∷ es)).current u))
        here l u x g o e (inl d) =
            let e' : desk_on j (whose j p) (asked Withdraw n f) z.answer ≡ asked Commit x g = sym (desk_is z (asked Withdraw n f) q) ∙ ap (desk (entry p (made z) ∷ j)) d ∙ e in
            absurd (let w = still_commit j (whose j p) Withdraw n f z.answer x g e' in cc)
        here l u x g o e (inr d) =
            let still = phases_other P start b p u d (fail p withdrawn ∷ es) fs l.within ∙ put_other (state start b es).phase p aborting u d in
            elim (certified_others z u x g d (λ h. o (still ∙ h)) e) [
              | inl h ↦ inl (still ∙ h)
              | inr h ↦ inr (h.0, ap (λ (k : ℕ → ℕ). certified_at (entry p (made z) ∷ j) (k u)) l.current ∙ h.1)
            ]
