-- Each step keeps on record who holds what, and gives aborts their reasons.
use Rattle.std.proofs.Common.{◌≡◌, ℕ, Bool, true, cond, ◌&&◌, eqb, ◌⊎◌, List, [], ◌∷◌, ◌++◌, Some, None, Option, sym, refl, ap, ◌∙◌, subst, inl, inr, arith}
use Rattle.std.proofs.lemmas.Bool.{ne_eqb, cond-false, or_right, true≢false}
use Rattle.std.proofs.lemmas.Option.{same_Some}
use Rattle.tables.specs.declared.reply.Conflict.{Conflict}
use Rattle.tables.specs.declared.reply.Conflict.TheVariants as conflict
use Rattle.tables.specs.declared.reply.Request.{Request}
use Rattle.tables.specs.declared.reply.Stepped.{Stepped}
use Rattle.protocol.specs.Table.{put}
use Rattle.protocol.specs.Protocol.{State, Phase, Event, Why, Lawful, LawfulFrom, state, states, fresh}
use Rattle.protocol.specs.Protocol.Held.{by}
use Rattle.protocol.specs.Protocol.Phase.{out, starting, running, certifying, aborting, sealing}
use Rattle.protocol.specs.Protocol.Event.{certify, fail}
use Rattle.protocol.specs.Protocol.Cause.{withdrawn}
use Rattle.protocol.specs.History.{history}
use Rattle.protocol.proofs.Blocks.{joined}
use Rattle.protocol.proofs.Invariant.{Live, differ}
use Rattle.protocol.proofs.Freshness.{FreshOf, Meets, fresh_turn, fresh_next}
use Rattle.protocol.proofs.Laws.{all}
use Rattle.refinement.proofs.Deciding.{cause_of}
use Rattle.refinement.proofs.Acts.{Block}
use Rattle.refinement.proofs.Acts.Block.{
  reads_bank,
  begins,
  reads_own,
  reads_now,
  reads_later,
  reads_waits,
  extends_read,
  reads_extended,
  rewrites,
  takes_now,
  takes_later,
  takes_waits,
  extends_write,
  writes_extended,
  passes,
  passes_last,
  commits_nothing,
  seals,
  stores,
  stores_last,
  stops,
  aborts,
  frees,
  aborts_freed,
  aborts_empty,
  withdraws_freed,
  withdraws_empty,
}
use Rattle.law.specs.Trace.{Trace, entry}
use Rattle.law.specs.Trace.Act.{made}
use Rattle.law.specs.Ledger.{is, among, whose, stored_at, freed_at, ended_at, taken, of_answer}
use Rattle.law.specs.Ledger.Desk.{asked}
use Rattle.law.specs.Law.{Known, Disturbed, Justified}
use Rattle.law.proofs.Traces.{when, known_or}
use Rattle.law.proofs.Others.{first_other}
use Rattle.law.proofs.Matches.{leaves, Base, not_mine}
use Rattle.law.proofs.Disturbance.{Holding, holding_turn, holding_write, holding_release, Watch, disturbed_more, disturbed_now, placed_known}

module _ {K : Type 0} (P : ℕ) (start : ℕ → K) (b : ℕ → ℕ) (j : Trace K) (es : List (Event K)) (lawful : Lawful P start b es) (c : Base start b j es) (w : Watch start b j es) (p : ℕ) (who : whose j p ≡ Some ((history es).current p))
    (in' : (state start b es).phase p ≡ out → ⊥) where
  abbrev HoldingOf : Trace K → List (Event K) → Type 0
  HoldingOf k fs = Holding (state start b fs).phase (state start b fs).held (history fs).current (taken k) (stored_at k) (freed_at k)

  own_is : (u : ℕ) → is (whose j p) u ≡ eqb ((history es).current p) u
  own_is u = ap (λ (o : Option ℕ). is o u) who

  -- p becomes the holder of x
  takes : (x : ℕ) (v : K) → (state start b es).phase p ≡ running
      → Holding (state start b es).phase (put (state start b es).held x (by p v)) (history es).current (λ u. cond (is (whose j p) u) (x ∷ taken j u) (taken j u)) (stored_at j) (freed_at j)
  takes x v run =
      holding_write _ _ _ _ _ _ w.holding p x v _ more (
        cond_among,
        elim (known_or (stored_at j ((history es).current p) x)) [
          | inl e ↦ e
          | inr e ↦ absurd (true≢false (sym (c.core.versions.storers ((history es).current p) x e) ∙ (all P start b es lawful).linked.opens p (inr (inl run))))
        ],
        w.holding.unfreed p in' (λ e. differ running aborting tt (sym run ∙ e)) x,
      )
    where
      more : (u y : ℕ) → among y (taken j u) ≡ true → among y (cond (is (whose j p) u) (x ∷ taken j u) (taken j u)) ≡ true
      more u y e = when (λ (l : List ℕ). among y l ≡ true) (is (whose j p) u) ((history es).current p) u _ _ (own_is u) (λ n. or_right (eqb y x) (among y (taken j u)) e) (λ n. e)

      cond_among : among x (cond (is (whose j p) ((history es).current p)) (x ∷ taken j ((history es).current p)) (taken j ((history es).current p))) ≡ true
      cond_among = grind arith

  elsewhere : (x u y : ℕ) (o o' : Option ℕ) → (x ≡ y → ⊥) → cond (eqb x y && is (whose j p) u) o' o ≡ o
  elsewhere x u y o o' n = cond-false (eqb x y && is (whose j p) u) o' o (ap (λ (k : Bool). k && is (whose j p) u) (ne_eqb x y n))

  frees_one : (z : Stepped K) (x : ℕ) → (state start b es).phase p ≡ aborting → ((u y : ℕ) → (x ≡ y → ⊥) → freed_at (entry p (made z) ∷ j) u y ≡ freed_at j u y)
      → Holding (state start b es).phase (put (state start b es).held x Rattle.protocol.specs.Protocol.Held.nobody) (history es).current (taken j) (stored_at j) (freed_at (entry p (made z) ∷ j))
  frees_one z x ab same =
      holding_release _ _ _ _ _ _ w.holding x (stored_at j) _ (λ u y n. refl) same
      (λ q o a y. first_other j p z ((history es).current q) (not_mine P start b j es lawful c p who in' q (λ e. a (ap (state start b es).phase (sym e) ∙ ab)) o) _)

  -- once p's transaction has ended, or is given up, nothing is asked of it
  ends_out : (phase : ℕ → Phase) (held : ℕ → _) (current : ℕ → ℕ) (tk : ℕ → List ℕ) (sa fa : ℕ → ℕ → Option ℕ) → Holding {K = K} phase held current tk sa fa → Holding (put phase p out) held current tk sa fa
  ends_out phase held current tk sa fa h = holding_turn phase held current tk sa fa h p out (λ o a. absurd (o refl))

  gives_up : Holding (put (state start b es).phase p aborting) (state start b es).held (history es).current (taken j) (stored_at j) (freed_at j)
  gives_up = holding_turn _ _ _ _ _ _ w.holding p aborting (λ o a. absurd (a refl))

  from : (f g : Phase) → (state start b es).phase p ≡ f → (f ≡ out → ⊥) → (f ≡ aborting → ⊥) → Holding (put (state start b es).phase p g) (state start b es).held (history es).current (taken j) (stored_at j) (freed_at j)
  from f g e o a = holding_turn _ _ _ _ _ _ w.holding p g (λ x y. (λ i. o (sym e ∙ i), λ i. a (sym e ∙ i)))

  holding_block : {r : Request K} {n : ℕ} {o o' : Option Conflict} {z : Stepped K} {fs : List (Event K)} → Block (state start b es) p r n o z fs o' → LawfulFrom P (state start b es) fs → HoldingOf (entry p (made z) ∷ j) (fs ++ es)
  holding_block (reads_bank n) m = w.holding
  holding_block (begins n k) m = from starting running m.1.0 (differ starting out tt) (differ starting aborting tt)
  holding_block (reads_own x v n z) m = w.holding
  holding_block (reads_now x k v n z) m = w.holding
  holding_block (reads_later x k v n z) m = w.holding
  holding_block (reads_waits x v n z) m = w.holding
  holding_block (extends_read x y n) m = w.holding
  holding_block (reads_extended x k v y n) m = w.holding
  holding_block (rewrites x v u n z h) m = holding_write _ _ _ _ _ _ w.holding p x v (taken j) (λ t y e. e) (w.holding.keeps p x u h)
  holding_block (takes_now x v n z h) m = takes x v m.1.0.runs
  holding_block (takes_later x v n z h) m = takes x v m.0.1.0.runs
  holding_block (takes_waits x v n z h) m = takes x v m.1.0.runs
  holding_block (extends_write x v y n l) m = w.holding
  holding_block (writes_extended x v y n l) m = w.holding
  holding_block (passes y n) m = w.holding
  holding_block (passes_last y n) m = ends_out _ _ _ _ _ _ gives_up
  holding_block (commits_nothing n) m = ends_out _ _ _ _ _ _ gives_up
  holding_block (seals t k n) m = from certifying (sealing t) m.1.0 (differ certifying out tt) (differ certifying aborting tt)
  holding_block (stores x v t n) m =
      holding_release _ _ _ _ _ _ w.holding x _ (freed_at j) (λ u y d. elsewhere x u y _ _ d) (λ u y d. refl) (λ q o a y. refl)
  holding_block (stores_last x v t n) m =
      ends_out _ _ _ _ _ _ (holding_release _ _ _ _ _ _ w.holding x _ (freed_at j) (λ u y d. elsewhere x u y _ _ d) (λ u y d. refl) (λ q o a y. refl))
  holding_block (stops r k n) m = gives_up
  holding_block (aborts r k n) m = ends_out _ _ _ _ _ _ gives_up
  holding_block {z = z} (frees r o x v n) m = frees_one z x m.1.0 (λ u y d. elsewhere x u y _ _ d)
  holding_block {z = z} (aborts_freed r k x v n) m = ends_out _ _ _ _ _ _ (frees_one z x m.0.1.0 (λ u y d. elsewhere x u y _ _ d))
  holding_block (aborts_empty r k n) m = ends_out _ _ _ _ _ _ w.holding
  holding_block {z = z} (withdraws_freed x v n) m = ends_out _ _ _ _ _ _ (frees_one z x m.0.1.0 (λ u y d. elsewhere x u y _ _ d))
  holding_block (withdraws_empty n) m = ends_out _ _ _ _ _ _ w.holding

  -- what q holds disturbs a live process
  disturbs : (l : Rattle.law.specs.Trace.Entry K) (q r x : ℕ) (v : K) → (state start b es).held x ≡ by q v → (q ≡ r → ⊥) → Live (state start b es).phase r → Disturbed (l ∷ j) ((history es).current r) x
  disturbs l q r x v h d live =
      let k = w.holding.keeps q x v h in
      disturbed_now l j ((history es).current r) ((history es).current q) x (λ e. d ((all P start b es lawful).kept.currents.single q r holds' lives e)) (placed r lives) (unended r lives) (placed q holds') (unended q holds') k.0 k.1 k.2
    where
      holds' : (state start b es).phase q ≡ out → ⊥
      holds' e = (all P start b es lawful).inv.idle q x v (inl e) h

      lives : (state start b es).phase r ≡ out → ⊥
      lives e = elim live [ inl k ↦ differ running out tt (sym k ∙ e) | inr k ↦ differ certifying out tt (sym k ∙ e) ]

      placed : (u : ℕ) → ((state start b es).phase u ≡ out → ⊥) → Known (Rattle.law.specs.Ledger.placed_at j ((history es).current u))
      placed u o = placed_known j ((history es).current u) (let n = (all P start b es lawful).kept.currents.alive u o in let i = c.counts in omega arith)

      unended : (u : ℕ) → ((state start b es).phase u ≡ out → ⊥) → ended_at j ((history es).current u) ≡ None
      unended u o =
          elim (known_or (ended_at j ((history es).current u))) [
            | inl e ↦ e
            | inr e ↦ absurd (let i = c.core.ends.ends ((history es).current u) e in (all P start b es lawful).kept.times.going u i.0 o i.1)
          ]

  -- the contention that a block meets
  abbrev Now : Stepped K → ℕ → ℕ → Type 0
  Now z q x = Disturbed (entry p (made z) ∷ j) ((history es).current q) x

  abbrev AllMeets : State K → List (Event K) → (ℕ → ℕ → Type 0) → Type 0
  AllMeets s [] C = Unit {0}
  AllMeets s (e ∷ fs) C = Meets (states s fs) e C × AllMeets s fs C

  stores_meet : (z : Stepped K) (x : ℕ) (v : K) (t : ℕ) → (state start b es).phase p ≡ sealing t → (state start b es).held x ≡ by p v → (q : ℕ) → Live (state start b es).phase q → Now z q x
  stores_meet z x v t sl h q live =
      disturbs (entry p (made z)) p q x v h (λ e. elim live [ inl k ↦ differ (sealing t) running tt (sym sl ∙ ap (state start b es).phase e ∙ k) | inr k ↦ differ (sealing t) certifying tt (sym sl ∙ ap (state start b es).phase e ∙ k) ]) live

  meets : {r : Request K} {n : ℕ} {o o' : Option Conflict} {z : Stepped K} {fs : List (Event K)} → Block (state start b es) p r n o z fs o' → LawfulFrom P (state start b es) fs → AllMeets (state start b es) fs (Now z)
  meets (reads_bank n) m = tt
  meets (begins n k) m = (tt, tt)
  meets (reads_own x v n z) m = (tt, tt)
  meets (reads_now x k v n z) m = (tt, (tt, tt))
  meets (reads_later x k v n z) m = (tt, (tt, (tt, tt)))
  meets (reads_waits x v n z) m = (tt, tt)
  meets (extends_read x y n) m = (tt, tt)
  meets (reads_extended x k v y n) m = (tt, (tt, (tt, tt)))
  meets (rewrites x v u n z h) m = (tt, tt)
  meets (takes_now x v n z h) m = (tt, tt)
  meets (takes_later x v n z h) m = (tt, (tt, tt))
  meets (takes_waits x v n z h) m = (tt, tt)
  meets (extends_write x v y n l) m = (tt, tt)
  meets (writes_extended x v y n l) m = (tt, (tt, tt))
  meets (passes y n) m = (tt, tt)
  meets (passes_last y n) m = (tt, (tt, (tt, tt)))
  meets (commits_nothing n) m = (tt, (tt, tt))
  meets (seals t k n) m = (tt, tt)
  meets {z = z} (stores x v t n) m = (stores_meet z x v t m.1.0 m.1.1, tt)
  meets {z = z} (stores_last x v t n) m = (tt, (stores_meet z x v t m.0.1.0 m.0.1.1, tt))
  meets (stops r k n) m = (tt, tt)
  meets (aborts r k n) m = (tt, (tt, tt))
  meets (frees r o x v n) m = (tt, tt)
  meets (aborts_freed r k x v n) m = (tt, (tt, tt))
  meets (aborts_empty r k n) m = (tt, tt)
  meets (withdraws_freed x v n) m = (tt, (tt, tt))
  meets (withdraws_empty n) m = (tt, tt)

  fresh_events : (s : State K) (C : ℕ → ℕ → Type 0) (fs : List (Event K)) → LawfulFrom P s fs → AllMeets s fs C → FreshOf s C → FreshOf (states s fs) C
  fresh_events s C [] m k i = i
  fresh_events s C (e ∷ fs) m k i = fresh_next P (states s fs) C e m.1 k.0 (fresh_events s C fs m.0 k.1 i)

  pub watch_block : {r : Request K} {n : ℕ} {o o' : Option Conflict} {z : Stepped K} {fs : List (Event K)} → Block (state start b es) p r n o z fs o' → LawfulFrom P (state start b es) fs → Watch start b (entry p (made z) ∷ j) (fs ++ es)
  watch_block {z = z} {fs = fs} k m =
      record {
        holding = holding_block k m;
        fresh =
            subst (λ (f : ℕ → ℕ). FreshOf (state start b (fs ++ es)) (λ q x. Disturbed (entry p (made z) ∷ j) (f q) x)) (sym (leaves start b es p k).current)
            (subst (λ (s : State K). FreshOf s (Now z)) (sym (joined (fresh start b) fs es))
            (fresh_events (state start b es) (Now z) fs m (meets k m) (fresh_turn _ _ _ _ _ w.fresh _ (Now z) (λ q l. l) (λ q x l d. disturbed_more (entry p (made z)) j ((history es).current q) x d))));
      }

  -- the first step of a commit or a withdrawal, before it is on record
  pub watch_certify : (state start b es).phase p ≡ running → Lawful P start b (certify p ∷ es) → Watch start b j (certify p ∷ es)
  watch_certify run m =
      record { holding = from running certifying run (differ running out tt) (differ running aborting tt); fresh = fresh_next P (state start b es) _ (certify p) m.1 tt w.fresh }

  pub watch_withdraw : Lawful P start b (fail p withdrawn ∷ es) → Watch start b j (fail p withdrawn ∷ es)
  watch_withdraw m = record { holding = gives_up; fresh = fresh_next P (state start b es) _ (fail p withdrawn) m.1 tt w.fresh }

  -- a conflict has a reason
  pub justifies : (l : Rattle.law.specs.Trace.Entry K) (k : Conflict) → Live (state start b es).phase p → Why (state start b es) p (cause_of k) → Justified (l ∷ j) ((history es).current p) k
  justifies l (conflict.Held x) live y = disturbs l y.0 p x y.1 y.2 y.3 live
  justifies l (conflict.Changed x) live y =
      elim (w.fresh.seens p x y.0 y.1 live y.2) [ inl e ↦ absurd (y.3 e) | inr e ↦ disturbed_more l j ((history es).current p) x e ]
  justifies l conflict.Spent live y = tt

  -- the conflict of a block is the one that stopped the request before, or is found now
  abbrev Blame : Option Conflict → Conflict → Type 0
  Blame o k = (o ≡ Some k) ⊎ (Live (state start b es).phase p × Why (state start b es) p (cause_of k))

  never : {k : Conflict} {A : Type 0} → (None ≡ Some k) ⊎ (None ≡ Some k) → A
  never (inl e) = cc
  never (inr e) = cc

  pub blames : {r : Request K} {n : ℕ} {o o' : Option Conflict} {z : Stepped K} {fs : List (Event K)} → Block (state start b es) p r n o z fs o' → LawfulFrom P (state start b es) fs → (k : Conflict)
      → (o' ≡ Some k) ⊎ ((of_answer z.answer).conflict ≡ Some k) → Blame o k
  blames (reads_bank n) m k e = never e
  blames (begins n i) m k e = never e
  blames (reads_own x v n z) m k e = never e
  blames (reads_now x i v n z) m k e = never e
  blames (reads_later x i v n z) m k e = never e
  blames (reads_waits x v n z) m k e = never e
  blames (extends_read x y n) m k e = never e
  blames (reads_extended x i v y n) m k e = never e
  blames (rewrites x v u n z h) m k e = never e
  blames (takes_now x v n z h) m k e = never e
  blames (takes_later x v n z h) m k e = never e
  blames (takes_waits x v n z h) m k e = never e
  blames (extends_write x v y n l) m k e = never e
  blames (writes_extended x v y n l) m k e = never e
  blames (passes y n) m k e = never e
  blames (passes_last y n) m k e = never e
  blames (commits_nothing n) m k e = never e
  blames (seals t i n) m k e = never e
  blames (stores x v t n) m k e = never e
  blames (stores_last x v t n) m k e = never e
  blames (stops r i n) m k (inl e) = inr (m.1.0, subst (λ (h : Conflict). Why (state start b es) p (cause_of h)) (same_Some _ _ e) m.1.1)
  blames (stops r i n) m k (inr e) = cc
  blames (aborts r i n) m k (inl e) = cc
  blames (aborts r i n) m k (inr e) = inr (m.0.1.0, subst (λ (h : Conflict). Why (state start b es) p (cause_of h)) (same_Some _ _ e) m.0.1.1)
  blames (frees r o x v n) m k (inl e) = inl e
  blames (frees r o x v n) m k (inr e) = cc
  blames (aborts_freed r i x v n) m k (inl e) = cc
  blames (aborts_freed r i x v n) m k (inr e) = inl e
  blames (aborts_empty r i n) m k (inl e) = cc
  blames (aborts_empty r i n) m k (inr e) = inl e
  blames (withdraws_freed x v n) m k e = never e
  blames (withdraws_empty n) m k e = never e
