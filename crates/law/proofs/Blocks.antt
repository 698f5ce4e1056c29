-- Each block of events that a step shows keeps what is on record in agreement with the protocol.
use Rattle.std.proofs.Common.{◌≡◌, ℕ, suc, ◌+◌, ◌<◌, ◌≤◌, Bool, true, cond, List, [], ◌∷◌, ◌++◌, length, Some, None, Option, sym, refl, ap, ◌∙◌, subst, inl, inr, arith}
use Rattle.std.proofs.lemmas.Bool.{true≢false}
use Rattle.tables.specs.declared.reply.Conflict.{Conflict}
use Rattle.tables.specs.declared.reply.Request.{Request}
use Rattle.tables.specs.declared.reply.Request.TheVariants.{Begin, Read, Write}
use Rattle.tables.specs.declared.reply.Stepped.{Stepped}
use Rattle.tables.specs.declared.reply.Answer.TheVariants as answer_is
use Rattle.tables.specs.declared.reply.Effect.TheVariants.{Nothing, Took}
use Rattle.engine.specs.Outcome.{going, answering}
use Rattle.protocol.specs.Table.{put}
use Rattle.protocol.specs.Protocol.{Phase, Hand, Event, May, Lawful, LawfulFrom, state}
use Rattle.protocol.specs.Protocol.Hand.{empty, full}
use Rattle.protocol.specs.Protocol.Phase.{out, starting, running, certifying, aborting, sealing}
use Rattle.protocol.specs.Protocol.Event.{look, check, extend, pass, fail, free}
use Rattle.protocol.specs.History.{Access, history, writes}
use Rattle.protocol.specs.Alone.{Operation}
use Rattle.protocol.specs.Alone.Operation.{got, set}
use Rattle.protocol.specs.Commits.{commits_of}
use Rattle.protocol.proofs.Updates.{put_same}
use Rattle.protocol.proofs.Invariant.{unfull}
use Rattle.protocol.proofs.Laws.{all}
use Rattle.refinement.proofs.Deciding.{cause_of}
use Rattle.refinement.proofs.Acts.{Block}
use Rattle.refinement.proofs.Acts.Block.{
  reads_bank,
  begins,
  reads_own,
  reads_now,
  reads_later,
  reads_waits,
  extends_read,
  reads_extended,
  rewrites,
  takes_now,
  takes_later,
  takes_waits,
  extends_write,
  writes_extended,
  passes,
  passes_last,
  commits_nothing,
  seals,
  stores,
  stores_last,
  stops,
  aborts,
  frees,
  aborts_freed,
  aborts_empty,
  withdraws_freed,
  withdraws_empty,
}
use Rattle.law.specs.Trace.{Trace, entry}
use Rattle.law.specs.Trace.Act.{made}
use Rattle.law.specs.Ledger.{Found, Desk, Hold, first, is, whose, begun_at, makers, latest, taken, holds, requests, desk, desk_on, sight}
use Rattle.law.specs.Ledger.Found.{version}
use Rattle.law.specs.Ledger.Desk.{free, asked}
use Rattle.law.specs.Law.{In, Known}
use Rattle.law.proofs.Times.{noted_has}
use Rattle.law.proofs.Traces.{when, desk_new, hold_taken, among_in}
use Rattle.law.proofs.Versions.{name}
use Rattle.law.proofs.Requests.{AsksAs, todo, started}
use Rattle.law.proofs.Contents.{ContentOf}
use Rattle.law.proofs.Standing.{Standing, Covers, HandAs, in_running, in_certifying, in_sealing, in_aborting}
use Rattle.law.proofs.Core.{CoreOf, sees_version, sees_own, core_ready, core_answer, core_own, core_rewrite, core_take, core_seal, core_finish, core_store, core_stored, core_fail, core_free, core_close}
use Rattle.law.proofs.Others.{StandingOf, standing_at}

module _ {K : Type 0} where
  -- a request that goes on is in hand as before but for a begin's count
  begin_asks : (f : Phase) (n m : ℕ) (g h : Option Found) (rs : List (Request K)) (ds : List (Operation K)) → AsksAs f (asked Begin n g) rs ds → AsksAs f (asked Begin m h) rs ds
  begin_asks out n m g h rs ds a = tt
  begin_asks starting n m g h rs ds a = a
  begin_asks running n m g h rs ds a = a
  begin_asks certifying n m g h rs ds a = a
  begin_asks aborting n m g h rs ds a = tt
  begin_asks (sealing t) n m g h rs ds a = tt

  -- a write has its operation before it once it has made a step
  write_done : (x : ℕ) (v : K) (n : ℕ) (f : Option Found) → 0 < n → todo (asked (Write x v) n f) ≡ []
  write_done x v n f l = grind arith

  write_first : (x : ℕ) (v : K) (n : ℕ) (f : Option Found) → n ≡ 0 → todo (asked (Write x v) n f) ≡ Write x v ∷ []
  write_first x v n f l = cc

  module _ (P : ℕ) (start : ℕ → K) (b : ℕ → ℕ) (j : Trace K) (es : List (Event K)) (lawful : Lawful P start b es) (c : CoreOf start b j es) (p : ℕ)
      (who : whose j p ≡ Some ((history es).current p)) (st : StandingOf start b j es p) where
    -- the present transaction of p
    asks_in : (f : Phase) → (state start b es).phase p ≡ f → AsksAs f (desk j p) (requests j ((history es).current p)) ((commits_of es).operations ((history es).current p))
    asks_in f e = subst (λ (g : Phase). AsksAs g (desk j p) (requests j ((history es).current p)) ((commits_of es).operations ((history es).current p))) e st.asks

    asks_of : (d : Desk K) → desk j p ≡ d → (state start b es).phase p ≡ running → requests j ((history es).current p) ≡ todo d ++ started ((commits_of es).operations ((history es).current p))
    asks_of d q e = asks_in running e ∙ ap (λ (k : Desk K). todo k ++ started ((commits_of es).operations ((history es).current p))) q

    sees : (x n : ℕ) (f : Option Found) → desk j p ≡ asked (Read x) n f → n ≡ 0 → first f (sight j (whose j p) x) ≡ sight j (whose j p) x
    sees x n f q z = ap (λ (g : Option Found). first g (sight j (whose j p) x)) (desk_new j p (Read x) n f q z)

    -- what is in hand of a read
    fetched_is : (x n : ℕ) (f : Option Found) → desk j p ≡ asked (Read x) n f → (g : Found) (m : ℕ) → desk j p ≡ asked (Read x) m (Some g) → f ≡ Some g
    fetched_is x n f q g m r = cc

    -- what the first step of a read finds, in the place where the protocol keeps what was fetched
    looks : (x n : ℕ) (v : K) (f : Option Found) → desk j p ≡ asked (Read x) n f → n ≡ 0 → May P (state start b es) (look p x v)
        → (first f (sight j (whose j p) x) ≡ version (name (history es).maker (put (history es).fetched p ((history es).stored x) p)))
        × (put (history es).fetched p ((history es).stored x) p ≤ (history es).seals)
        × ContentOf start (commits_of es).operations (history es).maker x (put (history es).fetched p ((history es).stored x) p) v
    looks x n v f q z m =
        subst (λ (i : ℕ). (first f (sight j (whose j p) x) ≡ version (name (history es).maker i)) × (i ≤ (history es).seals) × ContentOf start (commits_of es).operations (history es).maker x i v)
        (sym (put_same (history es).fetched p ((history es).stored x) p refl)) (
          sees x n f q z ∙ sees_version P start b j es lawful c p who x (inl m.0.runs) m.1,
          (all P start b es lawful).kept.vers.present x,
          subst (ContentOf start (commits_of es).operations (history es).maker x ((history es).stored x)) m.3 (c.contents.present x),
        )

    pub block_core : {r : Request K} {n : ℕ} {o o' : Option Conflict} {z : Stepped K} {fs : List (Event K)} (f : Option Found) → Block (state start b es) p r n o z fs o'
        → LawfulFrom P (state start b es) fs → desk j p ≡ asked r n f → CoreOf start b (entry p (made z) ∷ j) (fs ++ es)
    block_core f (reads_bank n) m q = c
    block_core f (begins n k) m q = core_ready P start b j es lawful c p who k (n + 1) (st.unbegun m.1.0)
    block_core f (reads_own x v n z) m q =
        core_own P start b j es lawful c p who x n v (n + 1) f q (inl m.1.0.runs) (sees x n f q z ∙ sees_own P start b j es lawful c p who x v (inl m.1.0.runs) m.1.1)
    block_core f (reads_now x k v n z) m q =
        let l = looks x n v f q z m.0.1 in
        core_answer P start b j (look p x v ∷ es) (lawful, m.0.1) c p who x n v (n + 1) f q (inl m.0.1.0.runs) k l.0 l.1 l.2 (st.answered (inl m.0.1.0.runs))
    block_core f (reads_later x k v n z) m q =
        let l = looks x n v f q z m.0.0.1 in
        core_answer P start b j (extend p ∷ look p x v ∷ es) ((lawful, m.0.0.1), m.0.1) c p who x n v (n + 1) f q (inl m.0.0.1.0.runs) k l.0 l.1 l.2 (st.answered (inl m.0.0.1.0.runs))
    block_core f (reads_waits x v n z) m q = c
    block_core f (extends_read x y n) m q = c
    block_core f (reads_extended x k v y n) m q =
        let l = st.in_hand m.0.0.1.0 x k v m.1.1 in
        let found : first f (sight j (whose j p) x) ≡ version (name (history es).maker ((history es).fetched p)) =
        ap (λ (g : Option Found). first g (sight j (whose j p) x)) (fetched_is x n f q (version (name (history es).maker ((history es).fetched p))) l.0.0 l.0.1) in
        core_answer P start b j (extend p ∷ check p y ∷ es) ((lawful, m.0.0.1), m.0.1) c p who x n v (n + 1) f q (inl m.0.0.1.0) k found l.1 l.2 (st.answered (inl m.0.0.1.0))
    block_core f (rewrites x v w n z h) m q = core_rewrite P start b j es lawful c p who x v w (n + 1) m.1.0.runs h (st.covers (inl m.1.0.runs)) (st.answered (inl m.1.0.runs))
    block_core f (takes_now x v n z h) m q = core_take P start b j es lawful c p who x v m.1.0.runs h (st.answered (inl m.1.0.runs))
    block_core f (takes_later x v n z h) m q = core_take P start b j es lawful c p who x v m.0.1.0.runs h (st.answered (inl m.0.1.0.runs))
    block_core f (takes_waits x v n z h) m q = core_take P start b j es lawful c p who x v m.1.0.runs h (st.answered (inl m.1.0.runs))
    block_core f (extends_write x v y n l) m q = c
    block_core f (writes_extended x v y n l) m q = c
    block_core f (passes y n) m q = c
    block_core f (passes_last y n) m q = core_finish P start b j (pass p y ∷ es) (lawful, m.0.0.1) c p who (n + 1) m.0.0.1.0 (asks_in certifying m.0.0.1.0)
    block_core f (commits_nothing n) m q = core_finish P start b j es lawful c p who (n + 1) m.0.1.0 (asks_in certifying m.0.1.0)
    block_core f (seals t k n) m q = core_seal P start b j es lawful c p who t k m.1.0 (st.covers (inr m.1.0)) (asks_in certifying m.1.0)
    block_core f (stores x v t n) m q = core_store P start b j es lawful c p who x v t m.1.0 m.1.1 (st.sealed_too t m.1.0)
    block_core f (stores_last x v t n) m q = core_stored P start b j es lawful c p who x v t (n + 1) m.0.1.0 m.0.1.1 (st.sealed_too t m.0.1.0)
    block_core f (stops r k n) m q = core_fail P start b j es lawful c p who (cause_of k)
    block_core f (aborts r k n) m q =
        core_close P start b j (fail p (cause_of k) ∷ es) (lawful, m.0.1) (core_fail P start b j es lawful c p who (cause_of k)) p who (n + 1) (put_same (state start b es).phase p aborting p refl)
    block_core f (frees r o x v n) m q = core_free P start b j es lawful c p who x v
    block_core f (aborts_freed r k x v n) m q =
        core_close P start b j (free p x v ∷ es) (lawful, m.0.1) (core_free P start b j es lawful c p who x v) p who (n + 1) m.0.1.0
    block_core f (aborts_empty r k n) m q = core_close P start b j es lawful c p who (n + 1) m.1.0
    block_core f (withdraws_freed x v n) m q =
        core_close P start b j (free p x v ∷ es) (lawful, m.0.1) (core_free P start b j es lawful c p who x v) p who (n + 1) m.0.1.0
    block_core f (withdraws_empty n) m q = core_close P start b j es lawful c p who (n + 1) m.1.0

    -- the present transaction of p after the block
    abbrev After : Stepped K → List (Event K) → Type 0
    After z fs = StandingOf start b (entry p (made z) ∷ j) (fs ++ es) p

    -- what p has in hand then
    desk_is : (z : Stepped K) (d : Desk K) → desk j p ≡ d → desk_on j (whose j p) d z.answer ≡ desk (entry p (made z) ∷ j) p
    desk_is z d q = grind arith

    -- nothing is fetched where the request is no read
    no_read : (d : Desk K) (e : Desk K) → desk j p ≡ d → ((x n : ℕ) (g : Option Found) → d ≡ asked (Read x) n g → ⊥) → (state start b es).phase p ≡ running
        → HandAs start (history es).maker (history es).seals (commits_of es).operations e ((state start b es).hand p) ((history es).fetched p)
    no_read d e q other run x k v g =
        absurd (let l = st.in_hand run x k v g in other x l.0.0 (Some (version (name (history es).maker ((history es).fetched p)))) (sym q ∙ l.0.1))

    begin_read : (n : ℕ) (f : Option Found) (x m : ℕ) (g : Option Found) → ◌≡◌ {A = Desk K} (asked Begin n f) (asked (Read x) m g) → ⊥
    begin_read n f x m g e = cc

    write_read : (y : ℕ) (w : K) (n : ℕ) (f : Option Found) (x m : ℕ) (g : Option Found) → asked (Write y w) n f ≡ asked (Read x) m g → ⊥
    write_read y w n f x m g e = cc

    -- p runs on, with d in hand, the operations ops and the holds hs
    runs_on : (z : Stepped K) (d : Desk K) → desk j p ≡ d → (g : Phase) → g ≡ running → (h : Hand K) (fetched : ℕ) (begun : Option ℕ) (sealed : Bool) (ops : ℕ → List (Operation K)) (ds : List (Operation K)) (hs : List Hold)
        → Known begun → Covers (makers j) hs → HandAs start (history es).maker (history es).seals ops (desk_on j (whose j p) d z.answer) h fetched
        → requests j ((history es).current p) ≡ todo (desk_on j (whose j p) d z.answer) ++ started ds
        → Standing start (makers j) (history es).maker (history es).seals ops (desk (entry p (made z) ∷ j) p) g h fetched begun sealed (requests j ((history es).current p)) ds hs
    runs_on z d q g run h fetched begun sealed ops ds hs known covers hand asks =
        standing_at start _ _ _ _ _ _ _ _ _ _ _ _ _ _ _ _ _ _ _ _ _ _ (desk_is z d q) (sym run) refl refl refl refl refl refl refl
        (in_running start (makers j) (history es).maker (history es).seals ops (desk_on j (whose j p) d z.answer) h fetched begun sealed (requests j ((history es).current p)) ds hs known covers hand asks)

    -- the operations with one more
    done_now : (o : Operation K) → started (put (commits_of es).operations ((history es).current p) (o ∷ (commits_of es).operations ((history es).current p)) ((history es).current p)) ≡ started (o ∷ (commits_of es).operations ((history es).current p))
    done_now o = ap started (put_same (commits_of es).operations ((history es).current p) (o ∷ (commits_of es).operations ((history es).current p)) ((history es).current p) refl)

    -- a read is answered
    read_done : (z : Stepped K) (x n : ℕ) (v : K) (f : Option Found) → desk j p ≡ asked (Read x) n f → desk_on j (whose j p) (asked (Read x) n f) z.answer ≡ free → (state start b es).phase p ≡ running → (h : Hand K) → h ≡ empty → (fetched : ℕ)
        → Standing start (makers j) (history es).maker (history es).seals (put (commits_of es).operations ((history es).current p) (got x v ∷ (commits_of es).operations ((history es).current p))) (desk (entry p (made z) ∷ j) p) ((state start b es).phase p) h fetched
        (begun_at j ((history es).current p)) ((commits_of es).sealed ((history es).current p)) (requests j ((history es).current p)) (put (commits_of es).operations ((history es).current p) (got x v ∷ (commits_of es).operations ((history es).current p)) ((history es).current p)) (holds j ((history es).current p))
    read_done z x n v f q freed run h e fetched =
        runs_on z (asked (Read x) n f) q ((state start b es).phase p) run h fetched _ _ _ _ (holds j ((history es).current p)) (st.answered (inl run)) (st.covers (inl run)) (λ y k w g. absurd (unfull h y k w e g))
        (asks_of (asked (Read x) n f) q run ∙ sym (done_now (got x v)) ∙ ap (λ (d : Desk K). todo d ++ started (put (commits_of es).operations ((history es).current p) (got x v ∷ (commits_of es).operations ((history es).current p)) ((history es).current p))) (sym freed))

    -- a write has its operation
    write_on : (z : Stepped K) (x n : ℕ) (v : K) (f : Option Found) → desk j p ≡ asked (Write x v) n f → n ≡ 0 → todo (desk_on j (whose j p) (asked (Write x v) n f) z.answer) ≡ [] → (state start b es).phase p ≡ running → (state start b es).hand p ≡ empty
        → (hs : List Hold) → Covers (makers j) hs
        → Standing start (makers j) (history es).maker (history es).seals (put (commits_of es).operations ((history es).current p) (set x v ∷ (commits_of es).operations ((history es).current p))) (desk (entry p (made z) ∷ j) p) ((state start b es).phase p) ((state start b es).hand p) ((history es).fetched p)
        (begun_at j ((history es).current p)) ((commits_of es).sealed ((history es).current p)) (requests j ((history es).current p)) (put (commits_of es).operations ((history es).current p) (set x v ∷ (commits_of es).operations ((history es).current p)) ((history es).current p)) hs
    write_on z x n v f q first' none run e hs covers =
        runs_on z (asked (Write x v) n f) q ((state start b es).phase p) run ((state start b es).hand p) ((history es).fetched p) _ _ _ _ hs (st.answered (inl run)) covers (λ y k w g. absurd (unfull _ y k w e g))
        (asks_of (asked (Write x v) n f) q run
        ∙ ap (λ (l : List (Request K)). l ++ started ((commits_of es).operations ((history es).current p))) (write_first x v n f first')
        ∙ sym (done_now (set x v))
        ∙ ap (λ (l : List (Request K)). l ++ started (put (commits_of es).operations ((history es).current p) (set x v ∷ (commits_of es).operations ((history es).current p)) ((history es).current p))) (sym none))

    -- a new hold
    take-covers : (x : ℕ) → (state start b es).phase p ≡ running → Covers (makers j) (cond (is (whose j p) ((history es).current p)) (record { object = x; over = latest (makers j x); at = length j } ∷ holds j ((history es).current p)) (holds j ((history es).current p)))
    take-covers x run h =
        when (λ (l : List Hold). In h l → h.over ≡ latest (makers j h.object)) (is (whose j p) ((history es).current p)) ((history es).current p) ((history es).current p) _ _ (ap (λ (o : Option ℕ). is o ((history es).current p)) who)
        (λ e i. elim i [ inl k ↦ ap (λ (g : Hold). g.over) k ∙ ap (λ (g : Hold). latest (makers j g.object)) (sym k) | inr k ↦ st.covers (inl run) h k ])
        (λ e i. st.covers (inl run) h i)

    no_holds : (state start b es).phase p ≡ starting → Covers (makers j) (holds j ((history es).current p))
    no_holds e h i =
        absurd (true≢false (sym (among_in h.object (taken j ((history es).current p)) (hold_taken j ((history es).current p) h i))
        ∙ c.versions.wrote ((history es).current p) h.object
        ∙ ap (λ (l : List Access). writes l h.object) ((all P start b es lawful).kept.currents.clean p e)))

    turned : (f : Phase) → f ≡ put (state start b es).phase p f p
    turned f = sym (put_same (state start b es).phase p f p refl)

    out_once : {A : Type 0} → (put (state start b es).phase p out p ≡ out → ⊥) → A
    out_once h = absurd (h (put_same (state start b es).phase p out p refl))

    out_twice : {A : Type 0} → (put (put (state start b es).phase p aborting) p out p ≡ out → ⊥) → A
    out_twice h = absurd (h (put_same (put (state start b es).phase p aborting) p out p refl))

    in_phase : (f : Phase) (ms : ℕ → List ℕ) (mk : ℕ → ℕ) (n : ℕ) (d : Desk K) (g : Phase) (sealed : Bool) → f ≡ g
        → Standing start ms mk n (commits_of es).operations d f ((state start b es).hand p) ((history es).fetched p) (begun_at j ((history es).current p)) sealed (requests j ((history es).current p)) ((commits_of es).operations ((history es).current p)) (holds j ((history es).current p))
        → Standing start ms mk n (commits_of es).operations d g ((state start b es).hand p) ((history es).fetched p) (begun_at j ((history es).current p)) sealed (requests j ((history es).current p)) ((commits_of es).operations ((history es).current p)) (holds j ((history es).current p))
    in_phase f ms mk n d g sealed e k = standing_at start ms mk n _ d d f g _ _ _ _ _ _ sealed sealed _ _ _ _ _ _ refl e refl refl refl refl refl refl refl k

    pub block_standing : {r : Request K} {n : ℕ} {o o' : Option Conflict} {z : Stepped K} {fs : List (Event K)} (f : Option Found) → Block (state start b es) p r n o z fs o'
        → LawfulFrom P (state start b es) fs → desk j p ≡ asked r n f → ((state start b (fs ++ es)).phase p ≡ out → ⊥) → After z fs
    block_standing f (reads_bank n) m q open' =
        standing_at start _ _ _ _ _ _ _ _ _ _ _ _ _ _ _ _ _ _ _ _ _ _ (desk_is (going Nothing) (asked Begin n f) q) refl refl refl refl refl refl refl refl
        (record {
          unbegun = st.unbegun;
          answered = st.answered;
          sealed_too = st.sealed_too;
          covers = st.covers;
          in_hand = λ run. no_read (asked Begin n f) _ q (begin_read n f) run;
          asks = begin_asks ((state start b es).phase p) n (suc n) f None _ _ (subst (λ (d : Desk K). AsksAs ((state start b es).phase p) d (requests j ((history es).current p)) ((commits_of es).operations ((history es).current p))) q st.asks);
        })
    block_standing f (begins n k) m q open' =
        let a = asks_in starting m.1.0 in
        runs_on (answering Nothing (answer_is.Begun (n + 1))) (asked Begin n f) q _ (sym (turned running)) _ ((history es).fetched p) _ _ _ _ (holds j ((history es).current p)) (noted_has (is (whose j p)) ((history es).current p) (length j) (λ u. ap (λ (o : Option ℕ). is o u) who) (begun_at j)) (no_holds m.1.0)
        (λ y i w g. absurd (unfull _ y i w (put_same (state start b es).hand p empty p refl) g)) (a.0 ∙ ap started (sym a.1))
    block_standing f (reads_own x v n z) m q open' =
        read_done (answering Nothing (answer_is.Read v (n + 1))) x n v f q refl m.1.0.runs _ m.1.0.done _
    block_standing f (reads_now x k v n z) m q open' =
        read_done (answering Nothing (answer_is.Read v (n + 1))) x n v f q refl m.0.1.0.runs _ (put_same (put (state start b es).hand p (full x ((state start b es).stamp x) v)) p empty p refl) _
    block_standing f (reads_later x k v n z) m q open' =
        read_done (answering Nothing (answer_is.Read v (n + 1))) x n v f q refl m.0.0.1.0.runs _ (put_same (put (state start b es).hand p (full x ((state start b es).stamp x) v)) p empty p refl) _
    block_standing f (reads_waits x v n z) m q open' =
        let l = looks x n v f q z m.1 in
        runs_on (going Nothing) (asked (Read x) n f) q _ m.1.0.runs _ (put (history es).fetched p ((history es).stored x) p) _ _ _ _ (holds j ((history es).current p)) (st.answered (inl m.1.0.runs)) (st.covers (inl m.1.0.runs))
        (λ y k w g.
        let e : full x ((state start b es).stamp x) v ≡ full y k w = sym (put_same (state start b es).hand p (full x ((state start b es).stamp x) v) p refl) ∙ g in
        let ex : x ≡ y = cc in
        let ev : v ≡ w = cc in (
          (suc n, ap (λ (i : ℕ). asked (Read i) (suc n) (Some (first f (sight j (whose j p) x)))) ex ∙ ap (λ (i : Found). asked (Read y) (suc n) (Some i)) l.0),
          l.1,
          subst (λ (i : ℕ). ContentOf start (commits_of es).operations (history es).maker i (put (history es).fetched p ((history es).stored x) p) w) ex (subst (ContentOf start (commits_of es).operations (history es).maker x (put (history es).fetched p ((history es).stored x) p)) ev l.2),
        ))
        (asks_of (asked (Read x) n f) q m.1.0.runs)
    block_standing f (extends_read x y n) m q open' =
        runs_on (going Nothing) (asked (Read x) n f) q _ m.1.0 _ ((history es).fetched p) _ _ _ _ (holds j ((history es).current p)) (st.answered (inl m.1.0)) (st.covers (inl m.1.0))
        (λ u k w g.
        let l = st.in_hand m.1.0 u k w g in
        let e : asked (Read x) n f ≡ asked (Read u) l.0.0 (Some (version (name (history es).maker ((history es).fetched p)))) = sym q ∙ l.0.1 in
        let ex : x ≡ u = cc in
        let ef : f ≡ Some (version (name (history es).maker ((history es).fetched p))) = cc in (
          (suc n, ap (λ (i : ℕ). asked (Read i) (suc n) (Some (first f (sight j (whose j p) x)))) ex ∙ ap (λ (i : Option Found). asked (Read u) (suc n) (Some (first i (sight j (whose j p) x)))) ef),
          l.1,
          l.2,
        ))
        (asks_of (asked (Read x) n f) q m.1.0)
    block_standing f (reads_extended x k v y n) m q open' =
        read_done (answering Nothing (answer_is.Read v (n + 1))) x n v f q refl m.0.0.1.0 _ (put_same (state start b es).hand p empty p refl) _
    block_standing f (rewrites x v w n z h) m q open' =
        write_on (answering Nothing (answer_is.Written (n + 1))) x n v f q z refl m.1.0.runs m.1.0.done (holds j ((history es).current p)) (st.covers (inl m.1.0.runs))
    block_standing f (takes_now x v n z h) m q open' =
        write_on (answering (Took x) (answer_is.Written (n + 1))) x n v f q z refl m.1.0.runs m.1.0.done _ (take-covers x m.1.0.runs)
    block_standing f (takes_later x v n z h) m q open' =
        write_on (answering (Took x) (answer_is.Written (n + 1))) x n v f q z refl m.0.1.0.runs m.0.1.0.done _ (take-covers x m.0.1.0.runs)
    block_standing f (takes_waits x v n z h) m q open' =
        write_on (going (Took x)) x n v f q z refl m.1.0.runs m.1.0.done _ (take-covers x m.1.0.runs)
    block_standing f (extends_write x v y n l) m q open' =
        runs_on (going Nothing) (asked (Write x v) n f) q _ m.1.0 _ ((history es).fetched p) _ _ _ _ (holds j ((history es).current p)) (st.answered (inl m.1.0)) (st.covers (inl m.1.0)) (no_read (asked (Write x v) n f) _ q (write_read x v n f) m.1.0)
        (asks_of (asked (Write x v) n f) q m.1.0 ∙ ap (λ (k : List (Request K)). k ++ started ((commits_of es).operations ((history es).current p))) (write_done x v n f l))
    block_standing f (writes_extended x v y n l) m q open' =
        runs_on (answering Nothing (answer_is.Written (n + 1))) (asked (Write x v) n f) q _ m.0.1.0 _ ((history es).fetched p) _ _ _ _ (holds j ((history es).current p)) (st.answered (inl m.0.1.0)) (st.covers (inl m.0.1.0)) (no_read (asked (Write x v) n f) _ q (write_read x v n f) m.0.1.0)
        (asks_of (asked (Write x v) n f) q m.0.1.0 ∙ ap (λ (k : List (Request K)). k ++ started ((commits_of es).operations ((history es).current p))) (write_done x v n f l))
    block_standing f (passes y n) m q open' =
        in_phase certifying (makers j) (history es).maker (history es).seals _ _ ((commits_of es).sealed ((history es).current p)) (sym m.1.0)
        (in_certifying start _ _ _ _ _ _ _ _ _ _ _ _ (st.answered (inr m.1.0)) (st.covers (inr m.1.0)) (asks_in certifying m.1.0))
    block_standing f (passes_last y n) m q open' = out_twice open'
    block_standing f (commits_nothing n) m q open' = out_twice open'
    block_standing f (seals t k n) m q open' =
        in_phase (sealing t) _ _ _ _ _ _ (turned (sealing t))
        (in_sealing start _ _ _ _ _ _ _ _ _ _ _ _ t (put_same (commits_of es).sealed ((history es).current p) true ((history es).current p) refl))
    block_standing f (stores x v t n) m q open' =
        in_phase (sealing t) (makers j) (history es).maker (history es).seals _ _ ((commits_of es).sealed ((history es).current p)) (sym m.1.0) (in_sealing start _ _ _ _ _ _ _ _ _ _ _ _ t (st.sealed_too t m.1.0))
    block_standing f (stores_last x v t n) m q open' = out_once open'
    block_standing f (stops r k n) m q open' =
        in_phase aborting (makers j) (history es).maker (history es).seals _ _ ((commits_of es).sealed ((history es).current p)) (turned aborting) (in_aborting start _ _ _ _ _ _ _ _ _ _ _ _)
    block_standing f (aborts r k n) m q open' = out_twice open'
    block_standing f (frees r o x v n) m q open' =
        in_phase aborting (makers j) (history es).maker (history es).seals _ _ ((commits_of es).sealed ((history es).current p)) (sym m.1.0) (in_aborting start _ _ _ _ _ _ _ _ _ _ _ _)
    block_standing f (aborts_freed r k x v n) m q open' = out_once open'
    block_standing f (aborts_empty r k n) m q open' = out_once open'
    block_standing f (withdraws_freed x v n) m q open' = out_once open'
    block_standing f (withdraws_empty n) m q open' = out_once open'
