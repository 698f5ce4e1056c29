-- What is on record of a run agrees with what the protocol has of it, and each event that a step shows keeps it so.
use Rattle.std.proofs.Common.{◌≡◌, ℕ, suc, ◌<◌, ◌≤◌, Bool, true, false, cond, not, T, eqb, ◌⊎◌, List, ◌∷◌, length, Some, None, Option, sym, refl, ap, ◌∙◌, subst, inl, inr, arith}
use Rattle.std.proofs.lemmas.Bool.{cases_eq, cases_Bool, cond-true, cond-false, true≢false}
use Rattle.tables.specs.declared.reply.Answer.TheVariants as answer_is
use Rattle.tables.specs.declared.reply.Effect.TheVariants.{Nothing, Took, Sealed, Stored}
use Rattle.tables.specs.declared.reply.Request.{Request}
use Rattle.tables.specs.declared.reply.Request.TheVariants.{Read, Commit}
use Rattle.tables.specs.declared.reply.Stepped.{Stepped}
use Rattle.engine.specs.Outcome.{going, answering}
use Rattle.protocol.specs.Table.{put}
use Rattle.protocol.specs.Protocol.{Phase, Held, Event, Cause, Lawful, state}
use Rattle.protocol.specs.Protocol.Held.{nobody, by}
use Rattle.protocol.specs.Protocol.Phase.{out, running, certifying, aborting, sealing}
use Rattle.protocol.specs.Protocol.Event.{ready, answer, own, write, certify, seal, finish, store, fail, free, commit, close}
use Rattle.protocol.specs.History.{Access, Mark, history, writes}
use Rattle.protocol.specs.History.Access.{rd, ov}
use Rattle.protocol.specs.History.Mark.{none, some}
use Rattle.protocol.specs.Alone.{Operation, after}
use Rattle.protocol.specs.Alone.Operation.{got, set}
use Rattle.protocol.specs.Commits.{commits_of}
use Rattle.protocol.proofs.Updates.{put_same, put_other, put_when}
use Rattle.protocol.proofs.Invariant.{Live, tag, differ, unheld, one_holder}
use Rattle.protocol.proofs.Laws.{all}
use Rattle.law.specs.Trace.{Trace, entry}
use Rattle.law.specs.Trace.Act.{made}
use Rattle.law.specs.Ledger.{Desk, Maker, Found, Reading, Hold, first, is, among, push, whose, ended_at, placed_at, sealed_at, begun_at, stored_at, makers, taken, readings, holds, requests, desk, reading, sight, wrote, latest}
use Rattle.law.specs.Ledger.Found.{version, pending}
use Rattle.law.specs.Ledger.Desk.{asked}
use Rattle.protocol.specs.History as events
use Rattle.law.specs.Law.{Known}
use Rattle.law.proofs.Traces.{known_or, first_before, hold_before, reading_before, hold_taken, taken_held, among_in}
use Rattle.law.proofs.Times.{Ends, ends_end, Seals, seals_end, seals_make, seals_at, Bases, bases_at, bases_begin, bases_make, noted, noted_same, noted_keeps, noted_known}
use Rattle.law.proofs.Versions.{name, chain_name, Versions, versions_log, versions_rewrite, versions_take, versions_store, versions_end, versions_make}
use Rattle.law.proofs.Accesses.{Logs, logs_read, logs_own, logs_take, logs_rewrite, logs_make}
use Rattle.law.proofs.Requests.{Ops, started, ops_set, ops_seal, ops_got}
use Rattle.law.proofs.Contents.{ContentOf, content_made, Contents, contents_perform, contents_read, contents_make, contents_store}
use Rattle.law.proofs.Standing.{Covers, Owing, Owed, owing_turn, owing_free, owing_write, owing_perform}

-- the parts of the record of a run
pub record OnRecord (K : Type 0) : Type 0 where
  pub ended_at : ℕ → Option ℕ
  pub placed_at : ℕ → Option ℕ
  pub sealed_at : ℕ → Option ℕ
  pub begun_at : ℕ → Option ℕ
  pub stored_at : ℕ → ℕ → Option ℕ
  pub makers : ℕ → List ℕ
  pub taken : ℕ → List ℕ
  pub readings : ℕ → List (Reading K)
  pub holds : ℕ → List Hold
  pub requests : ℕ → List (Request K)

-- the parts of a run of the protocol
pub record Played (K : Type 0) : Type 0 where
  pub ended : ℕ → Mark
  pub begun_at : ℕ → ℕ
  pub base : ℕ → ℕ
  pub seals : ℕ
  pub maker : ℕ → ℕ
  pub latest : ℕ → ℕ
  pub stored : ℕ → ℕ
  pub over : ℕ → ℕ → Mark
  pub log : ℕ → List Access
  pub current : ℕ → ℕ
  pub operations : ℕ → List (Operation K)
  pub sealed : ℕ → Bool
  pub content : ℕ → K
  pub phase : ℕ → Phase
  pub held : ℕ → Held K

module _ {K : Type 0} where
  abbrev pub on_record : Trace K → OnRecord K
  on_record j =
      record {
        ended_at = ended_at j;
        placed_at = placed_at j;
        sealed_at = sealed_at j;
        begun_at = begun_at j;
        stored_at = stored_at j;
        makers = makers j;
        taken = taken j;
        readings = readings j;
        holds = holds j;
        requests = requests j;
      }

  abbrev pub played : (ℕ → K) → (ℕ → ℕ) → List (Event K) → Played K
  played start b es =
      record {
        ended = (history es).ended;
        begun_at = (history es).begun_at;
        base = (history es).base;
        seals = (history es).seals;
        maker = (history es).maker;
        latest = (history es).latest;
        stored = (history es).stored;
        over = (history es).over;
        log = (history es).log;
        current = (history es).current;
        operations = (commits_of es).operations;
        sealed = (commits_of es).sealed;
        content = (state start b es).content;
        phase = (state start b es).phase;
        held = (state start b es).held;
      }

  pub record Core (start : ℕ → K) (r : OnRecord K) (q : Played K) : Type 0 where
    pub ends : Ends r.ended_at r.placed_at q.ended q.begun_at
    pub seals : Seals r.sealed_at q.sealed q.seals q.maker
    pub bases : Bases r.begun_at r.sealed_at q.base q.seals q.maker
    pub versions : Versions r.makers r.taken r.stored_at q.sealed q.over q.maker q.latest q.stored q.log
    pub logs : Logs r.readings r.holds q.log q.maker q.seals q.over
    pub ops : Ops r.readings r.requests q.operations q.sealed
    pub contents : Contents start r.readings q.operations q.maker q.seals q.content q.stored
    -- whose begin was not answered has no access
    pub logged : (t : ℕ) (c : Access) → events.In c (q.log t) → Known (r.begun_at t)
    pub owing : Owing q.phase q.held q.current q.latest q.maker q.operations

  abbrev pub CoreOf : (ℕ → K) → (ℕ → ℕ) → Trace K → List (Event K) → Type 0
  CoreOf start b j es = Core start (on_record j) (played start b es)

  -- after the events es, with the trace j, process p acts for its transaction
  module _ (P : ℕ) (start : ℕ → K) (b : ℕ → ℕ) (j : Trace K) (es : List (Event K)) (lawful : Lawful P start b es) (c : CoreOf start b j es) (p : ℕ)
      (who : whose j p ≡ Some ((history es).current p)) where
    abbrev bel : ℕ → Bool
    bel u = is (whose j p) u

    own_is : (u : ℕ) → bel u ≡ eqb ((history es).current p) u
    own_is u = ap (λ (o : Option ℕ). is o u) who

    abbrev line : Stepped K → Trace K
    line z = entry p (made z) ∷ j

    -- a running or certifying transaction is not sealed, and no version is made by it
    open_is : Live (state start b es).phase p → (commits_of es).sealed ((history es).current p) ≡ false
    open_is live = (all P start b es lawful).linked.opens p (inr live)

    no_maker : Live (state start b es).phase p → (i : ℕ) → 0 < i → i ≤ (history es).seals → (history es).maker i ≡ (history es).current p → ⊥
    no_maker live i l n e = (all P start b es lawful).kept.currents.unsealed p i (inr live) l n e

    low : (x : ℕ) → (history es).stored x ≤ (history es).seals
    low x = (all P start b es lawful).kept.vers.present x

    older : (i x h : ℕ) → (history es).over i x ≡ some h → h < i
    older i x h e = ((all P start b es lawful).kept.vers.replaced i x h e).0

    inside : (f : Phase) → (state start b es).phase p ≡ f → T (not (eqb (tag f) 0)) → (state start b es).phase p ≡ out → ⊥
    inside f e n d = differ f out n (sym e ∙ d)

    apart : Live (state start b es).phase p → (q u : ℕ) → (state start b es).phase q ≡ sealing u → (history es).current q ≡ (history es).current p → ⊥
    apart live q u e same =
        let k = (all P start b es lawful).kept.currents.single q p (λ o. differ (sealing u) out tt (sym e ∙ o)) (live_in live) same in
        clash live (ap (state start b es).phase k)
      where
        live_in : Live (state start b es).phase p → (state start b es).phase p ≡ out → ⊥
        live_in live o = grind arith

        clash : Live (state start b es).phase p → (state start b es).phase q ≡ (state start b es).phase p → ⊥
        clash live n = grind arith

    -- whether p's transaction has written x
    writes_held : (x : ℕ) (v : K) → Live (state start b es).phase p → (state start b es).held x ≡ by p v → writes ((history es).log ((history es).current p)) x ≡ true
    writes_held x v live h = (all P start b es lawful).kept.logs.has p x v live h

    unwritten : (x : ℕ) → Live (state start b es).phase p → (state start b es).held x ≡ nobody → writes ((history es).log ((history es).current p)) x ≡ false
    unwritten x live h =
        elim (cases_Bool (writes ((history es).log ((history es).current p)) x)) [
          | inl e ↦ absurd (let k = (all P start b es lawful).kept.logs.had p x live e in unheld ((state start b es).held x) p k.0 h k.1)
          | inr e ↦ e
        ]

    -- an object that nobody holds is at its last version
    pub free_latest : (x : ℕ) → (state start b es).held x ≡ nobody → (history es).stored x ≡ (history es).latest x
    free_latest x h = (all P start b es lawful).kept.vers.settled x (λ q v u e f. unheld ((state start b es).held x) q v h e)

    -- what a look at such an object finds
    pub sees_version : (x : ℕ) → Live (state start b es).phase p → (state start b es).held x ≡ nobody → sight j (whose j p) x ≡ version (name (history es).maker ((history es).stored x))
    sees_version x live h =
        ap (λ (o : Option ℕ). sight j o x) who
        ∙ cond-false (among x (taken j ((history es).current p))) pending (version (latest (makers j x))) (c.versions.wrote ((history es).current p) x ∙ unwritten x live h)
        ∙ ap version (chain_name (history es).over (history es).maker x ((history es).latest x) (makers j x) (c.versions.line x)
        ∙ ap (name (history es).maker) (sym (free_latest x h)))

    pub sees_own : (x : ℕ) (v : K) → Live (state start b es).phase p → (state start b es).held x ≡ by p v → sight j (whose j p) x ≡ pending
    sees_own x v live h =
        ap (λ (o : Option ℕ). sight j o x) who
        ∙ cond-true (among x (taken j ((history es).current p))) pending (version (latest (makers j x))) (c.versions.wrote ((history es).current p) x ∙ writes_held x v live h)

    -- one more access of p's transaction
    logs_more : (d : Access) → Known (begun_at j ((history es).current p)) → (u : ℕ) (e : Access) → events.In e (put (history es).log ((history es).current p) (d ∷ (history es).log ((history es).current p)) u) → Known (begun_at j u)
    logs_more d begun u e =
        put_when (λ (l : List Access). events.In e l → Known (begun_at j u)) (history es).log ((history es).current p) (d ∷ (history es).log ((history es).current p)) u
        (λ same i. subst (λ (v : ℕ). Known (begun_at j v)) same begun) (λ other i. c.logged u e i)

    -- the begin is answered
    pub core_ready : (k n : ℕ) → begun_at j ((history es).current p) ≡ None → CoreOf start b (line (answering Nothing (answer_is.Begun n))) (ready p k ∷ es)
    core_ready k n new =
        record {
          ends = c.ends;
          seals = c.seals;
          bases = bases_begin (begun_at j) (sealed_at j) (history es).base (history es).seals (history es).maker bel ((history es).current p) (length j) own_is (first_before _ j) new c.bases;
          versions = c.versions;
          logs = c.logs;
          ops = c.ops;
          contents = c.contents;
          logged = λ u d i. noted_keeps bel ((history es).current p) (length j) own_is (begun_at j) u (c.logged u d i);
          owing = owing_turn _ _ _ _ _ _ c.owing p running tt;
        }

    -- a read is answered: what its first step found, and what the protocol's log has of it
    module _ (x n : ℕ) (v : K) (k : ℕ) (f : Option Found) (q : desk j p ≡ asked (Read x) n f) (live : Live (state start b es).phase p) where
      abbrev the_reading : Reading K
      the_reading = record { object = x; found = first f (sight j (whose j p) x); content = v; at = length j }

      reading_is : reading j (whose j p) (desk j p) (Some v) ≡ Some the_reading
      reading_is = ap (λ (d : Desk K). reading j (whose j p) d (Some v)) q

      -- from the version that the protocol has fetched
      pub core_answer : (st : ℕ) → first f (sight j (whose j p) x) ≡ version (name (history es).maker ((history es).fetched p)) → (history es).fetched p ≤ (history es).seals
          → ContentOf start (commits_of es).operations (history es).maker x ((history es).fetched p) v → Known (begun_at j ((history es).current p))
          → CoreOf start b (line (answering Nothing (answer_is.Read v k))) (answer p x st v ∷ es)
      core_answer st found low' content begun =
          record {
            ends = c.ends;
            seals = c.seals;
            bases = c.bases;
            versions = versions_log _ _ _ _ _ _ _ _ _ c.versions ((history es).current p) (rd x ((history es).fetched p)) (λ y. refl);
            logs = subst (λ (o : Option (Reading K)). Logs (λ u. push o (bel u) (readings j u)) (holds j) (put (history es).log ((history es).current p) (rd x ((history es).fetched p) ∷ (history es).log ((history es).current p))) (history es).maker (history es).seals (history es).over) (sym reading_is)
                (logs_read _ _ _ _ _ _ c.logs ((history es).current p) bel own_is the_reading ((history es).fetched p) found (λ r i. reading_before j ((history es).current p) r i) (λ h i. hold_before j ((history es).current p) h i));
            ops = subst (λ (o : Option (Reading K)). Ops (λ u. push o (bel u) (readings j u)) (requests j) (put (commits_of es).operations ((history es).current p) (got x v ∷ (commits_of es).operations ((history es).current p))) (commits_of es).sealed) (sym reading_is)
                (ops_got _ _ _ _ c.ops ((history es).current p) bel own_is the_reading x (open_is live));
            contents = subst (λ (o : Option (Reading K)). Contents start (λ u. push o (bel u) (readings j u)) (put (commits_of es).operations ((history es).current p) (got x v ∷ (commits_of es).operations ((history es).current p))) (history es).maker (history es).seals (state start b es).content (history es).stored) (sym reading_is)
                (contents_perform _ _ _ _ _ _ _ (contents_read _ _ _ _ _ _ _ c.contents ((history es).current p) low bel own_is the_reading
                (λ m e. ((history es).fetched p, low', (let w : version m ≡ version (name (history es).maker ((history es).fetched p)) = sym e ∙ found in cc), content))) ((history es).current p) low (got x v) (no_maker live));
            logged = logs_more (rd x ((history es).fetched p)) begun;
            owing = owing_perform _ _ _ _ _ _ c.owing p (got x v) (apart live);
          }

      -- from its own pending contents
      pub core_own : first f (sight j (whose j p) x) ≡ pending → CoreOf start b (line (answering Nothing (answer_is.Read v k))) (own p x v ∷ es)
      core_own found =
          record {
            ends = c.ends;
            seals = c.seals;
            bases = c.bases;
            versions = c.versions;
            logs = subst (λ (o : Option (Reading K)). Logs (λ u. push o (bel u) (readings j u)) (holds j) (history es).log (history es).maker (history es).seals (history es).over) (sym reading_is)
                (logs_own _ _ _ _ _ _ c.logs ((history es).current p) bel own_is the_reading found);
            ops = subst (λ (o : Option (Reading K)). Ops (λ u. push o (bel u) (readings j u)) (requests j) (put (commits_of es).operations ((history es).current p) (got x v ∷ (commits_of es).operations ((history es).current p))) (commits_of es).sealed) (sym reading_is)
                (ops_got _ _ _ _ c.ops ((history es).current p) bel own_is the_reading x (open_is live));
            contents = subst (λ (o : Option (Reading K)). Contents start (λ u. push o (bel u) (readings j u)) (put (commits_of es).operations ((history es).current p) (got x v ∷ (commits_of es).operations ((history es).current p))) (history es).maker (history es).seals (state start b es).content (history es).stored) (sym reading_is)
                (contents_perform _ _ _ _ _ _ _ (contents_read _ _ _ _ _ _ _ c.contents ((history es).current p) low bel own_is the_reading
                (λ m e. absurd (clash (sym e ∙ found)))) ((history es).current p) low (got x v) (no_maker live));
            logged = c.logged;
            owing = owing_perform _ _ _ _ _ _ c.owing p (got x v) (apart live);
          }
        where
          clash : {m : Maker} → version m ≡ pending → ⊥
          clash e = cc

    -- p writes x again
    pub core_rewrite : (x : ℕ) (v w : K) (k : ℕ) → (state start b es).phase p ≡ running → (state start b es).held x ≡ by p w → Covers (makers j) (holds j ((history es).current p)) → Known (begun_at j ((history es).current p))
        → CoreOf start b (line (answering Nothing (answer_is.Written k))) (write p x v ∷ es)
    core_rewrite x v w k run h covers begun =
        let wr = writes_held x w (inl run) h in
        let held = taken_held j ((history es).current p) x (c.versions.wrote ((history es).current p) x ∙ wr) in
        record {
          ends = c.ends;
          seals = c.seals;
          bases = c.bases;
          versions = versions_rewrite _ _ _ _ _ _ _ _ _ c.versions ((history es).current p) x ((history es).stored x) wr;
          logs = logs_rewrite _ _ _ _ _ _ c.logs ((history es).current p) x ((history es).stored x) held.0 held.1
              (covers held.0 held.1
              ∙ ap (λ (y : ℕ). latest (makers j y)) held.2
              ∙ chain_name (history es).over (history es).maker x ((history es).latest x) (makers j x) (c.versions.line x)
              ∙ ap (name (history es).maker) (sym settled));
          ops = ops_set _ _ _ _ c.ops ((history es).current p) x v (open_is (inl run));
          contents = contents_perform _ _ _ _ _ _ _ c.contents ((history es).current p) low (set x v) (no_maker (inl run));
          logged = logs_more (ov x ((history es).stored x)) begun;
          owing = owing_write _ _ _ _ _ _ c.owing p x v (set x v) run (apart (inl run));
        }
      where
        settled : (history es).stored x ≡ (history es).latest x
        settled =
            (all P start b es lawful).kept.vers.settled x
            (λ q y u e f. differ (sealing u) running tt (sym f ∙ ap (state start b es).phase (one_holder ((state start b es).held x) q p y w e h) ∙ run))

    -- p becomes the holder of x
    pub core_take : (x : ℕ) (v : K) → (state start b es).phase p ≡ running → (state start b es).held x ≡ nobody → Known (begun_at j ((history es).current p))
        → CoreOf start b (line (going (Took x))) (write p x v ∷ es)
    core_take x v run h begun =
        record {
          ends = c.ends;
          seals = c.seals;
          bases = c.bases;
          versions = versions_take _ _ _ _ _ _ _ _ _ c.versions ((history es).current p) bel own_is x ((history es).stored x);
          logs = logs_take _ _ _ _ _ _ c.logs ((history es).current p) bel own_is (record { object = x; over = latest (makers j x); at = length j }) ((history es).stored x)
              (chain_name (history es).over (history es).maker x ((history es).latest x) (makers j x) (c.versions.line x)
              ∙ ap (name (history es).maker) (sym (free_latest x h)))
              (no_maker (inl run));
          ops = ops_set _ _ _ _ c.ops ((history es).current p) x v (open_is (inl run));
          contents = contents_perform _ _ _ _ _ _ _ c.contents ((history es).current p) low (set x v) (no_maker (inl run));
          logged = logs_more (ov x ((history es).stored x)) begun;
          owing = owing_write _ _ _ _ _ _ c.owing p x v (set x v) run (apart (inl run));
        }

    -- p is sealed, and has versions to store
    pub core_seal : (u : ℕ) (n : ℕ → ℕ) → (state start b es).phase p ≡ certifying → Covers (makers j) (holds j ((history es).current p)) → requests j ((history es).current p) ≡ Commit ∷ started ((commits_of es).operations ((history es).current p))
        → CoreOf start b (line (going Sealed)) (seal p u n ∷ es)
    core_seal u n cert covers asks =
        record {
          ends = c.ends;
          seals = seals_make _ _ _ _ bel ((history es).current p) (length j) own_is c.seals;
          bases = bases_make (begun_at j) (sealed_at j) (commits_of es).sealed (history es).base (history es).seals (history es).maker bel ((history es).current p) (length j) own_is (first_before _ j)
              (all P start b es lawful).kept.logs.based unsealed c.seals c.bases;
          versions = subst (λ (o : Option ℕ). Versions (λ x. push o (wrote j o x) (makers j x)) (taken j) (stored_at j) (put (commits_of es).sealed ((history es).current p) true)
              (put (history es).over (suc (history es).seals) (λ x. cond (writes ((history es).log ((history es).current p)) x) (some ((history es).latest x)) none))
              (put (history es).maker (suc (history es).seals) ((history es).current p)) (λ x. cond (writes ((history es).log ((history es).current p)) x) (suc (history es).seals) ((history es).latest x)) (history es).stored (history es).log) (sym who)
              (versions_make _ _ _ _ _ _ _ _ _ c.versions ((history es).current p) (history es).seals (all P start b es lawful).kept.vers.newest older (open_is (inr cert)));
          logs = logs_make _ _ _ _ _ _ c.logs ((history es).current p) _ (all P start b es lawful).kept.logs.bound older
              (λ i e x. ap (λ (f : ℕ → Mark). f x) (put_other (history es).over (suc (history es).seals) _ i e))
              (λ h i. let wr : writes ((history es).log ((history es).current p)) h.object ≡ true = sym (c.versions.wrote ((history es).current p) h.object) ∙ among_in h.object (taken j ((history es).current p)) (hold_taken j ((history es).current p) h i) in (
                (history es).latest h.object,
                (all P start b es lawful).kept.vers.newest h.object,
                ap (λ (f : ℕ → Mark). f h.object) (put_same (history es).over (suc (history es).seals) _ (suc (history es).seals) refl)
                    ∙ cond-true (writes ((history es).log ((history es).current p)) h.object) _ _ wr,
                covers h i ∙ chain_name (history es).over (history es).maker h.object ((history es).latest h.object) (makers j h.object) (c.versions.line h.object),
              ));
          ops = ops_seal _ _ _ _ c.ops ((history es).current p) asks;
          contents = contents_make _ _ _ _ _ _ _ c.contents ((history es).current p) low;
          logged = c.logged;
          owing = record { owes = λ q x v w e h. owed q x v w h (cases_eq p q) e };
        }
      where
        unsealed : sealed_at j ((history es).current p) ≡ None
        unsealed =
            elim (known_or (sealed_at j ((history es).current p))) [
              | inl e ↦ e
              | inr e ↦ absurd (true≢false (sym (c.seals.known ((history es).current p) e) ∙ open_is (inr cert)))
            ]

        latest' : ℕ → ℕ
        latest' x = cond (writes ((history es).log ((history es).current p)) x) (suc (history es).seals) ((history es).latest x)

        maker' : ℕ → ℕ
        maker' = put (history es).maker (suc (history es).seals) ((history es).current p)

        mine : (x : ℕ) (v : K) → (state start b es).held x ≡ by p v → Owed latest' maker' (commits_of es).operations ((history es).current p) x v
        mine x v h =
            let new : latest' x ≡ suc (history es).seals = cond-true (writes ((history es).log ((history es).current p)) x) _ _ (writes_held x v (inr cert) h) in (
              omega arith,
              ap maker' new ∙ put_same (history es).maker (suc (history es).seals) ((history es).current p) (suc (history es).seals) refl,
              λ m. ap (λ (l : List (Operation K)). after m l x) (sym ((all P start b es lawful).linked.same p (inr cert))) ∙ (all P start b es lawful).inv.wrote p x v (inr cert) h m,
            )

        other : (q x : ℕ) (v : K) (w : ℕ) → (p ≡ q → ⊥) → (state start b es).held x ≡ by q v → (state start b es).phase q ≡ sealing w
            → Owed latest' maker' (commits_of es).operations ((history es).current q) x v
        other q x v w d h e =
            let o = c.owing.owes q x v w e h in
            let k : writes ((history es).log ((history es).current p)) x ≡ false = elim (cases_Bool (writes ((history es).log ((history es).current p)) x)) [
              | inl y ↦ absurd (let z = (all P start b es lawful).kept.logs.had p x (inr cert) y in d (one_holder ((state start b es).held x) p q z.0 v z.1 h))
              | inr y ↦ y
            ] in
            let same : latest' x ≡ (history es).latest x = cond-false (writes ((history es).log ((history es).current p)) x) _ _ k in
            let few = (all P start b es lawful).kept.vers.newest x in
            let l = o.0 in (
              omega arith,
              ap maker' same ∙ put_other (history es).maker (suc (history es).seals) ((history es).current p) ((history es).latest x) (λ y. let z = y in omega arith) ∙ o.1,
              o.2,
            )

        owed : (q x : ℕ) (v : K) (w : ℕ) → (state start b es).held x ≡ by q v → (p ≡ q) ⊎ (p ≡ q → ⊥) → put (state start b es).phase p (sealing u) q ≡ sealing w
            → Owed latest' maker' (commits_of es).operations ((history es).current q) x v
        owed q x v w h (inl d) e =
            subst (λ (z : ℕ). Owed latest' maker' (commits_of es).operations ((history es).current z) x v) d (mine x v (h ∙ ap (λ (z : ℕ). by z v) (sym d)))
        owed q x v w h (inr d) e = other q x v w d h (sym (put_other (state start b es).phase p (sealing u) q d) ∙ e)

    -- p is sealed and ends, having nothing to store
    pub core_finish : (k : ℕ) → (state start b es).phase p ≡ certifying → requests j ((history es).current p) ≡ Commit ∷ started ((commits_of es).operations ((history es).current p))
        → CoreOf start b (line (answering Nothing (answer_is.Committed k))) (close p ∷ finish p ∷ es)
    core_finish k cert asks =
        record {
          ends = ends_end _ _ _ _ bel ((history es).current p) (length j) _ own_is (first_before _ j) (λ n. (all P start b es lawful).kept.times.going p n (inside certifying cert tt)) c.ends;
          seals = seals_end _ _ _ _ bel ((history es).current p) (length j) own_is c.seals;
          bases = bases_at (begun_at j) (sealed_at j) _ (history es).base (history es).seals (history es).maker
              (λ i l n. noted_known bel ((history es).current p) (length j) own_is (sealed_at j) ((history es).maker i) (c.seals.noted_too ((history es).maker i) (c.seals.made i l n))) c.bases;
          versions = versions_end _ _ _ _ _ _ _ _ _ c.versions ((history es).current p);
          logs = c.logs;
          ops = ops_seal _ _ _ _ c.ops ((history es).current p) asks;
          contents = c.contents;
          logged = c.logged;
          owing = owing_turn _ _ _ _ _ _ (owing_turn _ _ _ _ _ _ c.owing p aborting tt) p out tt;
        }

    -- p stores x
    pub core_store : (x : ℕ) (v : K) (u : ℕ) → (state start b es).phase p ≡ sealing u → (state start b es).held x ≡ by p v → (commits_of es).sealed ((history es).current p) ≡ true
        → CoreOf start b (line (going (Stored x))) (store p x v u ∷ es)
    core_store x v u sl h sld =
        let o = c.owing.owes p x v u sl h in
        record {
          ends = c.ends;
          seals = c.seals;
          bases = c.bases;
          versions = versions_store _ _ _ _ _ _ _ _ _ c.versions ((history es).current p) bel own_is x (length j) sld;
          logs = c.logs;
          ops = c.ops;
          contents = contents_store _ _ _ _ _ _ _ c.contents ((history es).current p) low x ((history es).latest x) v
              (content_made start (commits_of es).operations (history es).maker x ((history es).latest x) ((history es).current p) v o.0 o.1 o.2);
          logged = c.logged;
          owing = owing_free _ _ _ _ _ _ c.owing x;
        }

    -- p stores its last object and ends
    pub core_stored : (x : ℕ) (v : K) (u k : ℕ) → (state start b es).phase p ≡ sealing u → (state start b es).held x ≡ by p v → (commits_of es).sealed ((history es).current p) ≡ true
        → CoreOf start b (line (answering (Stored x) (answer_is.Committed k))) (commit p u ∷ store p x v u ∷ es)
    core_stored x v u k sl h sld =
        let d = core_store x v u sl h sld in
        let same : (w : ℕ) → noted bel (sealed_at j) (length j) w ≡ sealed_at j w = noted_same bel ((history es).current p) (length j) own_is (sealed_at j) (c.seals.noted_too ((history es).current p) sld) in
        record {
          ends = ends_end _ _ _ _ bel ((history es).current p) (length j) _ own_is (first_before _ j) (λ n. (all P start b es lawful).kept.times.going p n (inside (sealing u) sl tt)) c.ends;
          seals = seals_at (sealed_at j) (noted bel (sealed_at j) (length j)) _ _ _ same c.seals;
          bases = bases_at (begun_at j) (sealed_at j) (noted bel (sealed_at j) (length j)) (history es).base (history es).seals (history es).maker (λ i l n. same ((history es).maker i)) c.bases;
          versions = d.versions;
          logs = c.logs;
          ops = c.ops;
          contents = d.contents;
          logged = c.logged;
          owing = owing_turn _ _ _ _ _ _ d.owing p out tt;
        }

    -- p is given up
    pub core_fail : (r : Cause) → CoreOf start b j (fail p r ∷ es)
    core_fail r =
        record {
          ends = c.ends;
          seals = c.seals;
          bases = c.bases;
          versions = c.versions;
          logs = c.logs;
          ops = c.ops;
          contents = c.contents;
          logged = c.logged;
          owing = owing_turn _ _ _ _ _ _ c.owing p aborting tt;
        }

    -- p begins its certification
    pub core_certify : CoreOf start b j (certify p ∷ es)
    core_certify =
        record {
          ends = c.ends;
          seals = c.seals;
          bases = c.bases;
          versions = c.versions;
          logs = c.logs;
          ops = c.ops;
          contents = c.contents;
          logged = c.logged;
          owing = owing_turn _ _ _ _ _ _ c.owing p certifying tt;
        }

    -- p frees x
    pub core_free : (x : ℕ) (v : K) → CoreOf start b j (free p x v ∷ es)
    core_free x v =
        record {
          ends = c.ends;
          seals = c.seals;
          bases = c.bases;
          versions = c.versions;
          logs = c.logs;
          ops = c.ops;
          contents = c.contents;
          logged = c.logged;
          owing = owing_free _ _ _ _ _ _ c.owing x;
        }

    -- p, which is given up, ends
    pub core_close : (k : ℕ) → (state start b es).phase p ≡ aborting → CoreOf start b (line (answering Nothing (answer_is.Withdrawn k))) (close p ∷ es)
    core_close k ab =
        record {
          ends = ends_end _ _ _ _ bel ((history es).current p) (length j) _ own_is (first_before _ j) (λ n. (all P start b es lawful).kept.times.going p n (inside aborting ab tt)) c.ends;
          seals = c.seals;
          bases = c.bases;
          versions = c.versions;
          logs = c.logs;
          ops = c.ops;
          contents = c.contents;
          logged = c.logged;
          owing = owing_turn _ _ _ _ _ _ c.owing p out tt;
        }
