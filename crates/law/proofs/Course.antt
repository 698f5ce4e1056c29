-- The tables of a memory, its bank and the trace of its run stand together; every call keeps them so.
use Rattle.std.proofs.Common.{◌≡◌, ℕ, suc, ◌+◌, ◌-◌, ◌*◌, ◌^◌, ◌<◌, ◌≤◌, Bool, true, false, cond, eqb, ◌⊎◌, List, [], ◌∷◌, ◌++◌, length, get_or, drop, Some, None, Ok, Option, sym, refl, ap, ◌∙◌, subst, inl, inr, arith}
use Rattle.std.proofs.lemmas.List.{append_assoc, get_or-map, get_or_past, get_or-replicate, length-map, length-replicate}
use Rattle.std.proofs.lemmas.Bool.{cases_eq, cases_lt, eq-eqb, cond-true, not-true}
use Rattle.std.proofs.lemmas.Option.{same_Some, none-some}
use Rattle.tables.specs.Fresh.{unheld, fresh_tables}
use Rattle.tables.specs.Lookup.{value_of}
use Rattle.tables.specs.Tables.{Tables, process_at, object_at, hand_at, read_set, write_set, idle_process, blank_object, numbers_ok}
use Rattle.tables.specs.declared.map.Slot.{Slot}
use Rattle.tables.specs.declared.memory.Object.{Object}
use Rattle.tables.specs.declared.process.Phase as table
use Rattle.tables.specs.declared.process.Phase.TheVariants.{Idle}
use Rattle.tables.specs.declared.process.Process.{Process}
use Rattle.tables.specs.declared.reply.Answer.{Answer}
use Rattle.tables.specs.declared.reply.Conflict.{Conflict}
use Rattle.tables.specs.declared.reply.Request.{Request}
use Rattle.tables.specs.declared.reply.Request.TheVariants.{Begin, Read, Write, Commit, Withdraw}
use Rattle.tables.specs.declared.reply.Stepped.{Stepped}
use Rattle.engine.specs.Place.{due, placed as placed_process, place_call}
use Rattle.engine.specs.Step.{step_call, step_bank}
use Rattle.protocol.specs.Table.{put}
use Rattle.protocol.specs.Protocol.{State, Event, Lawful, LawfulFrom, state, fresh}
use Rattle.protocol.specs.Protocol.Held.{nobody, by}
use Rattle.protocol.specs.Protocol.Phase.{out, starting, running, certifying, aborting}
use Rattle.protocol.specs.Protocol.Event.{begin, certify, fail}
use Rattle.protocol.specs.Protocol.Cause.{withdrawn}
use Rattle.protocol.specs.History.{history}
use Rattle.protocol.proofs.Blocks.{joined, lawful_on}
use Rattle.protocol.proofs.Freshness.{fresh_turn, fresh_next}
use Rattle.protocol.proofs.Invariant.{Live, differ, unsaw, unfull}
use Rattle.protocol.proofs.Laws.{all}
use Rattle.protocol.proofs.Updates.{put_same, put_other}
use Rattle.refinement.proofs.Acts.{Asks, stopped_by, Block, Act, HasStepped, has_stepped, Goes, Advance}
use Rattle.refinement.proofs.Acts.Act.{plain, certifying_first, withdrawing_first}
use Rattle.refinement.proofs.Calls.{step_advances, placing_events, place_advances}
use Rattle.refinement.proofs.Counts.{step_counts, place_counts}
use Rattle.refinement.proofs.Kept.{step_good, place_good, fresh_good}
use Rattle.refinement.proofs.Own.{Good, PhaseOwn}
use Rattle.refinement.proofs.Rows.{Row, row}
use Rattle.refinement.proofs.View.{gone, pending_of, HolderAs, LiveAs, RowAs, View, row_at}
use Rattle.refinement.proofs.Windows.{window}
use Rattle.law.specs.Trace.{Trace, entry}
use Rattle.law.specs.Trace.Act.{placed, made}
use Rattle.law.specs.Ledger.{Found, Desk, is, count, whose, freed_at, stored_at, taken, desk, desk_on, finds, of_request, of_answer}
use Rattle.law.specs.Ledger.Desk.{free, asked}
use Rattle.law.specs.Law.{Disturbed, Justified, Prompt, Counted, most, Lawful as LawfulRun}
use Rattle.law.proofs.Traces.{unborn_at}
use Rattle.law.proofs.Others.{desk_other}
use Rattle.law.proofs.Matches.{Matches, matches_step, base_certify, base_withdraw, lawful_split}
use Rattle.law.proofs.Placed.{matches_ask, matches_begin}
use Rattle.law.proofs.Serial.{serial, genuine}
use Rattle.law.proofs.Snapshots.{consistent}
use Rattle.law.proofs.Disturbance.{Watch, disturbed_more, justified_more}
use Rattle.law.proofs.Watch.{watch_block, watch_certify, watch_withdraw, justifies, blames}

-- a request that frees what it holds has steps left
freeing : (n i s : ℕ) → (n ≡ 0) ⊎ (i < n) → s + cond (eqb n 0) 1 (n - i) ≤ 49 → s < 49
freeing n i s x y = grind arith

module _ {K : Type 0} where
  -- an answer counts one step more than were made
  count_is : {s : State K} {p : ℕ} {r : Request K} {n : ℕ} {o o' : Option Conflict} {z : Stepped K} {fs : List (Event K)} → Block s p r n o z fs o' → (k : ℕ) → (of_answer z.answer).steps ≡ Some k → k ≡ n + 1
  count_is b k e = grind arith

  act_count : {s : State K} {p : ℕ} {r : Request K} {n : ℕ} {o o' : Option Conflict} {z : Stepped K} {fs : List (Event K)} → Act s p r n o z fs o' → (k : ℕ) → (of_answer z.answer).steps ≡ Some k → k ≡ n + 1
  act_count (plain d a) k e = count_is a k e
  act_count (certifying_first d a) k e = count_is a k e
  act_count (withdrawing_first d a) k e = count_is a k e

  -- a step of p, with what is on record and the reasons for aborts
  module _ (P : ℕ) (start : ℕ → K) (b : ℕ → ℕ) (j : Trace K) (es : List (Event K)) (lawful : Lawful P start b es) (c : Matches start b j es) (w : Watch start b j es) (p : ℕ) (who : whose j p ≡ Some ((history es).current p))
      (in' : (state start b es).phase p ≡ out → ⊥) where
    certain : (state start b (certify p ∷ es)).phase p ≡ out → ⊥
    certain e = differ certifying out tt (sym (put_same (state start b es).phase p certifying p refl) ∙ e)

    given_up : (state start b (fail p withdrawn ∷ es)).phase p ≡ out → ⊥
    given_up e = differ aborting out tt (sym (put_same (state start b es).phase p aborting p refl) ∙ e)

    watch_step : {r : Request K} {n : ℕ} {o o' : Option Conflict} {z : Stepped K} {fs : List (Event K)} (f : Option Found) → Act (state start b es) p r n o z fs o' → LawfulFrom P (state start b es) fs → desk j p ≡ asked r n f
        → Watch start b (entry p (made z) ∷ j) (fs ++ es)
    watch_step f (plain d a) m q = watch_block P start b j es lawful c.base w p who in' a m
    watch_step {n = n} {z = z} f (certifying_first {es = fs} d a) m q =
        let parts = lawful_split P (state start b es) fs (certify p ∷ []) m in
        let whole : Lawful P start b (certify p ∷ es) = (lawful, parts.0.1) in
        subst (Watch start b (entry p (made z) ∷ j)) (sym (append_assoc fs (certify p ∷ []) es))
        (watch_block P start b j (certify p ∷ es) whole (base_certify P start b j es lawful c.base p who in' n f q parts.0.1.runs whole) (watch_certify P start b j es lawful c.base w p who in' parts.0.1.runs whole) p who certain a parts.1)
    watch_step {z = z} f (withdrawing_first {es = fs} d a) m q =
        let parts = lawful_split P (state start b es) fs (fail p withdrawn ∷ []) m in
        let whole : Lawful P start b (fail p withdrawn ∷ es) = (lawful, parts.0.1) in
        subst (Watch start b (entry p (made z) ∷ j)) (sym (append_assoc fs (fail p withdrawn ∷ []) es))
        (watch_block P start b j (fail p withdrawn ∷ es) whole (base_withdraw P start b j es lawful c.base p who in' whole) (watch_withdraw P start b j es lawful c.base w p who in' whole) p who given_up a parts.1)

    act_justifies : {r : Request K} {n : ℕ} {o o' : Option Conflict} {z : Stepped K} {fs : List (Event K)} (f : Option Found) → Act (state start b es) p r n o z fs o' → LawfulFrom P (state start b es) fs → desk j p ≡ asked r n f → (k : Conflict)
        → (o' ≡ Some k) ⊎ ((of_answer z.answer).conflict ≡ Some k) → (o ≡ Some k → Justified j ((history es).current p) k) → Justified (entry p (made z) ∷ j) ((history es).current p) k
    act_justifies {z = z} f (plain d a) m q k e before =
        elim (blames P start b j es lawful c.base w p who in' a m k e) [
          | inl h ↦ justified_more (entry p (made z)) j ((history es).current p) k (before h)
          | inr h ↦ justifies P start b j es lawful c.base w p who in' (entry p (made z)) k h.0 h.1
        ]
    act_justifies {n = n} {z = z} f (certifying_first {es = fs} d a) m q k e before =
        let parts = lawful_split P (state start b es) fs (certify p ∷ []) m in
        let whole : Lawful P start b (certify p ∷ es) = (lawful, parts.0.1) in
        let base' = base_certify P start b j es lawful c.base p who in' n f q parts.0.1.runs whole in
        let watch' = watch_certify P start b j es lawful c.base w p who in' parts.0.1.runs whole in
        elim (blames P start b j (certify p ∷ es) whole base' watch' p who certain a parts.1 k e) [
          | inl h ↦ cc
          | inr h ↦ justifies P start b j (certify p ∷ es) whole base' watch' p who certain (entry p (made z)) k h.0 h.1
        ]
    act_justifies {z = z} f (withdrawing_first {es = fs} d a) m q k e before =
        let parts = lawful_split P (state start b es) fs (fail p withdrawn ∷ []) m in
        let whole : Lawful P start b (fail p withdrawn ∷ es) = (lawful, parts.0.1) in
        let base' = base_withdraw P start b j es lawful c.base p who in' whole in
        let watch' = watch_withdraw P start b j es lawful c.base w p who in' whole in
        elim (blames P start b j (fail p withdrawn ∷ es) whole base' watch' p who given_up a parts.1 k e) [
          | inl h ↦ cc
          | inr h ↦ justifies P start b j (fail p withdrawn ∷ es) whole base' watch' p who given_up (entry p (made z)) k h.0 h.1
        ]

  -- What a process's record says of the request in hand is on record.
  pub record Desked (r : Process) (h : K) (j : Trace K) (p : ℕ) : Type 0 where
    pub hand : ((r.phase ≡ Idle) × (desk j p ≡ free)) ⊎ ((k : Request K) × (f : Option Found) × Asks h r.phase k × (desk j p ≡ asked k r.steps f))
    pub begun : r.live ≡ true → (u : ℕ) × (whose j p ≡ Some u)
    pub stopped : (k : Conflict) → stopped_by r.phase ≡ Some k → (u : ℕ) → whose j p ≡ Some u → Justified j u k
    pub stepped : HasStepped r.phase r.steps

  -- with P processes, from the contents start and the bank's numbers b
  pub record Course (e : K) (P : ℕ) (start : ℕ → K) (b : ℕ → ℕ) (number : ℕ → ℕ) (t : Tables K) (j : Trace K) : Type 0 where
    pub events : List (Event K)
    pub lawful : Lawful P start b events
    pub view : View e number t (state start b events)
    pub good : Good e t
    pub processes : length t.processes ≡ P
    pub matches : Matches start b j events
    pub watch : Watch start b j events
    pub desks : (p : ℕ) → Desked (process_at t p) (hand_at e t p) j p
    pub prompt : Prompt P j

  -- the steps that a request has made are few
  steps_few : (P N : ℕ) (h : K) (r : Process) (rs : List (Slot ℕ)) (ws : List (Slot K)) (f : table.Phase) (q : Request K) → PhaseOwn P N r rs ws f → Asks h f q → r.steps < most P q
  steps_few P N h r rs ws f q o a = grind arith

  -- a process that is not there has nothing in hand
  absent_idle : (t : Tables K) (p : ℕ) → length t.processes ≤ p → (process_at t p).phase ≡ Idle
  absent_idle t p l = ap (λ (r : Process). r.phase) (get_or_past t.processes p idle_process l)

  soon : (e : K) (P : ℕ) (t : Tables K) (j : Trace K) → Good e t → length t.processes ≡ P → (p : ℕ) → Desked (process_at t p) (hand_at e t p) j p → (r : Request K) (n : ℕ) (f : Option Found) → desk j p ≡ asked r n f → n < most P r
  soon e P t j g same p d r n f q = go d.hand
    where
      go : (((process_at t p).phase ≡ Idle) × (desk j p ≡ free)) ⊎ ((k : Request K) × (i : Option Found) × Asks (hand_at e t p) (process_at t p).phase k × (desk j p ≡ asked k (process_at t p).steps i)) → n < most P r
      go (inl h) = absurd (let i : free ≡ asked r n f = sym h.1 ∙ q in cc)
      go (inr h) =
          let i : asked h.0 (process_at t p).steps h.1 ≡ asked r n f = sym h.3 ∙ q in
          let er : h.0 ≡ r = cc in
          let en : (process_at t p).steps ≡ n = cc in
          elim (cases_lt p (length t.processes)) [
            | inl l ↦
                (let few = steps_few (length t.processes) (length t.objects) (hand_at e t p) (process_at t p) (read_set t p) (write_set t p) (process_at t p).phase h.0 (g.owns p l).phase h.2 in
                subst (λ (m : ℕ). m < most P r) en (subst (λ (m : ℕ). (process_at t p).steps < most m r) same (subst (λ (k : Request K). (process_at t p).steps < most (length t.processes) k) er few)))
            | inr l ↦ absurd (subst (λ (k : table.Phase). Asks (hand_at e t p) k h.0) (absent_idle t p l) h.2)
          ]

  -- a process whose transaction is open is so in the protocol
  live_open : (number : ℕ → ℕ) (r : Process) (rs : List (Slot ℕ)) (h : K) (f : table.Phase) (w : Row K) → LiveAs number r rs h f w → w.phase ≡ out → ⊥
  live_open number r rs h f w a o = grind arith

  row_of : (e : K) (number : ℕ → ℕ) (t : Tables K) (s : State K) (p : ℕ) → View e number t s → (k : Bool) → (process_at t p).live ≡ k → RowAs number (process_at t p) (read_set t p) (hand_at e t p) k (row s p)
  row_of e number t s p v k h = subst (λ (x : Bool). RowAs number (process_at t p) (read_set t p) (hand_at e t p) x (row s p)) h (v.rows p)

  -- a step that is made finds a request in hand
  idle_step : (e : K) (number : ℕ → ℕ) (t : Tables K) (p : ℕ) (z : Stepped K) → (process_at t p).phase ≡ Idle → (step_call e number t p).reply ≡ Ok z → ⊥
  idle_step e number t p z idle = grind arith

  -- the answer's count, by the request in hand
  counted : (P : ℕ) (d : Desk K) (r : Request K) (n : ℕ) (f : Option Found) (o : Option ℕ) → d ≡ asked r n f → n < most P r → ((k : ℕ) → o ≡ Some k → k ≡ n + 1) → Counted P d o
  counted P d r n f None q l h = subst (λ (x : Desk K). Counted P x None) (sym q) tt
  counted P d r n f (Some k) q l h = subst (λ (x : Desk K). Counted P x (Some k)) (sym q) (let m = h k refl in (omega arith, omega arith))

  -- an entry of another process changes nothing for q, unless it begins a transaction of q
  desked_more : (a : Rattle.law.specs.Trace.Act K) (r : Process) (h : K) (j : Trace K) (p q : ℕ) → (p ≡ q → ⊥) → whose (entry p a ∷ j) q ≡ whose j q → Desked r h j q → Desked r h (entry p a ∷ j) q
  desked_more a r h j p q d same k =
      record {
        hand = elim k.hand [
          | inl x ↦ inl (x.0, desk_other j p q a d ∙ x.1)
          | inr x ↦ inr (x.0, x.1, x.2, desk_other j p q a d ∙ x.3)
        ];
        begun = λ l. let x = k.begun l in (x.0, same ∙ x.1);
        stopped = λ i s v w. justified_more (entry p a) j v i (k.stopped i s v (sym same ∙ w));
        stepped = k.stepped;
      }

module _ {K B : Type 0} (e : K) (number : B → ℕ → ℕ) (moved : B → ℕ → ℕ → B) (ranged : (b : B) (q : ℕ) → number b q ≤ 2 ^ 40) (rises : (b : B) (p u q : ℕ) → number b q ≤ number (moved b p u) q)
    (P : ℕ) (start : ℕ → K) (b : ℕ → ℕ) where
  -- a step
  module _ (t : Tables K) (bank : B) (p : ℕ) (j : Trace K) (c : Course e P start b (number bank) t j) (z : Stepped K) (h : (step_call e (number bank) t p).reply ≡ Ok z) where
    abbrev es : List (Event K)
    es = c.events

    abbrev u : Tables K
    u = (step_call e (number bank) t p).tables

    adv : Advance e (length t.processes) (number (step_bank e number moved t bank p)) t u (state start b es) p z
    adv = step_advances e number moved rises t bank p (state start b es) c.good c.view z h

    in_hand : (r : Request K) × (f : Option Found) × Asks (hand_at e t p) (process_at t p).phase r × (desk j p ≡ asked r (process_at t p).steps f)
    in_hand = elim (c.desks p).hand [ inl k ↦ absurd (idle_step e (number bank) t p z k.0 h) | inr k ↦ k ]

    who : whose j p ≡ Some ((history c.events).current p)
    who = let k = (c.desks p).begun adv.live in k.1 ∙ ap Some (sym (c.matches.base.who p k.0 k.1))

    opened : (state start b c.events).phase p ≡ out → ⊥
    opened = live_open (number bank) (process_at t p) (read_set t p) (hand_at e t p) (process_at t p).phase (row (state start b c.events) p) (row_of e (number bank) t (state start b c.events) p c.view true adv.live)

    may : LawfulFrom P (state start b c.events) adv.events
    may = subst (λ (n : ℕ). LawfulFrom n (state start b c.events) adv.events) c.processes adv.shown.lawful

    act : Act (state start b c.events) p in_hand.0 (process_at t p).steps (stopped_by (process_at t p).phase) z adv.events adv.conflict
    act = adv.act (c.desks p).stepped in_hand.0 in_hand.2

    desk_is : desk (entry p (made z) ∷ j) p ≡ desk_on j (whose j p) (asked in_hand.0 (process_at t p).steps in_hand.1) z.answer
    desk_is = cond-true (eqb p p) _ _ (eq-eqb p p refl) ∙ ap (λ (k : Desk K). desk_on j (whose j p) k z.answer) in_hand.3

    -- the conflict of p's request is justified
    justify : (k : Conflict) → (adv.conflict ≡ Some k) ⊎ ((of_answer z.answer).conflict ≡ Some k) → (v : ℕ) → whose j p ≡ Some v → Justified (entry p (made z) ∷ j) v k
    justify k why v q =
        subst (λ (x : ℕ). Justified (entry p (made z) ∷ j) x k) (same_Some _ _ (sym who ∙ q))
        (act_justifies P start b j c.events c.lawful c.matches c.watch p who opened in_hand.1 act may in_hand.3 k why (λ s. (c.desks p).stopped k s ((history c.events).current p) who))

    mine : Desked (process_at u p) (hand_at e u p) (entry p (made z) ∷ j) p
    mine =
        record {
          hand = go z.answer refl (adv.goes in_hand.0 in_hand.2);
          begun = λ l. ((history c.events).current p, who);
          stopped = λ k s v q. over z.answer refl (adv.goes in_hand.0 in_hand.2) k s v q;
          stepped = moved_on z.answer (adv.goes in_hand.0 in_hand.2);
        }
      where
        go : (a : Option (Answer K)) → z.answer ≡ a → Goes in_hand.0 (process_at t p).steps adv.conflict a (process_at u p) (hand_at e u p)
            → (((process_at u p).phase ≡ Idle) × (desk (entry p (made z) ∷ j) p ≡ free))
            ⊎ ((r : Request K) × (f : Option Found) × Asks (hand_at e u p) (process_at u p).phase r × (desk (entry p (made z) ∷ j) p ≡ asked r (process_at u p).steps f))
        go None q g =
            inr (
              in_hand.0,
              finds j (whose j p) (of_request in_hand.0).reads in_hand.1,
              g.0,
              desk_is ∙ ap (desk_on j (whose j p) (asked in_hand.0 (process_at t p).steps in_hand.1)) q
                  ∙ ap (λ (n : ℕ). asked in_hand.0 n (finds j (whose j p) (of_request in_hand.0).reads in_hand.1)) (let k = g.1 in let i : suc (process_at t p).steps ≡ (process_at u p).steps = omega arith in i),
            )
        go (Some a) q g = inl (g.0, desk_is ∙ ap (desk_on j (whose j p) (asked in_hand.0 (process_at t p).steps in_hand.1)) q)

        moved_on : (a : Option (Answer K)) → Goes in_hand.0 (process_at t p).steps adv.conflict a (process_at u p) (hand_at e u p) → HasStepped (process_at u p).phase (process_at u p).steps
        moved_on None g = has_stepped (process_at u p).phase (process_at u p).steps (let k = g.1 in omega arith)
        moved_on (Some a) g = subst (λ (f : table.Phase). HasStepped f (process_at u p).steps) (sym g.0) tt

        over : (a : Option (Answer K)) → z.answer ≡ a → Goes in_hand.0 (process_at t p).steps adv.conflict a (process_at u p) (hand_at e u p)
            → (k : Conflict) → stopped_by (process_at u p).phase ≡ Some k → (v : ℕ) → whose j p ≡ Some v → Justified (entry p (made z) ∷ j) v k
        over None q g k s v w = justify k (inl (sym g.2 ∙ s)) v w
        over (Some a) q g k s v w = absurd (none-some _ (ap stopped_by (sym g.0) ∙ s))

    others : (q : ℕ) → (p ≡ q → ⊥) → Desked (process_at u q) (hand_at e u q) (entry p (made z) ∷ j) q
    others q d =
        let o = adv.others q (λ i. d (sym i)) in
        subst (λ (r : Process). Desked r (hand_at e u q) (entry p (made z) ∷ j) q) (sym o.0) (subst (λ (x : K). Desked (process_at t q) x (entry p (made z) ∷ j) q) (sym o.1) (desked_more (made z) (process_at t q) (hand_at e t q) j p q d refl (c.desks q)))

    pub course_step : Course e P start b (number (step_bank e number moved t bank p)) u (entry p (made z) ∷ j)
    course_step =
        let desks' : (q : ℕ) → Desked (process_at u q) (hand_at e u q) (entry p (made z) ∷ j) q = λ q. elim (cases_eq p q) [
          | inl d ↦ subst (λ (x : ℕ). Desked (process_at u x) (hand_at e u x) (entry p (made z) ∷ j) x) d mine
          | inr d ↦ others q d
        ] in
        let good' = step_good e (number bank) t p c.good (ranged bank) in
        let processes' = step_counts e t p (number bank) ∙ c.processes in
        record {
          events = adv.events ++ c.events;
          lawful = lawful_on P (fresh start b) adv.events c.events c.lawful may;
          view = subst (View e (number (step_bank e number moved t bank p)) u) (sym (joined (fresh start b) adv.events c.events)) adv.shown.view;
          good = good';
          processes = processes';
          matches = matches_step P start b j c.events c.lawful c.matches p who opened in_hand.1 act may in_hand.3;
          watch = watch_step P start b j c.events c.lawful c.matches c.watch p who opened in_hand.1 act may in_hand.3;
          desks = desks';
          prompt = (
            c.prompt,
            (λ q r n f k. soon e P u (entry p (made z) ∷ j) good' processes' q (desks' q) r n f k),
            counted P (desk j p) in_hand.0 (process_at t p).steps in_hand.1 (of_answer z.answer).steps in_hand.3
                (soon e P t j c.good c.processes p (c.desks p) in_hand.0 (process_at t p).steps in_hand.1 in_hand.3) (act_count act),
            λ v k q s. justify k (inr s) v q,
          );
        }

  -- a placing
  module _ (t : Tables K) (number' : ℕ → ℕ) (p : ℕ) (j : Trace K) (c : Course e P start b number' t j) where
    -- a process without a request has nothing in hand
    nothing : (process_at t p).phase ≡ Idle → desk j p ≡ free
    nothing idle = grind arith

    runs : (process_at t p).phase ≡ Idle → (process_at t p).live ≡ true → (state start b c.events).phase p ≡ running
    runs idle live = grind arith

    who_is : (process_at t p).live ≡ true → whose j p ≡ Some ((history c.events).current p)
    who_is live = let k = (c.desks p).begun live in k.1 ∙ ap Some (sym (c.matches.base.who p k.0 k.1))

    -- a request of a running transaction
    watch_ask : (q : Request K) → Watch start b (entry p (placed q) ∷ j) c.events
    watch_ask q =
        record {
          holding = c.watch.holding;
          fresh = fresh_turn _ _ _ _ _ c.watch.fresh _ _ (λ u l. l) (λ u x l d. disturbed_more (entry p (placed q)) j ((history c.events).current u) x d);
        }

    -- a begin
    watch_begin : (state start b c.events).phase p ≡ out → Watch start b (entry p (placed Begin) ∷ j) (begin p ∷ c.events)
    watch_begin ended =
        let es = c.events in
        let new : count j ≤ (history es).begun = (let n = c.matches.base.counts in omega arith) in
        record {
          holding =
              record {
                keeps = λ q x w h.
                    subst (λ (v : ℕ). (Rattle.law.specs.Ledger.among x (taken j v) ≡ true) × (stored_at j v x ≡ None) × (freed_at j v x ≡ None))
                    (sym (put_other (history es).current p (history es).begun q (λ i. (all P start b es c.lawful).inv.idle q x w (inl (ap (state start b es).phase (sym i) ∙ ended)) h)))
                    (c.watch.holding.keeps q x w h);
                unfreed = λ q o a x.
                    elim (cases_eq p q) [
                      | inl d ↦ ap (λ (v : ℕ). freed_at j v x) (put_same (history es).current p (history es).begun q d) ∙ unborn_at _ j (history es).begun new
                      | inr d ↦
                          ap (λ (v : ℕ). freed_at j v x) (put_other (history es).current p (history es).begun q d)
                          ∙ c.watch.holding.unfreed q (λ i. o (put_other (state start b es).phase p starting q d ∙ i)) (λ i. a (put_other (state start b es).phase p starting q d ∙ i)) x
                    ];
              };
          fresh =
              fresh_next P (state start b es) (λ q x. Disturbed (entry p (placed Begin) ∷ j) (put (history es).current p (history es).begun q) x) (begin p) ended tt
              (fresh_turn _ _ _ _ _ c.watch.fresh _ _ (λ u l. l) (λ u x l d.
              subst (λ (v : ℕ). Disturbed (entry p (placed Begin) ∷ j) v x) (sym (put_other (history es).current p (history es).begun u (λ i. not_out u l i)))
              (disturbed_more (entry p (placed Begin)) j ((history es).current u) x d)));
        }
      where
        not_out : (u : ℕ) → Live (state start b c.events).phase u → p ≡ u → ⊥
        not_out u live i = grind arith

    -- what is on record, by the request
    kept : (q : Request K) → (process_at t p).phase ≡ Idle → due q (process_at t p).live ≡ true
        → Matches start b (entry p (placed q) ∷ j) (placing_events p q ++ c.events) × Watch start b (entry p (placed q) ∷ j) (placing_events p q ++ c.events)
    kept Begin idle d =
        let ended : (state start b c.events).phase p ≡ out = (row_of e number' t (state start b c.events) p c.view false (not-true (process_at t p).live d)).0 in
        (matches_begin P start b j c.events c.lawful c.matches p ended, watch_begin ended)
    kept (Read x) idle d = (matches_ask P start b j c.events c.lawful c.matches p (who_is d) (runs idle d) (nothing idle) (Read x) (λ i. cc), watch_ask (Read x))
    kept (Write x v) idle d = (matches_ask P start b j c.events c.lawful c.matches p (who_is d) (runs idle d) (nothing idle) (Write x v) (λ i. cc), watch_ask (Write x v))
    kept Commit idle d = (matches_ask P start b j c.events c.lawful c.matches p (who_is d) (runs idle d) (nothing idle) Commit (λ i. cc), watch_ask Commit)
    kept Withdraw idle d = (matches_ask P start b j c.events c.lawful c.matches p (who_is d) (runs idle d) (nothing idle) Withdraw (λ i. cc), watch_ask Withdraw)

    -- whose transactions are whose
    has_begun : (q : Request K) → due q (process_at t p).live ≡ true → (u : ℕ) × (whose (entry p (placed q) ∷ j) p ≡ Some u)
    has_begun Begin d = (count j, cond-true (eqb p p) (Some (count j)) (whose j p) (eq-eqb p p refl))
    has_begun (Read x) d = (c.desks p).begun d
    has_begun (Write x v) d = (c.desks p).begun d
    has_begun Commit d = (c.desks p).begun d
    has_begun Withdraw d = (c.desks p).begun d

    others_begun : (q : Request K) (n : ℕ) → (p ≡ n → ⊥) → whose (entry p (placed q) ∷ j) n ≡ whose j n
    others_begun q n d = grind arith

    unstopped : (q : Request K) (k : Conflict) → stopped_by (placed_process {K = K} (process_at t p) q).phase ≡ Some k → ⊥
    unstopped q k h = grind arith

    unextended : (q : Request K) → HasStepped (placed_process {K = K} (process_at t p) q).phase (placed_process {K = K} (process_at t p) q).steps
    unextended Begin = tt
    unextended (Read x) = tt
    unextended (Write x v) = tt
    unextended Commit = tt
    unextended Withdraw = tt

    pub course_place : (q : Request K) → (place_call e t p q).reply ≡ Ok tt → Course e P start b number' (place_call e t p q).tables (entry p (placed q) ∷ j)
    course_place q h =
        let pl = place_advances e number' t p (state start b c.events) q c.good c.view h in
        let u = (place_call e t p q).tables in
        let es = c.events in
        let both = kept q pl.idle pl.due in
        let mine : Desked (process_at u p) (hand_at e u p) (entry p (placed q) ∷ j) p =
        record {
          hand = inr (q, None, pl.asks, sym (ap (λ (r : Process). asked q r.steps None) pl.process ∙ sym (cond-true (eqb p p) (asked q 0 None) (desk j p) (eq-eqb p p refl))));
          begun = λ l. has_begun q pl.due;
          stopped = λ k s v w. absurd (unstopped q k (ap (λ (r : Process). stopped_by r.phase) (sym pl.process) ∙ s));
          stepped = subst (λ (r : Process). HasStepped r.phase r.steps) (sym pl.process) (unextended q);
        } in
        let desks' : (n : ℕ) → Desked (process_at u n) (hand_at e u n) (entry p (placed q) ∷ j) n = λ n. elim (cases_eq p n) [
          | inl d ↦ subst (λ (x : ℕ). Desked (process_at u x) (hand_at e u x) (entry p (placed q) ∷ j) x) d mine
          | inr d ↦
              (let o = pl.others n (λ i. d (sym i)) in
              subst (λ (r : Process). Desked r (hand_at e u n) (entry p (placed q) ∷ j) n) (sym o.0) (subst (λ (x : K). Desked (process_at t n) x (entry p (placed q) ∷ j) n) (sym o.1) (desked_more (placed q) (process_at t n) (hand_at e t n) j p n d (others_begun q n d) (c.desks n))))
        ] in
        let good' = place_good e t p q c.good in
        let processes' = place_counts e t p q ∙ c.processes in
        record {
          events = placing_events p q ++ es;
          lawful = lawful_on P (fresh start b) (placing_events p q) es c.lawful (subst (λ (n : ℕ). LawfulFrom n (state start b es) (placing_events p q)) c.processes pl.shown.lawful);
          view = subst (View e number' u) (sym (joined (fresh start b) (placing_events p q) es)) pl.shown.view;
          good = good';
          processes = processes';
          matches = both.0;
          watch = both.1;
          desks = desks';
          prompt = (c.prompt, (λ n r k f i. soon e P u (entry p (placed q) ∷ j) good' processes' n (desks' n) r k f i), tt, λ v k w s. cc);
        }

-- A fresh memory, before any call.
module _ {K : Type 0} (e : K) (number : ℕ → ℕ) (contents : List K) (n : ℕ) where
  -- the opening content of an object
  abbrev pub opening : ℕ → K
  opening x = get_or contents x e

  objects : (x : ℕ) → object_at e (fresh_tables e contents n) x ≡ unheld (opening x)
  objects x =
      elim (cases_lt x (length contents)) [
        | inl l ↦ get_or-map unheld contents x e (blank_object e) l
        | inr l ↦
            get_or_past (fresh_tables e contents n).objects x (blank_object e) (let m = length-map contents unheld in omega arith)
            ∙ ap unheld (sym (get_or_past contents x e l))
      ]

  processes : (p : ℕ) → process_at (fresh_tables e contents n) p ≡ idle_process
  processes p =
      elim (cases_lt p n) [
        | inl l ↦ get_or-replicate n p idle_process idle_process l
        | inr l ↦ get_or_past (fresh_tables e contents n).processes p idle_process (let m = length-replicate n idle_process in omega arith)
      ]

  nothing_held : (p x : ℕ) (v : K) → value_of (pending_of (fresh_tables e contents n) p) x ≡ Some v → ⊥
  nothing_held p x v h =
      let t = fresh_tables e contents n in
      let F : Process → Type 0 = λ r. value_of (drop (gone r.phase) (window t.writes (p * 16) r.writes)) x ≡ Some v in
      let k : None ≡ Some v = subst F (processes p) h in
      cc

  pub fresh_view : View e number (fresh_tables e contents n) (fresh opening number)
  fresh_view =
      let t = fresh_tables e contents n in
      record {
        contents = λ x. ap (λ (o : Object K). o.content) (sym (objects x));
        stamps = λ x. ap (λ (o : Object K). o.stamp) (sym (objects x));
        held = λ x. subst (λ (o : Object K). HolderAs t x o.holder nobody) (sym (objects x)) refl;
        holds = λ p x v h. absurd (nothing_held p x v h);
        covered = λ p x v run h. absurd (differ out running tt run);
        rows = λ p. row_at number idle_process (process_at t p) (read_set t p) (read_set t p) (hand_at e t p) (hand_at e t p) (row (fresh opening number) p) (row (fresh opening number) p)
            (sym (processes p)) refl refl refl (refl, refl, refl, refl);
        bank = λ q. refl;
      }

  unheld_by : {q : ℕ} {w : K} → nobody ≡ by q w → ⊥
  unheld_by h = cc

  fresh_matches : Matches opening number [] []
  fresh_matches = grind arith

  fresh_watch : Watch opening number [] []
  fresh_watch =
      record {
        holding = record { keeps = λ q x w h. absurd (unheld_by h); unfreed = λ q o a x. refl };
        fresh = record { seens = λ p x u w l h. absurd (unsaw u w h); hands = λ p x u w l h. absurd (unfull _ x u w refl h) };
      }

  pub course_fresh : numbers_ok (length contents) n ≡ true → Course e n opening number number (fresh_tables e contents n) []
  course_fresh h =
      record {
        events = [];
        lawful = tt;
        view = fresh_view;
        good = fresh_good e contents n h;
        processes = length-replicate n idle_process;
        matches = fresh_matches;
        watch = fresh_watch;
        desks = λ p.
            subst (λ (r : Process). Desked r (hand_at e (fresh_tables e contents n) p) [] p) (sym (processes p))
            (record { hand = inl (refl, refl); begun = λ l. cc; stopped = λ k s v w. cc; stepped = tt });
        prompt = tt;
      }

-- The law over the trace of such a course.
pub lawful_run : {K : Type 0} (e : K) (P : ℕ) (start : ℕ → K) (b number : ℕ → ℕ) (t : Tables K) (j : Trace K) → Course e P start b number t j → LawfulRun P start j (λ x. (object_at e t x).content)
lawful_run e P start b number t j c =
    record {
      serial = subst (λ (f : ℕ → _). Rattle.law.specs.Law.Serial start j f) (mathlib.Core.Path.fun_ext c.view.contents) (serial P start b j c.events c.lawful c.matches);
      genuine = genuine P start b j c.events c.lawful c.matches;
      consistent = consistent P start b j c.events c.lawful c.matches;
      prompt = c.prompt;
    }
