-- A step of one process leaves the transactions of the others as they stand on record.
use Rattle.std.proofs.Common.{◌≡◌, ℕ, suc, ◌<◌, ◌≤◌, Bool, true, false, ◌&&◌, eqb, List, ◌∷◌, Option, sym, refl, ap, inl, inr, arith}
use mathlib.Core.Path.{transport}
use Rattle.std.proofs.lemmas.Bool.{ne_eqb, cond-false, and_right}
use Rattle.tables.specs.declared.reply.Request.{Request}
use Rattle.tables.specs.declared.reply.Stepped.{Stepped}
use Rattle.protocol.specs.Table.{put}
use Rattle.protocol.specs.Protocol.{Phase, Hand, Event, May, Lawful, state}
use Rattle.protocol.specs.Protocol.Phase.{out, running, certifying, aborting, sealing}
use Rattle.protocol.specs.Protocol.Hand.{empty}
use Rattle.protocol.specs.Protocol.Event.{begin, ready, look, check, extend, answer, own, write, certify, pass, seal, finish, move, store, fail, free, commit, close}
use Rattle.protocol.specs.History.{history}
use Rattle.protocol.specs.Alone.{Operation}
use Rattle.protocol.specs.Alone.Operation.{got, set}
use Rattle.protocol.specs.Commits.{commits_of}
use Rattle.protocol.proofs.Updates.{put_other}
use Rattle.protocol.proofs.Laws.{all}
use Rattle.law.specs.Trace.{Act, Trace, entry}
use Rattle.law.specs.Trace.Act.{made}
use Rattle.law.specs.Ledger.{Desk, Hold, is, whose, first_at, begun_at, makers, latest, holds, requests, desk, hold, effect_of, certified_at, certifies}
use Rattle.law.specs.Law.{In}
use Rattle.law.proofs.Traces.{push_false}
use Rattle.law.proofs.Versions.{name_old}
use Rattle.law.proofs.Standing.{Standing, Going, standing_keeps}

module _ {K : Type 0} where
  abbrev pub StandingOf : (ℕ → K) → (ℕ → ℕ) → Trace K → List (Event K) → ℕ → Type 0
  StandingOf start b j es q =
      Standing start (makers j) (history es).maker (history es).seals (commits_of es).operations (desk j q) ((state start b es).phase q) ((state start b es).hand q) ((history es).fetched q)
      (begun_at j ((history es).current q)) ((commits_of es).sealed ((history es).current q)) (requests j ((history es).current q)) ((commits_of es).operations ((history es).current q)) (holds j ((history es).current q))

  -- over equal parts
  pub standing_at : (start : ℕ → K) (makers : ℕ → List ℕ) (maker : ℕ → ℕ) (seals : ℕ) (operations : ℕ → List (Operation K)) (d d' : Desk K) (f f' : Phase) (hand hand' : Hand K) (fetched fetched' : ℕ)
      (begun begun' : Option ℕ) (sealed sealed' : Bool) (rs rs' : List (Request K)) (ds ds' : List (Operation K)) (hs hs' : List Hold)
      → d ≡ d' → f ≡ f' → hand ≡ hand' → fetched ≡ fetched' → begun ≡ begun' → sealed ≡ sealed' → rs ≡ rs' → ds ≡ ds' → hs ≡ hs'
      → Standing start makers maker seals operations d f hand fetched begun sealed rs ds hs
      → Standing start makers maker seals operations d' f' hand' fetched' begun' sealed' rs' ds' hs'
  standing_at start makers maker seals operations d d' f f' hand hand' fetched fetched' begun begun' sealed sealed' rs rs' ds ds' hs hs' a1 a2 a3 a4 a5 a6 a7 a8 a9 c =
      transport (λ i. Standing start makers maker seals operations (a1 i) (a2 i) (a3 i) (a4 i) (a5 i) (a6 i) (a7 i) (a8 i) (a9 i)) c

  -- an entry of process p is none of transaction u
  module _ (j : Trace K) (p : ℕ) (z : Stepped K) (u : ℕ) (n : is (whose j p) u ≡ false) where
    pub first_other : (f : Act K → Bool) → first_at f (entry p (made z) ∷ j) u ≡ first_at f j u
    first_other f = cond-false (f (made z) && is (whose j p) u) _ _ (and_right (f (made z)) (is (whose j p) u) n)

    pub certified_other : certified_at (entry p (made z) ∷ j) u ≡ certified_at j u
    certified_other = cond-false (certifies (desk j p) (made z) && is (whose j p) u) _ _ (and_right (certifies (desk j p) (made z)) (is (whose j p) u) n)

    pub holds_other : holds (entry p (made z) ∷ j) u ≡ holds j u
    holds_other = push_false (hold j (effect_of (made z)).takes) (is (whose j p) u) (holds j u) n

  pub desk_other : (j : Trace K) (p q : ℕ) (a : Act K) → (p ≡ q → ⊥) → desk (entry p a ∷ j) q ≡ desk j q
  desk_other j p q a n = cond-false (eqb p q) _ _ (ne_eqb p q n)

  -- the entry
  pub line_others : (start : ℕ → K) (b : ℕ → ℕ) (j : Trace K) (es : List (Event K)) (p : ℕ) (z : Stepped K) (q : ℕ) → (p ≡ q → ⊥) → is (whose j p) ((history es).current q) ≡ false
      → (Going ((state start b es).phase q) → (h : Hold) → In h (holds j ((history es).current q)) → latest (makers (entry p (made z) ∷ j) h.object) ≡ latest (makers j h.object))
      → StandingOf start b j es q → StandingOf start b (entry p (made z) ∷ j) es q
  line_others start b j es p z q d n same c =
      let u = (history es).current q in
      standing_at start (makers (entry p (made z) ∷ j)) (history es).maker (history es).seals (commits_of es).operations _ _ _ _ _ _ _ _ _ _ _ _ _ _ _ _ _ _
      (sym (desk_other j p q (made z) d)) refl refl refl (sym (first_other j p z u n _)) refl refl refl (sym (holds_other j p z u n))
      (standing_keeps start (makers j) (makers (entry p (made z) ∷ j)) (history es).maker (history es).maker (history es).seals (history es).seals (commits_of es).operations (commits_of es).operations _ _ _ _ _ _ _ _ _
      (omega arith) same (λ i l. refl) (λ i l m. refl) c)

  -- an event of process p
  module _ (start : ℕ → K) (b : ℕ → ℕ) (j : Trace K) (es : List (Event K)) (p q : ℕ) (d : p ≡ q → ⊥) (apart : (history es).current p ≡ (history es).current q → ⊥) (c : StandingOf start b j es q) where
    -- with these parts as they were
    with' : (f f' : Phase) (hand hand' : Hand K) (fetched fetched' : ℕ) → f ≡ f' → hand ≡ hand' → fetched ≡ fetched'
        → Standing start (makers j) (history es).maker (history es).seals (commits_of es).operations (desk j q) f hand fetched (begun_at j ((history es).current q)) ((commits_of es).sealed ((history es).current q)) (requests j ((history es).current q)) ((commits_of es).operations ((history es).current q)) (holds j ((history es).current q))
        → Standing start (makers j) (history es).maker (history es).seals (commits_of es).operations (desk j q) f' hand' fetched' (begun_at j ((history es).current q)) ((commits_of es).sealed ((history es).current q)) (requests j ((history es).current q)) ((commits_of es).operations ((history es).current q)) (holds j ((history es).current q))
    with' f f' hand hand' fetched fetched' a1 a2 a3 k = standing_at start _ _ _ _ _ _ f f' hand hand' fetched fetched' _ _ _ _ _ _ _ _ _ _ refl a1 a2 a3 refl refl refl refl refl k

    turned : (f : Phase) → Standing start (makers j) (history es).maker (history es).seals (commits_of es).operations (desk j q) (put (state start b es).phase p f q) ((state start b es).hand q) ((history es).fetched q) (begun_at j ((history es).current q)) ((commits_of es).sealed ((history es).current q)) (requests j ((history es).current q)) ((commits_of es).operations ((history es).current q)) (holds j ((history es).current q))
    turned f = with' _ _ _ _ _ _ (sym (put_other (state start b es).phase p f q d)) refl refl c

    -- p performs an operation, q's hand being h
    performs : (o : Operation K) (h : Hand K) → (state start b es).hand q ≡ h → ((i : ℕ) → 0 < i → i ≤ (history es).seals → (history es).maker i ≡ (history es).current p → ⊥)
        → Standing start (makers j) (history es).maker (history es).seals (put (commits_of es).operations ((history es).current p) (o ∷ (commits_of es).operations ((history es).current p))) (desk j q) ((state start b es).phase q) h ((history es).fetched q) (begun_at j ((history es).current q)) ((commits_of es).sealed ((history es).current q)) (requests j ((history es).current q)) (put (commits_of es).operations ((history es).current p) (o ∷ (commits_of es).operations ((history es).current p)) ((history es).current q)) (holds j ((history es).current q))
    performs o h eh none =
        standing_at start _ _ _ _ _ _ _ _ _ _ _ _ _ _ _ _ _ _ _ _ _ _ refl refl eh refl refl refl refl (sym (put_other (commits_of es).operations ((history es).current p) (o ∷ (commits_of es).operations ((history es).current p)) ((history es).current q) apart)) refl
        (standing_keeps start (makers j) (makers j) (history es).maker (history es).maker (history es).seals (history es).seals (commits_of es).operations _ _ _ _ _ _ _ _ _ _
        (omega arith) (λ g k i. refl) (λ i l. refl) (λ i l m. put_other (commits_of es).operations ((history es).current p) (o ∷ (commits_of es).operations ((history es).current p)) ((history es).maker i) (λ e. none i l m (sym e))) c)

    makes : (u : ℕ) → Standing start (makers j) (put (history es).maker (suc (history es).seals) ((history es).current p)) (suc (history es).seals) (commits_of es).operations (desk j q) (put (state start b es).phase p (sealing u) q) ((state start b es).hand q) ((history es).fetched q) (begun_at j ((history es).current q)) (put (commits_of es).sealed ((history es).current p) true ((history es).current q)) (requests j ((history es).current q)) ((commits_of es).operations ((history es).current q)) (holds j ((history es).current q))
    makes u =
        standing_at start _ _ _ _ _ _ _ _ _ _ _ _ _ _ _ _ _ _ _ _ _ _ refl refl refl refl refl (sym (put_other (commits_of es).sealed ((history es).current p) true ((history es).current q) apart)) refl refl refl
        (standing_keeps start (makers j) (makers j) (history es).maker _ (history es).seals (suc (history es).seals) (commits_of es).operations (commits_of es).operations _ _ _ _ _ _ _ _ _
        (omega arith) (λ g k i. refl) (λ i l. name_old (history es).maker (history es).seals ((history es).current p) i l)
        (λ i l m. ap (commits_of es).operations (put_other (history es).maker (suc (history es).seals) ((history es).current p) i (λ e. let k = e in omega arith))) (turned (sealing u)))

    finishes : Standing start (makers j) (history es).maker (history es).seals (commits_of es).operations (desk j q) (put (state start b es).phase p aborting q) ((state start b es).hand q) ((history es).fetched q) (begun_at j ((history es).current q)) (put (commits_of es).sealed ((history es).current p) true ((history es).current q)) (requests j ((history es).current q)) ((commits_of es).operations ((history es).current q)) (holds j ((history es).current q))
    finishes =
        standing_at start _ _ _ _ _ _ _ _ _ _ _ _ _ _ _ _ _ _ _ _ _ _ refl refl refl refl refl (sym (put_other (commits_of es).sealed ((history es).current p) true ((history es).current q) apart)) refl refl refl (turned aborting)

  -- the process that acts, and an event of a transaction under way
  abbrev pub actor : Event K → ℕ
  actor (begin p) = p
  actor (ready p c) = p
  actor (look p x v) = p
  actor (check p x) = p
  actor (extend p) = p
  actor (answer p x t v) = p
  actor (own p x v) = p
  actor (write p x v) = p
  actor (certify p) = p
  actor (pass p x) = p
  actor (seal p t b) = p
  actor (finish p) = p
  actor (move b) = 0
  actor (store p x v t) = p
  actor (fail p r) = p
  actor (free p x v) = p
  actor (commit p t) = p
  actor (close p) = p

  abbrev pub Within : Event K → Type 0
  Within (begin p) = ⊥
  Within (ready p c) = Unit {0}
  Within (look p x v) = Unit {0}
  Within (check p x) = Unit {0}
  Within (extend p) = Unit {0}
  Within (answer p x t v) = Unit {0}
  Within (own p x v) = Unit {0}
  Within (write p x v) = Unit {0}
  Within (certify p) = Unit {0}
  Within (pass p x) = Unit {0}
  Within (seal p t b) = Unit {0}
  Within (finish p) = Unit {0}
  Within (move b) = ⊥
  Within (store p x v t) = Unit {0}
  Within (fail p r) = Unit {0}
  Within (free p x v) = Unit {0}
  Within (commit p t) = Unit {0}
  Within (close p) = Unit {0}

  module _ (P : ℕ) (start : ℕ → K) (b : ℕ → ℕ) (j : Trace K) (es : List (Event K)) (lawful : Lawful P start b es) (q : ℕ) (c : StandingOf start b j es q) where
    unmade : (p : ℕ) → (state start b es).phase p ≡ running → (i : ℕ) → 0 < i → i ≤ (history es).seals → (history es).maker i ≡ (history es).current p → ⊥
    unmade p run i l m e = (all P start b es lawful).kept.currents.unsealed p i (inr (inl run)) l m e

    pub event_others : (e : Event K) → Within e → May P (state start b es) e → (actor e ≡ q → ⊥) → ((history es).current (actor e) ≡ (history es).current q → ⊥) → StandingOf start b j (e ∷ es) q
    event_others (begin p) w m d apart = absurd w
    event_others (ready p k) w m d apart =
        with' start b j es p q d apart c _ _ _ _ _ _ (sym (put_other (state start b es).phase p running q d)) (sym (put_other (state start b es).hand p empty q d)) refl c
    event_others (look p x v) w m d apart =
        with' start b j es p q d apart c _ _ _ _ _ _ refl (sym (put_other (state start b es).hand p _ q d)) (sym (put_other (history es).fetched p _ q d)) c
    event_others (check p x) w m d apart = c
    event_others (extend p) w m d apart = c
    event_others (answer p x t v) w m d apart =
        performs start b j es p q d apart c (got x v) _ (sym (put_other (state start b es).hand p empty q d)) (unmade p m.0)
    event_others (own p x v) w m d apart = performs start b j es p q d apart c (got x v) _ refl (unmade p m.0.runs)
    event_others (write p x v) w m d apart = performs start b j es p q d apart c (set x v) _ refl (unmade p m.0.runs)
    event_others (certify p) w m d apart = turned start b j es p q d apart c certifying
    event_others (pass p x) w m d apart = c
    event_others (seal p t k) w m d apart = makes start b j es p q d apart c t
    event_others (finish p) w m d apart = finishes start b j es p q d apart c
    event_others (move k) w m d apart = absurd w
    event_others (store p x v t) w m d apart = c
    event_others (fail p r) w m d apart = turned start b j es p q d apart c aborting
    event_others (free p x v) w m d apart = c
    event_others (commit p t) w m d apart = turned start b j es p q d apart c out
    event_others (close p) w m d apart = turned start b j es p q d apart c out
