-- How the open transaction of a process stands on record, by its phase in the protocol; and what sealed ones have still to store.
use Rattle.std.proofs.Common.{◌≡◌, ℕ, ◌<◌, ◌≤◌, Bool, true, not, T, eqb, ◌⊎◌, List, [], ◌∷◌, ◌++◌, Some, None, Option, sym, ap, ◌∙◌, arith}
use Rattle.tables.specs.declared.reply.Request.{Request}
use Rattle.tables.specs.declared.reply.Request.TheVariants.{Begin, Read, Commit}
use Rattle.protocol.specs.Table.{put}
use Rattle.protocol.specs.Protocol.{Phase, Hand, Held}
use Rattle.protocol.specs.Protocol.Hand.{full}
use Rattle.protocol.specs.Protocol.Held.{nobody, by}
use Rattle.protocol.specs.Protocol.Phase.{starting, running, certifying, aborting, sealing}
use Rattle.protocol.specs.Alone.{Operation, after}
use Rattle.protocol.proofs.Updates.{put_other}
use Rattle.protocol.proofs.Invariant.{tag, back}
use Rattle.law.specs.Ledger.{Hold, Desk, latest}
use Rattle.law.specs.Ledger.Desk.{asked}
use Rattle.law.specs.Ledger.Found.{version}
use Rattle.law.specs.Law.{In, Known}
use Rattle.law.proofs.Versions.{name}
use Rattle.law.proofs.Requests.{AsksAs, todo, started}
use Rattle.law.proofs.Contents.{ContentOf, content_at}

-- a transaction that runs or certifies
abbrev pub Going : Phase → Type 0
Going f = (f ≡ running) ⊎ (f ≡ certifying)

-- each hold is over the last version of its object
abbrev pub Covers : (ℕ → List ℕ) → List Hold → Type 0
Covers makers hs = (h : Hold) → In h hs → h.over ≡ latest (makers h.object)

module _ {K : Type 0} where
  -- what a read has in hand is the version that its first step found
  abbrev pub HandAs : (ℕ → K) → (ℕ → ℕ) → ℕ → (ℕ → List (Operation K)) → Desk K → Hand K → ℕ → Type 0
  HandAs start maker seals operations d hand fetched =
      (x st : ℕ) (v : K) → hand ≡ full x st v
      → ((n : ℕ) × (d ≡ asked (Read x) n (Some (version (name maker fetched))))) × (fetched ≤ seals) × ContentOf start operations maker x fetched v

  pub record Standing (start : ℕ → K) (makers : ℕ → List ℕ) (maker : ℕ → ℕ) (seals : ℕ) (operations : ℕ → List (Operation K)) (d : Desk K) (f : Phase) (hand : Hand K) (fetched : ℕ)
      (begun : Option ℕ) (sealed : Bool) (rs : List (Request K)) (ds : List (Operation K)) (hs : List Hold) : Type 0 where
    pub unbegun : f ≡ starting → begun ≡ None
    pub answered : Going f → Known begun
    pub sealed_too : (u : ℕ) → f ≡ sealing u → sealed ≡ true
    pub covers : Going f → Covers makers hs
    pub in_hand : f ≡ running → HandAs start maker seals operations d hand fetched
    pub asks : AsksAs f d rs ds

  -- by the phase
  module _ (start : ℕ → K) (makers : ℕ → List ℕ) (maker : ℕ → ℕ) (seals : ℕ) (operations : ℕ → List (Operation K)) (d : Desk K) (hand : Hand K) (fetched : ℕ)
      (begun : Option ℕ) (sealed : Bool) (rs : List (Request K)) (ds : List (Operation K)) (hs : List Hold) where
    pub in_starting : begun ≡ None → rs ≡ Begin ∷ [] → ds ≡ [] → Standing start makers maker seals operations d starting hand fetched begun sealed rs ds hs
    in_starting a b c = grind arith

    pub in_running : Known begun → Covers makers hs → HandAs start maker seals operations d hand fetched → rs ≡ todo d ++ started ds
        → Standing start makers maker seals operations d running hand fetched begun sealed rs ds hs
    in_running k a b c = grind arith

    pub in_certifying : Known begun → Covers makers hs → rs ≡ Commit ∷ started ds → Standing start makers maker seals operations d certifying hand fetched begun sealed rs ds hs
    in_certifying k a b = grind arith

    pub in_sealing : (t : ℕ) → sealed ≡ true → Standing start makers maker seals operations d (sealing t) hand fetched begun sealed rs ds hs
    in_sealing t a = grind arith

    pub in_aborting : Standing start makers maker seals operations d aborting hand fetched begun sealed rs ds hs
    in_aborting = grind arith

  -- over versions and operations of which this transaction's are as they were
  pub standing_keeps : (start : ℕ → K) (makers makers' : ℕ → List ℕ) (maker maker' : ℕ → ℕ) (seals seals' : ℕ) (operations operations' : ℕ → List (Operation K)) (d : Desk K) (f : Phase) (hand : Hand K)
      (fetched : ℕ) (begun : Option ℕ) (sealed : Bool) (rs : List (Request K)) (ds : List (Operation K)) (hs : List Hold)
      → seals ≤ seals' → (Going f → (h : Hold) → In h hs → latest (makers' h.object) ≡ latest (makers h.object))
      → ((i : ℕ) → i ≤ seals → name maker' i ≡ name maker i) → ((i : ℕ) → 0 < i → i ≤ seals → operations' (maker' i) ≡ operations (maker i))
      → Standing start makers maker seals operations d f hand fetched begun sealed rs ds hs
      → Standing start makers' maker' seals' operations' d f hand fetched begun sealed rs ds hs
  standing_keeps start makers makers' maker maker' seals seals' operations operations' d f hand fetched begun sealed rs ds hs l same names performed c =
      record {
        unbegun = c.unbegun;
        answered = c.answered;
        sealed_too = c.sealed_too;
        covers = λ e h i. c.covers e h i ∙ sym (same e h i);
        in_hand = λ e x st v k.
            let w = c.in_hand e x st v k in
            let n = w.1 in (
              (w.0.0, w.0.1 ∙ ap (λ (m : _). asked (Read x) w.0.0 (Some (version m))) (sym (names fetched w.1))),
              omega arith,
              content_at start operations operations' maker maker' x fetched v (λ h. performed fetched h w.1) w.2,
            );
        asks = c.asks;
      }

  -- Sealed transactions hold what they have still to store: they made its last version, and wrote its content.
  abbrev pub Owed : (ℕ → ℕ) → (ℕ → ℕ) → (ℕ → List (Operation K)) → ℕ → ℕ → K → Type 0
  Owed latest maker operations t x v = (0 < latest x) × (maker (latest x) ≡ t) × ((m : ℕ → K) → after m (operations t) x ≡ v)

  pub record Owing (phase : ℕ → Phase) (held : ℕ → Held K) (current latest maker : ℕ → ℕ) (operations : ℕ → List (Operation K)) : Type 0 where
    pub owes : (p x : ℕ) (v : K) (u : ℕ) → phase p ≡ sealing u → held x ≡ by p v → Owed latest maker operations (current p) x v

  module _ (phase : ℕ → Phase) (held : ℕ → Held K) (current latest maker : ℕ → ℕ) (operations : ℕ → List (Operation K)) (c : Owing phase held current latest maker operations) where
    -- p comes into a phase other than sealing
    pub owing_turn : (p : ℕ) (f : Phase) → T (not (eqb (tag f) 4)) → Owing (put phase p f) held current latest maker operations
    owing_turn p f n = record { owes = λ q x v u e h. c.owes q x v u (back phase p f q (sealing u) n e) h }

    -- x is free
    pub owing_free : (x : ℕ) → Owing phase (put held x nobody) current latest maker operations
    owing_free x = grind arith

    performed : (p : ℕ) (d : Operation K) → ((q : ℕ) (u : ℕ) → phase q ≡ sealing u → current q ≡ current p → ⊥) → (q y : ℕ) (w : K) (u : ℕ) → phase q ≡ sealing u → held y ≡ by q w
        → Owed latest maker (put operations (current p) (d ∷ operations (current p))) (current q) y w
    performed p d apart q y w u e h =
        let o = c.owes q y w u e h in
        (o.0, o.1, λ m. ap (λ (l : List (Operation K)). after m l y) (put_other operations (current p) (d ∷ operations (current p)) (current q) (λ i. apart q u e (sym i))) ∙ o.2 m)

    -- p, which is not sealed, writes x and performs that
    pub owing_write : (p x : ℕ) (v : K) (d : Operation K) → phase p ≡ running → ((q : ℕ) (u : ℕ) → phase q ≡ sealing u → current q ≡ current p → ⊥)
        → Owing phase (put held x (by p v)) current latest maker (put operations (current p) (d ∷ operations (current p)))
    owing_write p x v d run apart = grind arith

    -- p, which is not sealed, performs an operation
    pub owing_perform : (p : ℕ) (d : Operation K) → ((q : ℕ) (u : ℕ) → phase q ≡ sealing u → current q ≡ current p → ⊥)
        → Owing phase held current latest maker (put operations (current p) (d ∷ operations (current p)))
    owing_perform p d apart = record { owes = performed p d apart }
