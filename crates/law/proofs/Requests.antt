-- The requests on record, the operations of the protocol, and the run alone.
use Rattle.std.proofs.Common.{◌≡◌, ℕ, zero, suc, Bool, true, false, cond, eqb, List, [], ◌∷◌, ◌++◌, sym, refl, ap, ◌∙◌, subst, inl, inr, arith}
use mathlib.Core.Path.{fun_ext}
use Rattle.std.proofs.lemmas.Bool.{true≢false, cases_eq}
use Rattle.tables.specs.declared.reply.Request.{Request}
use Rattle.tables.specs.declared.reply.Request.TheVariants.{Begin, Read, Write, Commit, Withdraw}
use Rattle.protocol.specs.Table.{put}
use Rattle.protocol.specs.Protocol.{Phase}
use Rattle.protocol.specs.Protocol.Phase.{out, starting, running, certifying, aborting, sealing}
use Rattle.protocol.specs.Alone.{Operation, after, Agrees, memory, Replays}
use Rattle.protocol.specs.Alone.Operation.{got, set}
use Rattle.protocol.proofs.Updates.{put_same, put_other, put_when}
use Rattle.law.specs.Trace.{Trace}
use Rattle.law.specs.Ledger.{Reading, Desk, requests, readings}
use Rattle.law.specs.Ledger.Desk.{free, asked}
use Rattle.law.specs.Law.{In, Alone, shows, fed, gotten, alone, contents, SameReads}
use Rattle.law.proofs.Traces.{when}

module _ {K : Type 0} where
  -- the requests of operations, and what their reads got
  abbrev pub script : List (Operation K) → List (Request K)
  script [] = []
  script (got x v ∷ ds) = Read x ∷ script ds
  script (set x v ∷ ds) = Write x v ∷ script ds

  abbrev pub results : List (Operation K) → List K
  results [] = []
  results (got x v ∷ ds) = v ∷ results ds
  results (set x v ∷ ds) = results ds

  -- the requests of a transaction with these operations, before it asks for its end
  abbrev pub started : List (Operation K) → List (Request K)
  started ds = script ds ++ Begin ∷ []

  -- the request in hand, if its operation is still to come
  abbrev pub todo : Desk K → List (Request K)
  todo free = []
  todo (asked Begin n f) = []
  todo (asked (Read x) n f) = Read x ∷ []
  todo (asked (Write x v) zero f) = Write x v ∷ []
  todo (asked (Write x v) (suc n) f) = []
  todo (asked Commit n f) = Commit ∷ []
  todo (asked Withdraw n f) = Withdraw ∷ []

  -- the requests of an open transaction, by its phase in the protocol
  abbrev pub AsksAs : Phase → Desk K → List (Request K) → List (Operation K) → Type 0
  AsksAs out d rs ds = Unit {0}
  AsksAs starting d rs ds = (rs ≡ Begin ∷ []) × (ds ≡ [])
  AsksAs running d rs ds = rs ≡ todo d ++ started ds
  AsksAs certifying d rs ds = rs ≡ Commit ∷ started ds
  AsksAs aborting d rs ds = Unit {0}
  AsksAs (sealing t) d rs ds = Unit {0}

  pub record Ops (readings : ℕ → List (Reading K)) (requests : ℕ → List (Request K)) (operations : ℕ → List (Operation K)) (sealed : ℕ → Bool) : Type 0 where
    pub gets : (t : ℕ) → contents (readings t) ≡ results (operations t)
    pub asks : (t : ℕ) → sealed t ≡ true → requests t ≡ Commit ∷ started (operations t)

  module _ (readings : ℕ → List (Reading K)) (requests : ℕ → List (Request K)) (operations : ℕ → List (Operation K)) (sealed : ℕ → Bool)
      (c : Ops readings requests operations sealed) (t : ℕ) where
    -- a sealed transaction is another than one that is not
    not_sealed : sealed t ≡ false → (u : ℕ) → sealed u ≡ true → t ≡ u → ⊥
    not_sealed o u h e = true≢false (sym h ∙ ap sealed (sym e) ∙ o)

    still : (d : Operation K) → sealed t ≡ false → (u : ℕ) → sealed u ≡ true → requests u ≡ Commit ∷ started (put operations t (d ∷ operations t) u)
    still d o u h = grind arith

    -- t writes
    pub ops_set : (x : ℕ) (v : K) → sealed t ≡ false → Ops readings requests (put operations t (set x v ∷ operations t)) sealed
    ops_set x v o =
        record {
          gets = λ u.
              put_when (λ (ds : List (Operation K)). contents (readings u) ≡ results ds) operations t (set x v ∷ operations t) u
              (λ e. subst (λ (w : ℕ). contents (readings w) ≡ results (operations t)) e (c.gets t)) (λ e. c.gets u);
          asks = still (set x v) o;
        }

    -- t is sealed
    pub ops_seal : requests t ≡ Commit ∷ started (operations t) → Ops readings requests operations (put sealed t true)
    ops_seal h =
        record {
          gets = c.gets;
          asks = λ u k.
              elim (cases_eq t u) [
                | inl e ↦ subst (λ (w : ℕ). requests w ≡ Commit ∷ started (operations w)) e h
                | inr e ↦ c.asks u (sym (put_other sealed t true u e) ∙ k)
              ];
        }

    module _ (b : ℕ → Bool) (own : (u : ℕ) → b u ≡ eqb t u) where
      -- a read of t is answered
      pub ops_got : (r : Reading K) (x : ℕ) → sealed t ≡ false
          → Ops (λ u. cond (b u) (r ∷ readings u) (readings u)) requests (put operations t (got x r.content ∷ operations t)) sealed
      ops_got r x o =
          record {
            gets = λ u.
                when (λ (l : List (Reading K)). contents l ≡ results (put operations t (got x r.content ∷ operations t) u)) (b u) t u (r ∷ readings u) (readings u) (own u)
                (λ e. subst (λ (ds : List (Operation K)). contents (r ∷ readings u) ≡ results ds) (sym (put_same operations t (got x r.content ∷ operations t) u e))
                (ap (λ (vs : List K). r.content ∷ vs) (c.gets u ∙ ap (λ (w : ℕ). results (operations w)) (sym e))))
                (λ e. c.gets u ∙ ap results (sym (put_other operations t (got x r.content ∷ operations t) u e)));
            asks = still (got x r.content) o;
          }

      -- a request of t is placed
      pub ops_ask : (r : Request K) → sealed t ≡ false → Ops readings (λ u. cond (b u) (r ∷ requests u) (requests u)) operations sealed
      ops_ask r o =
          record {
            gets = c.gets;
            asks = λ u h.
                when (λ (l : List (Request K)). l ≡ Commit ∷ started (operations u)) (b u) t u (r ∷ requests u) (requests u) (own u)
                (λ e. absurd (not_sealed o u h e)) (λ e. c.asks u h);
          }

  -- a transaction run alone, before it asks for its end: the memory's own contents stay, and it sees what the protocol says
  pub own_same : (m : Alone K) (ds : List (Operation K)) (x : ℕ) → (fed m (started ds)).own x ≡ m.own x
  own_same m [] x = refl
  own_same m (got y v ∷ ds) x = own_same m ds x
  own_same m (set y v ∷ ds) x = own_same m ds x

  pub sees_after : (m : Alone K) (ds : List (Operation K)) (x : ℕ) → shows (fed m (started ds)) x ≡ after m.own ds x
  sees_after m [] x = refl
  sees_after m (got y v ∷ ds) x = sees_after m ds x
  sees_after m (set y v ∷ ds) x = grind (arith, sees_after m ds x)

  pub gotten_results : (m : Alone K) (ds : List (Operation K)) → Agrees m.own ds → gotten m (started ds) ≡ results ds
  gotten_results m [] a = refl
  gotten_results m (got x v ∷ ds) a =
      ap (λ (w : K). w ∷ gotten m (started ds)) (sees_after m ds x ∙ a.1) ∙ ap (λ (vs : List K). v ∷ vs) (gotten_results m ds a.0)
  gotten_results m (set x v ∷ ds) a = gotten_results m ds a

  -- the run alone of sealed transactions leaves what the protocol says
  module _ (start : ℕ → K) (j : Trace K) (operations : ℕ → List (Operation K)) (sealed : ℕ → Bool) (c : Ops (readings j) (requests j) operations sealed) where
    pub alone_leaves : (ts : List ℕ) → ((t : ℕ) → In t ts → sealed t ≡ true) → (x : ℕ) → (alone start j ts).own x ≡ memory start operations ts x
    alone_leaves [] all x = refl
    alone_leaves (t ∷ ts) all x =
        ap (λ (rs : List (Request K)). (fed (alone start j ts) rs).own x) (c.asks t (all t (inl refl)))
        ∙ sees_after (alone start j ts) (operations t) x
        ∙ ap (λ (m : ℕ → K). after m (operations t) x) (fun_ext (λ y. alone_leaves ts (λ u i. all u (inr i)) y))

    pub same_reads : (ts : List ℕ) → ((t : ℕ) → In t ts → sealed t ≡ true) → Replays start operations ts → SameReads start j ts
    same_reads [] all h = tt
    same_reads (t ∷ ts) all h = (
      same_reads ts (λ u i. all u (inr i)) h.0,
      c.gets t
          ∙ sym (gotten_results (alone start j ts) (operations t)
          (subst (λ (m : ℕ → K). Agrees m (operations t)) (fun_ext (λ y. sym (alone_leaves ts (λ u i. all u (inr i)) y))) h.1))
          ∙ ap (gotten (alone start j ts)) (sym (c.asks t (all t (inl refl)))),
    )
