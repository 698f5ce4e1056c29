-- What an event does to the row of the process that acts, and that it leaves the rows of the others.
use Rattle.std.proofs.Common.{◌≡◌, ℕ, Bool, true, false, arith}
use Rattle.protocol.specs.Table.{put}
use Rattle.protocol.specs.Protocol.{State, Seen, Hand, Phase, Event, next}
use Rattle.protocol.specs.Protocol.Seen.{unseen, saw}
use Rattle.protocol.specs.Protocol.Hand.{empty, full}
use Rattle.protocol.specs.Protocol.Phase.{out, starting, running, certifying, aborting, sealing}
use Rattle.protocol.specs.Protocol.Event.{begin, ready, look, check, extend, answer, own, write, certify, pass, seal, finish, move, store, fail, free, commit, close}

-- the part of a state that belongs to one process
pub record Row (K : Type 0) : Type 0 where
  pub phase : Phase
  pub seen : ℕ → Seen K
  pub passed : ℕ → Bool
  pub hand : Hand K
  pub clock : ℕ
  pub need : ℕ

module _ {K : Type 0} where
  abbrev pub row : State K → ℕ → Row K
  row s p = record { phase = s.phase p; seen = s.seen p; passed = s.passed p; hand = s.hand p; clock = s.clock p; need = s.need p }

  abbrev pub in_phase : Row K → Phase → Row K
  in_phase r f = record { phase = f; seen = r.seen; passed = r.passed; hand = r.hand; clock = r.clock; need = r.need }

  -- stamp is the stamps of the objects
  abbrev pub acted : (ℕ → ℕ) → Event K → Row K → Row K
  acted stamp (begin p) r = in_phase r starting
  acted stamp (ready p c) r = record { phase = running; seen = λ x. unseen; passed = r.passed; hand = empty; clock = c; need = 0 }
  acted stamp (look p x v) r =
      record { phase = r.phase; seen = r.seen; passed = λ y. false; hand = full x (stamp x) v; clock = r.clock; need = stamp x }
  acted stamp (check p x) r =
      record { phase = r.phase; seen = r.seen; passed = put r.passed x true; hand = r.hand; clock = r.clock; need = r.need }
  acted stamp (extend p) r =
      record { phase = r.phase; seen = r.seen; passed = r.passed; hand = r.hand; clock = r.need; need = r.need }
  acted stamp (answer p x t v) r =
      record { phase = r.phase; seen = put r.seen x (saw t v); passed = r.passed; hand = empty; clock = r.clock; need = r.need }
  acted stamp (own p x v) r = r
  acted stamp (write p x v) r =
      record { phase = r.phase; seen = r.seen; passed = λ y. false; hand = r.hand; clock = r.clock; need = stamp x }
  acted stamp (certify p) r =
      record { phase = certifying; seen = r.seen; passed = λ y. false; hand = r.hand; clock = r.clock; need = r.need }
  acted stamp (pass p x) r =
      record { phase = r.phase; seen = r.seen; passed = put r.passed x true; hand = r.hand; clock = r.clock; need = r.need }
  acted stamp (seal p t b) r = in_phase r (sealing t)
  acted stamp (finish p) r = in_phase r aborting
  acted stamp (move b) r = r
  acted stamp (store p x v t) r = r
  acted stamp (fail p c) r = in_phase r aborting
  acted stamp (free p x v) r = r
  acted stamp (commit p t) r = in_phase r out
  acted stamp (close p) r = in_phase r out

  -- p is the process that acts
  abbrev pub Acts : Event K → ℕ → Type 0
  Acts (begin q) p = q ≡ p
  Acts (ready q c) p = q ≡ p
  Acts (look q x v) p = q ≡ p
  Acts (check q x) p = q ≡ p
  Acts (extend q) p = q ≡ p
  Acts (answer q x t v) p = q ≡ p
  Acts (own q x v) p = q ≡ p
  Acts (write q x v) p = q ≡ p
  Acts (certify q) p = q ≡ p
  Acts (pass q x) p = q ≡ p
  Acts (seal q t b) p = q ≡ p
  Acts (finish q) p = q ≡ p
  Acts (move b) p = ⊥
  Acts (store q x v t) p = q ≡ p
  Acts (fail q c) p = q ≡ p
  Acts (free q x v) p = q ≡ p
  Acts (commit q t) p = q ≡ p
  Acts (close q) p = q ≡ p

  pub row_acted : (s : State K) (ev : Event K) (p : ℕ) → Acts ev p → row (next s ev) p ≡ acted s.stamp ev (row s p)
  row_acted s ev p a = grind arith

  -- the rows of the others
  pub row_others : (s : State K) (ev : Event K) (p q : ℕ) → Acts ev p → (p ≡ q → ⊥) → row (next s ev) q ≡ row s q
  row_others s ev p q a n = grind arith
