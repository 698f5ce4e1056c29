-- The record by which the proof goes: by processes, and by places in the order of certification.
use Rattle.std.proofs.Common.{ℕ, zero, suc, List, [], ◌∷◌}
use Rattle.protocol.specs.Table.{put}
use Rattle.protocol.specs.Protocol.{Event}
use Rattle.protocol.specs.Protocol.Event.{begin, ready, look, check, extend, answer, own, write, certify, pass, seal, finish, move, store, fail, free, commit, close}
use Rattle.protocol.specs.Alone.{Operation, after}
use Rattle.protocol.specs.Alone.Operation.{got, set}

-- of a process the operations of its present transaction, the newest first; of each transaction whose certification has begun,
-- by its place in that order, its operations once it is sealed (none before)
pub record Sequence (K : Type 0) : Type 0 where
  pub operations : ℕ → List (Operation K)
  pub place : ℕ → ℕ
  pub count : ℕ
  pub script : ℕ → List (Operation K)

module _ {K : Type 0} where
  -- the memory that the first k transactions leave, one after the other
  abbrev pub alone : (ℕ → K) → (ℕ → List (Operation K)) → ℕ → ℕ → K
  alone opening script zero = opening
  alone opening script (suc k) = after (alone opening script k) (script k)

  abbrev pub add : Sequence K → ℕ → Operation K → Sequence K
  add h p d =
      record { operations = put h.operations p (d ∷ h.operations p); place = h.place; count = h.count; script = h.script }

  abbrev pub note : Sequence K → Event K → Sequence K
  note h (begin p) = h
  note h (ready p c) = record { operations = put h.operations p []; place = h.place; count = h.count; script = h.script }
  note h (look p x v) = h
  note h (check p x) = h
  note h (extend p) = h
  note h (answer p x t v) = add h p (got x v)
  note h (own p x v) = add h p (got x v)
  note h (write p x v) = add h p (set x v)
  note h (certify p) =
      record { operations = h.operations; place = put h.place p h.count; count = suc h.count; script = h.script }
  note h (pass p x) = h
  note h (seal p t b) =
      record { operations = h.operations; place = h.place; count = h.count; script = put h.script (h.place p) (h.operations p) }
  note h (finish p) =
      record { operations = h.operations; place = h.place; count = h.count; script = put h.script (h.place p) (h.operations p) }
  note h (move b) = h
  note h (store p x v t) = h
  note h (fail p r) = h
  note h (free p x v) = h
  note h (commit p t) = h
  note h (close p) = h

  abbrev pub sequence : List (Event K) → Sequence K
  sequence [] = record { operations = λ p. []; place = λ p. 0; count = 0; script = λ k. [] }
  sequence (e ∷ es) = note (sequence es) e
