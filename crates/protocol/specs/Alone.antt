-- The run alone: transactions one after the other, each on what the others have left.
use Rattle.std.specs.Prelude.{◌≡◌, ℕ, List, [], ◌∷◌}
use Rattle.protocol.specs.Table.{put}

-- a request with its answer: a read of an object that got a content, a write of a content to an object
pub data Operation (K : Type 0) : Type 0 where
  got : ℕ → K → Operation K
  set : ℕ → K → Operation K

module _ {K : Type 0} where
  -- what a transaction sees after its operations (the newest first) on a memory m: its own writes over m. It is also what it leaves.
  abbrev pub after : (ℕ → K) → List (Operation K) → ℕ → K
  after m [] = m
  after m (got x v ∷ ds) = after m ds
  after m (set x v ∷ ds) = put (after m ds) x v

  -- on m, each read gets the content on record
  abbrev pub Agrees : (ℕ → K) → List (Operation K) → Type 0
  Agrees m [] = Unit {0}
  Agrees m (got x v ∷ ds) = Agrees m ds × (after m ds x ≡ v)
  Agrees m (set x v ∷ ds) = Agrees m ds

  -- what transactions leave, one after the other (the last stands first in the list)
  abbrev pub memory : (ℕ → K) → (ℕ → List (Operation K)) → List ℕ → ℕ → K
  memory opening operations [] = opening
  memory opening operations (t ∷ ts) = after (memory opening operations ts) (operations t)

  -- each of them gets the same content from every read
  abbrev pub Replays : (ℕ → K) → (ℕ → List (Operation K)) → List ℕ → Type 0
  Replays opening operations [] = Unit {0}
  Replays opening operations (t ∷ ts) = Replays opening operations ts × Agrees (memory opening operations ts) (operations t)
