-- What is on record of the transactions for the run alone: their requests with the answers, the order in which their
-- certifications began, and which of them are sealed.
use Rattle.std.specs.Prelude.{ℕ, zero, suc, Bool, true, false, cond, List, [], ◌∷◌}
use Rattle.protocol.specs.Table.{put}
use Rattle.protocol.specs.Protocol.{Event}
use Rattle.protocol.specs.Protocol.Event.{begin, ready, look, check, extend, answer, own, write, certify, pass, seal, finish, move, store, fail, free, commit, close}
use Rattle.protocol.specs.Alone.{Operation}
use Rattle.protocol.specs.Alone.Operation.{got, set}
use Rattle.protocol.specs.History.{History, history}

pub record Commits (K : Type 0) : Type 0 where
  -- of a transaction, by its number: its reads and writes, the newest first; whether it is sealed
  pub operations : ℕ → List (Operation K)
  pub sealed : ℕ → Bool
  -- how many certifications have begun, and of which transactions, in that order
  pub certs : ℕ
  pub order : ℕ → ℕ

module _ {K : Type 0} where
  abbrev pub performed : Commits K → ℕ → Operation K → Commits K
  performed y t d = record { operations = put y.operations t (d ∷ y.operations t); sealed = y.sealed; certs = y.certs; order = y.order }

  -- by the history before the event
  abbrev pub noted : History → Commits K → Event K → Commits K
  noted a y (begin p) = y
  noted a y (ready p c) = y
  noted a y (look p x v) = y
  noted a y (check p x) = y
  noted a y (extend p) = y
  noted a y (answer p x t v) = performed y (a.current p) (got x v)
  noted a y (own p x v) = performed y (a.current p) (got x v)
  noted a y (write p x v) = performed y (a.current p) (set x v)
  noted a y (certify p) =
      record { operations = y.operations; sealed = y.sealed; certs = suc y.certs; order = put y.order y.certs (a.current p) }
  noted a y (pass p x) = y
  noted a y (seal p t b) =
      record { operations = y.operations; sealed = put y.sealed (a.current p) true; certs = y.certs; order = y.order }
  noted a y (finish p) =
      record { operations = y.operations; sealed = put y.sealed (a.current p) true; certs = y.certs; order = y.order }
  noted a y (move b) = y
  noted a y (store p x v t) = y
  noted a y (fail p r) = y
  noted a y (free p x v) = y
  noted a y (commit p t) = y
  noted a y (close p) = y

  abbrev pub commits_of : List (Event K) → Commits K
  commits_of [] = record { operations = λ t. []; sealed = λ t. false; certs = 0; order = λ k. 0 }
  commits_of (e ∷ es) = noted (history es) (commits_of es) e

  -- the committed transactions among the first k certifications, the last first
  abbrev pub committed : Commits K → ℕ → List ℕ
  committed y zero = []
  committed y (suc k) = cond (y.sealed (y.order k)) (y.order k ∷ committed y k) (committed y k)
