-- Strict serializability.
use Rattle.std.specs.Prelude.{◌≡◌, ℕ, ◌<◌, ◌⊎◌, List, [], ◌∷◌}
use Rattle.protocol.specs.Protocol.{Event, Lawful, state}
use Rattle.protocol.specs.Alone.{memory, Replays}
use Rattle.protocol.specs.History.{History, history}
use Rattle.protocol.specs.History.Mark.{some}
use Rattle.protocol.specs.Commits.{Commits, commits_of, committed}

-- transaction t ended before the begin of u was placed
abbrev pub EndedBefore : History → ℕ → ℕ → Type 0
EndedBefore a t u = (n : ℕ) × (a.ended t ≡ some n) × (n < a.begun_at u)

abbrev pub Among : ℕ → List ℕ → Type 0
Among t [] = ⊥
Among t (u ∷ ts) = (t ≡ u) ⊎ Among t ts

-- none of the list ended before the begin of one that comes earlier in it (the last stands first)
abbrev pub Strict : History → List ℕ → Type 0
Strict a [] = Unit {0}
Strict a (t ∷ ts) = Strict a ts × ((u : ℕ) → Among u ts → EndedBefore a t u → ⊥)

-- of a memory with these contents, after what is on record
pub record Serializable {K : Type 0} (opening content : ℕ → K) (a : History) (y : Commits K) : Type 0 where
  -- run alone in the order in which their certification began, the committed get the same from every read
  pub reads : Replays opening y.operations (committed y y.certs)
  -- and leave the same in every object that has no version still to be written
  pub leaves : (x : ℕ) → a.stored x ≡ a.latest x → content x ≡ memory opening y.operations (committed y y.certs) x
  -- one that ended before another's begin comes earlier
  pub ordered : Strict a (committed y y.certs)

abbrev pub Law : Type 0 → Type 0
Law K =
    (P : ℕ) (opening : ℕ → K) (b : ℕ → ℕ) (es : List (Event K)) → Lawful P opening b es
    → Serializable opening (state opening b es).content (history es) (commits_of es)
