-- What a transaction that may never be sealed is promised: it reads no version that is older than one made by a transaction
-- that it comes after.
use Rattle.std.specs.Prelude.{◌≡◌, ℕ, ◌<◌, ◌≤◌, ◌⊎◌, List, [], ◌∷◌}
use Rattle.protocol.specs.Protocol.{Event, Lawful}
use Rattle.protocol.specs.History.{History, Access, history, In, version}
use Rattle.protocol.specs.History.Access.{rd, ov}
use Rattle.protocol.specs.History.Mark.{some}

-- the maker of version j follows the maker of version i
pub data Follows (a : History) : ℕ → ℕ → Type 0 where
  by_reading : {j i : ℕ} (x : ℕ) → In (rd x i) (a.log (a.maker j)) → 0 < j → j ≤ a.seals → Follows a j i
  by_replacing : {j i : ℕ} (x : ℕ) → a.over j x ≡ some i → Follows a j i
  by_chain : {j i : ℕ} (k : ℕ) → Follows a j k → Follows a k i → Follows a j i

-- transaction t comes after transaction u
pub data Link (a : History) : ℕ → ℕ → Type 0 where
  reading : {t : ℕ} (x j : ℕ) → In (rd x j) (a.log t) → 0 < j → Link a t (a.maker j)
  replacing : (x i j : ℕ) → a.over i x ≡ some j → 0 < j → Link a (a.maker i) (a.maker j)
  ending : {t u : ℕ} (n : ℕ) → a.ended u ≡ some n → n < a.begun_at t → t < a.begun → Link a t u

pub data After (a : History) : ℕ → ℕ → Type 0 where
  one : {t u : ℕ} → Link a t u → After a t u
  more : {t u : ℕ} (w : ℕ) → Link a t w → After a w u → After a t u

-- of a log, the newest first: where it reads for the first time a version of a maker that was sealed after the begin was answered,
-- all before is made by the opening, by that maker, or by one that this maker follows
abbrev pub FairLog : History → ℕ → List Access → Type 0
FairLog a base [] = Unit {0}
FairLog a base (rd x j ∷ l) =
    FairLog a base l
    × (base < j → ((y : ℕ) → In (rd y j) l → ⊥) → (c : Access) → In c l → (version c ≡ 0) ⊎ (version c ≡ j) ⊎ Follows a j (version c))
FairLog a base (ov x j ∷ l) = FairLog a base l

abbrev pub Fair : History → ℕ → Type 0
Fair a t = FairLog a (a.base t) (a.log t)

abbrev pub Consistent : Type 0 → Type 0
Consistent K =
    (P : ℕ) (opening : ℕ → K) (b : ℕ → ℕ) (es : List (Event K)) → Lawful P opening b es
    → (t : ℕ) → Fair (history es) t
    → (x j u i : ℕ) → In (rd x j) ((history es).log t) → (history es).over u x ≡ some i → j < u → After (history es) t ((history es).maker u) → ⊥
