-- An abort names an object that another transaction held while both were open, unless its cause is that stamps are spent.
use Rattle.std.specs.Prelude.{◌≡◌, ℕ, List, ◌∷◌}
use Rattle.protocol.specs.Protocol.{Event, Cause, Lawful, state}
use Rattle.protocol.specs.Protocol.Held.{by}
use Rattle.protocol.specs.Protocol.Phase.{out}
use Rattle.protocol.specs.Protocol.Cause.{busy, stale, spent, withdrawn}
use Rattle.protocol.specs.Protocol.Event.{fail}
use Rattle.protocol.specs.History.{history}

-- the object that a cause names
abbrev pub Names : Cause → ℕ → Type 0
Names (busy y) x = y ≡ x
Names (stale y) x = y ≡ x
Names spent x = ⊥
Names withdrawn x = ⊥

-- an earlier moment of a run
pub data From {K : Type 0} : List (Event K) → List (Event K) → Type 0 where
  here : {es : List (Event K)} → From es es
  there : {es fs : List (Event K)} (e : Event K) → From es fs → From es (e ∷ fs)

-- at some moment of the run the present transaction of p was open, and that of another process was open and held x
pub record Contended {K : Type 0} (opening : ℕ → K) (b : ℕ → ℕ) (es : List (Event K)) (p x : ℕ) : Type 0 where
  pub moment : List (Event K)
  pub earlier : From moment es
  pub same : (history moment).current p ≡ (history es).current p
  pub open_p : (state opening b moment).phase p ≡ out → ⊥
  pub other : ℕ
  pub content : K
  pub not_p : other ≡ p → ⊥
  pub holds : (state opening b moment).held x ≡ by other content
  pub open_other : (state opening b moment).phase other ≡ out → ⊥

abbrev pub Justified : Type 0 → Type 0
Justified K =
    (P : ℕ) (opening : ℕ → K) (b : ℕ → ℕ) (es : List (Event K)) (p : ℕ) (r : Cause) → Lawful P opening b (fail p r ∷ es)
    → (x : ℕ) → Names r x → Contended opening b es p x
