-- What every lawful run keeps.
use Rattle.std.proofs.Common.{◌≡◌, ℕ, ◌<◌, ◌≤◌, true, not, T, eqb, ◌⊎◌, [], sym, ap, ◌∙◌, subst, inl, inr, arith, T_not}
use Rattle.std.proofs.lemmas.Bool.{cases_eq}
use Rattle.protocol.specs.Table.{put}
use Rattle.protocol.specs.Protocol.{State, Held, Seen, Hand, Phase}
use Rattle.protocol.specs.Protocol.Hand.{empty, full}
use Rattle.protocol.specs.Protocol.Held.{nobody, by}
use Rattle.protocol.specs.Protocol.Seen.{unseen, saw}
use Rattle.protocol.specs.Protocol.Phase.{out, starting, running, certifying, aborting, sealing}
use Rattle.protocol.specs.Alone.{after, Agrees}
use Rattle.protocol.proofs.Sequence.{Sequence, alone}
use Rattle.protocol.proofs.Updates.{put_same, put_other, put_is}
use Rattle.protocol.proofs.Alone.{Unwritten}

-- the looks of certifications that passed, by the place of the transaction and the object
abbrev pub Looks : Type 0 → Type 0
Looks K = ℕ → ℕ → Seen K

abbrev pub Live : (ℕ → Phase) → ℕ → Type 0
Live f p = (f p ≡ running) ⊎ (f p ≡ certifying)

-- p has no transaction that was answered
abbrev pub Off : (ℕ → Phase) → ℕ → Type 0
Off f p = (f p ≡ out) ⊎ (f p ≡ starting)

-- no sealed transaction has x still to write
abbrev pub NoneDue : {K : Type 0} → (ℕ → Held K) → (ℕ → Phase) → ℕ → Type 0
NoneDue {K} h f x = (p : ℕ) (v : K) (t : ℕ) → h x ≡ by p v → f p ≡ sealing t → ⊥

pub record Inv {K : Type 0} (opening : ℕ → K) (s : State K) (h : Sequence K) (l : Looks K) : Type 0 where
  -- places: one for each certification that has begun, empty until it is sealed
  pub unused : (k : ℕ) → h.count ≤ k → h.script k ≡ []
  pub below : (p : ℕ) → s.phase p ≡ certifying → h.place p < h.count
  pub unsealed : (p : ℕ) → s.phase p ≡ certifying → h.script (h.place p) ≡ []
  pub apart : (p q : ℕ) → s.phase p ≡ certifying → s.phase q ≡ certifying → h.place p ≡ h.place q → p ≡ q
  pub idle : (p x : ℕ) (v : K) → Off s.phase p → s.held x ≡ by p v → ⊥
  -- the looks that passed
  pub looked : (p x t : ℕ) (v : K) → s.phase p ≡ certifying → s.passed p x ≡ true → s.seen p x ≡ saw t v
      → l (h.place p) x ≡ saw t v
  pub known : (k x t : ℕ) (v : K) → l k x ≡ saw t v → k < h.count
  -- a live transaction by itself
  pub wrote : (p x : ℕ) (v : K) → Live s.phase p → s.held x ≡ by p v → (m : ℕ → K) → after m (h.operations p) x ≡ v
  pub spared : (p x : ℕ) → Live s.phase p → ((v : K) → s.held x ≡ by p v → ⊥) → Unwritten (h.operations p) x
  pub agrees : (p : ℕ) → Live s.phase p → (m : ℕ → K) → ((x t : ℕ) (v : K) → s.seen p x ≡ saw t v → m x ≡ v)
      → Agrees m (h.operations p)
  -- a stamp tells the content
  pub dated : (p x t : ℕ) (v : K) → s.seen p x ≡ saw t v → (t < s.stamp x) ⊎ ((t ≡ s.stamp x) × (s.content x ≡ v))
  pub hand_dated : (p x t : ℕ) (v : K) → s.hand p ≡ full x t v → (t < s.stamp x) ⊎ ((t ≡ s.stamp x) × (s.content x ≡ v))
  pub hand_same : (p x t : ℕ) (v : K) (u : ℕ) (w : K) → s.hand p ≡ full x t v → s.seen p x ≡ saw u w → (u ≡ t) × (w ≡ v)
  pub hand_free : (p x t : ℕ) (v w : K) → s.hand p ≡ full x t v → s.held x ≡ by p w → ⊥
  -- the clock is up to what p holds, or will be
  pub covers : (p x : ℕ) (v : K) → Live s.phase p → s.held x ≡ by p v → (s.stamp x ≤ s.clock p) ⊎ (s.stamp x ≤ s.need p)
  pub level : (p : ℕ) → s.phase p ≡ certifying → s.need p ≤ s.clock p
  -- the memory is what the sealed transactions leave, but for what they have still to write
  pub settled : (x : ℕ) → NoneDue s.held s.phase x → s.content x ≡ alone opening h.script h.count x
  pub due : (p x : ℕ) (v : K) (t : ℕ) → s.held x ≡ by p v → s.phase p ≡ sealing t
      → (alone opening h.script h.count x ≡ v) × (s.stamp x < t)
  -- who certifies holding x: none with a later place is sealed over x, or has passed a look at x
  pub last : (p x : ℕ) (v : K) → s.held x ≡ by p v → s.phase p ≡ certifying → (k : ℕ) → h.place p < k → Unwritten (h.script k) x
  pub first : (p x : ℕ) (v : K) (k t : ℕ) (w : K) → s.held x ≡ by p v → s.phase p ≡ certifying → l k x ≡ saw t w
      → k ≤ h.place p
  -- what has passed a look is what the run alone has at that place
  pub right : (k x t : ℕ) (v : K) → l k x ≡ saw t v → alone opening h.script k x ≡ v
  pub replays : (k : ℕ) (m : ℕ → K) → ((x t : ℕ) (v : K) → l k x ≡ saw t v → m x ≡ v) → Agrees m (h.script k)
  pub still : (p x t : ℕ) (v : K) → s.phase p ≡ certifying → s.seen p x ≡ saw t v → t ≡ s.stamp x → NoneDue s.held s.phase x
      → alone opening h.script (h.place p) x ≡ v

-- phases differ
abbrev pub tag : Phase → ℕ
tag out = 0
tag running = 1
tag certifying = 2
tag aborting = 3
tag starting = 5
tag (sealing t) = 4

pub differ : (a b : Phase) → T (not (eqb (tag a) (tag b))) → a ≡ b → ⊥
differ a b n e = T_not (eqb (tag a) (tag b)) n (subst (λ (c : Phase). T (eqb (tag a) (tag c))) e (lib.Dec.eqb_refl (tag a)))

-- a phase that p does not come into was there before
pub back : (f : ℕ → Phase) (p : ℕ) (a : Phase) (q : ℕ) (b : Phase) → T (not (eqb (tag a) (tag b))) → put f p a q ≡ b → f q ≡ b
back f p a q b n e = elim (put_is f p a q b e) [ inl h ↦ absurd (differ a b n h.1) | inr h ↦ h.1 ]

-- an entry of a row of a table that is not the changed one
pub row_other : {A : Type 0} (t : ℕ → ℕ → A) (p : ℕ) (r : ℕ → A) (q x : ℕ) → (p ≡ q → ⊥) → put t p r q x ≡ t q x
row_other t p r q x n = ap (λ (f : ℕ → _). f x) (put_other t p r q n)

pub row_same : {A : Type 0} (t : ℕ → ℕ → A) (p : ℕ) (r : ℕ → A) (q x : ℕ) → p ≡ q → put t p r q x ≡ r x
row_same t p r q x e = ap (λ (f : ℕ → _). f x) (put_same t p r q e)

module _ {K : Type 0} where
  pub none_due_back : (h : ℕ → Held K) (f : ℕ → Phase) (p : ℕ) (a : Phase) (x : ℕ)
      → ((v : K) (t : ℕ) → h x ≡ by p v → f p ≡ sealing t → ⊥) → NoneDue h (put f p a) x → NoneDue h f x
  none_due_back h f p a x c d q v t e g =
      elim (cases_eq p q) [
        | inl n ↦ c v t (e ∙ ap (λ (r : ℕ). by r v) (sym n)) (ap f n ∙ g)
        | inr n ↦ d q v t e (put_other f p a q n ∙ g)
      ]

  pub unheld : (h : Held K) (p : ℕ) (v : K) → h ≡ nobody → h ≡ by p v → ⊥
  unheld h p v d e = let z : ◌≡◌ {A = ℕ} 0 1 = cc in omega arith

  pub unsaw : (t : ℕ) (v : K) → ◌≡◌ {A = Seen K} unseen (saw t v) → ⊥
  unsaw t v e = let z : ◌≡◌ {A = ℕ} 0 1 = cc in omega arith

  pub unfull : (h : Hand K) (x t : ℕ) (v : K) → h ≡ empty → h ≡ full x t v → ⊥
  unfull h x t v d e = let z : ◌≡◌ {A = ℕ} 0 1 = cc in omega arith

  pub one_holder : (h : Held K) (p q : ℕ) (v w : K) → h ≡ by p v → h ≡ by q w → p ≡ q
  one_holder h p q v w d e = cc

  pub one_content : (h : Held K) (p q : ℕ) (v w : K) → h ≡ by p v → h ≡ by q w → v ≡ w
  one_content h p q v w d e = cc
