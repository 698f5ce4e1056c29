-- An abort has a reason: another transaction held the object that it names, while both were open.
use Rattle.std.proofs.Common.{◌≡◌, ℕ, suc, ◌<◌, ◌≤◌, Bool, true, false, cond, ◌&&◌, ◌⊎◌, List, [], ◌∷◌, length, Some, None, Option, sym, refl, ap, ◌∙◌, inl, inr, arith}
use Rattle.std.proofs.lemmas.Bool.{cases_eq, cond-true}
use Rattle.std.proofs.lemmas.Option.{none-some}
use Rattle.tables.specs.declared.reply.Conflict.{Conflict}
use Rattle.tables.specs.declared.reply.Conflict.TheVariants as conflict
use Rattle.protocol.specs.Table.{put}
use Rattle.protocol.specs.Protocol.{Phase, Held, Event, state}
use Rattle.protocol.specs.Protocol.Held.{nobody, by}
use Rattle.protocol.specs.Protocol.Phase.{out, aborting}
use Rattle.protocol.specs.History.{history}
use Rattle.protocol.proofs.Freshness.{FreshOf}
use Rattle.law.specs.Trace.{Act, Entry, Trace}
use Rattle.law.specs.Ledger.{first, among, count, belongs, first_at, begins as begins_now, placed_at, ended_at, stored_at, freed_at, taken, holds, effect_of, hold}
use Rattle.law.specs.Law.{Known, OpenAt, HeldAt, Disturbed, Justified}
use Rattle.law.proofs.Traces.{first_before, hold_before, taken_held, push_keeps}

module _ {K : Type 0} where
  -- a time on record stays, and a new one is the time of the entry
  first_stays : (f : Act K → Bool) (l : Entry K) (j : Trace K) (t m : ℕ) → first_at f j t ≡ Some m → first_at f (l ∷ j) t ≡ Some m
  first_stays f l j t m h = grind arith

  first_late : (f : Act K → Bool) (l : Entry K) (j : Trace K) (t m : ℕ) → first_at f (l ∷ j) t ≡ Some m → (first_at f j t ≡ Some m) ⊎ (m ≡ length j)
  first_late f l j t m h = grind arith

  -- every transaction has its placing on record
  pub placed_known : (j : Trace K) (t : ℕ) → t < count j → Known (placed_at j t)
  placed_known [] t h = absurd (omega arith)
  placed_known (l ∷ j) t h = go (λ k. placed_known j t k) (begins_now l.act) refl h
    where
      old : (Known (placed_at j t)) → Known (placed_at (l ∷ j) t)
      old k = (k.0, first_stays begins_now l j t k.0 k.1)

      new : begins_now l.act ≡ true → t ≡ count j → belongs l j t ≡ true
      new b e = grind arith

      go : (t < count j → Known (placed_at j t)) → (b : Bool) → begins_now l.act ≡ b → t < cond b (suc (count j)) (count j) → Known (placed_at (l ∷ j) t)
      go up true e k =
          elim (cases_eq t (count j)) [
            | inl q ↦ (first (placed_at j t) (length j), cond-true (begins_now l.act && belongs l j t) _ _ (ap (λ (x : Bool). x && belongs l j t) e ∙ new e q))
            | inr q ↦ old (up (omega arith))
          ]
      go up false e k = old (up k)

  -- what was so stays so
  open_more : (l : Entry K) (j : Trace K) (t n : ℕ) → n < length j → OpenAt j t n → OpenAt (l ∷ j) t n
  open_more l j t n k o =
      record {
        from = (o.from.0, first_stays begins_now l j t o.from.0 o.from.1, o.from.2);
        until = λ m h. elim (first_late _ l j t m h) [ inl e ↦ o.until m e | inr e ↦ omega arith ];
      }

  held_more : (l : Entry K) (j : Trace K) (u x n : ℕ) → n < length j → HeldAt j u x n → HeldAt (l ∷ j) u x n
  held_more l j u x n k h = grind arith

  pub disturbed_more : (l : Entry K) (j : Trace K) (t x : ℕ) → Disturbed j t x → Disturbed (l ∷ j) t x
  disturbed_more l j t x d =
      let k = d.2 in (d.0, d.1, omega arith, d.3, open_more l j t d.1 d.2 d.4, open_more l j d.0 d.1 d.2 d.5, held_more l j d.0 x d.1 d.2 d.6)

  pub justified_more : (l : Entry K) (j : Trace K) (t : ℕ) (c : Conflict) → Justified j t c → Justified (l ∷ j) t c
  justified_more l j t (conflict.Held x) d = disturbed_more l j t x d
  justified_more l j t (conflict.Changed x) d = disturbed_more l j t x d
  justified_more l j t conflict.Spent d = tt

  -- what an open transaction u holds, at the time of one more entry
  pub disturbed_now : (l : Entry K) (j : Trace K) (t u x : ℕ) → (u ≡ t → ⊥) → Known (placed_at j t) → ended_at j t ≡ None → Known (placed_at j u) → ended_at j u ≡ None
      → among x (taken j u) ≡ true → stored_at j u x ≡ None → freed_at j u x ≡ None → Disturbed (l ∷ j) t x
  disturbed_now l j t u x d pt et pu eu taken' stored freed =
      let h = taken_held j u x taken' in
      let k = hold_before j u h.0 h.1 in (
        u,
        length j,
        omega arith,
        d,
        open_now t pt et,
        open_now u pu eu,
        (
          h.0,
          push_keeps h.0 (hold j (effect_of l.act).takes) (belongs l j u) (holds j u) h.1,
          h.2,
          omega arith,
          record { stores = λ m e. at_end _ u m stored e; frees = λ m e. at_end _ u m freed e },
        ),
      )
    where
      at_end : (f : Act K → Bool) (v m : ℕ) → first_at f j v ≡ None → first_at f (l ∷ j) v ≡ Some m → length j ≤ m
      at_end f v m none e = elim (first_late f l j v m e) [ inl q ↦ absurd (none-some _ (sym none ∙ q)) | inr q ↦ omega arith ]

      open_now : (v : ℕ) → Known (placed_at j v) → ended_at j v ≡ None → OpenAt (l ∷ j) v (length j)
      open_now v k e =
          record {
            from = (k.0, first_stays begins_now l j v k.0 k.1, (let i = first_before begins_now j v k.0 k.1 in omega arith));
            until = λ m h. at_end _ v m e h;
          }

  -- Who holds an object has it on record as taken, and neither stored nor freed.
  pub record Holding (phase : ℕ → Phase) (held : ℕ → Held K) (current : ℕ → ℕ) (taken : ℕ → List ℕ) (stored_at freed_at : ℕ → ℕ → Option ℕ) : Type 0 where
    pub keeps : (q x : ℕ) (w : K) → held x ≡ by q w → (among x (taken (current q)) ≡ true) × (stored_at (current q) x ≡ None) × (freed_at (current q) x ≡ None)
    pub unfreed : (q : ℕ) → (phase q ≡ out → ⊥) → (phase q ≡ aborting → ⊥) → (x : ℕ) → freed_at (current q) x ≡ None

  module _ (phase : ℕ → Phase) (held : ℕ → Held K) (current : ℕ → ℕ) (taken : ℕ → List ℕ) (stored_at freed_at : ℕ → ℕ → Option ℕ) (c : Holding phase held current taken stored_at freed_at) where
    -- p comes into another phase
    pub holding_turn : (p : ℕ) (f : Phase) → ((f ≡ out → ⊥) → (f ≡ aborting → ⊥) → (phase p ≡ out → ⊥) × (phase p ≡ aborting → ⊥)) → Holding (put phase p f) held current taken stored_at freed_at
    holding_turn p f was = grind arith

    -- p writes x, with more on record as taken
    pub holding_write : (p x : ℕ) (v : K) (taken' : ℕ → List ℕ) → ((u y : ℕ) → among y (taken u) ≡ true → among y (taken' u) ≡ true)
        → (among x (taken' (current p)) ≡ true) × (stored_at (current p) x ≡ None) × (freed_at (current p) x ≡ None) → Holding phase (put held x (by p v)) current taken' stored_at freed_at
    holding_write p x v taken' more mine = grind arith

    -- x is let go
    pub holding_release : (x : ℕ) (stored' freed' : ℕ → ℕ → Option ℕ) → ((u y : ℕ) → (x ≡ y → ⊥) → stored' u y ≡ stored_at u y) → ((u y : ℕ) → (x ≡ y → ⊥) → freed' u y ≡ freed_at u y)
        → ((q : ℕ) → (phase q ≡ out → ⊥) → (phase q ≡ aborting → ⊥) → (y : ℕ) → freed' (current q) y ≡ freed_at (current q) y) → Holding phase (put held x nobody) current taken stored' freed'
    holding_release x stored' freed' ss fs others = grind arith

  -- the reasons for aborts that a trace shows
  pub record Watch (start : ℕ → K) (b : ℕ → ℕ) (j : Trace K) (es : List (Event K)) : Type 0 where
    pub holding : Holding (state start b es).phase (state start b es).held (history es).current (taken j) (stored_at j) (freed_at j)
    pub fresh : FreshOf (state start b es) (λ q x. Disturbed j ((history es).current q) x)
