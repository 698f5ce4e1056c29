-- From what is kept to the promise: along a chain the seals are later and later, so the first link cannot be.
use Rattle.std.proofs.Common.{◌≡◌, ℕ, ◌<◌, ◌≤◌, ◌⊎◌, List, [], ◌∷◌, sym, refl, ap, subst, inl, inr, arith}
use Rattle.protocol.specs.Protocol.{State}
use Rattle.protocol.specs.History.{History, Access, In}
use Rattle.protocol.specs.History.Access.{rd, ov}
use Rattle.protocol.specs.History.Mark.{some}
use Rattle.protocol.specs.Consistent.{Follows, Link, After, FairLog, Fair}
use Rattle.protocol.specs.Consistent.Follows.{by_reading, by_replacing, by_chain}
use Rattle.protocol.specs.Consistent.Link.{reading, replacing, ending}
use Rattle.protocol.specs.Consistent.After.{one, more}
use Rattle.protocol.proofs.Facts.{Ghost, Facts, Even, Newer}

module _ {K : Type 0} (P : ℕ) (s : State K) (a : History) (g : Ghost) (f : Facts P s a g) where
  -- who follows has the larger stamp
  rises : {j i : ℕ} → Follows a j i → g.stamp_of i < g.stamp_of j
  rises {j} {i} (by_reading x h b c) = (f.vers.older j x i b c h).1
  rises {j} {i} (by_replacing x h) = (f.vers.replaced j x i h).2
  rises {j} {i} (by_chain k h d) = let m = rises h in let n = rises d in omega arith

  evens : (b : ℕ) (l : List Access) → FairLog a b l → Even g.stamp_of b l
  evens b [] h = tt
  evens b (rd x j ∷ l) h = (evens b l h.0, λ n o c e. one_of (h.1 n o c e))
    where
      one_of : {k : ℕ} → (k ≡ 0) ⊎ ((k ≡ j) ⊎ Follows a j k) → (k ≡ 0) ⊎ ((k ≡ j) ⊎ (g.stamp_of k < g.stamp_of j))
      one_of (inl e) = inl e
      one_of (inr (inl e)) = inr (inl e)
      one_of (inr (inr e)) = inr (inr (rises e))
  evens b (ov x j ∷ l) h = evens b l h

  -- what t performed, it performed not before seal u
  abbrev Reach : ℕ → ℕ → Type 0
  Reach t u =
      ((j : ℕ) → 0 < j → j ≤ a.seals → a.maker j ≡ t → u ≤ j) × ((n : ℕ) → a.ended t ≡ some n → u ≤ a_dusk t)
    where
      a_dusk : ℕ → ℕ
      a_dusk = g.dusk

  sealed : (u x i : ℕ) → a.over u x ≡ some i → (0 < u) × (u ≤ a.seals)
  sealed u x i h =
      let r = f.vers.replaced u x i h in
      let n = f.vers.newest x in
      (omega arith, omega arith)

  itself : (u : ℕ) → 0 < u → u ≤ a.seals → Reach (a.maker u) u
  itself u h d =
      (λ j b c e. let k : j ≡ u = f.currents.once j u b c h d e in omega arith, λ n e. f.times.seal_dusk u n h d e)

  step : (u : ℕ) {t w : ℕ} → Link a t w → Reach w u → Reach t u
  step u {t} {w} (reading x j h b) r =
      let c = f.logs.bound t (rd x j) h in
      let k = r.0 j b c refl in (
        λ v d e m. let n = (f.vers.older v x j d e (subst (λ (z : ℕ). In (rd x j) (a.log z)) (sym m) h)).0 in omega arith,
        λ n e. let m = f.times.read_dusk t n (rd x j) e h in omega arith,
      )
  step u {t} {w} (replacing x i j h b) r =
      let d = sealed i x j h in
      let m = (f.vers.replaced i x j h).0 in
      let c : j ≤ a.seals = omega arith in
      let k = r.0 j b c refl in (
        λ v y z e. let q : v ≡ i = f.currents.once v i y z d.0 d.1 e in omega arith,
        λ n e. let q = f.times.seal_dusk i n d.0 d.1 e in omega arith,
      )
  step u {t} {w} (ending n h b c) r =
      let k = r.1 n h in
      let m = f.times.ordered t w n c h b in (
        λ v y z e.
            let q = f.times.seal_dawn v y z in
            let z : a_dawn (a.maker v) ≡ a_dawn t = ap a_dawn e in
            omega arith,
        λ n e. let q = f.times.lasted t n e in omega arith,
      )
    where
      a_dawn : ℕ → ℕ
      a_dawn = g.dawn

  chain : (u : ℕ) {t w : ℕ} → After a t w → Reach w u → Reach t u
  chain u (one h) r = step u h r
  chain u (more w h d) r = step u h (chain u d r)

  -- the first link of a chain cannot be
  never : (t : ℕ) → ((y v : ℕ) → In (rd y v) (a.log t) → Newer a.over (a.log t) v) → (x j u i : ℕ) → In (rd x j) (a.log t) → a.over u x ≡ some i → j < u → (w : ℕ) → Link a t w → Reach w u → ⊥
  never t fair x j u i h o n w (reading y v d b) r =
      let c = f.logs.bound t (rd y v) d in
      let k = r.0 v b c refl in
      let m = fair y v d x j u i h o n in
      omega arith
  never t fair x j u i h o n w (replacing y q v d b) r =
      let c = sealed q y v d in
      let m = (f.vers.replaced q y v d).0 in
      let k = r.0 v b (omega arith) refl in
      let z = f.cons.whole q y v c.0 c.1 d x j u i h o n in
      omega arith
  never t fair x j u i h o n w (ending e d b c) r =
      let k = r.1 e d in
      let m = f.times.ordered t w e c d b in
      let q = f.logs.recent t x j u i h o n in
      let z = f.times.read_dawn t (rd x j) h in
      omega arith

  -- a transaction that has read nothing older than a replacement of what it read
  pub firm : (t : ℕ) → ((y v : ℕ) → In (rd y v) (a.log t) → Newer a.over (a.log t) v) → (x j u i : ℕ) → In (rd x j) (a.log t)
      → a.over u x ≡ some i → j < u → After a t (a.maker u) → ⊥
  firm t fair x j u i h o n c = go t fair h (a.maker u) c (itself u (sealed u x i o).0 (sealed u x i o).1)
    where
      go : (t : ℕ) → ((y v : ℕ) → In (rd y v) (a.log t) → Newer a.over (a.log t) v) → In (rd x j) (a.log t) → (w : ℕ) → After a t w → Reach w u → ⊥
      go t fair h w (one d) r = never t fair x j u i h o n w d r
      go t fair h w (more v d e) r = never t fair x j u i h o n v d (chain u e r)

  pub consistent : (t : ℕ) → Fair a t → (x j u i : ℕ) → In (rd x j) (a.log t) → a.over u x ≡ some i → j < u → After a t (a.maker u) → ⊥
  consistent t fair = firm t (λ y v d. f.cons.even t (evens (a.base t) (a.log t) fair) y v d)
