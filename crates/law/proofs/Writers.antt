-- A sealed transaction that has written makes versions.
use Rattle.std.proofs.Common.{◌≡◌, ℕ, suc, ◌<◌, ◌≤◌, true, List, [], ◌∷◌, sym, refl, ap, ◌∙◌, inl, inr, arith}
use Rattle.std.proofs.lemmas.Bool.{cases_eq, true≢false}
use Rattle.protocol.specs.Table.{put}
use Rattle.protocol.specs.Protocol.{Event, Lawful, state}
use Rattle.protocol.specs.Protocol.Phase.{running}
use Rattle.protocol.specs.Protocol.Event.{begin, ready, look, check, extend, answer, own, write, certify, pass, seal, finish, move, store, fail, free, commit, close}
use Rattle.protocol.specs.History.{Access, history, writes}
use Rattle.protocol.specs.History.Access.{rd, ov}
use Rattle.protocol.specs.Commits.{commits_of}
use Rattle.protocol.proofs.Updates.{put_same, put_other}
use Rattle.protocol.proofs.Laws.{all}

module _ {K : Type 0} (P : ℕ) (start : ℕ → K) (b : ℕ → ℕ) where
  -- the versions of a transaction go by one number
  abbrev pub MakerOf : List (Event K) → ℕ → Type 0
  MakerOf es t = (i : ℕ) × (0 < i) × (i ≤ (history es).seals) × ((history es).maker i ≡ t)

  -- p, which is not sealed, has one more access
  other : (es : List (Event K)) → Lawful P start b es → (p t x : ℕ) (a : Access) → (state start b es).phase p ≡ running → (commits_of es).sealed t ≡ true
      → writes (put (history es).log ((history es).current p) (a ∷ (history es).log ((history es).current p)) t) x ≡ true → writes ((history es).log t) x ≡ true
  other es m p t x a run h w =
      ap (λ (l : List Access). writes l x) (sym (put_other (history es).log ((history es).current p) (a ∷ (history es).log ((history es).current p)) t (λ e. true≢false (sym h ∙ ap (commits_of es).sealed (sym e) ∙ (all P start b es m).linked.opens p (inr (inl run)))))) ∙ w

  pub writers : (es : List (Event K)) → Lawful P start b es → (t x : ℕ) → (commits_of es).sealed t ≡ true → writes ((history es).log t) x ≡ true → MakerOf es t
  writers [] m t x h w = cc
  writers (begin p ∷ es) m t x h w = writers es m.0 t x h w
  writers (ready p c ∷ es) m t x h w = writers es m.0 t x h w
  writers (look p y v ∷ es) m t x h w = writers es m.0 t x h w
  writers (check p y ∷ es) m t x h w = writers es m.0 t x h w
  writers (extend p ∷ es) m t x h w = writers es m.0 t x h w
  writers (answer p y u v ∷ es) m t x h w = writers es m.0 t x h (other es m.0 p t x (rd y ((history es).fetched p)) m.1.0 h w)
  writers (own p y v ∷ es) m t x h w = writers es m.0 t x h w
  writers (write p y v ∷ es) m t x h w = writers es m.0 t x h (other es m.0 p t x (ov y ((history es).stored y)) m.1.0.runs h w)
  writers (certify p ∷ es) m t x h w = writers es m.0 t x h w
  writers (pass p y ∷ es) m t x h w = writers es m.0 t x h w
  writers (seal p u c ∷ es) m t x h w =
      elim (cases_eq ((history es).current p) t) [
        | inl e ↦ (suc (history es).seals, omega arith, omega arith, put_same (history es).maker (suc (history es).seals) ((history es).current p) (suc (history es).seals) refl ∙ e)
        | inr e ↦
            (let i = writers es m.0 t x (sym (put_other (commits_of es).sealed ((history es).current p) true t e) ∙ h) w in
            let l = i.2 in (i.0, i.1, omega arith, put_other (history es).maker (suc (history es).seals) ((history es).current p) i.0 (λ k. let n = k in omega arith) ∙ i.3))
      ]
  writers (finish p ∷ es) m t x h w =
      elim (cases_eq ((history es).current p) t) [
        | inl e ↦ absurd (
            let k = (all P start b es m.0).kept.logs.had p x (inr m.1.0) (ap (λ (u : ℕ). writes ((history es).log u) x) e ∙ w) in m.1.2 x k.0 k.1
            )
        | inr e ↦ writers es m.0 t x (sym (put_other (commits_of es).sealed ((history es).current p) true t e) ∙ h) w
      ]
  writers (move c ∷ es) m t x h w = writers es m.0 t x h w
  writers (store p y v u ∷ es) m t x h w = writers es m.0 t x h w
  writers (fail p r ∷ es) m t x h w = writers es m.0 t x h w
  writers (free p y v ∷ es) m t x h w = writers es m.0 t x h w
  writers (commit p u ∷ es) m t x h w = writers es m.0 t x h w
  writers (close p ∷ es) m t x h w = writers es m.0 t x h w
