-- From the protocol's law to the law over traces: no transaction reads a version older than one that it comes after.
use Rattle.std.proofs.Common.{◌≡◌, ℕ, zero, suc, ◌<◌, ◌≤◌, ◌⊎◌, List, [], ◌∷◌, Some, sym, refl, ap, ◌∙◌, subst, inl, inr, arith}
use Rattle.std.proofs.lemmas.Bool.{cases_lt}
use Rattle.std.proofs.lemmas.Option.{none-some}
use Rattle.protocol.specs.Protocol.{Event, Lawful}
use Rattle.protocol.specs.History.{Access, Mark, history}
use Rattle.protocol.specs.History as events
use Rattle.protocol.specs.History.Access.{rd, ov}
use Rattle.protocol.specs.History.Mark.{some}
use Rattle.protocol.specs.Consistent as protocol
use Rattle.protocol.proofs.Laws.{all, consistent_law}
use Rattle.law.specs.Trace.{Trace}
use Rattle.law.specs.Ledger.{Maker, Reading, placed_at, readings, holds, makers, taken, begins}
use Rattle.law.specs.Ledger.Maker.{opening, by}
use Rattle.law.specs.Ledger.Found.{version}
use Rattle.law.specs.Law.{In, NewerBy, Newer, ReadOf, Replaced, Follows, ComesAfter, KnownTo, Fair, Consistent}
use Rattle.law.specs.Law.Follows.{reading as follows_reading, replacing as follows_replacing, chain as follows_chain}
use Rattle.law.specs.Law.ComesAfter.{reading as after_reading, replacing as after_replacing, later as after_later, chain as after_link}
use Rattle.law.proofs.Traces.{unborn_at, hold_taken, among_in}
use Rattle.law.proofs.Versions.{name, name_made, Chain}
use Rattle.law.proofs.Accesses.{Dated, Recorded}
use Rattle.law.proofs.Writers.{writers}
use Rattle.law.proofs.Matches.{Matches}

opening_by : {t : ℕ} → opening ≡ by t → ⊥
opening_by e = cc

-- a version with a maker is none of the opening's
named : (maker : ℕ → ℕ) (i t : ℕ) → by t ≡ name maker i → (0 < i) × (maker i ≡ t)
named maker i t e = grind arith

named_opening : (maker : ℕ → ℕ) (i : ℕ) → opening ≡ name maker i → i ≡ 0
named_opening maker i e = grind arith

-- the versions of an object on record are those of the protocol, in the same order
chain_in : (over : ℕ → ℕ → Mark) (maker : ℕ → ℕ) (x : ℕ) → ((i h : ℕ) → over i x ≡ some h → h < i) → (u k : ℕ) (ts : List ℕ) → Chain over maker x k ts → In u ts
    → (i : ℕ) × (h : ℕ) × (0 < i) × (i ≤ k) × (over i x ≡ some h) × (maker i ≡ u)
chain_in over maker x older u k [] c i = absurd i
chain_in over maker x older u k (t ∷ ts) c (inl e) = (k, c.0, c.1, omega arith, c.2, c.3 ∙ sym e)
chain_in over maker x older u k (t ∷ ts) c (inr i) = grind (arith, chain_in over maker x older u c.0 ts c.4 i)

chain_newer : (over : ℕ → ℕ → Mark) (maker : ℕ → ℕ) (x : ℕ) → ((i h : ℕ) → over i x ≡ some h → h < i) → (u m k : ℕ) (ts : List ℕ) → Chain over maker x k ts → NewerBy u m ts
    → (i : ℕ) × (h : ℕ) × (n : ℕ) × (i ≤ k) × (over i x ≡ some h) × (maker i ≡ u) × (0 < n) × (n < i) × (maker n ≡ m)
chain_newer over maker x older u m k [] c i = absurd i
chain_newer over maker x older u m k (t ∷ ts) c (inl e) =
    let d = chain_in over maker x older m c.0 ts c.4 e.1 in
    let l = older k c.0 c.2 in
    let n = d.3 in (k, c.0, d.0, omega arith, c.2, c.3 ∙ sym e.0, d.2, omega arith, d.5)
chain_newer over maker x older u m k (t ∷ ts) c (inr i) = grind (arith, chain_newer over maker x older u m c.0 ts c.4 i)

module _ {K : Type 0} (P : ℕ) (start : ℕ → K) (b : ℕ → ℕ) (j : Trace K) (es : List (Event K)) (lawful : Lawful P start b es) (c : Matches start b j es) where
  bound : (t : ℕ) (a : Access) → events.In a ((history es).log t) → events.version a ≤ (history es).seals
  bound t a i = (all P start b es lawful).kept.logs.bound t a i

  older : (i x h : ℕ) → (history es).over i x ≡ some h → h < i
  older i x h e = ((all P start b es lawful).kept.vers.replaced i x h e).0

  once : (i k : ℕ) → 0 < i → i ≤ (history es).seals → 0 < k → k ≤ (history es).seals → (history es).maker i ≡ (history es).maker k → i ≡ k
  once i k = (all P start b es lawful).kept.currents.once i k

  -- following, from one version to another
  FollowsFrom : ℕ → ℕ → Type 0
  FollowsFrom i u = (k : ℕ) × (0 < k) × (k ≤ (history es).seals) × ((history es).maker k ≡ u) × protocol.Follows (history es) i k

  by_reads : {t u : ℕ} → ReadOf j t u → (i : ℕ) → 0 < i → i ≤ (history es).seals → (history es).maker i ≡ t → FollowsFrom i u
  unfolding FollowsFrom
  by_reads {t} {u} d i l m e =
      let r = c.base.core.logs.reads t d.0 (by u) d.1 d.2 in
      let n = named (history es).maker r.0 u r.2 in
      (r.0, n.0, bound t (rd d.0.object r.0) r.1, n.1, protocol.Follows.by_reading d.0.object (subst (λ (v : ℕ). events.In (rd d.0.object r.0) ((history es).log v)) (sym e) r.1) l m)

  by_replaces : {t u : ℕ} → Replaced j t u → (i : ℕ) → 0 < i → i ≤ (history es).seals → (history es).maker i ≡ t → FollowsFrom i u
  unfolding FollowsFrom
  by_replaces {t} {u} d i l m e =
      let h = d.1.0 in
      let r = c.base.core.logs.replaced i h l m (subst (λ (v : ℕ). In h (holds j v)) (sym e) d.1.1) in
      let n = named (history es).maker r.0 u (sym d.1.2 ∙ r.2) in
      let k = older i h.object r.0 r.1 in
      (r.0, n.0, omega arith, n.1, protocol.Follows.by_replacing h.object r.1)

  follows_from : {t u : ℕ} → Follows j t u → (i : ℕ) → 0 < i → i ≤ (history es).seals → (history es).maker i ≡ t → FollowsFrom i u
  unfolding FollowsFrom
  follows_from (follows_reading d) i l m e = by_reads d i l m e
  follows_from (follows_replacing d) i l m e = by_replaces d i l m e
  follows_from (follows_chain w f g) i l m e =
      let x = follows_from f i l m e in
      let y = follows_from g x.0 x.1 x.2 x.3 in
      (y.0, y.1, y.2, y.3, protocol.Follows.by_chain x.0 x.4 y.4)

  -- coming after
  link_reading : {t u : ℕ} → ReadOf j t u → protocol.Link (history es) t u
  link_reading {t} {u} d =
      let r = c.base.core.logs.reads t d.0 (by u) d.1 d.2 in
      let n = named (history es).maker r.0 u r.2 in
      subst (protocol.Link (history es) t) n.1 (protocol.Link.reading d.0.object r.0 r.1 n.0)

  link_replacing : {t u : ℕ} → Replaced j t u → protocol.Link (history es) t u
  link_replacing {t} {u} d =
      let h = d.1.0 in
      let s = c.base.core.seals.known t d.0 in
      let w = writers P start b es lawful t h.object s (sym (c.base.core.versions.wrote t h.object) ∙ among_in h.object (taken j t) (hold_taken j t h d.1.1)) in
      let r = c.base.core.logs.replaced w.0 h w.1 w.2 (subst (λ (v : ℕ). In h (holds j v)) (sym w.3) d.1.1) in
      let n = named (history es).maker r.0 u (sym d.1.2 ∙ r.2) in
      subst (λ (v : ℕ). protocol.Link (history es) v u) w.3 (subst (protocol.Link (history es) ((history es).maker w.0)) n.1 (protocol.Link.replacing h.object w.0 r.0 r.1 n.0))

  after_chain : {t w u : ℕ} → protocol.After (history es) t w → protocol.After (history es) w u → protocol.After (history es) t u
  after_chain {t} {w} {u} (protocol.After.one l) g = protocol.After.more w l g
  after_chain {t} {w} {u} (protocol.After.more v l f) g = protocol.After.more v l (after_chain f g)

  comes_after : {t u : ℕ} → ComesAfter j t u → protocol.After (history es) t u
  comes_after (after_reading d) = protocol.After.one (link_reading d)
  comes_after (after_replacing d) = protocol.After.one (link_replacing d)
  comes_after {t} {u} (after_later e) =
      let n = c.base.core.ends.before u t e in
      protocol.After.one (protocol.Link.ending n.0 n.1 n.2 (begun_too e.1 e.3))
    where
      begun_too : (m : ℕ) → placed_at j t ≡ Some m → t < (history es).begun
      begun_too m h =
          elim (cases_lt t (history es).begun) [
            | inl l ↦ l
            | inr l ↦ absurd (none-some _ (sym (unborn_at begins j t (let k = c.base.counts in omega arith)) ∙ h))
          ]
  comes_after (after_link w f g) = after_chain (comes_after f) (comes_after g)

  -- a fair transaction is fair in the protocol
  known_to : (i : ℕ) → 0 < i → i ≤ (history es).seals → (k : ℕ) → k ≤ (history es).seals → KnownTo j ((history es).maker i) (name (history es).maker k)
      → (k ≡ 0) ⊎ ((k ≡ i) ⊎ protocol.Follows (history es) i k)
  unfolding FollowsFrom
  known_to i l m zero n h = inl refl
  known_to i l m (suc k) n (inl e) = inr (inl (once (suc k) i (omega arith) n l m e))
  known_to i l m (suc k) n (inr f) =
      let x = follows_from f i l m refl in
      inr (inr (subst (protocol.Follows (history es) i) (once x.0 (suc k) x.1 x.2 (omega arith) n x.3) x.4))

  fair_log : (t : ℕ) → Fair j t → (l : List Access) → ((a : Access) → events.In a l → events.In a ((history es).log t)) → Dated (readings j t) (holds j t) (history es).maker l → protocol.FairLog (history es) ((history es).base t) l
  fair_log t fair [] part d = tt
  fair_log t fair (rd x i ∷ l) part d = (
    fair_log t fair l (λ a h. part a (inr h)) d.0,
    λ late first a h. known first a h late,
  )
    where
      r : Reading K
      r = d.1.0

      known : ((y : ℕ) → events.In (rd y i) l → ⊥) → (a : Access) → events.In a l → (history es).base t < i → (events.version a ≡ 0) ⊎ ((events.version a ≡ i) ⊎ protocol.Follows (history es) i (events.version a))
      known first a h late =
          let pos : 0 < i = omega arith in
          let few = bound t (rd x i) (part (rd x i) (inl refl)) in
          let bind = c.base.core.bases.since t i pos few late (c.base.core.logged t (rd x i) (part (rd x i) (inl refl))) in
          let at = fair d.1.0 ((history es).maker i) d.1.1 (d.1.2 ∙ ap version (name_made (history es).maker i pos)) bind in
          go pos few at a (d.1.3 a h) (bound t a (part a (inr h)))
        where
          go : 0 < i → i ≤ (history es).seals → Rattle.law.specs.Law.FairAt j t ((history es).maker i) d.1.0.at → (e : Access) → Recorded (readings j t) (holds j t) (history es).maker d.1.0.at e → events.version e ≤ (history es).seals
              → (events.version e ≡ 0) ⊎ ((events.version e ≡ i) ⊎ protocol.Follows (history es) i (events.version e))
          go pos few at (rd y k) w n = known_to i pos few k n (at.of_reads w.0 (name (history es).maker k) w.1 w.3 w.2)
          go pos few at (ov y k) w n = known_to i pos few k n (subst (KnownTo j ((history es).maker i)) w.2 (at.of_holds w.0 w.1 w.3))
  fair_log t fair (ov x i ∷ l) part d = fair_log t fair l (λ a h. part a (inr h)) d.0

  pub consistent : (t : ℕ) → Fair j t → Consistent j t
  consistent t fair r m u h e after' newer =
      let k = c.base.core.logs.reads t r m h e in
      let x = r.object in
      let f = fair_log t fair ((history es).log t) (λ a i. i) (c.base.core.logs.dated t) in
      let few = bound t (rd x k.0) k.1 in
      let line = c.base.core.versions.line x in
      let top = (all P start b es lawful).kept.vers.newest x in
      go m k.0 k.1 k.2 few f line top newer
    where
      go : (m : Maker) (i : ℕ) → events.In (rd r.object i) ((history es).log t) → m ≡ name (history es).maker i → i ≤ (history es).seals → protocol.Fair (history es) t
          → Chain (history es).over (history es).maker r.object ((history es).latest r.object) (makers j r.object) → (history es).latest r.object ≤ (history es).seals → Newer u m (makers j r.object) → ⊥
      go opening i read is few f line top n =
          let d = chain_in (history es).over (history es).maker r.object (λ a q. older a r.object q) u ((history es).latest r.object) (makers j r.object) line n in
          let zero' = named_opening (history es).maker i is in
          let pos = d.2 in
          consistent_law K P start b es lawful t f r.object i d.0 d.1 read d.4 (omega arith) (subst (protocol.After (history es) t) (sym d.5) (comes_after after'))
      go (by w) i read is few f line top n =
          let d = chain_newer (history es).over (history es).maker r.object (λ a q. older a r.object q) u w ((history es).latest r.object) (makers j r.object) line n in
          let w' = named (history es).maker i w is in
          let lo = d.3 in
          let lt = d.7 in
          let same : d.2 ≡ i = once d.2 i d.6 (omega arith) w'.0 few (d.8 ∙ sym w'.1) in
          consistent_law K P start b es lawful t f r.object i d.0 d.1 read d.4 (omega arith) (subst (protocol.After (history es) t) (sym d.5) (comes_after after'))
