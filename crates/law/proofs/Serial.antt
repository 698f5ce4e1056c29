-- From the protocol's law to the law over traces: serializability, and the contents of versions.
use Rattle.std.proofs.Common.{◌≡◌, ℕ, zero, suc, ◌<◌, ◌≤◌, Bool, true, false, cond, ◌⊎◌, List, ◌∷◌, sym, refl, ap, ◌∙◌, subst, inl, inr, arith}
use Rattle.std.proofs.lemmas.Bool.{cases_eq, cond_both, true≢false}
use Rattle.std.proofs.lemmas.Option.{none-some}
use Rattle.tables.specs.declared.reply.Request.{Request}
use Rattle.protocol.specs.Protocol.{Event, Lawful, state}
use Rattle.protocol.specs.History.{history}
use Rattle.protocol.specs.Commits.{Commits, commits_of, committed}
use Rattle.protocol.proofs.Laws.{all, serial_law}
use Rattle.law.specs.Trace.{Trace}
use Rattle.law.specs.Ledger.{Maker, certified_at}
use Rattle.law.specs.Law.{In, Earlier, InOrder, Serial, Settled, Content, Genuine, rested, fed}
use Rattle.law.proofs.Versions.{name}
use Rattle.law.proofs.Requests.{sees_after, alone_leaves, same_reads}
use Rattle.law.proofs.Contents.{ContentOf}
use Rattle.law.proofs.Matches.{Matches}

module _ {K : Type 0} where
  -- the members of the committed among the first k certifications
  committed_in : (y : Commits K) (k t : ℕ) → In t (committed y k) → (i : ℕ) × (i < k) × (y.order i ≡ t) × (y.sealed t ≡ true)
  committed_in y zero t h = absurd h
  committed_in y (suc k) t h = go (λ m. committed_in y k t m) (y.sealed (y.order k)) refl h
    where
      up : (i : ℕ) × (i < k) × (y.order i ≡ t) × (y.sealed t ≡ true) → (i : ℕ) × (i < suc k) × (y.order i ≡ t) × (y.sealed t ≡ true)
      up d = let l = d.1 in (d.0, omega arith, d.2, d.3)

      go : (In t (committed y k) → (i : ℕ) × (i < k) × (y.order i ≡ t) × (y.sealed t ≡ true)) → (b : Bool) → y.sealed (y.order k) ≡ b → In t (cond b (y.order k ∷ committed y k) (committed y k))
          → (i : ℕ) × (i < suc k) × (y.order i ≡ t) × (y.sealed t ≡ true)
      go rec b e m = grind arith

  in_committed : (y : Commits K) (k i : ℕ) → i < k → y.sealed (y.order i) ≡ true → In (y.order i) (committed y k)
  in_committed y zero i l h = absurd (omega arith)
  in_committed y (suc k) i l h = go (λ m. in_committed y k i m h) (cases_eq k i) (y.sealed (y.order k)) refl
    where
      go : (i < k → In (y.order i) (committed y k)) → (k ≡ i) ⊎ (k ≡ i → ⊥) → (b : Bool) → y.sealed (y.order k) ≡ b → In (y.order i) (cond b (y.order k ∷ committed y k) (committed y k))
      go rec (inl e) true q = inl (ap y.order (sym e))
      go rec (inl e) false q = absurd (true≢false (sym h ∙ ap (λ (n : ℕ). y.sealed (y.order n)) (sym e) ∙ q))
      go rec (inr e) true q = inr (rec (omega arith))
      go rec (inr e) false q = rec (omega arith)

  module _ (P : ℕ) (start : ℕ → K) (b : ℕ → ℕ) (j : Trace K) (es : List (Event K)) (lawful : Lawful P start b es) (c : Matches start b j es) where
    in_order : (k : ℕ) → k ≤ (commits_of es).certs → InOrder j (committed (commits_of es) k)
    in_order zero l = tt
    in_order (suc k) l =
        cond_both ((commits_of es).sealed ((commits_of es).order k)) _ _ (InOrder j)
        (λ e. (
          in_order k (omega arith),
          λ u h.
              let i = committed_in (commits_of es) k u h in
              subst (λ (v : ℕ). Earlier (certified_at j v) (certified_at j ((commits_of es).order k))) i.2 (c.certs.ordered i.0 k i.1 (omega arith)),
        ))
        (λ e. in_order k (omega arith))

    sealed_all : (t : ℕ) → In t (committed (commits_of es) (commits_of es).certs) → (commits_of es).sealed t ≡ true
    sealed_all t h = (committed_in (commits_of es) (commits_of es).certs t h).3

    -- where nothing is left to store, every object is at its last version
    settled : Settled j → (x : ℕ) → (history es).stored x ≡ (history es).latest x
    settled h x =
        elim (c.base.core.versions.due x) [
          | inl e ↦ e
          | inr e ↦ absurd (
              let t = (history es).maker ((history es).latest x) in
              let k = c.base.core.seals.noted_too t (c.base.core.seals.made ((history es).latest x) e.0 ((all P start b es lawful).kept.vers.newest x)) in
              let s = h t x k e.1.0 in
              none-some _ (sym e.1.1 ∙ s.1)
              )
        ]

    pub serial : Serial start j (state start b es).content
    serial =
        let y = commits_of es in
        let law = serial_law K P start b es lawful in
        record {
          order = committed y y.certs;
          all = λ t h.
              let s = c.base.core.seals.known t h in
              let i = c.base.ordered t s in
              subst (λ (u : ℕ). In u (committed y y.certs)) i.2 (in_committed y y.certs i.0 i.1 (ap y.sealed i.2 ∙ s));
          only = λ t h. c.base.core.seals.noted_too t (sealed_all t h);
          ordered = in_order y.certs (omega arith);
          reads = same_reads start j y.operations y.sealed c.base.core.ops (committed y y.certs) sealed_all law.reads;
          leaves = λ h x. law.leaves x (settled h x) ∙ sym (alone_leaves start j y.operations y.sealed c.base.core.ops (committed y y.certs) sealed_all x);
          real_time = λ t u ht hu e.
              let i = c.base.ordered t (c.base.core.seals.known t ht) in
              let k = c.base.ordered u (c.base.core.seals.known u hu) in
              let n = c.base.core.ends.before t u e in
              let before = (all P start b es lawful).linked.strict i.0 k.0 n.0 i.1 k.1 (ap (history es).ended i.2 ∙ n.1) (let d = ap (history es).begun_at k.2 in let m = n.2 in omega arith) in
              subst (λ (v : ℕ). Earlier (certified_at j v) (certified_at j u)) i.2 (subst (λ (v : ℕ). Earlier (certified_at j (y.order i.0)) (certified_at j v)) k.2 (c.certs.ordered i.0 k.0 before k.1));
        }

    pub genuine : Genuine start j
    genuine t r m h e =
        let k = c.base.core.contents.genuine t r m h e in
        subst (λ (n : Maker). Content start j r.object n r.content) (sym k.2) (go k.0 k.1 k.3)
      where
        go : (i : ℕ) → i ≤ (history es).seals → ContentOf start (commits_of es).operations (history es).maker r.object i r.content → Content start j r.object (name (history es).maker i) r.content
        go zero l h = h
        go (suc i) l h =
            let u = (history es).maker (suc i) in
            let s = c.base.core.seals.made (suc i) (omega arith) l in (
              c.base.core.seals.noted_too u s,
              λ n. ap (λ (rs : List (Request K)). (fed (rested n) rs).own r.object) (c.base.core.ops.asks u s) ∙ sees_after (rested n) ((commits_of es).operations u) r.object ∙ h n,
            )
