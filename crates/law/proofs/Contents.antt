-- The contents of versions: what a read got is what the maker of the version left.
use Rattle.std.proofs.Common.{◌≡◌, ℕ, zero, suc, ◌<◌, ◌≤◌, Bool, cond, eqb, List, ◌∷◌, sym, ap, ◌∙◌, subst, inl, inr, arith}
use Rattle.protocol.specs.Table.{put}
use Rattle.protocol.specs.Alone.{Operation, after}
use Rattle.protocol.proofs.Updates.{put_other}
use Rattle.law.specs.Ledger.{Maker, Reading}
use Rattle.law.specs.Ledger.Found.{version}
use Rattle.law.specs.Law.{In}
use Rattle.law.proofs.Traces.{when}
use Rattle.law.proofs.Versions.{name, name_old}

module _ {K : Type 0} where
  -- version i of x has the content v
  abbrev pub ContentOf : (ℕ → K) → (ℕ → List (Operation K)) → (ℕ → ℕ) → ℕ → ℕ → K → Type 0
  ContentOf start operations maker x zero v = start x ≡ v
  ContentOf start operations maker x (suc i) v = (m : ℕ → K) → after m (operations (maker (suc i))) x ≡ v

  -- of operations that the makers have in common
  pub content_at : (start : ℕ → K) (f g : ℕ → List (Operation K)) (maker maker' : ℕ → ℕ) (x i : ℕ) (v : K) → (0 < i → g (maker' i) ≡ f (maker i))
      → ContentOf start f maker x i v → ContentOf start g maker' x i v
  content_at start f g maker maker' x zero v same h = h
  content_at start f g maker maker' x (suc i) v same h = λ m. ap (λ (ds : List (Operation K)). after m ds x) (same (omega arith)) ∙ h m

  pub content_made : (start : ℕ → K) (operations : ℕ → List (Operation K)) (maker : ℕ → ℕ) (x i t : ℕ) (v : K) → 0 < i → maker i ≡ t
      → ((m : ℕ → K) → after m (operations t) x ≡ v) → ContentOf start operations maker x i v
  content_made start operations maker x zero t v l e h = absurd (omega arith)
  content_made start operations maker x (suc i) t v l e h = λ m. ap (λ (u : ℕ). after m (operations u) x) e ∙ h m

  pub record Contents (start : ℕ → K) (readings : ℕ → List (Reading K)) (operations : ℕ → List (Operation K)) (maker : ℕ → ℕ) (seals : ℕ) (content : ℕ → K) (stored : ℕ → ℕ)
      : Type 0 where
    pub present : (x : ℕ) → ContentOf start operations maker x (stored x) (content x)
    pub genuine : (t : ℕ) (r : Reading K) (m : Maker) → In r (readings t) → r.found ≡ version m
        → (i : ℕ) × (i ≤ seals) × (m ≡ name maker i) × ContentOf start operations maker r.object i r.content

  module _ (start : ℕ → K) (readings : ℕ → List (Reading K)) (operations : ℕ → List (Operation K)) (maker : ℕ → ℕ) (seals : ℕ) (content : ℕ → K) (stored : ℕ → ℕ)
      (c : Contents start readings operations maker seals content stored) (t : ℕ) (low : (x : ℕ) → stored x ≤ seals) where
    -- t, which has made no version, performs an operation
    pub contents_perform : (d : Operation K) → ((i : ℕ) → 0 < i → i ≤ seals → maker i ≡ t → ⊥) → Contents start readings (put operations t (d ∷ operations t)) maker seals content stored
    contents_perform d unsealed =
        record {
          present = λ x. content_at start operations (put operations t (d ∷ operations t)) maker maker x (stored x) (content x) (λ l. other (stored x) l (low x)) (c.present x);
          genuine = λ u r m h e.
              let k = c.genuine u r m h e in
              (k.0, k.1, k.2, content_at start operations (put operations t (d ∷ operations t)) maker maker r.object k.0 r.content (λ l. other k.0 l k.1) k.3);
        }
      where
        other : (i : ℕ) → 0 < i → i ≤ seals → put operations t (d ∷ operations t) (maker i) ≡ operations (maker i)
        other i l n = put_other operations t (d ∷ operations t) (maker i) (λ e. unsealed i l n (sym e))

    module _ (b : ℕ → Bool) (own : (u : ℕ) → b u ≡ eqb t u) where
      -- a read of t is answered
      pub contents_read : (r : Reading K) → ((m : Maker) → r.found ≡ version m → (i : ℕ) × (i ≤ seals) × (m ≡ name maker i) × ContentOf start operations maker r.object i r.content)
          → Contents start (λ u. cond (b u) (r ∷ readings u) (readings u)) operations maker seals content stored
      contents_read r new =
          record {
            present = c.present;
            genuine = λ u q m h e.
                when (λ (l : List (Reading K)). In q l → (i : ℕ) × (i ≤ seals) × (m ≡ name maker i) × ContentOf start operations maker q.object i q.content) (b u) t u
                (r ∷ readings u) (readings u) (own u)
                (λ s x. elim x [
                  | inl y ↦
                      subst (λ (z : Reading K). (i : ℕ) × (i ≤ seals) × (m ≡ name maker i) × ContentOf start operations maker z.object i z.content) (sym y)
                      (new m (ap (λ (z : Reading K). z.found) (sym y) ∙ e))
                  | inr y ↦ c.genuine u q m y e
                ])
                (λ s x. c.genuine u q m x e) h;
          }

    -- t makes the next version
    pub contents_make : Contents start readings operations (put maker (suc seals) t) (suc seals) content stored
    contents_make =
        record {
          present = λ x. content_at start operations operations maker (put maker (suc seals) t) x (stored x) (content x) (λ l. old (stored x) (low x)) (c.present x);
          genuine = λ u r m h e.
              let k = c.genuine u r m h e in
              let n = k.1 in (
                k.0,
                omega arith,
                k.2 ∙ sym (name_old maker seals t k.0 k.1),
                content_at start operations operations maker (put maker (suc seals) t) r.object k.0 r.content (λ l. old k.0 k.1) k.3,
              );
        }
      where
        old : (i : ℕ) → i ≤ seals → operations (put maker (suc seals) t i) ≡ operations (maker i)
        old i n = ap operations (put_other maker (suc seals) t i (λ e. let q = e in omega arith))

    -- version i of x is stored
    pub contents_store : (x i : ℕ) (v : K) → ContentOf start operations maker x i v → Contents start readings operations maker seals (put content x v) (put stored x i)
    contents_store x i v h = grind arith
