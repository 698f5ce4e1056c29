-- The times on record, and the order of events: ends, certifications, seals and the seals before a begin.
use Rattle.std.proofs.Common.{◌≡◌, ℕ, suc, ◌<◌, ◌≤◌, Bool, true, cond, eqb, ◌⊎◌, Some, None, Option, sym, refl, ap, ◌∙◌, subst, inl, inr, arith}
use Rattle.std.proofs.lemmas.Bool.{cases_eq, eq-eqb, ne_eqb, cond-true, cond-false}
use Rattle.std.proofs.lemmas.Option.{same_Some}
use Rattle.protocol.specs.Table.{put}
use Rattle.protocol.specs.History.{Mark}
use Rattle.protocol.specs.History.Mark.{some}
use Rattle.protocol.proofs.Updates.{put_same, put_other}
use Rattle.law.specs.Ledger.{first}
use Rattle.law.specs.Law.{Known, Earlier}
use Rattle.law.proofs.Traces.{known_or, first_new}

-- a time that is noted for one transaction, unless it has one already
abbrev pub noted : (ℕ → Bool) → (ℕ → Option ℕ) → ℕ → ℕ → Option ℕ
noted b f k t = cond (b t) (Some (first (f t) k)) (f t)

-- all of these times are before k
abbrev pub Before : (ℕ → Option ℕ) → ℕ → Type 0
Before f k = (t m : ℕ) → f t ≡ Some m → m < k

-- an entry of transaction t at the time k
module _ (b : ℕ → Bool) (t k : ℕ) (own : (u : ℕ) → b u ≡ eqb t u) where
  pub noted_other : (f : ℕ → Option ℕ) (u : ℕ) → (t ≡ u → ⊥) → noted b f k u ≡ f u
  noted_other f u n = cond-false (b u) (Some (first (f u) k)) (f u) (own u ∙ ne_eqb t u n)

  mine : (f : ℕ → Option ℕ) (u : ℕ) → t ≡ u → noted b f k u ≡ Some (first (f u) k)
  mine f u n = cond-true (b u) (Some (first (f u) k)) (f u) (own u ∙ eq-eqb t u n)

  pub noted_new : (f : ℕ → Option ℕ) → f t ≡ None → noted b f k t ≡ Some k
  noted_new f n = mine f t refl ∙ first_new (f t) k n

  pub noted_known : (f : ℕ → Option ℕ) (u : ℕ) → Known (f u) → noted b f k u ≡ f u
  noted_known f u n = grind arith

  -- once it is known for t, nothing changes
  pub noted_same : (f : ℕ → Option ℕ) → Known (f t) → (u : ℕ) → noted b f k u ≡ f u
  noted_same f n u = grind arith

  pub noted_has : (f : ℕ → Option ℕ) → Known (noted b f k t)
  noted_has f = (first (f t) k, mine f t refl)

  pub noted_keeps : (f : ℕ → Option ℕ) (u : ℕ) → Known (f u) → Known (noted b f k u)
  noted_keeps f u n = (n.0, noted_known f u n ∙ n.1)

  pub noted_was : (f : ℕ → Option ℕ) (u : ℕ) → Known (noted b f k u) → (t ≡ u) ⊎ Known (f u)
  noted_was f u n = grind arith

pub earlier_at : (a b a' b' : Option ℕ) → a' ≡ a → b' ≡ b → Earlier a b → Earlier a' b'
earlier_at a b a' b' p q e = (e.0, e.1, p ∙ e.2, q ∙ e.3, e.4)

-- Ends: a transaction on record as ended has ended, and before those that were placed later.
pub record Ends (ended_at placed_at : ℕ → Option ℕ) (ended : ℕ → Mark) (begun_at : ℕ → ℕ) : Type 0 where
  pub ends : (t : ℕ) → Known (ended_at t) → (n : ℕ) × (ended t ≡ some n)
  pub before : (t u : ℕ) → Earlier (ended_at t) (placed_at u) → (n : ℕ) × (ended t ≡ some n) × (n < begun_at u)

-- t ends
pub ends_end : (ended_at placed_at : ℕ → Option ℕ) (ended : ℕ → Mark) (begun_at : ℕ → ℕ) (b : ℕ → Bool) (t k now : ℕ) → ((u : ℕ) → b u ≡ eqb t u)
    → Before placed_at k → ((n : ℕ) → ended t ≡ some n → ⊥) → Ends ended_at placed_at ended begun_at
    → Ends (noted b ended_at k) placed_at (put ended t (some now)) begun_at
ends_end ended_at placed_at ended begun_at b t k now own past going c =
    record {
      ends = λ u h.
          elim (cases_eq t u) [
            | inl e ↦ (now, put_same ended t (some now) u e)
            | inr e ↦ (let i = c.ends u (h.0, sym (noted_other b t k own ended_at u e) ∙ h.1) in (i.0, put_other ended t (some now) u e ∙ i.1))
          ];
      before = λ u v h.
          elim (cases_eq t u) [
            | inl e ↦ absurd (
                let i : noted b ended_at k u ≡ Some k = subst (λ (w : ℕ). noted b ended_at k w ≡ Some k) e (noted_new b t k own ended_at unknown) in
                let n : k ≡ h.0 = same_Some _ _ (sym i ∙ h.2) in
                let m = past v h.1 h.3 in
                let o = h.4 in
                omega arith
                )
            | inr e ↦
                (let i = c.before u v (earlier_at _ _ (ended_at u) (placed_at v) (sym (noted_other b t k own ended_at u e)) refl h) in
                (i.0, put_other ended t (some now) u e ∙ i.1, i.2))
          ];
    }
  where
    unknown : ended_at t ≡ None
    unknown = elim (known_or (ended_at t)) [ inl e ↦ e | inr e ↦ absurd (let i = c.ends t e in going i.0 i.1) ]

-- a new transaction t is placed
pub ends_place : (ended_at placed_at : ℕ → Option ℕ) (ended : ℕ → Mark) (begun_at : ℕ → ℕ) (b : ℕ → Bool) (t k now : ℕ) → ((u : ℕ) → b u ≡ eqb t u)
    → placed_at t ≡ None → ((u n : ℕ) → ended u ≡ some n → n < now) → Ends ended_at placed_at ended begun_at
    → Ends ended_at (noted b placed_at k) ended (put begun_at t now)
ends_place ended_at placed_at ended begun_at b t k now own new past c =
    record {
      ends = c.ends;
      before = λ u v h.
          elim (cases_eq t v) [
            | inl e ↦
                (let i = c.ends u (h.0, h.2) in
                let m = past u i.0 i.1 in
                let n : put begun_at t now v ≡ now = put_same begun_at t now v e in (i.0, i.1, omega arith))
            | inr e ↦
                (let i = c.before u v (earlier_at _ _ (ended_at u) (placed_at v) refl (sym (noted_other b t k own placed_at v e)) h) in
                let n : put begun_at t now v ≡ begun_at v = put_other begun_at t now v e in
                let m = i.2 in (i.0, i.1, omega arith))
          ];
    }

-- Certs: the certifications on record are those that have begun, in the same order.
pub record Certs (certified_at : ℕ → Option ℕ) (certs : ℕ) (order : ℕ → ℕ) : Type 0 where
  pub known : (t : ℕ) → Known (certified_at t) → (i : ℕ) × (i < certs) × (order i ≡ t)
  pub later : (i : ℕ) → i < certs → Known (certified_at (order i))
  pub ordered : (h i : ℕ) → h < i → i < certs → Earlier (certified_at (order h)) (certified_at (order i))

pub certs_at : (f g : ℕ → Option ℕ) (certs : ℕ) (order : ℕ → ℕ) → ((t : ℕ) → g t ≡ f t) → Certs f certs order → Certs g certs order
certs_at f g certs order same c =
    record {
      known = λ t h. c.known t (h.0, sym (same t) ∙ h.1);
      later = λ i l. let k = c.later i l in (k.0, same (order i) ∙ k.1);
      ordered = λ h i m l. earlier_at _ _ _ _ (same (order h)) (same (order i)) (c.ordered h i m l);
    }

-- t begins its certification
pub certs_begin : (f : ℕ → Option ℕ) (certs : ℕ) (order : ℕ → ℕ) (b : ℕ → Bool) (t k : ℕ) → ((u : ℕ) → b u ≡ eqb t u) → Before f k
    → ((i : ℕ) → i < certs → order i ≡ t → ⊥) → Certs f certs order → Certs (noted b f k) (suc certs) (put order certs t)
certs_begin f certs order b t k own past fresh c =
    record {
      known = λ u h.
          elim (noted_was b t k own f u h) [
            | inl e ↦ (certs, omega arith, put_same order certs t certs refl ∙ e)
            | inr e ↦
                (let i = c.known u e in
                let l = i.1 in (i.0, omega arith, put_other order certs t i.0 (λ d. let q = d in omega arith) ∙ i.2))
          ];
      later = λ i l. last i l;
      ordered = λ h i m l.
          elim (cases_eq certs i) [
            | inl e ↦
                (let x = c.later h (omega arith) in
                let n = past (order h) x.0 x.1 in (
                  x.0,
                  k,
                  ap (noted b f k) (put_other order certs t h (λ d. let q = d in omega arith)) ∙ noted_known b t k own f (order h) x ∙ x.1,
                  ap (noted b f k) (put_same order certs t i e) ∙ noted_new b t k own f unknown,
                  n,
                ))
            | inr e ↦
                (let x : i < certs = omega arith in
                earlier_at _ _ _ _
                (ap (noted b f k) (put_other order certs t h (λ d. let q = d in omega arith)) ∙ noted_known b t k own f (order h) (c.later h (omega arith)))
                (ap (noted b f k) (put_other order certs t i e) ∙ noted_known b t k own f (order i) (c.later i x))
                (c.ordered h i m x))
          ];
    }
  where
    unknown : f t ≡ None
    unknown = elim (known_or (f t)) [ inl e ↦ e | inr e ↦ absurd (let i = c.known t e in fresh i.0 i.1 i.2) ]

    last : (i : ℕ) → i < suc certs → Known (noted b f k (put order certs t i))
    last i l =
        elim (cases_eq certs i) [
          | inl e ↦ subst (λ (u : ℕ). Known (noted b f k u)) (sym (put_same order certs t i e)) (noted_has b t k own f)
          | inr e ↦
              subst (λ (u : ℕ). Known (noted b f k u)) (sym (put_other order certs t i e)) (noted_keeps b t k own f (order i) (c.later i (omega arith)))
        ]

-- Seals: the transactions on record as sealed are sealed, and the makers of versions are among them.
pub record Seals (sealed_at : ℕ → Option ℕ) (sealed : ℕ → Bool) (seals : ℕ) (maker : ℕ → ℕ) : Type 0 where
  pub known : (t : ℕ) → Known (sealed_at t) → sealed t ≡ true
  pub noted_too : (t : ℕ) → sealed t ≡ true → Known (sealed_at t)
  pub made : (i : ℕ) → 0 < i → i ≤ seals → sealed (maker i) ≡ true

-- t is sealed, and has written nothing
pub seals_end : (f : ℕ → Option ℕ) (sealed : ℕ → Bool) (seals : ℕ) (maker : ℕ → ℕ) (b : ℕ → Bool) (t k : ℕ) → ((u : ℕ) → b u ≡ eqb t u)
    → Seals f sealed seals maker → Seals (noted b f k) (put sealed t true) seals maker
seals_end f sealed seals maker b t k own c =
    record {
      known = λ u h.
          elim (cases_eq t u) [
            | inl e ↦ put_same sealed t true u e
            | inr e ↦ put_other sealed t true u e ∙ c.known u (h.0, sym (noted_other b t k own f u e) ∙ h.1)
          ];
      noted_too = λ u h.
          elim (cases_eq t u) [
            | inl e ↦ subst (λ (v : ℕ). Known (noted b f k v)) e (noted_has b t k own f)
            | inr e ↦ noted_keeps b t k own f u (c.noted_too u (sym (put_other sealed t true u e) ∙ h))
          ];
      made = λ i m n. put_on sealed t (maker i) (c.made i m n);
    }
  where
    put_on : (g : ℕ → Bool) (u v : ℕ) → g v ≡ true → put g u true v ≡ true
    put_on g u v h = elim (cases_eq u v) [ inl e ↦ put_same g u true v e | inr e ↦ put_other g u true v e ∙ h ]

-- t is sealed, and makes versions
pub seals_make : (f : ℕ → Option ℕ) (sealed : ℕ → Bool) (seals : ℕ) (maker : ℕ → ℕ) (b : ℕ → Bool) (t k : ℕ) → ((u : ℕ) → b u ≡ eqb t u)
    → Seals f sealed seals maker → Seals (noted b f k) (put sealed t true) (suc seals) (put maker (suc seals) t)
seals_make f sealed seals maker b t k own c =
    let d = seals_end f sealed seals maker b t k own c in
    record {
      known = d.known;
      noted_too = d.noted_too;
      made = λ i m n.
          elim (cases_eq (suc seals) i) [
            | inl e ↦ ap (put sealed t true) (put_same maker (suc seals) t i e) ∙ put_same sealed t true t refl
            | inr e ↦ ap (put sealed t true) (put_other maker (suc seals) t i e) ∙ d.made i m (omega arith)
          ];
    }

pub seals_at : (f g : ℕ → Option ℕ) (sealed : ℕ → Bool) (seals : ℕ) (maker : ℕ → ℕ) → ((t : ℕ) → g t ≡ f t) → Seals f sealed seals maker
    → Seals g sealed seals maker
seals_at f g sealed seals maker same c =
    record {
      known = λ t h. c.known t (h.0, sym (same t) ∙ h.1);
      noted_too = λ t h. let k = c.noted_too t h in (k.0, same t ∙ k.1);
      made = c.made;
    }

-- Bases: of a transaction whose begin was answered, the versions made after that are the later seals.
pub record Bases (begun_at sealed_at : ℕ → Option ℕ) (base : ℕ → ℕ) (seals : ℕ) (maker : ℕ → ℕ) : Type 0 where
  pub above : (t i : ℕ) → 0 < i → i ≤ seals → Earlier (begun_at t) (sealed_at (maker i)) → base t < i
  pub since : (t i : ℕ) → 0 < i → i ≤ seals → base t < i → Known (begun_at t) → Earlier (begun_at t) (sealed_at (maker i))

-- the makers are sealed when they were
pub bases_at : (begun_at f g : ℕ → Option ℕ) (base : ℕ → ℕ) (seals : ℕ) (maker : ℕ → ℕ) → ((i : ℕ) → 0 < i → i ≤ seals → g (maker i) ≡ f (maker i))
    → Bases begun_at f base seals maker → Bases begun_at g base seals maker
bases_at begun_at f g base seals maker same c =
    record {
      above = λ t i m n h. c.above t i m n (earlier_at _ _ _ _ refl (sym (same i m n)) h);
      since = λ t i m n l h. earlier_at _ _ _ _ refl (same i m n) (c.since t i m n l h);
    }

-- the begin of t is answered
pub bases_begin : (begun_at sealed_at : ℕ → Option ℕ) (base : ℕ → ℕ) (seals : ℕ) (maker : ℕ → ℕ) (b : ℕ → Bool) (t k : ℕ) → ((u : ℕ) → b u ≡ eqb t u)
    → Before sealed_at k → begun_at t ≡ None → Bases begun_at sealed_at base seals maker
    → Bases (noted b begun_at k) sealed_at (put base t seals) seals maker
bases_begin begun_at sealed_at base seals maker b t k own past new c =
    record {
      above = λ u i m n h.
          elim (cases_eq t u) [
            | inl e ↦ absurd (
                let w : noted b begun_at k u ≡ Some k = subst (λ (v : ℕ). noted b begun_at k v ≡ Some k) e (noted_new b t k own begun_at new) in
                let x : k ≡ h.0 = same_Some _ _ (sym w ∙ h.2) in
                let y = past (maker i) h.1 h.3 in
                let o = h.4 in
                omega arith
                )
            | inr e ↦
                (let x : put base t seals u ≡ base u = put_other base t seals u e in
                let y = c.above u i m n (earlier_at _ _ _ _ (sym (noted_other b t k own begun_at u e)) refl h) in
                omega arith)
          ];
      since = λ u i m n l h.
          elim (cases_eq t u) [
            | inl e ↦ absurd (let x : put base t seals u ≡ seals = put_same base t seals u e in omega arith)
            | inr e ↦
                (let x : put base t seals u ≡ base u = put_other base t seals u e in
                let y = noted_other b t k own begun_at u e in
                earlier_at _ _ _ _ y refl (c.since u i m n (omega arith) (h.0, sym y ∙ h.1)))
          ];
    }

-- t is sealed, and makes versions
pub bases_make : (begun_at f : ℕ → Option ℕ) (sealed : ℕ → Bool) (base : ℕ → ℕ) (seals : ℕ) (maker : ℕ → ℕ) (b : ℕ → Bool) (t k : ℕ) → ((u : ℕ) → b u ≡ eqb t u)
    → Before begun_at k → ((u : ℕ) → base u ≤ seals) → f t ≡ None → Seals f sealed seals maker → Bases begun_at f base seals maker
    → Bases begun_at (noted b f k) base (suc seals) (put maker (suc seals) t)
bases_make begun_at f sealed base seals maker b t k own past low new s c =
    record {
      above = λ u i m n h.
          elim (cases_eq (suc seals) i) [
            | inl e ↦ (let x = low u in omega arith)
            | inr e ↦ c.above u i m (omega arith) (earlier_at _ _ _ _ refl (sym (old i m (omega arith) e)) h)
          ];
      since = λ u i m n l h.
          elim (cases_eq (suc seals) i) [
            | inl e ↦
                (h.0, k, h.1, ap (noted b f k) (put_same maker (suc seals) t i e) ∙ noted_new b t k own f new, past u h.0 h.1)
            | inr e ↦ earlier_at _ _ _ _ refl (old i m (omega arith) e) (c.since u i m (omega arith) l h)
          ];
    }
  where
    old : (i : ℕ) → 0 < i → i ≤ seals → (suc seals ≡ i → ⊥) → noted b f k (put maker (suc seals) t i) ≡ f (maker i)
    old i m n e = grind arith
