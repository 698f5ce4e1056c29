-- The versions of each object on record, and those of the protocol.
use Rattle.std.proofs.Common.{◌≡◌, ℕ, zero, suc, ◌<◌, ◌≤◌, Bool, true, false, cond, ◌&&◌, ◌||◌, eqb, ◌⊎◌, List, [], ◌∷◌, Some, None, Option, sym, refl, ap, ◌∙◌, subst, inl, inr, arith}
use Rattle.std.proofs.lemmas.Bool.{cases_eq, ne_eqb, cond-true, cond-false, true≢false}
use Rattle.protocol.specs.Table.{put}
use Rattle.protocol.specs.History.{Access, Mark, writes}
use Rattle.protocol.specs.History.Access.{ov}
use Rattle.protocol.specs.History.Mark.{none, some}
use Rattle.protocol.proofs.Updates.{put_same, put_other, put_when}
use Rattle.law.specs.Ledger.{Maker, first, among, latest}
use Rattle.law.specs.Ledger.Maker.{opening, by}
use Rattle.law.specs.Law.{Known}
use Rattle.law.proofs.Traces.{when, known_or}
use Rattle.law.proofs.Times.{noted_was}

-- the maker of a version of the protocol
abbrev pub name : (ℕ → ℕ) → ℕ → Maker
name maker zero = opening
name maker (suc i) = by (maker (suc i))

pub name_made : (maker : ℕ → ℕ) (i : ℕ) → 0 < i → name maker i ≡ by (maker i)
name_made maker i h = grind arith

-- a later seal changes no name
pub name_old : (maker : ℕ → ℕ) (n t i : ℕ) → i ≤ n → name (put maker (suc n) t) i ≡ name maker i
name_old maker n t i h = grind arith

-- the makers ts of the versions of x that lead up to version i
abbrev pub Chain : (ℕ → ℕ → Mark) → (ℕ → ℕ) → ℕ → ℕ → List ℕ → Type 0
Chain over maker x i [] = i ≡ 0
Chain over maker x i (t ∷ ts) = (h : ℕ) × (0 < i) × (over i x ≡ some h) × (maker i ≡ t) × Chain over maker x h ts

pub chain_name : (over : ℕ → ℕ → Mark) (maker : ℕ → ℕ) (x i : ℕ) (ts : List ℕ) → Chain over maker x i ts → latest ts ≡ name maker i
chain_name over maker x i ts c = grind arith

chain_old : (over : ℕ → ℕ → Mark) (maker : ℕ → ℕ) (x n t : ℕ) (m : ℕ → Mark) → ((i h : ℕ) → over i x ≡ some h → h < i) → (i : ℕ) (ts : List ℕ) → i ≤ n
    → Chain over maker x i ts → Chain (put over (suc n) m) (put maker (suc n) t) x i ts
chain_old over maker x n t m older i [] l c = c
chain_old over maker x n t m older i (u ∷ ts) l c =
    let away : suc n ≡ i → ⊥ = λ e. let q = e in omega arith in
    let k = older i c.0 c.2 in (
      c.0,
      c.1,
      ap (λ (f : ℕ → Mark). f x) (put_other over (suc n) m i away) ∙ c.2,
      put_other maker (suc n) t i away ∙ c.3,
      chain_old over maker x n t m older c.0 ts (omega arith) c.4,
    )

-- a version that is newest but not stored: its maker has written x, and has not stored it
abbrev pub Due : (ℕ → List ℕ) → (ℕ → ℕ → Option ℕ) → ℕ → ℕ → Type 0
Due taken stored_at x t = (among x (taken t) ≡ true) × (stored_at t x ≡ None)

pub record Versions (makers taken : ℕ → List ℕ) (stored_at : ℕ → ℕ → Option ℕ) (sealed : ℕ → Bool) (over : ℕ → ℕ → Mark) (maker latest stored : ℕ → ℕ)
    (log : ℕ → List Access) : Type 0 where
  pub line : (x : ℕ) → Chain over maker x (latest x) (makers x)
  pub wrote : (t x : ℕ) → among x (taken t) ≡ writes (log t) x
  pub due : (x : ℕ) → (stored x ≡ latest x) ⊎ ((0 < latest x) × Due taken stored_at x (maker (latest x)))
  pub storers : (t x : ℕ) → Known (stored_at t x) → sealed t ≡ true

eqb_turn : (x y : ℕ) → eqb x y ≡ eqb y x
eqb_turn x y = grind arith

module _ (makers taken : ℕ → List ℕ) (stored_at : ℕ → ℕ → Option ℕ) (sealed : ℕ → Bool) (over : ℕ → ℕ → Mark) (maker latest stored : ℕ → ℕ) (log : ℕ → List Access)
    (c : Versions makers taken stored_at sealed over maker latest stored log) (t : ℕ) where
  -- an access of t that writes nothing new
  pub versions_log : (a : Access) → ((x : ℕ) → writes (a ∷ log t) x ≡ writes (log t) x)
      → Versions makers taken stored_at sealed over maker latest stored (put log t (a ∷ log t))
  versions_log a same =
      record {
        line = c.line;
        wrote = λ u x.
            put_when (λ (l : List Access). among x (taken u) ≡ writes l x) log t (a ∷ log t) u
            (λ e. c.wrote u x ∙ ap (λ (v : ℕ). writes (log v) x) (sym e) ∙ sym (same x)) (λ e. c.wrote u x);
        due = c.due;
        storers = c.storers;
      }

  -- t writes again what it has written
  pub versions_rewrite : (x i : ℕ) → writes (log t) x ≡ true → Versions makers taken stored_at sealed over maker latest stored (put log t (ov x i ∷ log t))
  versions_rewrite x i h = versions_log (ov x i) (λ y. again y (cases_eq x y))
    where
      again : (y : ℕ) → (x ≡ y) ⊎ (x ≡ y → ⊥) → (eqb x y || writes (log t) y) ≡ writes (log t) y
      again y d = grind arith

  module _ (b : ℕ → Bool) (own : (u : ℕ) → b u ≡ eqb t u) where
    -- t becomes the holder of x
    pub versions_take : (x i : ℕ) → Versions makers (λ u. cond (b u) (x ∷ taken u) (taken u)) stored_at sealed over maker latest stored (put log t (ov x i ∷ log t))
    versions_take x i =
        record {
          line = c.line;
          wrote = λ u y.
              when (λ (l : List ℕ). among y l ≡ writes (put log t (ov x i ∷ log t) u) y) (b u) t u (x ∷ taken u) (taken u) (own u)
              (λ e. subst (λ (l : List Access). among y (x ∷ taken u) ≡ writes l y) (sym (put_same log t (ov x i ∷ log t) u e))
              (both y u (c.wrote u y ∙ ap (λ (v : ℕ). writes (log v) y) (sym e))))
              (λ e. c.wrote u y ∙ ap (λ (l : List Access). writes l y) (sym (put_other log t (ov x i ∷ log t) u e)));
          due = λ y. elim (c.due y) [ inl e ↦ inl e | inr e ↦ inr (e.0, (more y (maker (latest y)) e.1.0, e.1.1)) ];
          storers = c.storers;
        }
      where
        both : (y u : ℕ) → among y (taken u) ≡ writes (log t) y → (eqb y x || among y (taken u)) ≡ (eqb x y || writes (log t) y)
        both y u e = ap (λ (k : Bool). k || among y (taken u)) (eqb_turn y x) ∙ ap (λ (k : Bool). eqb x y || k) e

        more : (y u : ℕ) → among y (taken u) ≡ true → among y (cond (b u) (x ∷ taken u) (taken u)) ≡ true
        more y u e = grind arith

    -- t stores x, once it is sealed
    pub versions_store : (x k : ℕ) → sealed t ≡ true
        → Versions makers taken (λ u y. cond (eqb x y && b u) (Some (first (stored_at u y) k)) (stored_at u y)) sealed over maker latest (put stored x (latest x)) log
    versions_store x k h =
        record {
          line = c.line;
          wrote = c.wrote;
          due = λ y.
              elim (cases_eq x y) [
                | inl e ↦ inl (put_same stored x (latest x) y e ∙ ap latest e)
                | inr e ↦
                    elim (c.due y) [
                      | inl d ↦ inl (put_other stored x (latest x) y e ∙ d)
                      | inr d ↦ inr (d.0, (d.1.0, cond-false (eqb x y && b (maker (latest y))) _ _ (ap (λ (l : Bool). l && b (maker (latest y))) (ne_eqb x y e)) ∙ d.1.1))
                    ]
              ];
          storers = λ u y d. go u y (eqb x y) d;
        }
      where
        go : (u y : ℕ) (l : Bool) → Known (cond (l && b u) (Some (first (stored_at u y) k)) (stored_at u y)) → sealed u ≡ true
        go u y true d =
            elim (noted_was b t k own (λ w. stored_at w y) u d) [ inl e ↦ ap sealed (sym e) ∙ h | inr e ↦ c.storers u y e ]
        go u y false d = c.storers u y d

  -- t is sealed, and has written nothing
  pub versions_end : Versions makers taken stored_at (put sealed t true) over maker latest stored log
  versions_end =
      record {
        line = c.line;
        wrote = c.wrote;
        due = c.due;
        storers = λ u x d. elim (cases_eq t u) [ inl e ↦ put_same sealed t true u e | inr e ↦ put_other sealed t true u e ∙ c.storers u x d ];
      }

  -- t is sealed, and makes version n + 1 of what it has written
  pub versions_make : (n : ℕ) → ((x : ℕ) → latest x ≤ n) → ((i x h : ℕ) → over i x ≡ some h → h < i) → sealed t ≡ false
      → Versions (λ x. cond (among x (taken t)) (t ∷ makers x) (makers x)) taken stored_at (put sealed t true)
      (put over (suc n) (λ x. cond (writes (log t) x) (some (latest x)) none)) (put maker (suc n) t)
      (λ x. cond (writes (log t) x) (suc n) (latest x)) stored log
  versions_make n newest older open' =
      record {
        line = λ x. lined x (writes (log t) x) refl;
        wrote = c.wrote;
        due = λ x. coming x (writes (log t) x) refl;
        storers = versions_end.storers;
      }
    where
      over' : ℕ → ℕ → Mark
      over' = put over (suc n) (λ x. cond (writes (log t) x) (some (latest x)) none)

      maker' : ℕ → ℕ
      maker' = put maker (suc n) t

      lined : (x : ℕ) (w : Bool) → writes (log t) x ≡ w
          → Chain over' maker' x (cond w (suc n) (latest x)) (cond (among x (taken t)) (t ∷ makers x) (makers x))
      lined x true e =
          subst (Chain over' maker' x (suc n)) (sym (cond-true (among x (taken t)) (t ∷ makers x) (makers x) (c.wrote t x ∙ e))) (
            latest x,
            omega arith,
            ap (λ (f : ℕ → Mark). f x) (put_same over (suc n) (λ y. cond (writes (log t) y) (some (latest y)) none) (suc n) refl)
                ∙ cond-true (writes (log t) x) (some (latest x)) none e,
            put_same maker (suc n) t (suc n) refl,
            chain_old over maker x n t (λ y. cond (writes (log t) y) (some (latest y)) none) (λ i h. older i x h) (latest x) (makers x) (newest x) (c.line x),
          )
      lined x false e =
          subst (Chain over' maker' x (latest x)) (sym (cond-false (among x (taken t)) (t ∷ makers x) (makers x) (c.wrote t x ∙ e)))
          (chain_old over maker x n t (λ y. cond (writes (log t) y) (some (latest y)) none) (λ i h. older i x h) (latest x) (makers x) (newest x) (c.line x))

      coming : (x : ℕ) (w : Bool) → writes (log t) x ≡ w
          → (stored x ≡ cond w (suc n) (latest x)) ⊎ ((0 < cond w (suc n) (latest x)) × Due taken stored_at x (maker' (cond w (suc n) (latest x))))
      coming x true e =
          inr (
            omega arith,
            subst (Due taken stored_at x) (sym (put_same maker (suc n) t (suc n) refl)) (
              c.wrote t x ∙ e,
              elim (known_or (stored_at t x)) [ inl d ↦ d | inr d ↦ absurd (true≢false (sym (c.storers t x d) ∙ open')) ],
            ),
          )
      coming x false e = grind arith
