-- The reads and holds on record, and the logs of the protocol.
use Rattle.std.proofs.Common.{◌≡◌, ℕ, suc, ◌<◌, ◌≤◌, Bool, cond, eqb, ◌⊎◌, List, [], ◌∷◌, sym, refl, ap, ◌∙◌, subst, inl, inr, arith}
use Rattle.std.proofs.lemmas.Bool.{cases_eq}
use Rattle.protocol.specs.Table.{put}
use Rattle.protocol.specs.History.{Access, Mark, version}
use Rattle.protocol.specs.History as history
use Rattle.protocol.specs.History.Access.{rd, ov}
use Rattle.protocol.specs.History.Mark.{some}
use Rattle.protocol.proofs.Updates.{put_same, put_other, put_when}
use Rattle.law.specs.Ledger.{Maker, Reading, Hold}
use Rattle.law.specs.Ledger.Found.{pending, version as of_version}
use Rattle.law.specs.Law.{In}
use Rattle.law.proofs.Traces.{when}
use Rattle.law.proofs.Versions.{name, name_old}

module _ {K : Type 0} where
  -- the access c is on record, at a time before n
  abbrev pub Recorded : List (Reading K) → List Hold → (ℕ → ℕ) → ℕ → Access → Type 0
  Recorded rs hs maker n (rd x i) = (r : Reading K) × In r rs × (r.found ≡ of_version (name maker i)) × (r.at < n)
  Recorded rs hs maker n (ov x i) = (h : Hold) × In h hs × (h.over ≡ name maker i) × (h.at < n)

  -- each read of a log is on record, and all accesses before it are so at earlier times
  abbrev pub Dated : List (Reading K) → List Hold → (ℕ → ℕ) → List Access → Type 0
  Dated rs hs maker [] = Unit {0}
  Dated rs hs maker (rd x i ∷ l) =
      Dated rs hs maker l
      × ((r : Reading K) × In r rs × (r.found ≡ of_version (name maker i)) × ((c : Access) → history.In c l → Recorded rs hs maker r.at c))
  Dated rs hs maker (ov x i ∷ l) = Dated rs hs maker l × ((h : Hold) × In h hs × (h.over ≡ name maker i))

  -- every access of a dated log is on record before n, if all times on record are
  pub recorded : (rs : List (Reading K)) (hs : List Hold) (maker : ℕ → ℕ) (n : ℕ) → ((r : Reading K) → In r rs → r.at < n) → ((h : Hold) → In h hs → h.at < n)
      → (l : List Access) → Dated rs hs maker l → (c : Access) → history.In c l → Recorded rs hs maker n c
  recorded rs hs maker n br bh [] d c i = absurd i
  recorded rs hs maker n br bh (rd x k ∷ l) d c (inl e) =
      subst (Recorded rs hs maker n) (sym e) (d.1.0, d.1.1, d.1.2, br d.1.0 d.1.1)
  recorded rs hs maker n br bh (rd x k ∷ l) d c (inr i) = recorded rs hs maker n br bh l d.0 c i
  recorded rs hs maker n br bh (ov x k ∷ l) d c (inl e) =
      subst (Recorded rs hs maker n) (sym e) (d.1.0, d.1.1, d.1.2, bh d.1.0 d.1.1)
  recorded rs hs maker n br bh (ov x k ∷ l) d c (inr i) = recorded rs hs maker n br bh l d.0 c i

  -- with more on record, or other names for the same makers
  recorded_more : (rs rs' : List (Reading K)) (hs hs' : List Hold) (maker maker' : ℕ → ℕ) → ((r : Reading K) → In r rs → In r rs') → ((h : Hold) → In h hs → In h hs') → (n : ℕ)
      (c : Access) → name maker' (version c) ≡ name maker (version c) → Recorded rs hs maker n c → Recorded rs' hs' maker' n c
  recorded_more rs rs' hs hs' maker maker' mr mh n (rd x i) q d = (d.0, mr d.0 d.1, d.2 ∙ ap of_version (sym q), d.3)
  recorded_more rs rs' hs hs' maker maker' mr mh n (ov x i) q d = (d.0, mh d.0 d.1, d.2 ∙ sym q, d.3)

  dated_more : (rs rs' : List (Reading K)) (hs hs' : List Hold) (maker maker' : ℕ → ℕ) → ((r : Reading K) → In r rs → In r rs') → ((h : Hold) → In h hs → In h hs')
      → (l : List Access) → ((c : Access) → history.In c l → name maker' (version c) ≡ name maker (version c)) → Dated rs hs maker l → Dated rs' hs' maker' l
  dated_more rs rs' hs hs' maker maker' mr mh [] q d = tt
  dated_more rs rs' hs hs' maker maker' mr mh (rd x i ∷ l) q d = (
    dated_more rs rs' hs hs' maker maker' mr mh l (λ c k. q c (inr k)) d.0,
    (
      d.1.0,
      mr d.1.0 d.1.1,
      d.1.2 ∙ ap of_version (sym (q (rd x i) (inl refl))),
      λ c k. recorded_more rs rs' hs hs' maker maker' mr mh d.1.0.at c (q c (inr k)) (d.1.3 c k),
    ),
  )
  dated_more rs rs' hs hs' maker maker' mr mh (ov x i ∷ l) q d = (
    dated_more rs rs' hs hs' maker maker' mr mh l (λ c k. q c (inr k)) d.0,
    (d.1.0, mh d.1.0 d.1.1, d.1.2 ∙ sym (q (ov x i) (inl refl))),
  )

  pub record Logs (readings : ℕ → List (Reading K)) (holds : ℕ → List Hold) (log : ℕ → List Access) (maker : ℕ → ℕ) (seals : ℕ) (over : ℕ → ℕ → Mark) : Type 0 where
    -- what is on record is in the log
    pub reads : (t : ℕ) (r : Reading K) (m : Maker) → In r (readings t) → r.found ≡ of_version m
        → (i : ℕ) × history.In (rd r.object i) (log t) × (m ≡ name maker i)
    pub held : (t : ℕ) (h : Hold) → In h (holds t) → (i : ℕ) × history.In (ov h.object i) (log t) × (h.over ≡ name maker i)
    -- what is in the log is on record
    pub dated : (t : ℕ) → Dated (readings t) (holds t) maker (log t)
    -- a seal replaced the versions that its transaction became holder over
    pub replaced : (i : ℕ) (h : Hold) → 0 < i → i ≤ seals → In h (holds (maker i))
        → (k : ℕ) × (over i h.object ≡ some k) × (h.over ≡ name maker k)

  module _ (readings : ℕ → List (Reading K)) (holds : ℕ → List Hold) (log : ℕ → List Access) (maker : ℕ → ℕ) (seals : ℕ) (over : ℕ → ℕ → Mark)
      (c : Logs readings holds log maker seals over) (t : ℕ) where
    more_in : (u : ℕ) (a d : Access) → history.In d (log u) → history.In d (put log t (a ∷ log t) u)
    more_in u a d i =
        put_when (λ (l : List Access). history.In d l) log t (a ∷ log t) u (λ e. inr (subst (λ (v : ℕ). history.In d (log v)) (sym e) i)) (λ e. i)

    new_in : (u : ℕ) (a : Access) → t ≡ u → history.In a (put log t (a ∷ log t) u)
    new_in u a e = subst (history.In a) (sym (put_same log t (a ∷ log t) u e)) (inl refl)

    module _ (b : ℕ → Bool) (own : (u : ℕ) → b u ≡ eqb t u) where
      abbrev reads_too : Reading K → ℕ → List (Reading K)
      reads_too r u = cond (b u) (r ∷ readings u) (readings u)

      abbrev holds_too : Hold → ℕ → List Hold
      holds_too h u = cond (b u) (h ∷ holds u) (holds u)

      keep_reads : (r : Reading K) (u : ℕ) (q : Reading K) → In q (readings u) → In q (reads_too r u)
      keep_reads r u q i = when (λ (l : List (Reading K)). In q l) (b u) t u (r ∷ readings u) (readings u) (own u) (λ e. inr i) (λ e. i)

      keep_holds : (h : Hold) (u : ℕ) (q : Hold) → In q (holds u) → In q (holds_too h u)
      keep_holds h u q i = when (λ (l : List Hold). In q l) (b u) t u (h ∷ holds u) (holds u) (own u) (λ e. inr i) (λ e. i)

      -- t's read of version i is answered
      pub logs_read : (r : Reading K) (i : ℕ) → r.found ≡ of_version (name maker i) → ((q : Reading K) → In q (readings t) → q.at < r.at)
          → ((q : Hold) → In q (holds t) → q.at < r.at) → Logs (reads_too r) holds (put log t (rd r.object i ∷ log t)) maker seals over
      logs_read r i is' br bh =
          record {
            reads = λ u q m h e. was_read u q m e (cases_eq t u) h;
            held = λ u h k. let d = c.held u h k in (d.0, more_in u (rd r.object i) (ov h.object d.0) d.1, d.2);
            dated = λ u.
                put_when (Dated (reads_too r u) (holds u) maker) log t (rd r.object i ∷ log t) u
                (λ e. subst (λ (v : ℕ). Dated (reads_too r v) (holds v) maker (rd r.object i ∷ log t)) e (
                  kept t,
                  (
                    r,
                    when (λ (l : List (Reading K)). In r l) (b t) t t (r ∷ readings t) (readings t) (own t) (λ n. inl refl) (λ n. absurd (n refl)),
                    is',
                    λ d k.
                        recorded_more (readings t) (reads_too r t) (holds t) (holds t) maker maker (keep_reads r t) (λ h x. x) r.at d refl
                        (recorded (readings t) (holds t) maker r.at br bh (log t) (c.dated t) d k),
                  ),
                ))
                (λ e. kept u);
            replaced = c.replaced;
          }
        where
          kept : (u : ℕ) → Dated (reads_too r u) (holds u) maker (log u)
          kept u = dated_more (readings u) (reads_too r u) (holds u) (holds u) maker maker (keep_reads r u) (λ h x. x) (log u) (λ d k. refl) (c.dated u)

          old : (u : ℕ) (q : Reading K) (m : Maker) → q.found ≡ of_version m → In q (readings u)
              → (k : ℕ) × history.In (rd q.object k) (put log t (rd r.object i ∷ log t) u) × (m ≡ name maker k)
          old u q m e h = let d = c.reads u q m h e in (d.0, more_in u (rd r.object i) (rd q.object d.0) d.1, d.2)

          new : (u : ℕ) (q : Reading K) (m : Maker) → q.found ≡ of_version m → t ≡ u → q ≡ r
              → (k : ℕ) × history.In (rd q.object k) (put log t (rd r.object i ∷ log t) u) × (m ≡ name maker k)
          new u q m e n s = grind arith

          was_read : (u : ℕ) (q : Reading K) (m : Maker) → q.found ≡ of_version m → (t ≡ u) ⊎ (t ≡ u → ⊥) → In q (reads_too r u)
              → (k : ℕ) × history.In (rd q.object k) (put log t (rd r.object i ∷ log t) u) × (m ≡ name maker k)
          was_read u q m e n h =
              when (λ (l : List (Reading K)). In q l → (k : ℕ) × history.In (rd q.object k) (put log t (rd r.object i ∷ log t) u) × (m ≡ name maker k)) (b u) t u
              (r ∷ readings u) (readings u) (own u)
              (λ s x. elim x [ inl y ↦ new u q m e s y | inr y ↦ old u q m e y ])
              (λ s x. old u q m e x) h

      -- t's read of its own pending content is answered
      pub logs_own : (r : Reading K) → r.found ≡ pending → Logs (reads_too r) holds log maker seals over
      logs_own r is' =
          record {
            reads = λ u q m h e.
                when (λ (l : List (Reading K)). In q l → (k : ℕ) × history.In (rd q.object k) (log u) × (m ≡ name maker k)) (b u) t u (r ∷ readings u) (readings u) (own u)
                (λ s x. elim x [ inl y ↦ absurd (clash (sym e ∙ ap (λ (z : Reading K). z.found) y ∙ is')) | inr y ↦ c.reads u q m y e ])
                (λ s x. c.reads u q m x e) h;
            held = c.held;
            dated = λ u. dated_more (readings u) (reads_too r u) (holds u) (holds u) maker maker (keep_reads r u) (λ h x. x) (log u) (λ d k. refl) (c.dated u);
            replaced = c.replaced;
          }
        where
          clash : {m : Maker} → of_version m ≡ pending → ⊥
          clash e = cc

      -- t becomes a holder, over version i
      pub logs_take : (h : Hold) (i : ℕ) → h.over ≡ name maker i → ((k : ℕ) → 0 < k → k ≤ seals → maker k ≡ t → ⊥)
          → Logs readings (holds_too h) (put log t (ov h.object i ∷ log t)) maker seals over
      logs_take h i is' unsealed =
          record {
            reads = λ u q m k e. let d = c.reads u q m k e in (d.0, more_in u (ov h.object i) (rd q.object d.0) d.1, d.2);
            held = λ u q k.
                when (λ (l : List Hold). In q l → (n : ℕ) × history.In (ov q.object n) (put log t (ov h.object i ∷ log t) u) × (q.over ≡ name maker n)) (b u) t u
                (h ∷ holds u) (holds u) (own u)
                (λ s x. elim x [
                  | inl y ↦ (
                    i,
                    subst (λ (z : ℕ). history.In (ov z i) (put log t (ov h.object i ∷ log t) u)) (ap (λ (z : Hold). z.object) (sym y)) (new_in u (ov h.object i) s),
                    ap (λ (z : Hold). z.over) y ∙ is',
                  )
                  | inr y ↦ old u q y
                ])
                (λ s x. old u q x) k;
            dated = λ u.
                put_when (Dated (readings u) (holds_too h u) maker) log t (ov h.object i ∷ log t) u
                (λ e. subst (λ (v : ℕ). Dated (readings v) (holds_too h v) maker (ov h.object i ∷ log t)) e (
                  kept t,
                  (h, when (λ (l : List Hold). In h l) (b t) t t (h ∷ holds t) (holds t) (own t) (λ n. inl refl) (λ n. absurd (n refl)), is'),
                ))
                (λ e. kept u);
            replaced = λ k q m n x.
                c.replaced k q m n
                (when (λ (l : List Hold). In q l → In q (holds (maker k))) (b (maker k)) t (maker k) (h ∷ holds (maker k)) (holds (maker k)) (own (maker k))
                (λ s y. absurd (unsealed k m n (sym s))) (λ s y. y) x);
          }
        where
          kept : (u : ℕ) → Dated (readings u) (holds_too h u) maker (log u)
          kept u = dated_more (readings u) (readings u) (holds u) (holds_too h u) maker maker (λ r x. x) (keep_holds h u) (log u) (λ d k. refl) (c.dated u)

          old : (u : ℕ) (q : Hold) → In q (holds u) → (n : ℕ) × history.In (ov q.object n) (put log t (ov h.object i ∷ log t) u) × (q.over ≡ name maker n)
          old u q k = let d = c.held u q k in (d.0, more_in u (ov h.object i) (ov q.object d.0) d.1, d.2)

    -- t writes again what it holds
    pub logs_rewrite : (x i : ℕ) (h : Hold) → In h (holds t) → h.over ≡ name maker i → Logs readings holds (put log t (ov x i ∷ log t)) maker seals over
    logs_rewrite x i h k is' =
        record {
          reads = λ u q m n e. let d = c.reads u q m n e in (d.0, more_in u (ov x i) (rd q.object d.0) d.1, d.2);
          held = λ u q n. let d = c.held u q n in (d.0, more_in u (ov x i) (ov q.object d.0) d.1, d.2);
          dated = λ u.
              put_when (Dated (readings u) (holds u) maker) log t (ov x i ∷ log t) u
              (λ e. subst (λ (v : ℕ). Dated (readings v) (holds v) maker (ov x i ∷ log t)) e (c.dated t, (h, k, is')))
              (λ e. c.dated u);
          replaced = c.replaced;
        }

    -- t is sealed, and makes the next version of what it holds
    pub logs_make : (over' : ℕ → ℕ → Mark) → ((u : ℕ) (a : Access) → history.In a (log u) → version a ≤ seals) → ((i x k : ℕ) → over i x ≡ some k → k < i)
        → ((i : ℕ) → (suc seals ≡ i → ⊥) → (x : ℕ) → over' i x ≡ over i x)
        → ((h : Hold) → In h (holds t) → (k : ℕ) × (k ≤ seals) × (over' (suc seals) h.object ≡ some k) × (h.over ≡ name maker k))
        → Logs readings holds log (put maker (suc seals) t) (suc seals) over'
    logs_make over' bound older same new =
        record {
          reads = λ u q m k e. let d = c.reads u q m k e in (d.0, d.1, d.2 ∙ sym (name_old maker seals t d.0 (bound u (rd q.object d.0) d.1)));
          held = λ u q k. let d = c.held u q k in (d.0, d.1, d.2 ∙ sym (name_old maker seals t d.0 (bound u (ov q.object d.0) d.1)));
          dated = λ u.
              dated_more (readings u) (readings u) (holds u) (holds u) maker (put maker (suc seals) t) (λ r x. x) (λ h x. x) (log u)
              (λ d k. name_old maker seals t (version d) (bound u d k)) (c.dated u);
          replaced = λ i h m n k. go i h m n k (cases_eq (suc seals) i);
        }
      where
        go : (i : ℕ) (h : Hold) → 0 < i → i ≤ suc seals → In h (holds (put maker (suc seals) t i)) → (suc seals ≡ i) ⊎ (suc seals ≡ i → ⊥)
            → (k : ℕ) × (over' i h.object ≡ some k) × (h.over ≡ name (put maker (suc seals) t) k)
        go i h m n k (inl e) =
            let d = new h (subst (λ (u : ℕ). In h (holds u)) (put_same maker (suc seals) t i e) k) in
            (d.0, ap (λ (z : ℕ). over' z h.object) (sym e) ∙ d.2, d.3 ∙ sym (name_old maker seals t d.0 d.1))
        go i h m n k (inr e) =
            let d = c.replaced i h m (omega arith) (subst (λ (u : ℕ). In h (holds u)) (put_other maker (suc seals) t i e) k) in
            let l = older i h.object d.0 d.1 in
            (d.0, same i e h.object ∙ d.1, d.2 ∙ sym (name_old maker seals t d.0 (omega arith)))
