-- A read, a write.
use Rattle.std.proofs.Common.{◌≡◌, ℕ, ◌<◌, ◌≤◌, true, false, ◌⊎◌, List, ◌∷◌, sym, refl, ap, ◌∙◌, subst, inl, inr, arith}
use Rattle.std.proofs.lemmas.Bool.{cases_eq}
use Rattle.protocol.specs.Table.{put}
use Rattle.protocol.specs.Protocol.{State, Seen, Phase, May, Idle, next}
use Rattle.protocol.specs.Protocol.Held.{by}
use Rattle.protocol.specs.Protocol.Seen.{saw}
use Rattle.protocol.specs.Protocol.Hand.{empty, full}
use Rattle.protocol.specs.Protocol.Phase.{out, starting, running, certifying, sealing}
use Rattle.protocol.specs.Protocol.Event.{look, check, extend, answer, own, write}
use Rattle.protocol.specs.Alone.{Operation, after, Agrees}
use Rattle.protocol.proofs.Sequence.{Sequence, note}
use Rattle.protocol.specs.Alone.Operation.{got, set}
use Rattle.protocol.proofs.Updates.{put_same, put_other, put_is}
use Rattle.protocol.proofs.Invariant.{Inv, Looks, Off, NoneDue, differ, row_other, row_same, unheld, unfull}

module _ {K : Type 0} (P : ℕ) (opening : ℕ → K) (s : State K) (h : Sequence K) (l : Looks K) (i : Inv opening s h l) where
  -- who runs does not certify
  apart_from : (p q : ℕ) → s.phase p ≡ running → s.phase q ≡ certifying → p ≡ q → ⊥
  apart_from p q g f n = differ running certifying tt (sym g ∙ ap s.phase n ∙ f)

  -- what p holds is within its clock, if it has no request in hand
  covered : (p x : ℕ) (v : K) → Idle s p → s.held x ≡ by p v → s.stamp x ≤ s.clock p
  covered p x v g e = let d = g.level in elim (i.covers p x v (inl g.runs) e) [ inl a ↦ a | inr a ↦ omega arith ]

  module _ (p x : ℕ) (v : K) (g : May P s (look p x v)) where
    -- a hand is the new one or another
    which : (q y t : ℕ) (w : K) → put s.hand p (full x (s.stamp x) v) q ≡ full y t w
        → ((p ≡ q) × (x ≡ y) × (s.stamp y ≡ t) × (s.content y ≡ w)) ⊎ (s.hand q ≡ full y t w)
    which q y t w e =
        elim (put_is s.hand p (full x (s.stamp x) v) q (full y t w) e) [
          | inl d ↦
              (let a = d.1 in
              let b : x ≡ y = cc in
              let c : s.stamp x ≡ t = cc in
              let k : v ≡ w = cc in
              inl (d.0, b, ap s.stamp (sym b) ∙ c, ap s.content (sym b) ∙ g.3 ∙ k))
          | inr d ↦ inr d.1
        ]

    pub keep_look : Inv opening (next s (look p x v)) h l
    keep_look =
        record {
          unused = i.unused;
          below = i.below;
          unsealed = i.unsealed;
          apart = i.apart;
          idle = i.idle;
          looked = λ q y t w f b e.
              i.looked q y t w f (sym (row_other s.passed p (λ z. false) q y (apart_from p q g.0.runs f)) ∙ b) e;
          known = i.known;
          wrote = i.wrote;
          spared = i.spared;
          agrees = i.agrees;
          dated = i.dated;
          hand_dated = λ q y t w e.
              elim (which q y t w e) [ inl d ↦ inr (sym d.2, d.3) | inr d ↦ i.hand_dated q y t w d ];
          hand_same = λ q y t w u r e f.
              elim (which q y t w e)
              [ inl d ↦ again q y t w u r d.0 d.1 d.2 d.3 f | inr d ↦ i.hand_same q y t w u r d f ];
          hand_free = λ q y t w r e f.
              elim (which q y t w e)
              [ inl d ↦ unheld (s.held x) q r g.1 (ap s.held d.1 ∙ f) | inr d ↦ i.hand_free q y t w r d f ];
          covers = λ q y w f e.
              elim (cases_eq p q) [
                | inl n ↦
                    let a : s.clock p ≡ s.clock q = ap s.clock n in
                    let b = covered p y w g.0 (e ∙ ap (λ (r : ℕ). by r w) (sym n)) in
                    inl (omega arith)
                | inr n ↦
                    elim (i.covers q y w f e)
                    [ inl d ↦ inl d | inr d ↦ let a = put_other s.need p (s.stamp x) q n in inr (omega arith) ]
              ];
          level = λ q f.
              let a = put_other s.need p (s.stamp x) q (apart_from p q g.0.runs f) in
              let d = i.level q f in
              omega arith;
          settled = i.settled;
          due = i.due;
          last = i.last;
          first = i.first;
          right = i.right;
          replays = i.replays;
          still = i.still;
        }
      where
        again : (q y t : ℕ) (w : K) (u : ℕ) (r : K) → p ≡ q → x ≡ y → s.stamp y ≡ t → s.content y ≡ w → s.seen q y ≡ saw u r
            → (u ≡ t) × (r ≡ w)
        again q y t w u r n m a b e =
            let c : u ≡ s.stamp x = g.2 u r (ap (s.seen p) m ∙ ap (λ (z : ℕ). s.seen z y) n ∙ e) in
            let c' : u ≡ s.stamp y = c ∙ ap s.stamp m in
            (c' ∙ a, elim (i.dated q y u r e) [ inl d ↦ absurd (omega arith) | inr d ↦ sym d.1 ∙ b ])

  pub keep_check : (p x : ℕ) → May P s (check p x) → Inv opening (next s (check p x)) h l
  keep_check p x g =
      record {
        unused = i.unused;
        below = i.below;
        unsealed = i.unsealed;
        apart = i.apart;
        idle = i.idle;
        looked = λ q y t w f b e.
            i.looked q y t w f
            (sym (row_other s.passed p (put (s.passed p) x true) q y (apart_from p q g.0 f)) ∙ b) e;
        known = i.known;
        wrote = i.wrote;
        spared = i.spared;
        agrees = i.agrees;
        dated = i.dated;
        hand_dated = i.hand_dated;
        hand_same = i.hand_same;
        hand_free = i.hand_free;
        covers = i.covers;
        level = i.level;
        settled = i.settled;
        due = i.due;
        last = i.last;
        first = i.first;
        right = i.right;
        replays = i.replays;
        still = i.still;
      }

  pub keep_extend : (p : ℕ) → May P s (extend p) → Inv opening (next s (extend p)) h l
  keep_extend p g =
      record {
        unused = i.unused;
        below = i.below;
        unsealed = i.unsealed;
        apart = i.apart;
        idle = i.idle;
        looked = i.looked;
        known = i.known;
        wrote = i.wrote;
        spared = i.spared;
        agrees = i.agrees;
        dated = i.dated;
        hand_dated = i.hand_dated;
        hand_same = i.hand_same;
        hand_free = i.hand_free;
        covers = λ q x v f e.
            elim (cases_eq p q) [
              | inl n ↦
                  let a = put_same s.clock p (s.need p) q n in
                  let b : s.need p ≡ s.need q = ap s.need n in
                  let c : s.clock p ≡ s.clock q = ap s.clock n in
                  let k = g.1 in
                  elim (i.covers q x v f e) [ inl d ↦ inr (omega arith) | inr d ↦ inr d ]
              | inr n ↦
                  let a = put_other s.clock p (s.need p) q n in
                  elim (i.covers q x v f e) [ inl d ↦ inl (omega arith) | inr d ↦ inr d ]
            ];
        level = λ q f.
            let a = put_other s.clock p (s.need p) q (apart_from p q g.0 f) in
            let d = i.level q f in
            omega arith;
        settled = i.settled;
        due = i.due;
        last = i.last;
        first = i.first;
        right = i.right;
        replays = i.replays;
        still = i.still;
      }

  -- one more read on record changes nothing that is left
  same_left : (p x : ℕ) (v : K) (q y : ℕ) (m : ℕ → K) → after m (put h.operations p (got x v ∷ h.operations p) q) y ≡ after m (h.operations q) y
  same_left p x v q y m =
      elim (cases_eq p q) [
        | inl n ↦
            ap (λ (ds : List (Operation K)). after m ds y) (put_same h.operations p (got x v ∷ h.operations p) q n)
            ∙ ap (λ (r : ℕ). after m (h.operations r) y) n
        | inr n ↦ ap (λ (ds : List (Operation K)). after m ds y) (put_other h.operations p (got x v ∷ h.operations p) q n)
      ]

  pub keep_own : (p x : ℕ) (v : K) → May P s (own p x v) → Inv opening (next s (own p x v)) (note h (own p x v)) l
  keep_own p x v g =
      record {
        unused = i.unused;
        below = i.below;
        unsealed = i.unsealed;
        apart = i.apart;
        idle = i.idle;
        looked = i.looked;
        known = i.known;
        wrote = λ q y w f e m. same_left p x v q y m ∙ i.wrote q y w f e m;
        spared = λ q y f e m. same_left p x v q y m ∙ i.spared q y f e m;
        agrees = λ q f m a.
            elim (cases_eq p q) [
              | inl n ↦
                  subst (Agrees m) (sym (put_same h.operations p (got x v ∷ h.operations p) q n)) (
                    i.agrees p (inl g.0.runs) m (λ y t w e. a y t w (ap (λ (r : ℕ). s.seen r y) (sym n) ∙ e)),
                    i.wrote p x v (inl g.0.runs) g.1 m,
                  )
              | inr n ↦
                  subst (Agrees m) (sym (put_other h.operations p (got x v ∷ h.operations p) q n)) (i.agrees q f m a)
            ];
        dated = i.dated;
        hand_dated = i.hand_dated;
        hand_same = i.hand_same;
        hand_free = i.hand_free;
        covers = i.covers;
        level = i.level;
        settled = i.settled;
        due = i.due;
        last = i.last;
        first = i.first;
        right = i.right;
        replays = i.replays;
        still = i.still;
      }

  module _ (p x t₀ : ℕ) (v : K) (g : May P s (answer p x t₀ v)) where
    new : ℕ → ℕ → Seen K
    new = put s.seen p (put (s.seen p) x (saw t₀ v))

    -- what was seen of others
    others : (q y : ℕ) → s.phase q ≡ certifying → new q y ≡ s.seen q y
    unfolding new
    others q y f =
        row_other s.seen p (put (s.seen p) x (saw t₀ v)) q y
        (λ n. differ running certifying tt (sym g.0 ∙ ap s.phase n ∙ f))

    -- what p has seen before, it would see now
    before : (m : ℕ → K) → ((y t : ℕ) (w : K) → new p y ≡ saw t w → m y ≡ w) → (y t : ℕ) (w : K) → s.seen p y ≡ saw t w → m y ≡ w
    unfolding new
    before m a y t w e =
        elim (cases_eq x y) [
          | inl n ↦
              a y t₀ v (row_same s.seen p (put (s.seen p) x (saw t₀ v)) p y refl ∙ put_same (s.seen p) x (saw t₀ v) y n)
              ∙ sym (i.hand_same p x t₀ v t w g.1 (ap (s.seen p) n ∙ e)).1
          | inr n ↦
              a y t w
              (row_same s.seen p (put (s.seen p) x (saw t₀ v)) p y refl ∙ put_other (s.seen p) x (saw t₀ v) y n ∙ e)
        ]

    hands : (q y t : ℕ) (w : K) → put s.hand p empty q ≡ full y t w → (p ≡ q → ⊥) × (s.hand q ≡ full y t w)
    hands q y t w e =
        elim (put_is s.hand p empty q (full y t w) e) [ inl d ↦ absurd (unfull empty y t w refl d.1) | inr d ↦ d ]

    pub keep_answer : Inv opening (next s (answer p x t₀ v)) (note h (answer p x t₀ v)) l
    unfolding new
    keep_answer =
        record {
          unused = i.unused;
          below = i.below;
          unsealed = i.unsealed;
          apart = i.apart;
          idle = i.idle;
          looked = λ q y t w f b e. i.looked q y t w f b (sym (others q y f) ∙ e);
          known = i.known;
          wrote = λ q y w f e m. same_left p x v q y m ∙ i.wrote q y w f e m;
          spared = λ q y f e m. same_left p x v q y m ∙ i.spared q y f e m;
          agrees = λ q f m a.
              elim (cases_eq p q) [
                | inl n ↦
                    subst (Agrees m) (sym (put_same h.operations p (got x v ∷ h.operations p) q n))
                    (let b : (y t : ℕ) (w : K) → new p y ≡ saw t w → m y ≡ w = λ y t w e. a y t w (ap (λ (r : ℕ). new r y) (sym n) ∙ e) in (
                      i.agrees p (inl g.0) m (before m b),
                      i.spared p x (inl g.0) (λ w e. i.hand_free p x t₀ v w g.1 e) m
                          ∙ b x t₀ v
                          (row_same s.seen p (put (s.seen p) x (saw t₀ v)) p x refl
                          ∙ put_same (s.seen p) x (saw t₀ v) x refl),
                    ))
                | inr n ↦
                    subst (Agrees m) (sym (put_other h.operations p (got x v ∷ h.operations p) q n))
                    (i.agrees q f m (λ y t w e. a y t w (row_other s.seen p (put (s.seen p) x (saw t₀ v)) q y n ∙ e)))
              ];
          dated = λ q y t w e.
              elim (cases_eq p q) [
                | inl n ↦
                    elim (put_is (s.seen p) x (saw t₀ v) y (saw t w) (sym (row_same s.seen p (put (s.seen p) x (saw t₀ v)) q y n) ∙ e))
                    [ inl d ↦ here d.0 d.1 | inr d ↦ i.dated p y t w d.1 ]
                | inr n ↦ i.dated q y t w (sym (row_other s.seen p (put (s.seen p) x (saw t₀ v)) q y n) ∙ e)
              ];
          hand_dated = λ q y t w e. i.hand_dated q y t w (hands q y t w e).1;
          hand_same = λ q y t w u r e d.
              let k = hands q y t w e in
              i.hand_same q y t w u r k.1 (sym (row_other s.seen p (put (s.seen p) x (saw t₀ v)) q y k.0) ∙ d);
          hand_free = λ q y t w r e. i.hand_free q y t w r (hands q y t w e).1;
          covers = i.covers;
          level = i.level;
          settled = i.settled;
          due = i.due;
          last = i.last;
          first = i.first;
          right = i.right;
          replays = i.replays;
          still = λ q y t w f e d c. i.still q y t w f (sym (others q y f) ∙ e) d c;
        }
      where
        here : {y t : ℕ} {w : K} → x ≡ y → saw t₀ v ≡ saw t w → (t < s.stamp y) ⊎ ((t ≡ s.stamp y) × (s.content y ≡ w))
        here {y} {t} {w} n e =
            let a : t₀ ≡ t = cc in
            let b : v ≡ w = cc in
            let c : s.stamp x ≡ s.stamp y = ap s.stamp n in
            elim (i.hand_dated p x t₀ v g.1)
            [ inl d ↦ inl (omega arith) | inr d ↦ inr (sym a ∙ d.0 ∙ c, ap s.content (sym n) ∙ d.1 ∙ b) ]

  module _ (p x : ℕ) (v : K) (g : May P s (write p x v)) where
    -- who holds an object now held it before, or is p
    holder : (q y : ℕ) (w : K) → put s.held x (by p v) y ≡ by q w → ((x ≡ y) × (p ≡ q) × (v ≡ w)) ⊎ ((x ≡ y → ⊥) × (s.held y ≡ by q w))
    holder q y w e =
        elim (put_is s.held x (by p v) y (by q w) e) [ inl d ↦ inl (let b = d.1 in (d.0, cc, cc)) | inr d ↦ inr d ]

    -- of a process in another phase
    old : (q y : ℕ) (w : K) (f : Phase) → (running ≡ f → ⊥) → put s.held x (by p v) y ≡ by q w → s.phase q ≡ f → s.held y ≡ by q w
    old q y w f n e d =
        elim (holder q y w e) [ inl a ↦ absurd (n (sym g.0.runs ∙ ap s.phase a.1 ∙ d)) | inr a ↦ a.1 ]

    offs : (q y : ℕ) (w : K) → Off s.phase q → put s.held x (by p v) y ≡ by q w → s.held y ≡ by q w
    offs q y w (inl f) e = old q y w out (differ running out tt) e f
    offs q y w (inr f) e = old q y w starting (differ running starting tt) e f

    calms : (y : ℕ) → NoneDue (put s.held x (by p v)) s.phase y → NoneDue s.held s.phase y
    calms y c q w t e f =
        elim (cases_eq x y) [
          | inl n ↦ differ running (sealing t) tt (sym g.0.runs ∙ ap s.phase (sym (g.1 q w (ap s.held n ∙ e))) ∙ f)
          | inr n ↦ c q w t (put_other s.held x (by p v) y n ∙ e) f
        ]

    pub keep_write : Inv opening (next s (write p x v)) (note h (write p x v)) l
    keep_write =
        record {
          unused = i.unused;
          below = i.below;
          unsealed = i.unsealed;
          apart = i.apart;
          idle = λ q y w f e. i.idle q y w f (offs q y w f e);
          looked = λ q y t w f b e.
              i.looked q y t w f (sym (row_other s.passed p (λ z. false) q y (apart_from p q g.0.runs f)) ∙ b) e;
          known = i.known;
          wrote = λ q y w f e m.
              elim (cases_eq p q) [
                | inl n ↦
                    ap (λ (ds : List (Operation K)). after m ds y) (put_same h.operations p (set x v ∷ h.operations p) q n)
                    ∙ (elim (holder q y w e) [
                      | inl a ↦ put_same (after m (h.operations p)) x v y a.0 ∙ a.2
                      | inr a ↦
                          put_other (after m (h.operations p)) x v y a.0
                          ∙ i.wrote p y w (inl g.0.runs) (a.1 ∙ ap (λ (r : ℕ). by r w) (sym n)) m
                    ])
                | inr n ↦
                    ap (λ (ds : List (Operation K)). after m ds y) (put_other h.operations p (set x v ∷ h.operations p) q n)
                    ∙ (elim (holder q y w e) [ inl a ↦ absurd (n a.1) | inr a ↦ i.wrote q y w f a.1 m ])
              ];
          spared = λ q y f e m.
              elim (cases_eq p q) [
                | inl n ↦
                    ap (λ (ds : List (Operation K)). after m ds y) (put_same h.operations p (set x v ∷ h.operations p) q n)
                    ∙ (elim (cases_eq x y) [
                      | inl a ↦ absurd (e v (put_same s.held x (by p v) y a ∙ ap (λ (r : ℕ). by r v) n))
                      | inr a ↦
                          put_other (after m (h.operations p)) x v y a
                          ∙ i.spared p y (inl g.0.runs) (λ w d. e w (put_other s.held x (by p v) y a ∙ d ∙ ap (λ (r : ℕ). by r w) n)) m
                    ])
                | inr n ↦
                    ap (λ (ds : List (Operation K)). after m ds y) (put_other h.operations p (set x v ∷ h.operations p) q n)
                    ∙ i.spared q y f
                    (λ w d.
                    elim (cases_eq x y)
                    [ inl a ↦ n (sym (g.1 q w (ap s.held a ∙ d))) | inr a ↦ e w (put_other s.held x (by p v) y a ∙ d) ])
                    m
              ];
          agrees = λ q f m a.
              elim (cases_eq p q) [
                | inl n ↦
                    subst (Agrees m) (sym (put_same h.operations p (set x v ∷ h.operations p) q n))
                    (i.agrees p (inl g.0.runs) m (λ y t w e. a y t w (ap (λ (r : ℕ). s.seen r y) (sym n) ∙ e)))
                | inr n ↦ subst (Agrees m) (sym (put_other h.operations p (set x v ∷ h.operations p) q n)) (i.agrees q f m a)
              ];
          dated = i.dated;
          hand_dated = i.hand_dated;
          hand_same = i.hand_same;
          hand_free = λ q y t w r e d.
              elim (holder q y r d)
              [ inl a ↦ unfull (s.hand p) y t w g.0.done (ap s.hand a.1 ∙ e) | inr a ↦ i.hand_free q y t w r e a.1 ];
          covers = λ q y w f e.
              elim (holder q y w e) [
                | inl a ↦
                    let k = put_same s.need p (s.stamp x) q a.1 in
                    let m : s.stamp x ≡ s.stamp y = ap s.stamp a.0 in
                    inr (omega arith)
                | inr a ↦
                    elim (cases_eq p q) [
                      | inl n ↦
                          let b : s.clock p ≡ s.clock q = ap s.clock n in
                          let d = covered p y w g.0 (a.1 ∙ ap (λ (r : ℕ). by r w) (sym n)) in
                          inl (omega arith)
                      | inr n ↦
                          elim (i.covers q y w f a.1)
                          [ inl d ↦ inl d | inr d ↦ let b = put_other s.need p (s.stamp x) q n in inr (omega arith) ]
                    ]
              ];
          level = λ q f.
              let a = put_other s.need p (s.stamp x) q (apart_from p q g.0.runs f) in
              let d = i.level q f in
              omega arith;
          settled = λ y c. i.settled y (calms y c);
          due = λ q y w t e f. i.due q y w t (old q y w (sealing t) (differ running (sealing t) tt) e f) f;
          last = λ q y w e f. i.last q y w (old q y w certifying (differ running certifying tt) e f) f;
          first = λ q y w k t u e f. i.first q y w k t u (old q y w certifying (differ running certifying tt) e f) f;
          right = i.right;
          replays = i.replays;
          still = λ q y t w f e d c. i.still q y t w f e d (calms y c);
        }
