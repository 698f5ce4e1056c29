-- The seal, and what comes after it; an object freed.
use Rattle.std.proofs.Common.{◌≡◌, ℕ, ◌<◌, ◌⊎◌, List, sym, refl, ap, ◌∙◌, inl, inr, arith}
use Rattle.std.proofs.lemmas.Bool.{cases_eq, cases_lt}
use Rattle.protocol.specs.Table.{put}
use Rattle.protocol.specs.Protocol.{State, May, next}
use Rattle.protocol.specs.Protocol.Held.{nobody, by}
use Rattle.protocol.specs.Protocol.Phase.{out, starting, running, certifying, aborting, sealing}
use Rattle.protocol.specs.Protocol.Event.{seal, finish, store, free}
use Rattle.protocol.specs.Alone.{Operation, Agrees}
use Rattle.protocol.proofs.Sequence.{Sequence, alone, note}
use Rattle.protocol.proofs.Updates.{put_same, put_other, put_is, put_when}
use Rattle.protocol.proofs.Alone.{Unwritten, earlier, elsewhere, later}
use Rattle.protocol.proofs.Invariant.{Inv, Looks, Live, Off, NoneDue, differ, back, none_due_back, unheld, one_holder}

module _ {K : Type 0} (P : ℕ) (opening : ℕ → K) (s : State K) (h : Sequence K) (l : Looks K) (i : Inv opening s h l) where
  module _ (p t : ℕ) (b : ℕ → ℕ) (g : May P s (seal p t b)) where
    -- what p does not hold it leaves
    leaves : (x : ℕ) → ((v : K) → s.held x ≡ by p v → ⊥) → (k : ℕ)
        → alone opening (put h.script (h.place p) (h.operations p)) k x ≡ alone opening h.script k x
    leaves x n k = elsewhere opening h.script (h.place p) (h.operations p) (i.unsealed p g.0) x (i.spared p x (inr g.0) n) k

    not_held : (q x : ℕ) (v : K) → s.held x ≡ by q v → (p ≡ q → ⊥) → (w : K) → s.held x ≡ by p w → ⊥
    not_held q x v e n w d = n (one_holder (s.held x) p q w v d e)

    none_due_free : (x : ℕ) → NoneDue s.held (put s.phase p (sealing t)) x → (v : K) → s.held x ≡ by p v → ⊥
    none_due_free x c v e = c p v t e (put_same s.phase p (sealing t) p refl)

    calms : (x : ℕ) → NoneDue s.held (put s.phase p (sealing t)) x → NoneDue s.held s.phase x
    calms x c = none_due_back s.held s.phase p (sealing t) x (λ v u e f. none_due_free x c v e) c

    certs : (q : ℕ) → put s.phase p (sealing t) q ≡ certifying → s.phase q ≡ certifying
    certs q f = back s.phase p (sealing t) q certifying tt f

    other : (q : ℕ) → put s.phase p (sealing t) q ≡ certifying → p ≡ q → ⊥
    other q f n = differ (sealing t) certifying tt (sym (put_same s.phase p (sealing t) q n) ∙ f)

    lives : (q : ℕ) → Live (put s.phase p (sealing t)) q → Live s.phase q
    lives q (inl f) = inl (back s.phase p (sealing t) q running tt f)
    lives q (inr f) = inr (certs q f)

    offs : (q : ℕ) → Off (put s.phase p (sealing t)) q → Off s.phase q
    offs q (inl f) = inl (back s.phase p (sealing t) q out tt f)
    offs q (inr f) = inr (back s.phase p (sealing t) q starting tt f)

    pub rises_to : (x : ℕ) (v : K) → s.held x ≡ by p v → s.stamp x < t
    rises_to x v e =
        let a = i.level p g.0 in
        let b = g.2 in
        elim (i.covers p x v (inr g.0) e) [ inl d ↦ omega arith | inr d ↦ omega arith ]

    pub keep_seal : Inv opening (next s (seal p t b)) (note h (seal p t b)) l
    keep_seal =
        record {
          unused = λ k e.
              let b = i.below p g.0 in
              put_other h.script (h.place p) (h.operations p) k (λ d. omega arith) ∙ i.unused k e;
          below = λ q f. i.below q (certs q f);
          unsealed = λ q f.
              put_other h.script (h.place p) (h.operations p) (h.place q) (λ d. other q f (i.apart p q g.0 (certs q f) d))
              ∙ i.unsealed q (certs q f);
          apart = λ q r f d. i.apart q r (certs q f) (certs r d);
          idle = λ q x v f. i.idle q x v (offs q f);
          looked = λ q x u v f. i.looked q x u v (certs q f);
          known = i.known;
          wrote = λ q x v f. i.wrote q x v (lives q f);
          spared = λ q x f. i.spared q x (lives q f);
          agrees = λ q f. i.agrees q (lives q f);
          dated = i.dated;
          hand_dated = i.hand_dated;
          hand_same = i.hand_same;
          hand_free = i.hand_free;
          covers = λ q x v f. i.covers q x v (lives q f);
          level = λ q f. i.level q (certs q f);
          settled = λ x c. i.settled x (calms x c) ∙ sym (leaves x (none_due_free x c) h.count);
          due = λ q x v u e f.
              elim (put_is s.phase p (sealing t) q (sealing u) f) [
                | inl n ↦
                    let d : s.held x ≡ by p v = e ∙ ap (λ (r : ℕ). by r v) (sym n.0) in
                    let k : t ≡ u = same_seal t u n.1 in
                    let b : s.stamp x < t = rises_to x v d in (
                      later opening h.script (h.place p) (h.operations p) x v (i.wrote p x v (inr g.0) d)
                          (i.last p x v d g.0) h.count (i.below p g.0),
                      omega arith,
                    )
                | inr n ↦
                    let d = i.due q x v u e n.1 in
                    (leaves x (not_held q x v e n.0) h.count ∙ d.0, d.1)
              ];
          last = λ q x v e f k b.
              put_when (λ (ds : List (Operation K)). Unwritten ds x) h.script (h.place p) (h.operations p) k
              (λ n. i.spared p x (inr g.0) (not_held q x v e (other q f)))
              (λ n. i.last q x v e (certs q f) k b);
          first = λ q x v k u w e f. i.first q x v k u w e (certs q f);
          right = λ k x u v e.
              elim (cases_lt (h.place p) k) [
                | inl b ↦
                    leaves x (λ w d. let a = i.first p x w k u v d g.0 e in omega arith) k ∙ i.right k x u v e
                | inr b ↦ earlier opening h.script (h.place p) (h.operations p) k b x ∙ i.right k x u v e
              ];
          replays = λ k m a.
              put_when (Agrees m) h.script (h.place p) (h.operations p) k
              (λ n.
              i.agrees p (inr g.0) m
              (λ x u v e. a x u v (ap (λ (j : ℕ). l j x) (sym n) ∙ i.looked p x u v g.0 (g.1 x u v e) e)))
              (λ n. i.replays k m a);
          still = λ q x u v f e d c.
              leaves x (none_due_free x c) (h.place q) ∙ i.still q x u v (certs q f) e d (calms x c);
        }
      where
        same_seal : (a b : ℕ) → sealing a ≡ sealing b → a ≡ b
        same_seal a b e = cc

  module _ (p : ℕ) (g : May P s (finish p)) where
    -- what p does not hold it leaves
    leaves_f : (x : ℕ) → ((v : K) → s.held x ≡ by p v → ⊥) → (k : ℕ)
        → alone opening (put h.script (h.place p) (h.operations p)) k x ≡ alone opening h.script k x
    leaves_f x n k = elsewhere opening h.script (h.place p) (h.operations p) (i.unsealed p g.0) x (i.spared p x (inr g.0) n) k

    not_held_f : (q x : ℕ) (v : K) → s.held x ≡ by q v → (p ≡ q → ⊥) → (w : K) → s.held x ≡ by p w → ⊥
    not_held_f q x v e n w d = n (one_holder (s.held x) p q w v d e)

    none_due_free_f : (x : ℕ) → NoneDue s.held (put s.phase p aborting) x → (v : K) → s.held x ≡ by p v → ⊥
    none_due_free_f x c v e = g.2 x v e

    calms_f : (x : ℕ) → NoneDue s.held (put s.phase p aborting) x → NoneDue s.held s.phase x
    calms_f x c = none_due_back s.held s.phase p aborting x (λ v u e f. none_due_free_f x c v e) c

    certs_f : (q : ℕ) → put s.phase p aborting q ≡ certifying → s.phase q ≡ certifying
    certs_f q f = back s.phase p aborting q certifying tt f

    other_f : (q : ℕ) → put s.phase p aborting q ≡ certifying → p ≡ q → ⊥
    other_f q f n = differ aborting certifying tt (sym (put_same s.phase p aborting q n) ∙ f)

    lives_f : (q : ℕ) → Live (put s.phase p aborting) q → Live s.phase q
    lives_f q (inl f) = inl (back s.phase p aborting q running tt f)
    lives_f q (inr f) = inr (certs_f q f)

    offs_f : (q : ℕ) → Off (put s.phase p aborting) q → Off s.phase q
    offs_f q (inl f) = inl (back s.phase p aborting q out tt f)
    offs_f q (inr f) = inr (back s.phase p aborting q starting tt f)

    pub keep_finish : Inv opening (next s (finish p)) (note h (finish p)) l
    keep_finish =
        record {
          unused = λ k e.
              let b = i.below p g.0 in
              put_other h.script (h.place p) (h.operations p) k (λ d. omega arith) ∙ i.unused k e;
          below = λ q f. i.below q (certs_f q f);
          unsealed = λ q f.
              put_other h.script (h.place p) (h.operations p) (h.place q) (λ d. other_f q f (i.apart p q g.0 (certs_f q f) d))
              ∙ i.unsealed q (certs_f q f);
          apart = λ q r f d. i.apart q r (certs_f q f) (certs_f r d);
          idle = λ q x v f. i.idle q x v (offs_f q f);
          looked = λ q x u v f. i.looked q x u v (certs_f q f);
          known = i.known;
          wrote = λ q x v f. i.wrote q x v (lives_f q f);
          spared = λ q x f. i.spared q x (lives_f q f);
          agrees = λ q f. i.agrees q (lives_f q f);
          dated = i.dated;
          hand_dated = i.hand_dated;
          hand_same = i.hand_same;
          hand_free = i.hand_free;
          covers = λ q x v f. i.covers q x v (lives_f q f);
          level = λ q f. i.level q (certs_f q f);
          settled = λ x c. i.settled x (calms_f x c) ∙ sym (leaves_f x (none_due_free_f x c) h.count);
          due = λ q x v u e f.
              let d = i.due q x v u e (back s.phase p aborting q (sealing u) tt f) in
              (leaves_f x (λ w r. g.2 x w r) h.count ∙ d.0, d.1);
          last = λ q x v e f k b.
              put_when (λ (ds : List (Operation K)). Unwritten ds x) h.script (h.place p) (h.operations p) k
              (λ n. i.spared p x (inr g.0) (not_held_f q x v e (other_f q f)))
              (λ n. i.last q x v e (certs_f q f) k b);
          first = λ q x v k u w e f. i.first q x v k u w e (certs_f q f);
          right = λ k x u v e.
              elim (cases_lt (h.place p) k) [
                | inl b ↦
                    leaves_f x (λ w d. let a = i.first p x w k u v d g.0 e in omega arith) k ∙ i.right k x u v e
                | inr b ↦ earlier opening h.script (h.place p) (h.operations p) k b x ∙ i.right k x u v e
              ];
          replays = λ k m a.
              put_when (Agrees m) h.script (h.place p) (h.operations p) k
              (λ n.
              i.agrees p (inr g.0) m
              (λ x u v e. a x u v (ap (λ (j : ℕ). l j x) (sym n) ∙ i.looked p x u v g.0 (g.1 x u v e) e)))
              (λ n. i.replays k m a);
          still = λ q x u v f e d c.
              leaves_f x (none_due_free_f x c) (h.place q) ∙ i.still q x u v (certs_f q f) e d (calms_f x c);
        }

  -- who holds an object after x was freed held it before
  kept : (x q y : ℕ) (w : K) → put s.held x nobody y ≡ by q w → (x ≡ y → ⊥) × (s.held y ≡ by q w)
  kept x q y w e =
      elim (put_is s.held x nobody y (by q w) e) [ inl d ↦ absurd (unheld nobody q w refl d.1) | inr d ↦ d ]

  module _ (p x : ℕ) (v : K) (t : ℕ) (g : May P s (store p x v t)) where
    calms_on : (y : ℕ) → (x ≡ y → ⊥) → NoneDue (put s.held x nobody) s.phase y → NoneDue s.held s.phase y
    calms_on y n c q w u e f = c q w u (put_other s.held x nobody y n ∙ e) f

    rises : s.stamp x < t
    rises = (i.due p x v t g.1 g.0).1

    dead : (q : ℕ) → p ≡ q → Live s.phase q → ⊥
    dead q n (inl f) = differ (sealing t) running tt (sym g.0 ∙ ap s.phase n ∙ f)
    dead q n (inr f) = differ (sealing t) certifying tt (sym g.0 ∙ ap s.phase n ∙ f)

    pub keep_store : Inv opening (next s (store p x v t)) (note h (store p x v t)) l
    keep_store =
        record {
          unused = i.unused;
          below = i.below;
          unsealed = i.unsealed;
          apart = i.apart;
          idle = λ q y w f e. i.idle q y w f (kept x q y w e).1;
          looked = i.looked;
          known = i.known;
          wrote = λ q y w f e. i.wrote q y w f (kept x q y w e).1;
          spared = λ q y f e.
              i.spared q y f
              (λ w d.
              elim (cases_eq x y) [
                | inl n ↦ dead q (one_holder (s.held x) p q v w g.1 (ap s.held n ∙ d)) f
                | inr n ↦ e w (put_other s.held x nobody y n ∙ d)
              ]);
          agrees = i.agrees;
          dated = λ q y u w e.
              elim (cases_eq x y) [
                | inl n ↦
                    let a : put s.stamp x t y ≡ t = put_same s.stamp x t y n in
                    let b : s.stamp x ≡ s.stamp y = ap s.stamp n in
                    inl (older y u (i.dated q y u w e) a b)
                | inr n ↦
                    let a : put s.stamp x t y ≡ s.stamp y = put_other s.stamp x t y n in
                    elim (i.dated q y u w e)
                    [ inl d ↦ inl (omega arith) | inr d ↦ inr (d.0 ∙ sym a, put_other s.content x v y n ∙ d.1) ]
              ];
          hand_dated = λ q y u w e.
              elim (cases_eq x y) [
                | inl n ↦
                    let a : put s.stamp x t y ≡ t = put_same s.stamp x t y n in
                    let b : s.stamp x ≡ s.stamp y = ap s.stamp n in
                    inl (older y u (i.hand_dated q y u w e) a b)
                | inr n ↦
                    let a : put s.stamp x t y ≡ s.stamp y = put_other s.stamp x t y n in
                    elim (i.hand_dated q y u w e)
                    [ inl d ↦ inl (omega arith) | inr d ↦ inr (d.0 ∙ sym a, put_other s.content x v y n ∙ d.1) ]
              ];
          hand_same = i.hand_same;
          hand_free = λ q y u w r e d. i.hand_free q y u w r e (kept x q y r d).1;
          covers = λ q y w f e.
              let k = kept x q y w e in
              let a : put s.stamp x t y ≡ s.stamp y = put_other s.stamp x t y k.0 in
              elim (i.covers q y w f k.1) [ inl d ↦ inl (omega arith) | inr d ↦ inr (omega arith) ];
          level = i.level;
          settled = λ y c.
              elim (cases_eq x y) [
                | inl n ↦
                    put_same s.content x v y n
                    ∙ sym (i.due p x v t g.1 g.0).0
                    ∙ ap (alone opening h.script h.count) n
                | inr n ↦ put_other s.content x v y n ∙ i.settled y (calms_on y n c)
              ];
          due = λ q y w u e f.
              let k = kept x q y w e in
              let d = i.due q y w u k.1 f in
              let a : put s.stamp x t y ≡ s.stamp y = put_other s.stamp x t y k.0 in
              (d.0, omega arith);
          last = λ q y w e. i.last q y w (kept x q y w e).1;
          first = λ q y w k u r e. i.first q y w k u r (kept x q y w e).1;
          right = i.right;
          replays = i.replays;
          still = λ q y u w f e d c.
              elim (cases_eq x y) [
                | inl n ↦
                    let a : put s.stamp x t y ≡ t = put_same s.stamp x t y n in
                    let b : s.stamp x ≡ s.stamp y = ap s.stamp n in
                    let r : u < put s.stamp x t y = older y u (i.dated q y u w e) a b in
                    absurd (omega arith)
                | inr n ↦
                    i.still q y u w f e (d ∙ put_other s.stamp x t y n) (calms_on y n c)
              ];
        }
      where
        older : (y u : ℕ) {w : K} → (u < s.stamp y) ⊎ ((u ≡ s.stamp y) × (s.content y ≡ w)) → put s.stamp x t y ≡ t → s.stamp x ≡ s.stamp y
            → u < put s.stamp x t y
        older y u (inl d) a b = let c = rises in omega arith
        older y u (inr d) a b = let c = rises in let e = d.0 in omega arith

  module _ (p x : ℕ) (v : K) (g : May P s (free p x v)) where
    calms' : (y : ℕ) → NoneDue (put s.held x nobody) s.phase y → NoneDue s.held s.phase y
    calms' y c q w u e f =
        elim (cases_eq x y) [
          | inl n ↦
              differ aborting (sealing u) tt
              (sym g.0 ∙ ap s.phase (one_holder (s.held x) p q v w g.1 (ap s.held n ∙ e)) ∙ f)
          | inr n ↦ c q w u (put_other s.held x nobody y n ∙ e) f
        ]

    dead' : (q : ℕ) → p ≡ q → Live s.phase q → ⊥
    dead' q n (inl f) = differ aborting running tt (sym g.0 ∙ ap s.phase n ∙ f)
    dead' q n (inr f) = differ aborting certifying tt (sym g.0 ∙ ap s.phase n ∙ f)

    pub keep_free : Inv opening (next s (free p x v)) (note h (free p x v)) l
    keep_free =
        record {
          unused = i.unused;
          below = i.below;
          unsealed = i.unsealed;
          apart = i.apart;
          idle = λ q y w f e. i.idle q y w f (kept x q y w e).1;
          looked = i.looked;
          known = i.known;
          wrote = λ q y w f e. i.wrote q y w f (kept x q y w e).1;
          spared = λ q y f e.
              i.spared q y f
              (λ w d.
              elim (cases_eq x y) [
                | inl n ↦ dead' q (one_holder (s.held x) p q v w g.1 (ap s.held n ∙ d)) f
                | inr n ↦ e w (put_other s.held x nobody y n ∙ d)
              ]);
          agrees = i.agrees;
          dated = i.dated;
          hand_dated = i.hand_dated;
          hand_same = i.hand_same;
          hand_free = λ q y u w r e d. i.hand_free q y u w r e (kept x q y r d).1;
          covers = λ q y w f e. i.covers q y w f (kept x q y w e).1;
          level = i.level;
          settled = λ y c. i.settled y (calms' y c);
          due = λ q y w u e. i.due q y w u (kept x q y w e).1;
          last = λ q y w e. i.last q y w (kept x q y w e).1;
          first = λ q y w k u r e. i.first q y w k u r (kept x q y w e).1;
          right = i.right;
          replays = i.replays;
          still = λ q y u w f e d c. i.still q y u w f e d (calms' y c);
        }
