-- Certification.
use Rattle.std.proofs.Common.{◌≡◌, ℕ, suc, true, false, ◌⊎◌, List, sym, ap, ◌∙◌, subst, inl, inr, arith}
use Rattle.std.proofs.lemmas.Bool.{cases_eq, false≢true}
use Rattle.protocol.specs.Table.{put}
use Rattle.protocol.specs.Protocol.{State, Phase, May, next}
use Rattle.protocol.specs.Protocol.Seen.{saw}
use Rattle.protocol.specs.Protocol.Phase.{out, starting, running, certifying, sealing}
use Rattle.protocol.specs.Protocol.Event.{certify, pass}
use Rattle.protocol.specs.Alone.{Operation, after, Agrees}
use Rattle.protocol.proofs.Sequence.{Sequence, alone, note}
use Rattle.protocol.proofs.Updates.{put_same, put_other, put_is}
use Rattle.protocol.proofs.Invariant.{Inv, Looks, Live, Off, NoneDue, differ, back, row_other, row_same, none_due_back}

module _ {K : Type 0} (P : ℕ) (opening : ℕ → K) (s : State K) (h : Sequence K) (l : Looks K) (i : Inv opening s h l) where
  module _ (p : ℕ) (g : May P s (certify p)) where
    -- a place that is still empty adds nothing
    grown : (x : ℕ) → alone opening h.script (suc h.count) x ≡ alone opening h.script h.count x
    grown x = ap (λ (ds : List (Operation K)). after (alone opening h.script h.count) ds x) (i.unused h.count (omega arith))

    newcomer : (q : ℕ) → p ≡ q → put h.place p h.count q ≡ h.count
    newcomer q n = put_same h.place p h.count q n

    veteran : (q : ℕ) → (p ≡ q → ⊥) → put h.place p h.count q ≡ h.place q
    veteran q n = put_other h.place p h.count q n

    -- the others stand where they stood
    stood : (q : ℕ) (f : Phase) → (p ≡ q → ⊥) → put s.phase p certifying q ≡ f → s.phase q ≡ f
    stood q f n e = sym (put_other s.phase p certifying q n) ∙ e

    lives : (q : ℕ) → Live (put s.phase p certifying) q → Live s.phase q
    lives q f = elim (cases_eq p q) [ inl n ↦ inl (ap s.phase (sym n) ∙ g.runs) | inr n ↦ other n f ]
      where
        other : (p ≡ q → ⊥) → Live (put s.phase p certifying) q → Live s.phase q
        other n (inl e) = inl (stood q running n e)
        other n (inr e) = inr (stood q certifying n e)

    offs : (q : ℕ) → Off (put s.phase p certifying) q → Off s.phase q
    offs q (inl f) = inl (back s.phase p certifying q out tt f)
    offs q (inr f) = inr (back s.phase p certifying q starting tt f)

    calms : (x : ℕ) → NoneDue s.held (put s.phase p certifying) x → NoneDue s.held s.phase x
    calms x c = none_due_back s.held s.phase p certifying x (λ v t e f. differ running (sealing t) tt (sym g.runs ∙ f)) c

    pub keep_certify : Inv opening (next s (certify p)) (note h (certify p)) l
    keep_certify =
        record {
          unused = λ k e. i.unused k (omega arith);
          below = λ q f.
              elim (cases_eq p q) [
                | inl n ↦ let a = newcomer q n in omega arith
                | inr n ↦ let a = veteran q n in let b = i.below q (stood q certifying n f) in omega arith
              ];
          unsealed = λ q f.
              elim (cases_eq p q) [
                | inl n ↦ ap h.script (newcomer q n) ∙ i.unused h.count (omega arith)
                | inr n ↦ ap h.script (veteran q n) ∙ i.unsealed q (stood q certifying n f)
              ];
          apart = λ q r f d e.
              elim (cases_eq p q) [
                | inl n ↦
                    elim (cases_eq p r) [
                      | inl m ↦ sym n ∙ m
                      | inr m ↦
                          let a = newcomer q n in
                          let b = veteran r m in
                          let c = i.below r (stood r certifying m d) in
                          absurd (omega arith)
                    ]
                | inr n ↦
                    elim (cases_eq p r) [
                      | inl m ↦
                          let a = newcomer r m in
                          let b = veteran q n in
                          let c = i.below q (stood q certifying n f) in
                          absurd (omega arith)
                      | inr m ↦
                          i.apart q r (stood q certifying n f) (stood r certifying m d) (sym (veteran q n) ∙ e ∙ veteran r m)
                    ]
              ];
          idle = λ q x v f e. i.idle q x v (offs q f) e;
          looked = λ q x t v f b e.
              elim (cases_eq p q) [
                | inl n ↦ absurd (false≢true (sym (row_same s.passed p (λ y. false) q x n) ∙ b))
                | inr n ↦
                    ap (λ (k : ℕ). l k x) (veteran q n)
                    ∙ i.looked q x t v (stood q certifying n f) (sym (row_other s.passed p (λ y. false) q x n) ∙ b) e
              ];
          known = λ k x t v e. let a = i.known k x t v e in omega arith;
          wrote = λ q x v f. i.wrote q x v (lives q f);
          spared = λ q x f. i.spared q x (lives q f);
          agrees = λ q f. i.agrees q (lives q f);
          dated = i.dated;
          hand_dated = i.hand_dated;
          hand_same = i.hand_same;
          hand_free = i.hand_free;
          covers = λ q x v f. i.covers q x v (lives q f);
          level = λ q f.
              elim (cases_eq p q) [
                | inl n ↦
                    let a : s.need p ≡ s.need q = ap s.need n in
                    let b : s.clock p ≡ s.clock q = ap s.clock n in
                    let k = g.level in
                    omega arith
                | inr n ↦ i.level q (stood q certifying n f)
              ];
          settled = λ x c. i.settled x (calms x c) ∙ sym (grown x);
          due = λ q x v t e f.
              let d = i.due q x v t e (back s.phase p certifying q (sealing t) tt f) in
              (grown x ∙ d.0, d.1);
          last = λ q x v e f k b m.
              elim (cases_eq p q) [
                | inl n ↦
                    let a = newcomer q n in
                    ap (λ (ds : List (Operation K)). after m ds x) (i.unused k (omega arith))
                | inr n ↦ let a = veteran q n in i.last q x v e (stood q certifying n f) k (omega arith) m
              ];
          first = λ q x v k t w e f b.
              elim (cases_eq p q) [
                | inl n ↦ let a = newcomer q n in let c = i.known k x t w b in omega arith
                | inr n ↦ let a = veteran q n in let c = i.first q x v k t w e (stood q certifying n f) b in omega arith
              ];
          right = i.right;
          replays = i.replays;
          still = λ q x t v f e d c.
              elim (cases_eq p q) [
                | inl n ↦
                    ap (λ (k : ℕ). alone opening h.script k x) (newcomer q n)
                    ∙ sym (i.settled x (calms x c))
                    ∙ (elim (i.dated q x t v e) [ inl b ↦ absurd (omega arith) | inr b ↦ b.1 ])
                | inr n ↦
                    ap (λ (k : ℕ). alone opening h.script k x) (veteran q n)
                    ∙ i.still q x t v (stood q certifying n f) e d (calms x c)
              ];
        }

  module _ (p x : ℕ) (g : May P s (pass p x)) where
    abbrev pub marked : Looks K
    marked = put l (h.place p) (put (l (h.place p)) x (s.seen p x))

    -- a look is this one or an earlier one
    which : (k y t : ℕ) (v : K) → marked k y ≡ saw t v → ((h.place p ≡ k) × (x ≡ y) × (s.seen p x ≡ saw t v)) ⊎ (l k y ≡ saw t v)
    which k y t v e =
        elim (cases_eq (h.place p) k) [
          | inl n ↦
              elim (put_is (l (h.place p)) x (s.seen p x) y (saw t v) (sym (row_same l (h.place p) (put (l (h.place p)) x (s.seen p x)) k y n) ∙ e))
              [ inl d ↦ inl (n, d.0, d.1) | inr d ↦ inr (ap (λ (j : ℕ). l j y) (sym n) ∙ d.1) ]
          | inr n ↦ inr (sym (row_other l (h.place p) (put (l (h.place p)) x (s.seen p x)) k y n) ∙ e)
        ]

    none_due : NoneDue s.held s.phase x
    none_due q w t e f = differ certifying (sealing t) tt (sym g.0 ∙ ap s.phase (sym (g.1 q w e)) ∙ f)

    pub keep_pass : Inv opening (next s (pass p x)) (note h (pass p x)) marked
    keep_pass =
        record {
          unused = i.unused;
          below = i.below;
          unsealed = i.unsealed;
          apart = i.apart;
          idle = i.idle;
          looked = λ q y t v f b e.
              elim (cases_eq p q) [
                | inl n ↦
                    row_same l (h.place p) (put (l (h.place p)) x (s.seen p x)) (h.place q) y (ap h.place n)
                    ∙ (elim (cases_eq x y) [
                      | inl m ↦
                          put_same (l (h.place p)) x (s.seen p x) y m ∙ ap (s.seen p) m ∙ ap (λ (r : ℕ). s.seen r y) n ∙ e
                      | inr m ↦
                          put_other (l (h.place p)) x (s.seen p x) y m
                          ∙ i.looked p y t v g.0
                          (sym (put_other (s.passed p) x true y m)
                          ∙ sym (row_same s.passed p (put (s.passed p) x true) q y n)
                          ∙ b)
                          (ap (λ (r : ℕ). s.seen r y) n ∙ e)
                    ])
                | inr n ↦
                    row_other l (h.place p) (put (l (h.place p)) x (s.seen p x)) (h.place q) y (λ d. n (i.apart p q g.0 f d))
                    ∙ i.looked q y t v f (sym (row_other s.passed p (put (s.passed p) x true) q y n) ∙ b) e
              ];
          known = λ k y t v e.
              elim (which k y t v e)
              [ inl d ↦ let a = i.below p g.0 in let b = d.0 in omega arith | inr d ↦ i.known k y t v d ];
          wrote = i.wrote;
          spared = i.spared;
          agrees = i.agrees;
          dated = i.dated;
          hand_dated = i.hand_dated;
          hand_same = i.hand_same;
          hand_free = i.hand_free;
          covers = i.covers;
          level = i.level;
          settled = i.settled;
          due = i.due;
          last = i.last;
          first = λ q y w k t u e f d.
              elim (which k y t u d) [
                | inl a ↦
                    let b : q ≡ p = g.1 q w (ap s.held a.1 ∙ e) in
                    let c : h.place q ≡ h.place p = ap h.place b in
                    let j = a.0 in
                    omega arith
                | inr a ↦ i.first q y w k t u e f a
              ];
          right = λ k y t v e.
              elim (which k y t v e) [
                | inl d ↦
                    ap (λ (j : ℕ). alone opening h.script j y) (sym d.0)
                    ∙ ap (alone opening h.script (h.place p)) (sym d.1)
                    ∙ i.still p x t v g.0 d.2 (g.2 t v d.2) none_due
                | inr d ↦ i.right k y t v d
              ];
          replays = λ k m a.
              elim (cases_eq (h.place p) k) [
                | inl n ↦ subst (Agrees m) (sym (i.unsealed p g.0) ∙ ap h.script n) tt
                | inr n ↦
                    i.replays k m
                    (λ y t v e. a y t v (row_other l (h.place p) (put (l (h.place p)) x (s.seen p x)) k y n ∙ e))
              ];
          still = i.still;
        }
