-- Events that begin or end a transaction, and the bank's.
use Rattle.std.proofs.Common.{◌≡◌, ℕ, not, T, eqb, List, [], sym, refl, ap, ◌∙◌, subst, inl, inr, arith}
use Rattle.std.proofs.lemmas.Bool.{cases_eq}
use Rattle.protocol.specs.Table.{put}
use Rattle.protocol.specs.Protocol.{State, Phase, Cause, May, next, turn}
use Rattle.protocol.specs.Protocol.Held.{by}
use Rattle.protocol.specs.Protocol.Seen.{unseen}
use Rattle.protocol.specs.Protocol.Hand.{empty, full}
use Rattle.protocol.specs.Protocol.Phase.{out, starting, running, certifying, aborting, sealing}
use Rattle.protocol.specs.Protocol.Event.{begin, ready, move, fail, commit, close}
use Rattle.protocol.specs.Alone.{Operation, after, Agrees}
use Rattle.protocol.proofs.Sequence.{Sequence, note}
use Rattle.protocol.proofs.Updates.{put_same, put_other, put_is}
use Rattle.protocol.proofs.Invariant.{Inv, Looks, Live, Off, tag, differ, back, row_other, row_same, none_due_back, unsaw, unfull}

module _ {K : Type 0} (P : ℕ) (opening : ℕ → K) (s : State K) (h : Sequence K) (l : Looks K) (i : Inv opening s h l) where
  -- p comes into a phase that is neither live nor sealed
  shift : (p : ℕ) (b : Phase) → T (not (eqb (tag b) 2)) → T (not (eqb (tag b) 1)) → T (not (eqb (tag b) 4))
      → (Off (λ q. b) p → (x : ℕ) (v : K) → s.held x ≡ by p v → ⊥)
      → ((x : ℕ) (v : K) (t : ℕ) → s.held x ≡ by p v → s.phase p ≡ sealing t → ⊥) → Inv opening (turn s p b) h l
  shift p b nc nr ns none none_due =
      record {
        unused = i.unused;
        below = λ q f. i.below q (certs q f);
        unsealed = λ q f. i.unsealed q (certs q f);
        apart = λ q r f g. i.apart q r (certs q f) (certs r g);
        idle = λ q x v f e.
            elim (cases_eq p q)
            [ inl n ↦ none (mine q n f) x v (e ∙ ap (λ (r : ℕ). by r v) (sym n)) | inr n ↦ i.idle q x v (others q n f) e ];
        looked = λ q x t v f. i.looked q x t v (certs q f);
        known = i.known;
        wrote = λ q x v f. i.wrote q x v (lives q f);
        spared = λ q x f. i.spared q x (lives q f);
        agrees = λ q f. i.agrees q (lives q f);
        dated = i.dated;
        hand_dated = i.hand_dated;
        hand_same = i.hand_same;
        hand_free = i.hand_free;
        covers = λ q x v f. i.covers q x v (lives q f);
        level = λ q f. i.level q (certs q f);
        settled = λ x c. i.settled x (none_due_back s.held s.phase p b x (none_due x) c);
        due = λ q x v t e f. i.due q x v t e (back s.phase p b q (sealing t) ns f);
        last = λ q x v e f. i.last q x v e (certs q f);
        first = λ q x v k t w e f. i.first q x v k t w e (certs q f);
        right = i.right;
        replays = i.replays;
        still = λ q x t v f e d c. i.still q x t v (certs q f) e d (none_due_back s.held s.phase p b x (none_due x) c);
      }
    where
      certs : (q : ℕ) → put s.phase p b q ≡ certifying → s.phase q ≡ certifying
      certs q f = back s.phase p b q certifying nc f

      lives : (q : ℕ) → Live (put s.phase p b) q → Live s.phase q
      lives q (inl f) = inl (back s.phase p b q running nr f)
      lives q (inr f) = inr (certs q f)

      mine : (q : ℕ) → p ≡ q → Off (put s.phase p b) q → Off (λ r. b) p
      mine q n (inl f) = inl (sym (put_same s.phase p b q n) ∙ f)
      mine q n (inr f) = inr (sym (put_same s.phase p b q n) ∙ f)

      others : (q : ℕ) → (p ≡ q → ⊥) → Off (put s.phase p b) q → Off s.phase q
      others q n (inl f) = inl (sym (put_other s.phase p b q n) ∙ f)
      others q n (inr f) = inr (sym (put_other s.phase p b q n) ∙ f)

  pub keep_begin : (p : ℕ) → May P s (begin p) → Inv opening (next s (begin p)) h l
  keep_begin p g =
      shift p starting tt tt tt (λ e x v. i.idle p x v (inl g)) (λ x v t e f. differ out (sealing t) tt (sym g ∙ f))

  pub keep_fail : (p : ℕ) (r : Cause) → May P s (fail p r) → Inv opening (next s (fail p r)) h l
  keep_fail p r g = shift p aborting tt tt tt (λ e. absurd (no e)) (λ x v t e f. stands t f g.0)
    where
      no : Off (λ q. aborting) p → ⊥
      no (inl e) = differ aborting out tt e
      no (inr e) = differ aborting starting tt e

      stands : (t : ℕ) → s.phase p ≡ sealing t → Live s.phase p → ⊥
      stands t f (inl r) = differ running (sealing t) tt (sym r ∙ f)
      stands t f (inr r) = differ certifying (sealing t) tt (sym r ∙ f)

  pub keep_commit : (p t : ℕ) → May P s (commit p t) → Inv opening (next s (commit p t)) h l
  keep_commit p t g = shift p out tt tt tt (λ e. g.1) (λ x v u e f. g.1 x v e)

  pub keep_close : (p : ℕ) → May P s (close p) → Inv opening (next s (close p)) h l
  keep_close p g = shift p out tt tt tt (λ e. g.1) (λ x v u e f. g.1 x v e)

  pub keep_move : (b : ℕ → ℕ) → Inv opening (next s (move b)) h l
  keep_move b =
      record {
        unused = i.unused;
        below = i.below;
        unsealed = i.unsealed;
        apart = i.apart;
        idle = i.idle;
        looked = i.looked;
        known = i.known;
        wrote = i.wrote;
        spared = i.spared;
        agrees = i.agrees;
        dated = i.dated;
        hand_dated = i.hand_dated;
        hand_same = i.hand_same;
        hand_free = i.hand_free;
        covers = i.covers;
        level = i.level;
        settled = i.settled;
        due = i.due;
        last = i.last;
        first = i.first;
        right = i.right;
        replays = i.replays;
        still = i.still;
      }

  pub keep_ready : (p c : ℕ) → May P s (ready p c) → Inv opening (next s (ready p c)) (note h (ready p c)) l
  keep_ready p c₀ g =
      record {
        unused = i.unused;
        below = λ q f. i.below q (certs q f);
        unsealed = λ q f. i.unsealed q (certs q f);
        apart = λ q r f d. i.apart q r (certs q f) (certs r d);
        idle = λ q x v f e. i.idle q x v (offs q f) e;
        looked = λ q x t v f b e.
            i.looked q x t v (certs q f) b
            (sym (row_other s.seen p (λ y. unseen) q x (λ n. other q n (certs q f))) ∙ e);
        known = i.known;
        wrote = λ q x v f e m.
            elim (cases_eq p q) [
              | inl n ↦ absurd (i.idle p x v (inr g.0) (e ∙ ap (λ (r : ℕ). by r v) (sym n)))
              | inr n ↦
                  ap (λ (ds : List (Operation K)). after m ds x) (put_other h.operations p [] q n) ∙ i.wrote q x v (lives q n f) e m
            ];
        spared = λ q x f e m.
            elim (cases_eq p q) [
              | inl n ↦ ap (λ (ds : List (Operation K)). after m ds x) (put_same h.operations p [] q n)
              | inr n ↦
                  ap (λ (ds : List (Operation K)). after m ds x) (put_other h.operations p [] q n) ∙ i.spared q x (lives q n f) e m
            ];
        agrees = λ q f m a.
            elim (cases_eq p q) [
              | inl n ↦ subst (Agrees m) (sym (put_same h.operations p [] q n)) tt
              | inr n ↦
                  subst (Agrees m) (sym (put_other h.operations p [] q n))
                  (i.agrees q (lives q n f) m (λ x t v e. a x t v (row_other s.seen p (λ y. unseen) q x n ∙ e)))
            ];
        dated = λ q x t v e.
            elim (cases_eq p q) [
              | inl n ↦ absurd (unsaw t v (sym (row_same s.seen p (λ y. unseen) q x n) ∙ e))
              | inr n ↦ i.dated q x t v (sym (row_other s.seen p (λ y. unseen) q x n) ∙ e)
            ];
        hand_dated = λ q x t v e. i.hand_dated q x t v (hands q x t v e);
        hand_same = λ q x t v u w e d.
            elim (cases_eq p q) [
              | inl n ↦ absurd (unsaw u w (sym (row_same s.seen p (λ y. unseen) q x n) ∙ d))
              | inr n ↦ i.hand_same q x t v u w (hands q x t v e) (sym (row_other s.seen p (λ y. unseen) q x n) ∙ d)
            ];
        hand_free = λ q x t v w e. i.hand_free q x t v w (hands q x t v e);
        covers = λ q x v f e.
            elim (cases_eq p q) [
              | inl n ↦ absurd (i.idle p x v (inr g.0) (e ∙ ap (λ (r : ℕ). by r v) (sym n)))
              | inr n ↦
                  elim (i.covers q x v (lives q n f) e) [
                    | inl d ↦ let a = put_other s.clock p c₀ q n in inl (omega arith)
                    | inr d ↦ let a = put_other s.need p 0 q n in inr (omega arith)
                  ]
            ];
        level = λ q f.
            let n : p ≡ q → ⊥ = λ n. other q n (certs q f) in
            let a = put_other s.clock p c₀ q n in
            let b = put_other s.need p 0 q n in
            let d = i.level q (certs q f) in
            omega arith;
        settled = λ x c. i.settled x (none_due_back s.held s.phase p running x (λ v t. none_due t) c);
        due = λ q x v t e f. i.due q x v t e (back s.phase p running q (sealing t) tt f);
        last = λ q x v e f. i.last q x v e (certs q f);
        first = λ q x v k t w e f. i.first q x v k t w e (certs q f);
        right = i.right;
        replays = i.replays;
        still = λ q x t v f e d c.
            i.still q x t v (certs q f) (sym (row_other s.seen p (λ y. unseen) q x (λ n. other q n (certs q f))) ∙ e) d
            (none_due_back s.held s.phase p running x (λ v t. none_due t) c);
      }
    where
      offs : (q : ℕ) → Off (put s.phase p running) q → Off s.phase q
      offs q (inl f) = inl (back s.phase p running q out tt f)
      offs q (inr f) = inr (back s.phase p running q starting tt f)

      hands : (q x t : ℕ) (v : K) → put s.hand p empty q ≡ full x t v → s.hand q ≡ full x t v
      hands q x t v e =
          elim (put_is s.hand p empty q (full x t v) e) [ inl d ↦ absurd (unfull empty x t v refl d.1) | inr d ↦ d.1 ]

      certs : (q : ℕ) → put s.phase p running q ≡ certifying → s.phase q ≡ certifying
      certs q f = back s.phase p running q certifying tt f

      other : (q : ℕ) → p ≡ q → s.phase q ≡ certifying → ⊥
      other q n f = differ starting certifying tt (sym g.0 ∙ ap s.phase n ∙ f)

      lives : (q : ℕ) → (p ≡ q → ⊥) → Live (put s.phase p running) q → Live s.phase q
      lives q n (inl f) = inl (sym (put_other s.phase p running q n) ∙ f)
      lives q n (inr f) = inr (certs q f)

      none_due : (t : ℕ) {x : ℕ} {v : K} → s.held x ≡ by p v → s.phase p ≡ sealing t → ⊥
      none_due t e f = differ starting (sealing t) tt (sym g.0 ∙ f)
