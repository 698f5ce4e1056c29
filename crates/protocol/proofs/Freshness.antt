-- What a live process has seen of an object, or has in hand, is as it was, or there was contention at that object.
use Rattle.std.proofs.Common.{◌≡◌, ℕ, not, T, eqb, ◌⊎◌, sym, refl, ap, ◌∙◌, subst, inl, inr}
use Rattle.std.proofs.lemmas.Bool.{cases_eq}
use Rattle.protocol.specs.Table.{put}
use Rattle.protocol.specs.Protocol.{State, Seen, Hand, Phase, Event, May, next}
use Rattle.protocol.specs.Protocol.Seen.{unseen, saw}
use Rattle.protocol.specs.Protocol.Hand.{empty, full}
use Rattle.protocol.specs.Protocol.Phase.{out, starting, running, certifying, aborting, sealing}
use Rattle.protocol.specs.Protocol.Event.{begin, ready, look, check, extend, answer, own, write, certify, pass, seal, finish, move, store, fail, free, commit, close}
use Rattle.protocol.proofs.Updates.{put_other, put_is}
use Rattle.protocol.proofs.Invariant.{Live, tag, back, row_other, row_same, unsaw, unfull}

-- what a live process has seen or has in hand is as it was, or there was contention
pub record Fresh {K : Type 0} (f : ℕ → Phase) (seen : ℕ → ℕ → Seen K) (hand : ℕ → Hand K) (stamp : ℕ → ℕ) (C : ℕ → ℕ → Type 0) : Type 0 where
  pub seens : (p x t : ℕ) (w : K) → Live f p → seen p x ≡ saw t w → (t ≡ stamp x) ⊎ C p x
  pub hands : (p x t : ℕ) (w : K) → Live f p → hand p ≡ full x t w → (t ≡ stamp x) ⊎ C p x

module _ {K : Type 0} (f : ℕ → Phase) (seen : ℕ → ℕ → Seen K) (hand : ℕ → Hand K) (stamp : ℕ → ℕ) (C : ℕ → ℕ → Type 0)
    (i : Fresh f seen hand stamp C) where
  -- contention stays on record, and phases only close
  pub fresh_turn : (f' : ℕ → Phase) (C' : ℕ → ℕ → Type 0) → ((p : ℕ) → Live f' p → Live f p) → ((p x : ℕ) → Live f' p → C p x → C' p x)
      → Fresh f' seen hand stamp C'
  fresh_turn f' C' k m =
      record {
        seens = λ p x t w l e. elim (i.seens p x t w (k p l) e) [ inl d ↦ inl d | inr d ↦ inr (m p x l d) ];
        hands = λ p x t w l e. elim (i.hands p x t w (k p l) e) [ inl d ↦ inl d | inr d ↦ inr (m p x l d) ];
      }

  pub fresh_look : (p x t : ℕ) (v : K) → t ≡ stamp x → Fresh f seen (put hand p (full x t v)) stamp C
  fresh_look p x t v h =
      record {
        seens = i.seens;
        hands = λ q y u w l e.
            elim (put_is hand p (full x t v) q (full y u w) e) [
              | inl d ↦
                  let a = d.1 in
                  let b : x ≡ y = cc in
                  let c : t ≡ u = cc in
                  inl (sym c ∙ h ∙ ap stamp b)
              | inr d ↦ i.hands q y u w l d.1
            ];
      }

  pub fresh_answer : (p x t : ℕ) (v : K) → hand p ≡ full x t v → Fresh f (put seen p (put (seen p) x (saw t v))) (put hand p empty) stamp C
  fresh_answer p x t v h =
      record {
        seens = λ q y u w l e.
            elim (cases_eq p q) [
              | inl n ↦
                  elim (put_is (seen p) x (saw t v) y (saw u w) (sym (row_same seen p (put (seen p) x (saw t v)) q y n) ∙ e)) [
                    | inl d ↦
                        let a = d.1 in
                        let c : t ≡ u = cc in
                        i.hands q y u w l (ap hand (sym n) ∙ h ∙ (let b : v ≡ w = cc in let z : x ≡ y = d.0 in cc))
                    | inr d ↦ i.seens q y u w l (ap (λ (z : ℕ). seen z y) (sym n) ∙ d.1)
                  ]
              | inr n ↦ i.seens q y u w l (sym (row_other seen p (put (seen p) x (saw t v)) q y n) ∙ e)
            ];
        hands = λ q y u w l e.
            elim (put_is hand p empty q (full y u w) e)
            [ inl d ↦ absurd (unfull empty y u w refl d.1) | inr d ↦ i.hands q y u w l d.1 ];
      }

  pub fresh_store : (x t : ℕ) → ((p : ℕ) → Live f p → C p x) → Fresh f seen hand (put stamp x t) C
  fresh_store x t c =
      record {
        seens = λ q y u w l e. by_case q y u l (i.seens q y u w l e);
        hands = λ q y u w l e. by_case q y u l (i.hands q y u w l e);
      }
    where
      by_case : (q y u : ℕ) → Live f q → (u ≡ stamp y) ⊎ C q y → (u ≡ put stamp x t y) ⊎ C q y
      by_case q y u l (inr d) = inr d
      by_case q y u l (inl d) =
          elim (cases_eq x y) [ inl n ↦ inr (subst (C q) n (c q l)) | inr n ↦ inl (d ∙ sym (put_other stamp x t y n)) ]

  pub fresh_ready : (p : ℕ) → ((q : ℕ) → (p ≡ q → ⊥) → Live (put f p running) q → Live f q)
      → Fresh (put f p running) (put seen p (λ x. unseen)) (put hand p empty) stamp C
  fresh_ready p k =
      record {
        seens = λ q y u w l e.
            elim (cases_eq p q) [
              | inl n ↦ absurd (unsaw u w (sym (row_same seen p (λ x. unseen) q y n) ∙ e))
              | inr n ↦ i.seens q y u w (k q n l) (sym (row_other seen p (λ x. unseen) q y n) ∙ e)
            ];
        hands = λ q y u w l e.
            elim (put_is hand p empty q (full y u w) e)
            [ inl d ↦ absurd (unfull empty y u w refl d.1) | inr d ↦ i.hands q y u w (k q d.0 l) d.1 ];
      }

pub live_back : (f : ℕ → Phase) (p : ℕ) (b : Phase) → T (not (eqb (tag b) 1)) → T (not (eqb (tag b) 2)) → (q : ℕ) → Live (put f p b) q → Live f q
live_back f p b nr nc q (inl e) = inl (back f p b q running nr e)
live_back f p b nr nc q (inr e) = inr (back f p b q certifying nc e)

module _ {K : Type 0} where
  abbrev pub FreshOf : State K → (ℕ → ℕ → Type 0) → Type 0
  FreshOf s C = Fresh s.phase s.seen s.hand s.stamp C

  -- where an event stores an object, every live process has contention there
  abbrev pub Meets : State K → Event K → (ℕ → ℕ → Type 0) → Type 0
  Meets s (begin p) C = Unit {0}
  Meets s (ready p c) C = Unit {0}
  Meets s (look p x v) C = Unit {0}
  Meets s (check p x) C = Unit {0}
  Meets s (extend p) C = Unit {0}
  Meets s (answer p x t v) C = Unit {0}
  Meets s (own p x v) C = Unit {0}
  Meets s (write p x v) C = Unit {0}
  Meets s (certify p) C = Unit {0}
  Meets s (pass p x) C = Unit {0}
  Meets s (seal p t b) C = Unit {0}
  Meets s (finish p) C = Unit {0}
  Meets s (move b) C = Unit {0}
  Meets s (store p x v t) C = (q : ℕ) → Live s.phase q → C q x
  Meets s (fail p r) C = Unit {0}
  Meets s (free p x v) C = Unit {0}
  Meets s (commit p t) C = Unit {0}
  Meets s (close p) C = Unit {0}

  pub fresh_next : (P : ℕ) (s : State K) (C : ℕ → ℕ → Type 0) (e : Event K) → May P s e → Meets s e C → FreshOf s C → FreshOf (next s e) C
  fresh_next P s C (begin p) g m i = fresh_turn _ _ _ _ _ i _ C (live_back s.phase p starting tt tt) (λ q x l c. c)
  fresh_next P s C (ready p c) g m i = fresh_ready _ _ _ _ _ i p (λ q n l. was q n l)
    where
      was : (q : ℕ) → (p ≡ q → ⊥) → Live (put s.phase p running) q → Live s.phase q
      was q n (inl e) = inl (sym (put_other s.phase p running q n) ∙ e)
      was q n (inr e) = inr (sym (put_other s.phase p running q n) ∙ e)
  fresh_next P s C (look p x v) g m i = fresh_look _ _ _ _ _ i p x (s.stamp x) v refl
  fresh_next P s C (check p x) g m i = i
  fresh_next P s C (extend p) g m i = i
  fresh_next P s C (answer p x t v) g m i = fresh_answer _ _ _ _ _ i p x t v g.1
  fresh_next P s C (own p x v) g m i = i
  fresh_next P s C (write p x v) g m i = i
  fresh_next P s C (certify p) g m i = fresh_turn _ _ _ _ _ i (put s.phase p certifying) C was (λ q x l c. c)
    where
      was : (q : ℕ) → Live (put s.phase p certifying) q → Live s.phase q
      was q (inl e) = inl (back s.phase p certifying q running tt e)
      was q (inr e) =
          elim (cases_eq p q) [
            | inl n ↦ inl (ap s.phase (sym n) ∙ g.runs)
            | inr n ↦ inr (sym (put_other s.phase p certifying q n) ∙ e)
          ]
  fresh_next P s C (pass p x) g m i = i
  fresh_next P s C (seal p t b) g m i = fresh_turn _ _ _ _ _ i _ C (live_back s.phase p (sealing t) tt tt) (λ q x l c. c)
  fresh_next P s C (finish p) g m i = fresh_turn _ _ _ _ _ i _ C (live_back s.phase p aborting tt tt) (λ q x l c. c)
  fresh_next P s C (move b) g m i = i
  fresh_next P s C (store p x v t) g m i = fresh_store _ _ _ _ _ i x t m
  fresh_next P s C (fail p r) g m i = fresh_turn _ _ _ _ _ i _ C (live_back s.phase p aborting tt tt) (λ q x l c. c)
  fresh_next P s C (free p x v) g m i = i
  fresh_next P s C (commit p t) g m i = fresh_turn _ _ _ _ _ i _ C (live_back s.phase p out tt tt) (λ q x l c. c)
  fresh_next P s C (close p) g m i = fresh_turn _ _ _ _ _ i _ C (live_back s.phase p out tt tt) (λ q x l c. c)
