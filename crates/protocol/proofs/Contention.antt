-- Whose stamp has changed was held by another meanwhile.
use Rattle.std.proofs.Common.{◌≡◌, ℕ, List, [], ◌∷◌, sym, refl, ap, ◌∙◌, subst, inl, inr}
use Rattle.std.proofs.lemmas.Bool.{cases_eq}
use Rattle.protocol.specs.Table.{put}
use Rattle.protocol.specs.Protocol.{State, Phase, Cause, Event, May, state, Lawful, Why}
use Rattle.protocol.specs.Protocol.Hand.{empty}
use Rattle.protocol.specs.Protocol.Phase.{out, starting, running, certifying, aborting, sealing}
use Rattle.protocol.specs.Protocol.Event.{begin, ready, look, check, extend, answer, own, write, certify, pass, seal, finish, move, store, fail, free, commit, close}
use Rattle.protocol.specs.History.{history}
use Rattle.protocol.proofs.Updates.{put_other}
use Rattle.protocol.proofs.Invariant.{Live, differ, back, unsaw, unfull}
use Rattle.protocol.specs.Protocol.Cause.{busy, stale, spent, withdrawn}
use Rattle.protocol.specs.Contention.{Contended, Justified, Names}
use Rattle.protocol.specs.Contention.From.{here, there}
use Rattle.protocol.proofs.Laws.{all}
use Rattle.protocol.proofs.Freshness.{Fresh, fresh_turn, fresh_look, fresh_answer, fresh_store, fresh_ready, live_back}

live_in : (f : ℕ → Phase) (p : ℕ) → Live f p → f p ≡ out → ⊥
live_in f p (inl e) d = differ running out tt (sym e ∙ d)
live_in f p (inr e) d = differ certifying out tt (sym e ∙ d)

module _ {K : Type 0} (P : ℕ) (opening : ℕ → K) (b₀ : ℕ → ℕ) where
  abbrev Kept : List (Event K) → Type 0
  Kept es =
      Fresh (state opening b₀ es).phase (state opening b₀ es).seen (state opening b₀ es).hand (state opening b₀ es).stamp
      (Contended opening b₀ es)

  -- contention of a run is contention of a longer one, for a transaction that goes on
  longer : (e : Event K) (es : List (Event K)) (p x : ℕ) → (history es).current p ≡ (history (e ∷ es)).current p → Contended opening b₀ es p x
      → Contended opening b₀ (e ∷ es) p x
  longer e es p x w c =
      record {
        moment = c.moment;
        earlier = there e c.earlier;
        same = c.same ∙ w;
        open_p = c.open_p;
        other = c.other;
        content = c.content;
        not_p = c.not_p;
        holds = c.holds;
        open_other = c.open_other;
      }

  kept : (es : List (Event K)) → Lawful P opening b₀ es → Kept es
  kept [] m =
      record {
        seens = λ p x t w l e. absurd (unsaw t w e);
        hands = λ p x t w l e. absurd (unfull empty x t w refl e);
      }
  kept (e ∷ es) m = step e m.1 (kept es m.0)
    where
      s : State K
      s = state opening b₀ es

      same : (e : Event K) → ((p : ℕ) → (history es).current p ≡ (history (e ∷ es)).current p) → Kept es
          → Fresh (state opening b₀ es).phase (state opening b₀ es).seen (state opening b₀ es).hand (state opening b₀ es).stamp
          (Contended opening b₀ (e ∷ es))
      same e w i = fresh_turn _ _ _ _ _ i (state opening b₀ es).phase (Contended opening b₀ (e ∷ es)) (λ p l. l) (λ p x l c. longer e es p x (w p) c)

      step : (e : Event K) → May P (state opening b₀ es) e → Kept es → Kept (e ∷ es)
      step (begin p) g i =
          fresh_turn _ _ _ _ _ i (put (state opening b₀ es).phase p starting) (Contended opening b₀ (begin p ∷ es))
          (live_back (state opening b₀ es).phase p starting tt tt)
          (λ q x l c.
          longer (begin p) es q x
          (sym (put_other (history es).current p (history es).begun q
          (λ n. gone q (live_back (state opening b₀ es).phase p starting tt tt q l) n)))
          c)
        where
          gone : (q : ℕ) → Live (state opening b₀ es).phase q → p ≡ q → ⊥
          gone q l n = live_in (state opening b₀ es).phase q l (ap (state opening b₀ es).phase (sym n) ∙ g)
      step (ready p c) g i =
          fresh_ready _ _ _ _ _ (same (ready p c) (λ q. refl) i) p (λ q n l. was q n l)
        where
          was : (q : ℕ) → (p ≡ q → ⊥) → Live (put (state opening b₀ es).phase p running) q → Live (state opening b₀ es).phase q
          was q n (inl e) = inl (sym (put_other (state opening b₀ es).phase p running q n) ∙ e)
          was q n (inr e) = inr (sym (put_other (state opening b₀ es).phase p running q n) ∙ e)
      step (look p x v) g i = fresh_look _ _ _ _ _ (same (look p x v) (λ q. refl) i) p x ((state opening b₀ es).stamp x) v refl
      step (check p x) g i = same (check p x) (λ q. refl) i
      step (extend p) g i = same (extend p) (λ q. refl) i
      step (answer p x t v) g i = fresh_answer _ _ _ _ _ (same (answer p x t v) (λ q. refl) i) p x t v g.1
      step (own p x v) g i = same (own p x v) (λ q. refl) i
      step (write p x v) g i = same (write p x v) (λ q. refl) i
      step (certify p) g i =
          fresh_turn _ _ _ _ _ (same (certify p) (λ q. refl) i) (put (state opening b₀ es).phase p certifying) (Contended opening b₀ (certify p ∷ es))
          was (λ q x l c. c)
        where
          was : (q : ℕ) → Live (put (state opening b₀ es).phase p certifying) q → Live (state opening b₀ es).phase q
          was q (inl e) = inl (back (state opening b₀ es).phase p certifying q running tt e)
          was q (inr e) =
              elim (cases_eq p q) [
                | inl n ↦ inl (ap (state opening b₀ es).phase (sym n) ∙ g.runs)
                | inr n ↦ inr (sym (put_other (state opening b₀ es).phase p certifying q n) ∙ e)
              ]
      step (pass p x) g i = same (pass p x) (λ q. refl) i
      step (seal p t b) g i =
          fresh_turn _ _ _ _ _ (same (seal p t b) (λ q. refl) i) (put (state opening b₀ es).phase p (sealing t)) (Contended opening b₀ (seal p t b ∷ es))
          (live_back (state opening b₀ es).phase p (sealing t) tt tt) (λ q x l c. c)
      step (move b) g i = same (move b) (λ q. refl) i
      step (store p x v t) g i =
          fresh_store _ _ _ _ _ (same (store p x v t) (λ q. refl) i) x t
          (λ q l.
          record {
            moment = es;
            earlier = there (store p x v t) here;
            same = refl;
            open_p = live_in (state opening b₀ es).phase q l;
            other = p;
            content = v;
            not_p = λ n. dead q l n;
            holds = g.1;
            open_other = λ d. differ (sealing t) out tt (sym g.0 ∙ d);
          })
        where
          dead : (q : ℕ) → Live (state opening b₀ es).phase q → p ≡ q → ⊥
          dead q (inl e) n = differ (sealing t) running tt (sym g.0 ∙ ap (state opening b₀ es).phase n ∙ e)
          dead q (inr e) n = differ (sealing t) certifying tt (sym g.0 ∙ ap (state opening b₀ es).phase n ∙ e)
      step (fail p r) g i =
          fresh_turn _ _ _ _ _ (same (fail p r) (λ q. refl) i) (put (state opening b₀ es).phase p aborting) (Contended opening b₀ (fail p r ∷ es))
          (live_back (state opening b₀ es).phase p aborting tt tt) (λ q x l c. c)
      step (finish p) g i =
          fresh_turn _ _ _ _ _ (same (finish p) (λ q. refl) i) (put (state opening b₀ es).phase p aborting) (Contended opening b₀ (finish p ∷ es))
          (live_back (state opening b₀ es).phase p aborting tt tt) (λ q x l c. c)
      step (free p x v) g i = same (free p x v) (λ q. refl) i
      step (commit p t) g i =
          fresh_turn _ _ _ _ _ (same (commit p t) (λ q. refl) i) (put (state opening b₀ es).phase p out) (Contended opening b₀ (commit p t ∷ es))
          (live_back (state opening b₀ es).phase p out tt tt) (λ q x l c. c)
      step (close p) g i =
          fresh_turn _ _ _ _ _ (same (close p) (λ q. refl) i) (put (state opening b₀ es).phase p out) (Contended opening b₀ (close p ∷ es))
          (live_back (state opening b₀ es).phase p out tt tt) (λ q x l c. c)

pub justified : (K : Type 0) → Justified K
justified K P opening b es p r m x n = go r m.1.0 m.1.1 n
  where
    go : (r : Cause) → Live (state opening b es).phase p → Why (state opening b es) p r → Names r x → Contended opening b es p x
    go (busy y) l w e =
        record {
          moment = es;
          earlier = here;
          same = refl;
          open_p = live_in (state opening b es).phase p l;
          other = w.0;
          content = w.1;
          not_p = w.3;
          holds = ap (state opening b es).held (sym e) ∙ w.2;
          open_other = λ d. (all P opening b es m.0).inv.idle w.0 y w.1 (inl d) w.2;
        }
    go (stale y) l w e =
        elim ((kept P opening b es m.0).seens p y w.0 w.1 l w.2)
        [ inl d ↦ absurd (w.3 d) | inr d ↦ subst (Contended opening b es p) e d ]
    go spent l w e = absurd e
    go withdrawn l w e = absurd e
