-- The law: every lawful run is as the run alone.
use Rattle.std.proofs.Common.{ℕ, List, [], ◌∷◌, refl}
use Rattle.protocol.specs.Protocol.{State, Event, May, next, fresh, state, Lawful}
use Rattle.protocol.specs.Protocol.Held.{nobody}
use Rattle.protocol.specs.Protocol.Seen.{unseen}
use Rattle.protocol.specs.Protocol.Hand.{empty}
use Rattle.protocol.specs.Protocol.Phase.{out, certifying}
use Rattle.protocol.specs.Protocol.Event.{begin, ready, look, check, extend, answer, own, write, certify, pass, seal, finish, move, store, fail, free, commit, close}
use Rattle.protocol.proofs.Sequence.{Sequence, note, sequence}
use Rattle.protocol.proofs.Invariant.{Inv, Looks, differ, unheld, unsaw, unfull}
use Rattle.protocol.proofs.Ends.{keep_begin, keep_ready, keep_fail, keep_commit, keep_close, keep_move}
use Rattle.protocol.proofs.Accesses.{keep_look, keep_check, keep_extend, keep_answer, keep_own, keep_write}
use Rattle.protocol.proofs.Certify.{keep_certify, keep_pass}
use Rattle.protocol.proofs.Seal.{keep_seal, keep_finish, keep_store, keep_free}

module _ {K : Type 0} (P : ℕ) (opening : ℕ → K) (b₀ : ℕ → ℕ) where
  pub start : Inv opening (fresh opening b₀) (sequence []) (λ k x. unseen)
  start =
      record {
        unused = λ k e. refl;
        below = λ p f. absurd (differ out certifying tt f);
        unsealed = λ p f. refl;
        apart = λ p q f g e. absurd (differ out certifying tt f);
        idle = λ p x v f e. unheld nobody p v refl e;
        looked = λ p x t v f b e. absurd (differ out certifying tt f);
        known = λ k x t v e. absurd (unsaw t v e);
        wrote = λ p x v f e. absurd (unheld nobody p v refl e);
        spared = λ p x f e m. refl;
        agrees = λ p f m a. tt;
        dated = λ p x t v e. absurd (unsaw t v e);
        hand_dated = λ p x t v e. absurd (unfull empty x t v refl e);
        hand_same = λ p x t v u w e. absurd (unfull empty x t v refl e);
        hand_free = λ p x t v w e. absurd (unfull empty x t v refl e);
        covers = λ p x v f e. absurd (unheld nobody p v refl e);
        level = λ p f. absurd (differ out certifying tt f);
        settled = λ x c. refl;
        due = λ p x v t e f. absurd (unheld nobody p v refl e);
        last = λ p x v e f k b m. refl;
        first = λ p x v k t w e f b. absurd (unheld nobody p v refl e);
        right = λ k x t v e. absurd (unsaw t v e);
        replays = λ k m a. tt;
        still = λ p x t v f e d c. absurd (differ out certifying tt f);
      }

  -- some looks go with every lawful run
  pub keep : (s : State K) (h : Sequence K) (l : Looks K) → Inv opening s h l → (e : Event K) → May P s e
      → (l' : Looks K) × Inv opening (next s e) (note h e) l'
  keep s h l i (begin p) g = (l, keep_begin P opening s h l i p g)
  keep s h l i (ready p c) g = (l, keep_ready P opening s h l i p c g)
  keep s h l i (look p x v) g = (l, keep_look P opening s h l i p x v g)
  keep s h l i (check p x) g = (l, keep_check P opening s h l i p x g)
  keep s h l i (extend p) g = (l, keep_extend P opening s h l i p g)
  keep s h l i (answer p x t v) g = (l, keep_answer P opening s h l i p x t v g)
  keep s h l i (own p x v) g = (l, keep_own P opening s h l i p x v g)
  keep s h l i (write p x v) g = (l, keep_write P opening s h l i p x v g)
  keep s h l i (certify p) g = (l, keep_certify P opening s h l i p g)
  keep s h l i (pass p x) g = (_, keep_pass P opening s h l i p x g)
  keep s h l i (seal p t b) g = (l, keep_seal P opening s h l i p t b g)
  keep s h l i (finish p) g = (l, keep_finish P opening s h l i p g)
  keep s h l i (move b) g = (l, keep_move P opening s h l i b)
  keep s h l i (store p x v t) g = (l, keep_store P opening s h l i p x v t g)
  keep s h l i (fail p r) g = (l, keep_fail P opening s h l i p r g)
  keep s h l i (free p x v) g = (l, keep_free P opening s h l i p x v g)
  keep s h l i (commit p t) g = (l, keep_commit P opening s h l i p t g)
  keep s h l i (close p) g = (l, keep_close P opening s h l i p g)

  pub always : (es : List (Event K)) → Lawful P opening b₀ es → (l : Looks K) × Inv opening (state opening b₀ es) (sequence es) l
  always [] g = (λ k x. unseen, start)
  always (e ∷ es) g =
      let a = always es g.0 in
      keep (state opening b₀ es) (sequence es) a.0 a.1 e g.1
