-- Both promises.
use Rattle.std.proofs.Common.{◌≡◌, ℕ, ◌≤◌, not, T, eqb, List, [], ◌∷◌, sym, refl, ap, ◌∙◌, inl, inr, arith}
use Rattle.protocol.specs.Protocol.{State, Phase, Cause, Event, May, next, fresh, state, Lawful}
use Rattle.protocol.specs.Protocol.Held.{nobody, by}
use Rattle.protocol.specs.Protocol.Seen.{unseen}
use Rattle.protocol.specs.Protocol.Phase.{out, starting, running, certifying, aborting, sealing}
use Rattle.protocol.specs.Protocol.Event.{begin, ready, look, check, extend, answer, own, write, certify, pass, seal, finish, move, store, fail, free, commit, close}
use Rattle.protocol.specs.History.{History, enter, history}
use Rattle.protocol.specs.History.Mark.{none, some}
use Rattle.protocol.proofs.Invariant.{Inv, Looks, Live, tag, differ, unheld}
use Rattle.protocol.proofs.Facts.{Ghost, Facts, Early}
use Rattle.protocol.specs.Alone.{Operation}
use Rattle.protocol.proofs.Sequence.{Sequence, sequence, note, add, alone}
use Rattle.protocol.specs.Consistent.{Consistent}
use Rattle.protocol.proofs.Places.{start, keep}
use Rattle.protocol.proofs.Preserved.{mark, keep_begin, keep_ready, keep_look, keep_check, keep_extend, keep_answer, keep_own, keep_write, keep_certify, keep_pass, keep_seal, keep_finish, keep_move, keep_store, keep_fail, keep_free, keep_commit, keep_close}
use Rattle.protocol.proofs.Chain.{consistent}
use Rattle.protocol.specs.Commits.{Commits, commits_of, noted, performed}
use Rattle.protocol.specs.Serial.{Law}
use Rattle.protocol.specs.Alone.Operation.{got, set}
use Rattle.protocol.proofs.Linking.{Linked, Young, link_turn, link_begin, link_ready, link_performed, link_certify, link_seal, link_end, memory_is, replays_all, strict_all}

none_some : {n : ℕ} → none ≡ some n → ⊥
none_some e = let z : ◌≡◌ {A = ℕ} 0 1 = cc in omega arith

abbrev pub first_ghost : Ghost
first_ghost =
    record { stamp_of = λ j. 0; since = λ p. 0; target = λ p. 0; start = λ p. 0; dawn = λ t. 0; dusk = λ t. 0 }

module _ {K : Type 0} (P : ℕ) (opening : ℕ → K) (b₀ : ℕ → ℕ) where
  off : (p : ℕ) → Live (λ q. out) p → ⊥
  off p (inl e) = differ out running tt e
  off p (inr e) = differ out certifying tt e

  pub facts : Facts P (fresh opening b₀) (history {K = K} []) first_ghost
  facts =
      record {
        currents =
            record {
              alive = λ p n. absurd (n refl);
              single = λ p q n. absurd (n refl);
              made = λ j m n. absurd (omega arith);
              once = λ j k m n. absurd (omega arith);
              unsealed = λ p j e m n. absurd (omega arith);
              blank = λ t n. refl;
              clean = λ p e. refl;
            };
        vers =
            record {
              replaced = λ j x i e. absurd (none_some e);
              newest = λ x. omega arith;
              present = λ x. omega arith;
              older = λ j y i m n. absurd (omega arith);
              positive = λ j m n. absurd (omega arith);
              opening = refl;
              stamped = λ x. refl;
              settled = λ x c. refl;
              coming = λ p x v t e. absurd (unheld nobody p v refl e);
            };
        logs =
            record {
              bound = λ t c e. absurd e;
              based = λ t. omega arith;
              recent = λ t x j u i e. absurd e;
              has = λ p x v e. absurd (off p e);
              had = λ p x e. absurd (off p e);
            };
        fixed = λ p y v e. absurd (differ out certifying tt e);
        procs = λ p e. absurd (off p e);
        cons = record { even = λ t e y v d. absurd d; whole = λ n y v m k. absurd (omega arith) };
        times =
            record {
              dawned = λ t. omega arith;
              dusked = λ t. omega arith;
              begun_at_now = λ t n. absurd (omega arith);
              ended_now = λ t n e. absurd (none_some e);
              ordered = λ t u n m. absurd (omega arith);
              seal_dawn = λ j m n. absurd (omega arith);
              seal_dusk = λ j n m k. absurd (omega arith);
              read_dusk = λ t n c e. absurd (none_some e);
              lasted = λ t n e. absurd (none_some e);
              read_dawn = λ t c e. absurd e;
              live_dawn = λ p e. absurd (off p e);
              going = λ p n m. absurd (m refl);
              unborn = λ t n m e. none_some e;
            };
      }

  pub keeps : (s : State K) (h : Sequence K) (l : Looks K) → Inv opening s h l → (a : History) (g : Ghost) → Facts P s a g → (e : Event K) → May P s e
      → Facts P (next s e) (enter a e) (mark a g e)
  keeps s h l v a g i (begin p) m = keep_begin P opening s h l v a g i p m
  keeps s h l v a g i (ready p c) m = keep_ready P opening s h l v a g i p c m
  keeps s h l v a g i (look p x w) m = keep_look P opening s h l v a g i p x w m
  keeps s h l v a g i (check p x) m = keep_check P opening s h l v a g i p x m
  keeps s h l v a g i (extend p) m = keep_extend P opening s h l v a g i p m
  keeps s h l v a g i (answer p x t w) m = keep_answer P opening s h l v a g i p x t w m
  keeps s h l v a g i (own p x w) m = keep_own P opening s h l v a g i p x w
  keeps s h l v a g i (write p x w) m = keep_write P opening s h l v a g i p x w m
  keeps s h l v a g i (certify p) m = keep_certify P opening s h l v a g i p m
  keeps s h l v a g i (pass p x) m = keep_pass P opening s h l v a g i p x m
  keeps s h l v a g i (seal p t b) m = keep_seal P opening s h l v a g i p t b m
  keeps s h l v a g i (finish p) m = keep_finish P opening s h l v a g i p m
  keeps s h l v a g i (move b) m = keep_move P opening s h l v a g i b m
  keeps s h l v a g i (store p x w t) m = keep_store P opening s h l v a g i p x w t m
  keeps s h l v a g i (fail p r) m = keep_fail P opening s h l v a g i p r m
  keeps s h l v a g i (free p x w) m = keep_free P opening s h l v a g i p x w m
  keeps s h l v a g i (commit p t) m = keep_commit P opening s h l v a g i p t m
  keeps s h l v a g i (close p) m = keep_close P opening s h l v a g i p m

  -- the two records agree
  abbrev pub Link : State K → History → Sequence K → Commits K → Type 0
  Link s a h y = Linked s.phase a.current a.begun a.begun_at a.ended h y

  pub start_link : Link (fresh opening b₀) (history {K = K} []) (sequence []) (commits_of [])
  start_link =
      record {
        counts = refl;
        same = λ p e. refl;
        placed = λ p e. refl;
        sits = λ p e. absurd (differ out certifying tt e);
        fresh = λ p k e n. absurd (omega arith);
        once = λ j k n. absurd (omega arith);
        known = λ k n. absurd (omega arith);
        opens = λ p e. refl;
        empty_new = λ t n. (refl, refl);
        empty_start = λ p e. refl;
        scripts = λ k n. absurd (omega arith);
        strict = λ j k n m. absurd (omega arith);
      }

  module _ (s : State K) (h : Sequence K) (l : Looks K) (v : Inv opening s h l) (a : History) (g : Ghost) (i : Facts P s a g) (y : Commits K)
      (c : Link s a h y) where
    inside : (p : ℕ) (b : Phase) → s.phase p ≡ b → T (not (eqb (tag b) 0)) → s.phase p ≡ out → ⊥
    inside p b f n e = differ b out n (sym f ∙ e)

    ended : (p : ℕ) (b : Phase) → s.phase p ≡ b → T (not (eqb (tag b) 0)) → Link (next s (close p)) (enter {K = K} a (close p)) h y
    ended p b f n =
        link_end _ _ _ _ _ _ _
        (link_turn _ _ _ _ _ _ _ c p out live young early tt tt) p a.now i.times.begun_at_now
      where
        live : Live (λ r. out) p → Live s.phase p
        live (inl e) = absurd (differ out running tt e)
        live (inr e) = absurd (differ out certifying tt e)

        young : Young (λ r. out) p → Young s.phase p
        young (inl e) = absurd (differ out starting tt e)
        young (inr e) = absurd (differ out running tt e)

        early : Early (λ r. out) p → Early s.phase p
        early (inl e) = absurd (differ out starting tt e)
        early (inr e) = inr (live e)

    failed : (p : ℕ) (r : Cause) → Link (next s (fail p r)) (enter {K = K} a (fail p r)) h y
    failed p r = link_turn _ _ _ _ _ _ _ c p aborting live young early tt tt
      where
        live : Live (λ r. aborting) p → Live s.phase p
        live (inl e) = absurd (differ aborting running tt e)
        live (inr e) = absurd (differ aborting certifying tt e)

        young : Young (λ r. aborting) p → Young s.phase p
        young (inl e) = absurd (differ aborting starting tt e)
        young (inr e) = absurd (differ aborting running tt e)

        early : Early (λ r. aborting) p → Early s.phase p
        early (inl e) = absurd (differ aborting starting tt e)
        early (inr e) = inr (live e)

    performed_link : (p : ℕ) (d : Operation K) → s.phase p ≡ running → Linked s.phase a.current a.begun a.begun_at a.ended (add h p d) (performed y (a.current p) d)
    performed_link p d f =
        link_performed _ _ _ _ _ _ _ c p d f (λ q. i.currents.single p q (inside p running f tt)) (i.currents.alive p (inside p running f tt))

    pub links : (e : Event K) → May P s e → Link (next s e) (enter a e) (note h e) (noted a y e)
    links (begin p) m = link_begin _ _ _ _ _ _ _ c p a.now m i.times.unborn
    links (ready p b) m = link_ready _ _ _ _ _ _ _ c p m.0
    links (look p x w) m = c
    links (check p x) m = c
    links (extend p) m = c
    links (answer p x t w) m = performed_link p (got x w) m.0
    links (own p x w) m = performed_link p (got x w) m.0.runs
    links (write p x w) m = performed_link p (set x w) m.0.runs
    links (certify p) m =
        link_certify _ _ _ _ _ _ _ c p m.runs (v.unused h.count (omega arith))
        (λ q. i.currents.single p q (inside p running m.runs tt)) (i.currents.alive p (inside p running m.runs tt))
        (λ n. i.times.going p n (inside p running m.runs tt))
    links (pass p x) m = c
    links (seal p t b) m =
        link_seal _ _ _ _ _ _ _ c p (sealing t) tt tt tt m.0 (λ q. i.currents.single p q (inside p certifying m.0 tt))
        (i.currents.alive p (inside p certifying m.0 tt))
    links (finish p) m =
        link_seal _ _ _ _ _ _ _ c p aborting tt tt tt m.0 (λ q. i.currents.single p q (inside p certifying m.0 tt))
        (i.currents.alive p (inside p certifying m.0 tt))
    links (move b) m = c
    links (store p x w t) m = c
    links (fail p r) m = failed p r
    links (free p x w) m = c
    links (commit p t) m = ended p (sealing t) m.0 tt
    links (close p) m = ended p aborting m.0 tt

  pub record All (es : List (Event K)) : Type 0 where
    pub looks : Looks K
    pub ghost : Ghost
    pub inv : Inv opening (state opening b₀ es) (sequence es) looks
    pub kept : Facts P (state opening b₀ es) (history es) ghost
    pub linked : Link (state opening b₀ es) (history es) (sequence es) (commits_of es)

  unfoldable pub all : (es : List (Event K)) → Lawful P opening b₀ es → All es
  all [] m = record { looks = λ k x. unseen; ghost = first_ghost; inv = start P opening b₀; kept = facts; linked = start_link }
  all (e ∷ es) m =
      let a = all es m.0 in
      let n = keep P opening b₀ (state opening b₀ es) (sequence es) a.looks a.inv e m.1 in
      record {
        looks = n.0;
        ghost = mark (history es) a.ghost e;
        inv = n.1;
        kept = keeps (state opening b₀ es) (sequence es) a.looks a.inv (history es) a.ghost a.kept e m.1;
        linked =
            links (state opening b₀ es) (sequence es) a.looks a.inv (history es) a.ghost a.kept (commits_of es) a.linked e m.1;
      }

pub serial_law : (K : Type 0) → Law K
serial_law K P opening b es m =
    let a = all P opening b es m in
    let i = a.inv in
    let c = a.linked in
    let n : (commits_of es).certs ≤ (commits_of es).certs = omega arith in
    record {
      reads =
          replays_all _ _ _ _ _ (sequence es) (commits_of es) c opening
          (λ k. i.replays k (alone opening (sequence es).script k) (λ x t v e. i.right k x t v e)) (commits_of es).certs n;
      leaves = λ x q.
          i.settled x (λ p v t e f. due_soon x q p v t e f)
          ∙ ap (λ (k : ℕ). alone opening (sequence es).script k x) c.counts
          ∙ sym (memory_is _ _ _ _ _ (sequence es) (commits_of es) c opening (commits_of es).certs n x);
      ordered = strict_all _ _ _ _ _ (sequence es) (commits_of es) c (history es) refl refl (commits_of es).certs n;
    }
  where
    -- an object that a sealed transaction has still to write is not at its newest version
    due_soon : (x : ℕ) → (history es).stored x ≡ (history es).latest x → (p : ℕ) (v : K) (t : ℕ) → (state opening b es).held x ≡ by p v
        → (state opening b es).phase p ≡ sealing t → ⊥
    due_soon x q p v t e f =
        let a = all P opening b es m in
        let d = (a.inv.due p x v t e f).1 in
        let k = a.kept.vers.coming p x v t e f in
        let j = a.kept.vers.stamped x in
        let r : a.ghost.stamp_of ((history es).stored x) ≡ a.ghost.stamp_of ((history es).latest x) = ap a.ghost.stamp_of q in
        omega arith

pub consistent_law : (K : Type 0) → Consistent K
consistent_law K P opening b es m t fair x j u i h o n c =
    let a = all P opening b es m in
    consistent P (state opening b es) (history es) a.ghost a.kept t fair x j u i h o n c
