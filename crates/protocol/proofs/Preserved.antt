-- Every event keeps what is kept of the versions.
use Rattle.std.proofs.Common.{◌≡◌, ℕ, suc, ◌<◌, ◌≤◌, true, false, not, T, eqb, ◌∷◌, sym, refl, ap, ◌∙◌, subst, inl, inr, arith}
use Rattle.std.proofs.lemmas.Bool.{cases_eq}
use Rattle.protocol.specs.Table.{put}
use Rattle.protocol.specs.Protocol.{State, Phase, Cause, Event, May, Open, Same, Empty, next}
use Rattle.protocol.specs.Protocol.Held.{nobody, by}
use Rattle.protocol.specs.Protocol.Seen.{unseen, saw}
use Rattle.protocol.specs.Protocol.Hand.{empty, full}
use Rattle.protocol.specs.Protocol.Phase.{out, starting, running, certifying, aborting, sealing}
use Rattle.protocol.specs.Protocol.Event.{begin, ready, look, check, extend, answer, own, write, certify, pass, seal, finish, move, store, fail, free, commit, close}
use Rattle.protocol.specs.History.{History, In, writes, enter}
use Rattle.protocol.specs.History.Access.{rd, ov}
use Rattle.protocol.specs.History.Mark.{some}
use Rattle.protocol.proofs.Updates.{put_same, put_other, put_is}
use Rattle.protocol.proofs.Invariant.{Inv, Looks, Live, NoneDue, tag, differ, back, unheld, one_holder}
use Rattle.protocol.proofs.Facts.{Ghost, Facts, Early, Fixed, Row, row, Proc}
use Rattle.protocol.proofs.Sequence.{Sequence}
use Rattle.protocol.proofs.Current.{current_turn, current_seal, current_log, current_begin}
use Rattle.protocol.proofs.Versions.{vers_turn, vers_log, vers_held, vers_store, vers_seal, spared}
use Rattle.protocol.proofs.Logs.{logs_turn, logs_begin, logs_ready, logs_answer, logs_write, logs_free, logs_seal, live_was}
use Rattle.protocol.proofs.Process.{row_ready, row_look, row_check, row_extend, row_answer, row_write, row_certify, proc_ready, proc_move, proc_store, proc_seal, proc_look, proc_write, proc_certify, proc_check, proc_extend, proc_answer, reads_newer, new_newer, aim}
use Rattle.protocol.proofs.Times.{cons_ready, cons_write, cons_answer, cons_seal, times_tick, times_turn, times_ready, times_log, times_begin, times_seal, times_end}
use Rattle.protocol.proofs.Seal.{rises_to}

module _ {K : Type 0} where
  abbrev pub mark : History → Ghost → Event K → Ghost
  mark a g (begin p) =
      record { stamp_of = g.stamp_of; since = g.since; target = g.target; start = g.start; dawn = put g.dawn a.begun a.seals; dusk = g.dusk }
  mark a g (ready p c) =
      record {
        stamp_of = g.stamp_of;
        since = put g.since p a.seals;
        target = put g.target p 0;
        start = put g.start p c;
        dawn = g.dawn;
        dusk = g.dusk;
      }
  mark a g (look p x v) =
      record {
        stamp_of = g.stamp_of;
        since = put g.since p a.seals;
        target = put g.target p (a.stored x);
        start = g.start;
        dawn = g.dawn;
        dusk = g.dusk;
      }
  mark a g (check p x) = g
  mark a g (extend p) = g
  mark a g (answer p x t v) = g
  mark a g (own p x v) = g
  mark a g (write p x v) =
      record {
        stamp_of = g.stamp_of;
        since = put g.since p a.seals;
        target = put g.target p (a.stored x);
        start = g.start;
        dawn = g.dawn;
        dusk = g.dusk;
      }
  mark a g (certify p) =
      record {
        stamp_of = g.stamp_of;
        since = put g.since p a.seals;
        target = g.target;
        start = g.start;
        dawn = g.dawn;
        dusk = g.dusk;
      }
  mark a g (pass p x) = g
  mark a g (seal p t b) =
      record {
        stamp_of = put g.stamp_of (suc a.seals) t;
        since = g.since;
        target = g.target;
        start = g.start;
        dawn = g.dawn;
        dusk = g.dusk;
      }
  mark a g (finish p) = g
  mark a g (move b) = g
  mark a g (store p x v t) = g
  mark a g (fail p r) = g
  mark a g (free p x v) = g
  mark a g (commit p t) =
      record { stamp_of = g.stamp_of; since = g.since; target = g.target; start = g.start; dawn = g.dawn; dusk = put g.dusk (a.current p) a.seals }
  mark a g (close p) =
      record { stamp_of = g.stamp_of; since = g.since; target = g.target; start = g.start; dawn = g.dawn; dusk = put g.dusk (a.current p) a.seals }

  module _ (P : ℕ) (opening : ℕ → K) (s : State K) (h : Sequence K) (l : Looks K) (v₀ : Inv opening s h l) (a : History) (g : Ghost)
      (i : Facts P s a g) where
    abbrev Next : Event K → Type 0
    Next e = Facts P (next s e) (enter a e) (mark a g e)

    abbrev then : Event K → ℕ → Row K
    then e q = row (next s e) (enter a e) (mark a g e) q

    abbrev Good : Row K → Type 0
    Good r = Proc P s.bank s.stamp a.stored a.over g.stamp_of a.seals r

    -- a process that is not out and not p has another transaction
    apart : (p q : ℕ) → (s.phase p ≡ out → ⊥) → Live s.phase q → (p ≡ q → ⊥) → a.current p ≡ a.current q → ⊥
    apart p q n m d e = d (i.currents.single p q n (inside m) e)
      where
        inside : Live s.phase q → s.phase q ≡ out → ⊥
        inside (inl f) e = differ running out tt (sym f ∙ e)
        inside (inr f) e = differ certifying out tt (sym f ∙ e)

    runs_in : (p : ℕ) → s.phase p ≡ running → s.phase p ≡ out → ⊥
    runs_in p f e = differ running out tt (sym f ∙ e)

    cert_in : (p : ℕ) → s.phase p ≡ certifying → s.phase p ≡ out → ⊥
    cert_in p f e = differ certifying out tt (sym f ∙ e)

    -- no version of x is newer than the one in the memory
    top : (x : ℕ) → NoneDue s.held s.phase x → (u k : ℕ) → a.over u x ≡ some k → u ≤ a.stored x
    top x c u k o = let b = (i.vers.replaced u x k o).1 in let d = i.vers.settled x c in omega arith

    open_none_due : (p x : ℕ) → Live s.phase p → Open s p x → NoneDue s.held s.phase x
    open_none_due p x (inl f) o q w t e d = differ running (sealing t) tt (sym f ∙ ap s.phase (sym (o q w e)) ∙ d)
    open_none_due p x (inr f) o q w t e d = differ certifying (sealing t) tt (sym f ∙ ap s.phase (sym (o q w e)) ∙ d)

    -- p turns to its read set anew; who certifies is another
    since_fixed : (p : ℕ) → s.phase p ≡ running → Fixed s.held s.phase a.latest (put g.since p a.seals)
    since_fixed p f q y v c e =
        let d = put_other g.since p a.seals q (λ n. differ running certifying tt (sym f ∙ ap s.phase n ∙ c)) in
        let b = i.fixed q y v c e in
        omega arith

    pub keep_own : (p x : ℕ) (v : K) → Next (own p x v)
    keep_own p x v =
        record { currents = i.currents; vers = i.vers; logs = i.logs; fixed = i.fixed; procs = i.procs; cons = i.cons; times = times_tick _ _ _ _ _ _ _ _ _ _ _ _ i.times }

    pub keep_move : (b : ℕ → ℕ) → May P s (move b) → Next (move b)
    keep_move b m =
        record {
          currents = i.currents;
          vers = i.vers;
          logs = i.logs;
          fixed = i.fixed;
          procs = λ q f. proc_move P _ _ _ _ _ _ _ (i.procs q f) b m;
          cons = i.cons;
          times = times_tick _ _ _ _ _ _ _ _ _ _ _ _ i.times;
        }

    pub keep_store : (p x : ℕ) (v : K) (t : ℕ) → May P s (store p x v t) → Next (store p x v t)
    keep_store p x v t m =
        record {
          currents = i.currents;
          vers = vers_store _ _ _ _ _ _ _ _ _ _ i.vers p x v t m.0 m.1;
          logs = logs_free _ _ _ _ _ _ _ i.logs p x v m.1 dead;
          fixed = λ q y w c e. i.fixed q y w c (kept q y w e);
          procs = λ q f. proc_store P _ _ _ _ _ _ _ (i.procs q f) x t (a.latest x) (v₀.due p x v t m.1 m.0).1;
          cons = i.cons;
          times = times_tick _ _ _ _ _ _ _ _ _ _ _ _ i.times;
        }
      where
        dead : Live s.phase p → ⊥
        dead (inl f) = differ (sealing t) running tt (sym m.0 ∙ f)
        dead (inr f) = differ (sealing t) certifying tt (sym m.0 ∙ f)

        kept : (q y : ℕ) (w : K) → put s.held x nobody y ≡ by q w → s.held y ≡ by q w
        kept q y w e =
            elim (put_is s.held x nobody y (by q w) e) [ inl d ↦ absurd (unheld nobody q w refl d.1) | inr d ↦ d.1 ]

    pub keep_free : (p x : ℕ) (v : K) → May P s (free p x v) → Next (free p x v)
    keep_free p x v m =
        record {
          currents = i.currents;
          vers =
              vers_held _ _ _ _ _ _ _ _ _ _ i.vers x nobody
              (λ q w t e d. differ aborting (sealing t) tt (sym m.0 ∙ ap s.phase (one_holder (s.held x) p q v w m.1 e) ∙ d))
              (λ q w t e d. unheld nobody q w refl e);
          logs = logs_free _ _ _ _ _ _ _ i.logs p x v m.1 dead;
          fixed = λ q y w c e. i.fixed q y w c (kept q y w e);
          procs = i.procs;
          cons = i.cons;
          times = times_tick _ _ _ _ _ _ _ _ _ _ _ _ i.times;
        }
      where
        dead : Live s.phase p → ⊥
        dead (inl f) = differ aborting running tt (sym m.0 ∙ f)
        dead (inr f) = differ aborting certifying tt (sym m.0 ∙ f)

        kept : (q y : ℕ) (w : K) → put s.held x nobody y ≡ by q w → s.held y ≡ by q w
        kept q y w e =
            elim (put_is s.held x nobody y (by q w) e) [ inl d ↦ absurd (unheld nobody q w refl d.1) | inr d ↦ d.1 ]

    pub keep_fail : (p : ℕ) (r : Cause) → May P s (fail p r) → Next (fail p r)
    keep_fail p r m =
        record {
          currents = current_turn _ _ _ _ _ _ i.currents p aborting (inside m.0) early tt;
          vers = vers_turn _ _ _ _ _ _ _ _ _ _ i.vers p aborting (λ x v t e d. unsealed t m.0 d) tt;
          logs = logs_turn _ _ _ _ _ _ _ i.logs p aborting never;
          fixed = λ q y v c e. i.fixed q y v (back s.phase p aborting q certifying tt c) e;
          procs = λ q f. i.procs q (live_was _ s.phase _ _ _ _ _ i.logs p aborting q never f);
          cons = i.cons;
          times = times_tick _ _ _ _ _ _ _ _ _ _ _ _ (times_turn _ _ _ _ _ _ _ _ _ _ _ _ i.times p aborting (inside m.0) never);
        }
      where
        inside : Live s.phase p → s.phase p ≡ out → ⊥
        inside (inl f) e = runs_in p f e
        inside (inr f) e = cert_in p f e

        never : Live (λ r. aborting) p → Live s.phase p
        never (inl e) = absurd (differ aborting running tt e)
        never (inr e) = absurd (differ aborting certifying tt e)

        early : Early (λ r. aborting) p → Early s.phase p
        early (inl e) = absurd (differ aborting starting tt e)
        early (inr e) = inr (never e)

        unsealed : (t : ℕ) → Live s.phase p → s.phase p ≡ sealing t → ⊥
        unsealed t (inl f) e = differ running (sealing t) tt (sym f ∙ e)
        unsealed t (inr f) e = differ certifying (sealing t) tt (sym f ∙ e)

    pub keep_finish : (p : ℕ) → May P s (finish p) → Next (finish p)
    keep_finish p m =
        record {
          currents = current_turn _ _ _ _ _ _ i.currents p aborting (inside (inr m.0)) early tt;
          vers = vers_turn _ _ _ _ _ _ _ _ _ _ i.vers p aborting (λ x v t e d. unsealed t (inr m.0) d) tt;
          logs = logs_turn _ _ _ _ _ _ _ i.logs p aborting never;
          fixed = λ q y v c e. i.fixed q y v (back s.phase p aborting q certifying tt c) e;
          procs = λ q f. i.procs q (live_was _ s.phase _ _ _ _ _ i.logs p aborting q never f);
          cons = i.cons;
          times = times_tick _ _ _ _ _ _ _ _ _ _ _ _ (times_turn _ _ _ _ _ _ _ _ _ _ _ _ i.times p aborting (inside (inr m.0)) never);
        }
      where
        inside : Live s.phase p → s.phase p ≡ out → ⊥
        inside (inl f) e = runs_in p f e
        inside (inr f) e = cert_in p f e

        never : Live (λ r. aborting) p → Live s.phase p
        never (inl e) = absurd (differ aborting running tt e)
        never (inr e) = absurd (differ aborting certifying tt e)

        early : Early (λ r. aborting) p → Early s.phase p
        early (inl e) = absurd (differ aborting starting tt e)
        early (inr e) = inr (never e)

        unsealed : (t : ℕ) → Live s.phase p → s.phase p ≡ sealing t → ⊥
        unsealed t (inl f) e = differ running (sealing t) tt (sym f ∙ e)
        unsealed t (inr f) e = differ certifying (sealing t) tt (sym f ∙ e)

    ends : (p : ℕ) (b : Phase) → s.phase p ≡ b → T (not (eqb (tag b) 0)) → Empty s p → Next (close p)
    ends p b f nb m =
        record {
          currents = current_turn _ _ _ _ _ _ i.currents p out inside early tt;
          vers = vers_turn _ _ _ _ _ _ _ _ _ _ i.vers p out (λ x v t e d. m x v e) tt;
          logs = logs_turn _ _ _ _ _ _ _ i.logs p out never;
          fixed = λ q y v c e. i.fixed q y v (back s.phase p out q certifying tt c) e;
          procs = λ q d. i.procs q (live_was _ s.phase _ _ _ _ _ i.logs p out q never d);
          cons = i.cons;
          times = times_end _ _ _ _ _ _ _ _ _ _ _ _ i.times p inside i.logs.bound (λ q d. i.currents.single p q inside d) (i.currents.alive p inside);
        }
      where
        inside : s.phase p ≡ out → ⊥
        inside e = differ b out nb (sym f ∙ e)

        never : Live (λ r. out) p → Live s.phase p
        never (inl e) = absurd (differ out running tt e)
        never (inr e) = absurd (differ out certifying tt e)

        early : Early (λ r. out) p → Early s.phase p
        early (inl e) = absurd (differ out starting tt e)
        early (inr e) = inr (never e)

    pub keep_close : (p : ℕ) → May P s (close p) → Next (close p)
    keep_close p m = ends p aborting m.0 tt m.1

    pub keep_commit : (p t : ℕ) → May P s (commit p t) → Next (commit p t)
    keep_commit p t m = ends p (sealing t) m.0 tt m.1

    pub keep_begin : (p : ℕ) → May P s (begin p) → Next (begin p)
    keep_begin p m =
        record {
          currents = current_begin _ _ _ _ _ _ i.currents p m;
          vers = vers_turn _ _ _ _ _ _ _ _ _ _ i.vers p starting (λ x v t e d. differ out (sealing t) tt (sym m ∙ d)) tt;
          logs = logs_begin _ _ _ _ _ _ _ i.logs p a.begun;
          fixed = λ q y v c e. i.fixed q y v (back s.phase p starting q certifying tt c) e;
          procs = λ q f.
              subst Good (sym (same q (other q f))) (i.procs q (was q f));
          cons = i.cons;
          times = times_begin _ _ _ _ _ _ _ _ _ _ _ _ i.times p m i.currents.made (i.currents.blank a.begun (omega arith)) i.currents.alive;
        }
      where
        other : (q : ℕ) → Live (put s.phase p starting) q → p ≡ q → ⊥
        other q (inl e) n = differ starting running tt (sym (put_same s.phase p starting q n) ∙ e)
        other q (inr e) n = differ starting certifying tt (sym (put_same s.phase p starting q n) ∙ e)

        was : (q : ℕ) → Live (put s.phase p starting) q → Live s.phase q
        was q (inl e) = inl (back s.phase p starting q running tt e)
        was q (inr e) = inr (back s.phase p starting q certifying tt e)

        same : (q : ℕ) → (p ≡ q → ⊥) → then (begin p) q ≡ row s a g q
        same q n =
            λ j. record {
              seen = s.seen q;
              passed = s.passed q;
              hand = s.hand q;
              clock = s.clock q;
              need = s.need q;
              log = a.log (put_other a.current p a.begun q n j);
              base = a.base (put_other a.current p a.begun q n j);
              since = g.since q;
              target = g.target q;
              start = g.start q;
              fetched = a.fetched q;
            }

    keep_check' : (e : Event K) (p x : ℕ) → Live s.phase p → Open s p x → Same s p x
        → ((q : ℕ) → (p ≡ q → ⊥) → Good (then e q) ≡ Good (row s a g q))
        → Good (then e p) ≡ Good (row_check (row s a g p) x) → (q : ℕ) → Live s.phase q → Good (then e q)
    keep_check' e p x f o m same mine q d =
        elim (cases_eq p q) [
          | inl n ↦
              subst (λ (z : ℕ). Good (then e z)) n
              (subst (λ (X : Type 0). X) (sym mine) (proc_check P s.bank s.stamp a.stored a.over g.stamp_of a.seals (row s a g p) (i.procs p f) x m (top x (open_none_due p x f o))))
          | inr n ↦ subst (λ (X : Type 0). X) (sym (same q n)) (i.procs q d)
        ]

    pub keep_check : (p x : ℕ) → May P s (check p x) → Next (check p x)
    keep_check p x m =
        record {
          currents = i.currents;
          vers = i.vers;
          logs = i.logs;
          fixed = i.fixed;
          procs = keep_check' (check p x) p x (inl m.0) m.1 m.2 (λ q n. ap Good (same q n)) (ap Good mine);
          cons = i.cons;
          times = times_tick _ _ _ _ _ _ _ _ _ _ _ _ i.times;
        }
      where
        same : (q : ℕ) → (p ≡ q → ⊥) → then (check p x) q ≡ row s a g q
        same q n = λ j. record { seen = s.seen q; passed = put_other s.passed p (put (s.passed p) x true) q n j; hand = s.hand q; clock = s.clock q; need = s.need q; log = a.log (a.current q); base = a.base (a.current q); since = g.since q; target = g.target q; start = g.start q; fetched = a.fetched q }

        mine : then (check p x) p ≡ row_check (row s a g p) x
        mine = λ j. record { seen = s.seen p; passed = put_same s.passed p (put (s.passed p) x true) p refl j; hand = s.hand p; clock = s.clock p; need = s.need p; log = a.log (a.current p); base = a.base (a.current p); since = g.since p; target = g.target p; start = g.start p; fetched = a.fetched p }

    pub keep_pass : (p x : ℕ) → May P s (pass p x) → Next (pass p x)
    keep_pass p x m =
        record {
          currents = i.currents;
          vers = i.vers;
          logs = i.logs;
          fixed = i.fixed;
          procs = keep_check' (pass p x) p x (inr m.0) m.1 m.2 (λ q n. ap Good (same q n)) (ap Good mine);
          cons = i.cons;
          times = times_tick _ _ _ _ _ _ _ _ _ _ _ _ i.times;
        }
      where
        same : (q : ℕ) → (p ≡ q → ⊥) → then (pass p x) q ≡ row s a g q
        same q n = λ j. record { seen = s.seen q; passed = put_other s.passed p (put (s.passed p) x true) q n j; hand = s.hand q; clock = s.clock q; need = s.need q; log = a.log (a.current q); base = a.base (a.current q); since = g.since q; target = g.target q; start = g.start q; fetched = a.fetched q }

        mine : then (pass p x) p ≡ row_check (row s a g p) x
        mine = λ j. record { seen = s.seen p; passed = put_same s.passed p (put (s.passed p) x true) p refl j; hand = s.hand p; clock = s.clock p; need = s.need p; log = a.log (a.current p); base = a.base (a.current p); since = g.since p; target = g.target p; start = g.start p; fetched = a.fetched p }

    pub keep_extend : (p : ℕ) → May P s (extend p) → Next (extend p)
    keep_extend p m =
        record {
          currents = i.currents;
          vers = i.vers;
          logs = i.logs;
          fixed = i.fixed;
          procs = λ q d.
              elim (cases_eq p q) [
                | inl n ↦
                    subst (λ (z : ℕ). Good (then (extend p) z)) n
                    (subst Good (sym mine) (proc_extend P s.bank s.stamp a.stored a.over g.stamp_of a.seals (row s a g p) (i.procs p (inl m.0)) m.1 m.2))
                | inr n ↦ subst Good (sym (same q n)) (i.procs q d)
              ];
          cons = i.cons;
          times = times_tick _ _ _ _ _ _ _ _ _ _ _ _ i.times;
        }
      where
        same : (q : ℕ) → (p ≡ q → ⊥) → then (extend p) q ≡ row s a g q
        same q n = λ j. record { seen = s.seen q; passed = s.passed q; hand = s.hand q; clock = put_other s.clock p (s.need p) q n j; need = s.need q; log = a.log (a.current q); base = a.base (a.current q); since = g.since q; target = g.target q; start = g.start q; fetched = a.fetched q }

        mine : then (extend p) p ≡ row_extend (row s a g p)
        mine = λ j. record { seen = s.seen p; passed = s.passed p; hand = s.hand p; clock = put_same s.clock p (s.need p) p refl j; need = s.need p; log = a.log (a.current p); base = a.base (a.current p); since = g.since p; target = g.target p; start = g.start p; fetched = a.fetched p }

    pub keep_look : (p x : ℕ) (v : K) → May P s (look p x v) → Next (look p x v)
    keep_look p x v m =
        record {
          currents = i.currents;
          vers = i.vers;
          logs = i.logs;
          fixed = since_fixed p m.0.runs;
          procs = λ q d.
              elim (cases_eq p q) [
                | inl n ↦
                    subst (λ (z : ℕ). Good (then (look p x v) z)) n
                    (subst Good (sym mine)
                    (proc_look P s.bank s.stamp a.stored a.over g.stamp_of a.seals (row s a g p) (i.procs p (inl m.0.runs)) x v m.0.done
                    (top x (λ q w t e f. unheld (s.held x) q w m.1 e)) (i.vers.stamped x) (i.vers.present x)))
                | inr n ↦ subst Good (sym (same q n)) (i.procs q d)
              ];
          cons = i.cons;
          times = times_tick _ _ _ _ _ _ _ _ _ _ _ _ i.times;
        }
      where
        same : (q : ℕ) → (p ≡ q → ⊥) → then (look p x v) q ≡ row s a g q
        same q n = λ j. record { seen = s.seen q; passed = put_other s.passed p (λ y. false) q n j; hand = put_other s.hand p (full x (s.stamp x) v) q n j; clock = s.clock q; need = put_other s.need p (s.stamp x) q n j; log = a.log (a.current q); base = a.base (a.current q); since = put_other g.since p a.seals q n j; target = put_other g.target p (a.stored x) q n j; start = g.start q; fetched = put_other a.fetched p (a.stored x) q n j }

        mine : then (look p x v) p ≡ row_look (row s a g p) x (s.stamp x) v a.seals (a.stored x)
        mine = λ j. record { seen = s.seen p; passed = put_same s.passed p (λ y. false) p refl j; hand = put_same s.hand p (full x (s.stamp x) v) p refl j; clock = s.clock p; need = put_same s.need p (s.stamp x) p refl j; log = a.log (a.current p); base = a.base (a.current p); since = put_same g.since p a.seals p refl j; target = put_same g.target p (a.stored x) p refl j; start = g.start p; fetched = put_same a.fetched p (a.stored x) p refl j }

    pub keep_certify : (p : ℕ) → May P s (certify p) → Next (certify p)
    keep_certify p m =
        record {
          currents = current_turn _ _ _ _ _ _ i.currents p certifying (runs_in p m.runs) early tt;
          vers = vers_turn _ _ _ _ _ _ _ _ _ _ i.vers p certifying (λ x v t e d. differ running (sealing t) tt (sym m.runs ∙ d)) tt;
          logs = logs_turn _ _ _ _ _ _ _ i.logs p certifying live;
          fixed = λ q y v c e.
              elim (cases_eq p q) [
                | inl n ↦ (let b = put_same g.since p a.seals q n in let d = i.vers.newest y in omega arith)
                | inr n ↦
                    let b = put_other g.since p a.seals q n in
                    let d = i.fixed q y v (sym (put_other s.phase p certifying q n) ∙ c) e in
                    omega arith
              ];
          procs = λ q d.
              elim (cases_eq p q) [
                | inl n ↦
                    subst (λ (z : ℕ). Good (then (certify p) z)) n
                    (subst Good (sym mine) (proc_certify P s.bank s.stamp a.stored a.over g.stamp_of a.seals (row s a g p) (i.procs p (inl m.runs)) m.done))
                | inr n ↦ subst Good (sym (same q n)) (i.procs q (live_was _ s.phase _ _ _ _ _ i.logs p certifying q live d))
              ];
          cons = i.cons;
          times = times_tick _ _ _ _ _ _ _ _ _ _ _ _ (times_turn _ _ _ _ _ _ _ _ _ _ _ _ i.times p certifying (runs_in p m.runs) live);
        }
      where
        live : Live (λ r. certifying) p → Live s.phase p
        live e = inl m.runs

        early : Early (λ r. certifying) p → Early s.phase p
        early e = inr (inl m.runs)

        same : (q : ℕ) → (p ≡ q → ⊥) → then (certify p) q ≡ row s a g q
        same q n = λ j. record { seen = s.seen q; passed = put_other s.passed p (λ y. false) q n j; hand = s.hand q; clock = s.clock q; need = s.need q; log = a.log (a.current q); base = a.base (a.current q); since = put_other g.since p a.seals q n j; target = g.target q; start = g.start q; fetched = a.fetched q }

        mine : then (certify p) p ≡ row_certify (row s a g p) a.seals
        mine = λ j. record { seen = s.seen p; passed = put_same s.passed p (λ y. false) p refl j; hand = s.hand p; clock = s.clock p; need = s.need p; log = a.log (a.current p); base = a.base (a.current p); since = put_same g.since p a.seals p refl j; target = g.target p; start = g.start p; fetched = a.fetched p }

    pub keep_ready : (p c : ℕ) → May P s (ready p c) → Next (ready p c)
    keep_ready p c m =
        record {
          currents = current_turn _ _ _ _ _ _ i.currents p running inside (λ e. inl m.0) tt;
          vers = vers_turn _ _ _ _ _ _ _ _ _ _ i.vers p running (λ x v t e d. differ starting (sealing t) tt (sym m.0 ∙ d)) tt;
          logs = logs_ready _ _ _ _ _ _ _ i.logs p (i.currents.clean p m.0) (λ x v e. v₀.idle p x v (inr m.0) e);
          fixed = λ q y v k e.
              let f = back s.phase p running q certifying tt k in
              let b = put_other g.since p a.seals q (λ n. differ starting certifying tt (sym m.0 ∙ ap s.phase n ∙ f)) in
              let d = i.fixed q y v f e in
              omega arith;
          procs = λ q d.
              elim (cases_eq p q) [
                | inl n ↦
                    subst (λ (z : ℕ). Good (then (ready p c) z)) n
                    (subst Good (sym mine) (proc_ready P s.bank s.stamp a.stored a.over g.stamp_of a.seals (s.passed p) c (a.fetched p) i.vers.opening m.1))
                | inr n ↦ subst Good (sym (same q n (apart p q inside (was q n d) n))) (i.procs q (was q n d))
              ];
          cons = cons_ready _ _ _ _ _ _ i.cons (a.current p) a.seals (i.currents.clean p m.0);
          times = times_tick _ _ _ _ _ _ _ _ _ _ _ _ (times_ready _ _ _ _ _ _ _ _ _ _ _ _ i.times p m.0 (i.currents.clean p m.0));
        }
      where
        inside : s.phase p ≡ out → ⊥
        inside e = differ starting out tt (sym m.0 ∙ e)

        was : (q : ℕ) → (p ≡ q → ⊥) → Live (put s.phase p running) q → Live s.phase q
        was q n (inl e) = inl (sym (put_other s.phase p running q n) ∙ e)
        was q n (inr e) = inr (sym (put_other s.phase p running q n) ∙ e)

        same : (q : ℕ) → (p ≡ q → ⊥) → (a.current p ≡ a.current q → ⊥) → then (ready p c) q ≡ row s a g q
        same q n k =
            λ j. record {
              seen = put_other s.seen p (λ x. unseen) q n j;
              passed = s.passed q;
              hand = put_other s.hand p empty q n j;
              clock = put_other s.clock p c q n j;
              need = put_other s.need p 0 q n j;
              log = a.log (a.current q);
              base = put_other a.base (a.current p) a.seals (a.current q) k j;
              since = put_other g.since p a.seals q n j;
              target = put_other g.target p 0 q n j;
              start = put_other g.start p c q n j;
              fetched = a.fetched q;
            }

        mine : then (ready p c) p ≡ row_ready (s.passed p) c a.seals (a.fetched p)
        mine =
            λ j. record {
              seen = put_same s.seen p (λ x. unseen) p refl j;
              passed = s.passed p;
              hand = put_same s.hand p empty p refl j;
              clock = put_same s.clock p c p refl j;
              need = put_same s.need p 0 p refl j;
              log = i.currents.clean p m.0 j;
              base = put_same a.base (a.current p) a.seals (a.current p) refl j;
              since = put_same g.since p a.seals p refl j;
              target = put_same g.target p 0 p refl j;
              start = put_same g.start p c p refl j;
              fetched = a.fetched p;
            }

    pub keep_write : (p x : ℕ) (v : K) → May P s (write p x v) → Next (write p x v)
    keep_write p x v m =
        record {
          currents = current_log _ _ _ _ _ _ i.currents p (ov x (a.stored x) ∷ a.log (a.current p)) m.0.runs;
          vers =
              vers_held _ _ _ _ _ _ _ _ _ _
              (vers_log _ _ _ _ _ _ _ _ _ _ i.vers (a.current p) (ov x (a.stored x) ∷ a.log (a.current p)) unmade) x (by p v)
              (open_none_due p x (inl m.0.runs) m.1)
              (λ q w t e d. differ running (sealing t) tt (sym m.0.runs ∙ ap s.phase (one_holder (by p v) p q v w refl e) ∙ d));
          logs =
              logs_write _ _ _ _ _ _ _ i.logs p x v (a.stored x) m.0.runs m.1 (i.vers.present x)
              (λ q d e. i.currents.single p q (runs_in p m.0.runs) (inside q d) e);
          fixed = λ q y w c e.
              since_fixed p m.0.runs q y w c (old q y w c e);
          procs = λ q d.
              elim (cases_eq p q) [
                | inl n ↦
                    subst (λ (z : ℕ). Good (then (write p x v) z)) n
                    (subst Good (sym mine)
                    (proc_write P s.bank s.stamp a.stored a.over g.stamp_of a.seals (row s a g p) (i.procs p (inl m.0.runs)) x m.0.done (i.vers.stamped x) (i.vers.present x)))
                | inr n ↦ subst Good (sym (same q n (apart p q (runs_in p m.0.runs) d n))) (i.procs q d)
              ];
          cons = cons_write _ _ _ _ _ _ i.cons (a.current p) unmade x (a.stored x);
          times = times_tick _ _ _ _ _ _ _ _ _ _ _ _ (times_log _ _ _ _ _ _ _ _ _ _ _ _ i.times p (ov x (a.stored x)) m.0.runs);
        }
      where
        unmade : (j : ℕ) → 0 < j → j ≤ a.seals → a.maker j ≡ a.current p → ⊥
        unmade j b c e = i.currents.unsealed p j (inr (inl m.0.runs)) b c e

        inside : (q : ℕ) → Live s.phase q → s.phase q ≡ out → ⊥
        inside q (inl f) e = runs_in q f e
        inside q (inr f) e = cert_in q f e

        old : (q y : ℕ) (w : K) → s.phase q ≡ certifying → put s.held x (by p v) y ≡ by q w → s.held y ≡ by q w
        old q y w c e =
            elim (put_is s.held x (by p v) y (by q w) e) [
              | inl d ↦
                  absurd
                  (differ running certifying tt (sym m.0.runs ∙ ap s.phase (one_holder (by p v) p q v w refl d.1) ∙ c))
              | inr d ↦ d.1
            ]

        same : (q : ℕ) → (p ≡ q → ⊥) → (a.current p ≡ a.current q → ⊥) → then (write p x v) q ≡ row s a g q
        same q n k = λ j. record { seen = s.seen q; passed = put_other s.passed p (λ y. false) q n j; hand = s.hand q; clock = s.clock q; need = put_other s.need p (s.stamp x) q n j; log = put_other a.log (a.current p) (ov x (a.stored x) ∷ a.log (a.current p)) (a.current q) k j; base = a.base (a.current q); since = put_other g.since p a.seals q n j; target = put_other g.target p (a.stored x) q n j; start = g.start q; fetched = a.fetched q }

        mine : then (write p x v) p ≡ row_write (row s a g p) x (s.stamp x) a.seals (a.stored x)
        mine = λ j. record { seen = s.seen p; passed = put_same s.passed p (λ y. false) p refl j; hand = s.hand p; clock = s.clock p; need = put_same s.need p (s.stamp x) p refl j; log = put_same a.log (a.current p) (ov x (a.stored x) ∷ a.log (a.current p)) (a.current p) refl j; base = a.base (a.current p); since = put_same g.since p a.seals p refl j; target = put_same g.target p (a.stored x) p refl j; start = g.start p; fetched = a.fetched p }

    pub keep_answer : (p x t : ℕ) (v : K) → May P s (answer p x t v) → Next (answer p x t v)
    keep_answer p x t v m =
        record {
          currents = current_log _ _ _ _ _ _ i.currents p (rd x (a.fetched p) ∷ a.log (a.current p)) m.0;
          vers = vers_log _ _ _ _ _ _ _ _ _ _ i.vers (a.current p) (rd x (a.fetched p) ∷ a.log (a.current p)) unmade;
          logs =
              logs_answer _ _ _ _ _ _ _ i.logs p x (a.fetched p) fetched_seals
              (λ u k o b. let c = new_newer P s.bank s.stamp a.stored a.over g.stamp_of a.seals (row s a g p) me x t v m.1 m.2 same_stamp x (a.fetched p) u k refl o b in let d = me.low in omega arith);
          fixed = i.fixed;
          procs = λ q d.
              elim (cases_eq p q) [
                | inl n ↦
                    subst (λ (z : ℕ). Good (then (answer p x t v) z)) n
                    (subst Good (sym mine) (proc_answer P s.bank s.stamp a.stored a.over g.stamp_of a.seals (row s a g p) me x t v m.1 m.2 same_stamp))
                | inr n ↦ subst Good (sym (same q n (apart p q (runs_in p m.0) d n))) (i.procs q d)
              ];
          cons =
              cons_answer _ _ _ _ _ _ i.cons (a.current p) unmade x (a.fetched p) (g.since p)
              (λ fair.
              reads_newer P s.bank s.stamp a.stored a.over g.stamp_of a.seals (row s a g p) me x t v m.1 m.2 same_stamp i.vers.opening i.vers.positive
              (i.logs.recent (a.current p)) fair)
              (new_newer P s.bank s.stamp a.stored a.over g.stamp_of a.seals (row s a g p) me x t v m.1 m.2 same_stamp) me.within fetched_since;
          times = times_tick _ _ _ _ _ _ _ _ _ _ _ _ (times_log _ _ _ _ _ _ _ _ _ _ _ _ i.times p (rd x (a.fetched p)) m.0);
        }
      where
        me : Good (row s a g p)
        me = i.procs p (inl m.0)

        same_stamp : (u : ℕ) (w : K) → s.seen p x ≡ saw u w → u ≡ t
        same_stamp u w e = (v₀.hand_same p x t v u w m.1 e).0

        fetched_since : a.fetched p ≤ g.since p
        fetched_since = let b = aim P s.bank s.stamp a.stored a.over g.stamp_of a.seals (row s a g p) me x t v m.1 m.2 same_stamp in let c = me.high in omega arith

        fetched_seals : a.fetched p ≤ a.seals
        fetched_seals = let b = fetched_since in let c = me.mid in omega arith

        unmade : (j : ℕ) → 0 < j → j ≤ a.seals → a.maker j ≡ a.current p → ⊥
        unmade j b c e = i.currents.unsealed p j (inr (inl m.0)) b c e

        same : (q : ℕ) → (p ≡ q → ⊥) → (a.current p ≡ a.current q → ⊥) → then (answer p x t v) q ≡ row s a g q
        same q n k = λ j. record { seen = put_other s.seen p (put (s.seen p) x (saw t v)) q n j; passed = s.passed q; hand = put_other s.hand p (empty) q n j; clock = s.clock q; need = s.need q; log = put_other a.log (a.current p) (rd x (a.fetched p) ∷ a.log (a.current p)) (a.current q) k j; base = a.base (a.current q); since = g.since q; target = g.target q; start = g.start q; fetched = a.fetched q }

        mine : then (answer p x t v) p ≡ row_answer (row s a g p) x t v
        mine = λ j. record { seen = put_same s.seen p (put (s.seen p) x (saw t v)) p refl j; passed = s.passed p; hand = put_same s.hand p (empty) p refl j; clock = s.clock p; need = s.need p; log = put_same a.log (a.current p) (rd x (a.fetched p) ∷ a.log (a.current p)) (a.current p) refl j; base = a.base (a.current p); since = g.since p; target = g.target p; start = g.start p; fetched = a.fetched p }

    pub keep_seal : (p t : ℕ) (b : ℕ → ℕ) → May P s (seal p t b) → Next (seal p t b)
    keep_seal p t b m =
        record {
          currents = current_seal _ _ _ _ _ _ i.currents p t m.0;
          vers =
              vers_seal _ _ _ _ _ _ _ _ _ _ i.vers p t (a.current p) (writes (a.log (a.current p))) m.0 had has (rises_to P opening s h l v₀ p t b m) read pos;
          logs = logs_seal _ _ _ _ _ _ _ i.logs p t (writes (a.log (a.current p))) a.latest;
          fixed = λ q y v c e.
              let d = i.fixed q y v (certs q c) e in
              let b =
              spared _ _ _ _ _ _ _ _ _ _ i.vers p t (a.current p) (writes (a.log (a.current p))) m.0 had has (rises_to P opening s h l v₀ p t b m) read pos y
              (λ w f. other q c (one_holder (s.held y) p q w v f e))
              in
              omega arith;
          procs = λ q d.
              proc_move P _ _ _ _ _ _ _
              (proc_seal P s.bank s.stamp a.stored a.over g.stamp_of a.seals (row s a g q) (i.procs q (was q d)) t (writes (a.log (a.current p))) a.latest
              (let z = (i.procs q (was q d)).banked p m.4 in let c = m.3 in omega arith))
              b m.5;
          cons =
              cons_seal _ _ _ _ _ _ i.cons (a.current p) t (g.since p) (writes (a.log (a.current p))) a.latest i.logs.bound i.vers.newest
              (λ n x w o. let b = i.vers.replaced n x w o in (b.0, b.1))
              (λ x j u k e o b. let d = me.sees x j e in me.pass_newer x j u k (m.1 x d.0 d.1 d.2) e o b)
              (λ x e. let d = had x e in i.fixed p x d.0 m.0 d.1);
          times = times_tick _ _ _ _ _ _ _ _ _ _ _ _ (times_seal _ _ _ _ _ _ _ _ _ _ _ _ (times_turn _ _ _ _ _ _ _ _ _ _ _ _ i.times p (sealing t) (cert_in p m.0) never) p still_in);
        }
      where
        me : Good (row s a g p)
        me = i.procs p (inr m.0)

        had : (x : ℕ) → writes (a.log (a.current p)) x ≡ true → (v : K) × (s.held x ≡ by p v)
        had x e = i.logs.had p x (inr m.0) e

        has : (x : ℕ) (v : K) → s.held x ≡ by p v → writes (a.log (a.current p)) x ≡ true
        has x v e = i.logs.has p x v (inr m.0) e

        read : (y k : ℕ) → In (rd y k) (a.log (a.current p)) → (k ≤ a.seals) × (g.stamp_of k < t)
        read y k e =
            let b = me.within (rd y k) e in
            let c = me.mid in
            let d = me.reached y k e in
            let f = m.2 in
            (omega arith, omega arith)

        pos : 0 < t
        pos = let f = m.2 in omega arith

        certs : (q : ℕ) → put s.phase p (sealing t) q ≡ certifying → s.phase q ≡ certifying
        certs q f = back s.phase p (sealing t) q certifying tt f

        other : (q : ℕ) → put s.phase p (sealing t) q ≡ certifying → p ≡ q → ⊥
        other q f n = differ (sealing t) certifying tt (sym (put_same s.phase p (sealing t) q n) ∙ f)

        was : (q : ℕ) → Live (put s.phase p (sealing t)) q → Live s.phase q
        was q (inl e) = inl (back s.phase p (sealing t) q running tt e)
        was q (inr e) = inr (certs q e)

        never : Live (λ r. sealing t) p → Live s.phase p
        never (inl e) = absurd (differ (sealing t) running tt e)
        never (inr e) = absurd (differ (sealing t) certifying tt e)

        still_in : put s.phase p (sealing t) p ≡ out → ⊥
        still_in e = differ (sealing t) out tt (sym (put_same s.phase p (sealing t) p refl) ∙ e)
