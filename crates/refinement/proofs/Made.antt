-- A step in a phase, as a block of events with its reply; and how such blocks make the step of a call.
use Rattle.std.proofs.Common.{◌≡◌, ℕ, ◌+◌, ◌<◌, true, List, [], ◌∷◌, ◌++◌, length, Some, None, Option, sym, refl, subst, arith}
use Rattle.std.proofs.lemmas.List.{get_or-set_same}
use Rattle.tables.specs.Tables.{Tables, process_at, hand_at, with_process, idle_process}
use Rattle.tables.specs.declared.process.Ending.TheVariants as ending
use Rattle.tables.specs.declared.process.Phase.{Phase}
use Rattle.tables.specs.declared.process.Phase.TheVariants.{Idle, Beginning, Reading, Writing, Extending, Certifying, Storing, Freeing}
use Rattle.tables.specs.declared.process.Process.{Process}
use Rattle.tables.specs.declared.reply.Answer.{Answer}
use Rattle.tables.specs.declared.reply.Conflict.{Conflict}
use Rattle.tables.specs.declared.reply.Effect.{Effect}
use Rattle.tables.specs.declared.reply.Request.{Request}
use Rattle.tables.specs.declared.reply.Request.TheVariants.{Commit}
use Rattle.tables.specs.declared.reply.Stepped.{Stepped}
use Rattle.engine.specs.Ends.{ended}
use Rattle.engine.specs.Outcome.{closed, going, answering}
use Rattle.protocol.specs.Protocol.{State, Event, LawfulFrom, next}
use Rattle.protocol.specs.Protocol.Phase.{running}
use Rattle.refinement.proofs.Own.{Good}
use Rattle.refinement.proofs.Changes.{sizes_facts}
use Rattle.refinement.proofs.Frames.{Frame, frame_process, frame_ended, frame_both}
use Rattle.refinement.proofs.Placing.{Shown}
use Rattle.refinement.proofs.Deciding.{then_shown}
use Rattle.refinement.proofs.Acts.{Asks, stopped_by, Block, Act, HasStepped, Goes, Advance}

-- A step of process p in the phase f, from the tables t to the tables u, that replies z: its own block of events.
pub record Made {K : Type 0} (e : K) (P : ℕ) (number : ℕ → ℕ) (t u : Tables K) (s : State K) (p : ℕ) (f : Phase) (z : Stepped K) : Type 0 where
  pub events : List (Event K)
  pub shown : Shown e P number u s events
  pub conflict : Option Conflict
  pub block : HasStepped f (process_at t p).steps → (r : Request K) → Asks (hand_at e t p) f r → Block s p r (process_at t p).steps (stopped_by f) z events conflict
  pub goes : (r : Request K) → Asks (hand_at e t p) f r → Goes r (process_at t p).steps conflict z.answer (process_at u p) (hand_at e u p)
  pub frame : Frame t u p

module _ {K : Type 0} (e : K) (number : ℕ → ℕ) (t : Tables K) (s : State K) (p : ℕ) (g : Good e t) (l : p < length t.processes) (f : Phase) where
  -- the request goes on: p's record is r then
  pub on_after : (w : Tables K) (r : Process) (effect : Effect) (es : List (Event K)) (c : Option Conflict) → Frame t w p → r.steps ≡ (process_at t p).steps + 1 → stopped_by r.phase ≡ c
      → Shown e (length t.processes) number (with_process w p r) s es
      → (HasStepped f (process_at t p).steps → (k : Request K) → Asks (hand_at e t p) f k → Block s p k (process_at t p).steps (stopped_by f) (going effect) es c)
      → ((k : Request K) → Asks (hand_at e t p) f k → Asks (hand_at e w p) r.phase k)
      → Made e (length t.processes) number t (with_process w p r) s p f (going effect)
  on_after w r effect es c fr steps stopped shown acts asks =
      let within : p < length w.processes = subst (λ (n : ℕ). p < n) (sym fr.processes) l in
      let is : process_at (with_process w p r) p ≡ r = get_or-set_same w.processes p r idle_process within in
      record {
        events = es;
        shown = shown;
        conflict = c;
        block = acts;
        goes = λ k a. subst (λ (z : Process). Goes k (process_at t p).steps c None z (hand_at e w p)) (sym is) (asks k a, steps, stopped);
        frame = frame_both t w (with_process w p r) p fr (frame_process w p r);
      }

  -- the same, where the block does not need that an extension has made a step
  pub on : (w : Tables K) (r : Process) (effect : Effect) (es : List (Event K)) (c : Option Conflict) → Frame t w p → r.steps ≡ (process_at t p).steps + 1 → stopped_by r.phase ≡ c
      → Shown e (length t.processes) number (with_process w p r) s es
      → ((k : Request K) → Asks (hand_at e t p) f k → Block s p k (process_at t p).steps (stopped_by f) (going effect) es c × Asks (hand_at e w p) r.phase k)
      → Made e (length t.processes) number t (with_process w p r) s p f (going effect)
  on w r effect es c fr steps stopped shown acts = on_after w r effect es c fr steps stopped shown (λ b k a. (acts k a).0) (λ k a. (acts k a).1)

  -- the request is answered: p's record is r then
  pub done_after : (w : Tables K) (r : Process) (effect : Effect) (a : Answer K) (es : List (Event K)) → Frame t w p → r.phase ≡ Idle → r.steps ≡ 0
      → Shown e (length t.processes) number (with_process w p r) s es
      → (HasStepped f (process_at t p).steps → (k : Request K) → Asks (hand_at e t p) f k → Block s p k (process_at t p).steps (stopped_by f) (answering effect a) es None)
      → Made e (length t.processes) number t (with_process w p r) s p f (answering effect a)
  done_after w r effect a es fr idle zero shown acts =
      let within : p < length w.processes = subst (λ (n : ℕ). p < n) (sym fr.processes) l in
      let is : process_at (with_process w p r) p ≡ r = get_or-set_same w.processes p r idle_process within in
      record {
        events = es;
        shown = shown;
        conflict = None;
        block = acts;
        goes = λ k b. subst (λ (z : Process). Goes k (process_at t p).steps None (Some a) z (hand_at e w p)) (sym is) (idle, zero);
        frame = frame_both t w (with_process w p r) p fr (frame_process w p r);
      }

  -- the same, where the block does not need that an extension has made a step
  pub done : (w : Tables K) (r : Process) (effect : Effect) (a : Answer K) (es : List (Event K)) → Frame t w p → r.phase ≡ Idle → r.steps ≡ 0
      → Shown e (length t.processes) number (with_process w p r) s es
      → ((k : Request K) → Asks (hand_at e t p) f k → Block s p k (process_at t p).steps (stopped_by f) (answering effect a) es None)
      → Made e (length t.processes) number t (with_process w p r) s p f (answering effect a)
  done w r effect a es fr idle zero shown acts = done_after w r effect a es fr idle zero shown (λ b. acts)

  -- the request is answered, and the transaction has ended
  pub over : (w : Tables K) (effect : Effect) (a : Answer K) (es : List (Event K)) → Frame t w p
      → Shown e (length t.processes) number (ended e w p) s es
      → ((k : Request K) → Asks (hand_at e t p) f k → Block s p k (process_at t p).steps (stopped_by f) (answering effect a) es None)
      → Made e (length t.processes) number t (ended e w p) s p f (answering effect a)
  over w effect a es fr shown acts =
      let size = sizes_facts t g.sizes in
      let sr = size.reads in
      let sw = size.writes in
      let fp = fr.processes in
      let fd = fr.reads in
      let fw = fr.writes in
      let within : p < length w.processes = omega arith in
      let is : process_at (ended e w p) p ≡ closed (process_at w p) = get_or-set_same w.processes p (closed (process_at w p)) idle_process within in
      record {
        events = es;
        shown = shown;
        conflict = None;
        block = λ b. acts;
        goes = λ k b. subst (λ (z : Process). Goes k (process_at t p).steps None (Some a) z (hand_at e (ended e w p) p)) (sym is) (refl, refl);
        frame = frame_both t w (ended e w p) p fr (frame_ended w p e within (omega arith) (omega arith));
      }

-- the phases of a commit, and of a transaction in conflict, whose request is not known
abbrev pub MayCommit : Phase → Type 0
MayCommit Idle = ⊥
MayCommit (Beginning next least) = ⊥
MayCommit (Reading x) = ⊥
MayCommit (Writing x) = ⊥
MayCommit (Extending x to next a) = ⊥
MayCommit (Certifying next) = Unit {0}
MayCommit (Storing next) = Unit {0}
MayCommit (Freeing next (ending.Abort c)) = Unit {0}
MayCommit (Freeing next ending.Withdraw) = ⊥

-- a request that is a commit stands in one of them
may_commit : {K : Type 0} (h : K) (f : Phase) (r : Request K) → Asks h f r → r ≡ Commit → MayCommit f
may_commit h f r a c = grind arith

module _ {K : Type 0} (e : K) (P : ℕ) (number : ℕ → ℕ) (t u : Tables K) (s : State K) (p : ℕ) (f : Phase) (z : Stepped K) (q : (process_at t p).phase ≡ f) (live : (process_at t p).live ≡ true) where
  -- the step of a call, from its events and what is known of it in the phase f
  advance : (es : List (Event K)) (c : Option Conflict) → Shown e P number u s es → Frame t u p
      → (HasStepped f (process_at t p).steps → (r : Request K) → Asks (hand_at e t p) f r → Act s p r (process_at t p).steps (stopped_by f) z es c)
      → ((r : Request K) → Asks (hand_at e t p) f r → Goes r (process_at t p).steps c z.answer (process_at u p) (hand_at e u p))
      → Advance e P number t u s p z
  advance es c shown fr act goes =
      record {
        events = es;
        shown = shown;
        live = live;
        conflict = c;
        act = subst (λ (k : Phase). HasStepped k (process_at t p).steps → (r : Request K) → Asks (hand_at e t p) k r → Act s p r (process_at t p).steps (stopped_by k) z es c) (sym q) act;
        goes = subst (λ (k : Phase). (r : Request K) → Asks (hand_at e t p) k r → Goes r (process_at t p).steps c z.answer (process_at u p) (hand_at e u p)) (sym q) goes;
        others = λ n d. (fr.others n d, fr.other_hands n e d);
      }

  -- a step that is its own block alone
  pub alone : (MayCommit f → s.phase p ≡ running → ⊥) → Made e P number t u s p f z → Advance e P number t u s p z
  alone still m =
      advance m.events m.conflict m.shown m.frame
      (λ b r a. Act.plain (λ c run. still (may_commit (hand_at e t p) f r a c) run) (m.block b r a)) m.goes

  -- a first step, whose block comes after the event v
  pub first : (v : Event K) → LawfulFrom P s (v ∷ []) → (m : Made e P number t u (next s v) p f z)
      → ((r : Request K) → Asks (hand_at e t p) f r → Act s p r (process_at t p).steps (stopped_by f) z (m.events ++ v ∷ []) m.conflict)
      → Advance e P number t u s p z
  first v may m act =
      advance (m.events ++ v ∷ []) m.conflict (then_shown e P number u s (v ∷ []) m.events may m.shown) m.frame (λ b. act) m.goes
