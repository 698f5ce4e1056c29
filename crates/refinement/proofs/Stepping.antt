-- Every step is a lawful block of events of the protocol, by its phase and its reply.
use Rattle.std.proofs.Common.{◌≡◌, ℕ, ◌+◌, ◌*◌, ◌^◌, ◌<◌, ◌≤◌, min, max, Bool, true, false, cond, ◌&&◌, ◌||◌, eqb, ltb, leb, ◌⊎◌, List, [], ◌∷◌, length, Some, None, Ok, Option, Result, sym, refl, ap, ◌∙◌, subst, inl, inr, arith}
use Rattle.std.proofs.lemmas.Bool.{cases_Bool, eqb-true, eqb-false, and_parts, or_parts, cond_both, leb-false, ltb-true, ltb-false}
use Rattle.tables.specs.Lookup.{pair, value_of, place_of}
use Rattle.tables.specs.Tables.{Tables, process_at, object_at, hand_at, read_at, write_at, read_set, write_set, with_process, with_object, with_hand, with_read, with_write}
use Rattle.tables.specs.declared.map.Slot.{Slot}
use Rattle.tables.specs.declared.memory.Object.{Object}
use Rattle.tables.specs.declared.process.Access.{Access}
use Rattle.tables.specs.declared.process.Access.TheVariants as access
use Rattle.tables.specs.declared.process.Ending.{Ending}
use Rattle.tables.specs.declared.process.Ending.TheVariants.{Abort, Withdraw}
use Rattle.tables.specs.declared.process.Phase.{Phase}
use Rattle.tables.specs.declared.process.Phase.TheVariants.{Idle, Beginning, Reading, Writing, Extending, Certifying, Storing, Freeing}
use Rattle.tables.specs.declared.process.Process.{Process}
use Rattle.tables.specs.declared.reply.Answer.TheVariants as answer_is
use Rattle.tables.specs.declared.reply.Conflict.{Conflict}
use Rattle.tables.specs.declared.reply.Conflict.TheVariants as conflict
use Rattle.tables.specs.declared.reply.Effect.TheVariants.{Nothing, Took, Sealed, Stored, Freed}
use Rattle.tables.specs.declared.reply.Request.{Request}
use Rattle.tables.specs.declared.reply.Request.TheVariants as ask
use Rattle.tables.specs.declared.reply.Stepped.{Stepped}
use Rattle.engine.specs.Outcome.{Outcome, outcome, answering, accepted, advanced, completed}
use Rattle.engine.specs.Look.{foreign, differs, judged, pair_looked}
use Rattle.engine.specs.Ends.{ending_answer, stopped, unheld_object, released, free_step}
use Rattle.engine.specs.Begin.{begin_step}
use Rattle.engine.specs.Reads.{current, read_joined, joined}
use Rattle.engine.specs.Writes.{held_by, write_joined, holding}
use Rattle.engine.specs.Commit.{seal_stamp, sealed, sealed_at, sealed_bank, stored_object, stored, store_step}
use Rattle.engine.specs.Looked.{passed, after_look, read_at_value, read_step, write_at_place, write_step}
use Rattle.engine.specs.Step.{commit_step, commit_bank, phase_step, phase_bank}
use Rattle.engine.specs.Ready.{PhaseFacts}
use Rattle.engine.proofs.Facts.{phase_facts}
use Rattle.protocol.specs.Protocol.{State, Why, next}
use Rattle.protocol.specs.Protocol.Held.{nobody}
use Rattle.protocol.specs.Protocol.Phase.{running, certifying, aborting, sealing}
use Rattle.protocol.specs.Protocol.Cause.{withdrawn}
use Rattle.protocol.specs.Protocol.Event.{certify, fail, free, close}
use Rattle.protocol.proofs.Updates.{put_same}
use Rattle.protocol.proofs.Invariant.{differ}
use Rattle.refinement.proofs.Frames.{Frame, frame_both, frame_hand, frame_object, frame_read, frame_write}
use Rattle.refinement.proofs.Own.{Good, PhaseOwn, phase_from}
use Rattle.refinement.proofs.Sets.{no_value}
use Rattle.refinement.proofs.Windows.{window, window_push}
use Rattle.refinement.proofs.Changes.{sizes_facts, place_within}
use Rattle.refinement.proofs.Rows.{row}
use Rattle.refinement.proofs.Blocks.{frame_none}
use Rattle.refinement.proofs.Placing.{live_at, pending_at, reading_bank, ready_shown}
use Rattle.refinement.proofs.View.{gone, SeenAs, Rests, Certifies, NotBegun, FreeingAs, View, held_nobody}
use Rattle.refinement.proofs.Reading.{value_push, own_shown, In-set, in_already, in_joined, now_shown, later_shown, waiting_shown}
use Rattle.refinement.proofs.Extending.{value_is}
use Rattle.refinement.proofs.Passing.{extending_shown, write_extended, read_extended}
use Rattle.refinement.proofs.Deciding.{cause_of, certify_first, withdraw_first, stop_frees, stop_ends, closes, certified_on, certified_ends, commits_nothing}
use Rattle.refinement.proofs.Writing.{seal_shown, held_now, held_later, held_waiting, rewrite_held, rewrite_shown}
use Rattle.refinement.proofs.Releasing.{store_on, store_last, free_on, free_last}
use Rattle.refinement.proofs.Acts.{Asks, conflict_of, stopped_by, Block, Act, Advance}
use Rattle.refinement.proofs.Made.{Made, on_after, on, done_after, done, over, MayCommit, alone, first}

-- the phases in which a conflict is found; the request is no begin
abbrev Looking : Phase → Type 0
Looking Idle = ⊥
Looking (Beginning next least) = ⊥
Looking (Reading x) = Unit {0}
Looking (Writing x) = Unit {0}
Looking (Extending x to next a) = Unit {0}
Looking (Certifying next) = Unit {0}
Looking (Storing next) = ⊥
Looking (Freeing next x) = ⊥

unstopped : (f : Phase) → Looking f → stopped_by f ≡ None
unstopped f l = grind arith

no_begin : {K : Type 0} (h : K) (f : Phase) (k : Request K) → Looking f → Asks h f k → k ≡ ask.Begin → ⊥
no_begin h f k l a e = grind arith

-- a request that goes on to free asks for the same
asks_freeing : {K : Type 0} (h : K) (i j : ℕ) (x : Ending) (k : Request K) → Asks h (Freeing i x) k → Asks h (Freeing j x) k
asks_freeing h i j x k a = grind arith

module _ {K : Type 0} (e : K) (number : ℕ → ℕ) (t : Tables K) (s : State K) (p : ℕ) (g : Good e t) (v : View e number t s) (l : p < length t.processes) (live : (process_at t p).live ≡ true) where
  -- a step in the phase f that comes to the outcome z
  abbrev Here : Phase → Outcome (Stepped K) K → Type 0
  Here f z = Made e (length t.processes) number t z.tables s p f z.reply

  -- what soundness says of the phase
  own_phase : (f : Phase) → (process_at t p).phase ≡ f → PhaseOwn (length t.processes) (length t.objects) (process_at t p) (read_set t p) (write_set t p) f
  own_phase f q = subst (λ (z : Phase). PhaseOwn (length t.processes) (length t.objects) (process_at t p) (read_set t p) (write_set t p) z) q (g.owns p l).phase

  -- a conflict
  stops : (f : Phase) (c : Conflict) → Looking f → Why s p (cause_of c) → (s.phase p ≡ running) ⊎ (s.phase p ≡ certifying) → gone (process_at t p).phase ≡ 0 → Here f (stopped e t p c)
  stops f c new why runs none =
      cond_both (eqb (process_at t p).writes 0) _ _ (Here f)
      (λ b. over e number t s p g l f t Nothing (answer_is.Aborted c ((process_at t p).steps + 1)) _ (frame_none t p)
      (stop_ends e number t s p g v l live c why runs (eqb-true (process_at t p).writes 0 b)) (λ k a. rw (unstopped f new) (Block.aborts k c _)))
      (λ b. on e number t s p g l f t (advanced (process_at t p) (Freeing 0 (Abort c))) Nothing _ (Some c) (frame_none t p) refl refl
      (stop_frees e number t s p g v l live c why runs none) (λ k a. (rw (unstopped f new) (Block.stops k c _), no_begin (hand_at e t p) f k new a)))

  -- another process holds x
  why_held : (x : ℕ) → foreign (object_at e t x).holder p ≡ true → Why s p (cause_of (conflict.Held x))
  why_held x b = grind arith

  -- x has another stamp than the one that p has seen
  why_changed : (x u : ℕ) → SeenAs (Some u) (s.seen p x) → differs (Some u) (object_at e t x).stamp ≡ true → Why s p (cause_of (conflict.Changed x))
  why_changed x u a b = grind arith

  -- the same, where p may have seen none
  why_seen : (x : ℕ) (o : Option ℕ) → SeenAs o (s.seen p x) → differs o (object_at e t x).stamp ≡ true → Why s p (cause_of (conflict.Changed x))
  why_seen x o a b = grind arith

  -- a look at x that p may have seen, by what it finds
  looks : (f : Phase) (x : ℕ) (o : Option ℕ) → Looking f → gone (process_at t p).phase ≡ 0 → (s.phase p ≡ running) ⊎ (s.phase p ≡ certifying) → (differs o (object_at e t x).stamp ≡ true → Why s p (cause_of (conflict.Changed x)))
      → (foreign (object_at e t x).holder p ≡ false → differs o (object_at e t x).stamp ≡ false → Here f (passed e t p f (object_at e t x)))
      → Here f (after_look e t p f (judged (object_at e t x) p x o))
  looks f x o new none runs changed ok =
      cond_both (foreign (object_at e t x).holder p) _ _ (λ (k : Result (Object K) Conflict). Here f (after_look e t p f k))
      (λ b. stops f (conflict.Held x) new (why_held x b) runs none)
      (λ b. cond_both (differs o (object_at e t x).stamp) _ _ (λ (k : Result (Object K) Conflict). Here f (after_look e t p f k))
      (λ c. stops f (conflict.Changed x) new (changed c) runs none)
      (λ c. ok b c))

  -- the stamp and the clock
  current_cases : (st ck n : ℕ) → (leb st ck || eqb n 0) ≡ true → (st ≤ ck) ⊎ ((ck < st) × (n ≡ 0))
  current_cases st ck n h = grind arith

  -- a stamp that needs an extension
  later_is : (st ck n : ℕ) → (leb st ck || eqb n 0) ≡ false → ck < st
  later_is st ck n h = leb-false st ck (or_parts (leb st ck) (eqb n 0) h).0

  -- a read
  reads : (x : ℕ) (o : Option K) → (process_at t p).phase ≡ Reading x → value_of (write_set t p) x ≡ o → (value_of (write_set t p) x ≡ None → value_of (read_set t p) x ≡ None → (process_at t p).reads < 32) → Here (Reading x) (read_at_value e t p x o)
  reads x (Some w) q h room =
      done e number t s p g l (Reading x) (with_hand t p w) (completed (process_at t p) (process_at t p).clock) Nothing (answer_is.Read w ((process_at t p).steps + 1)) _ (frame_hand t p w) refl refl
      (own_shown e number t s p g v l x w live q h) (λ k b. rw b (Block.reads_own x w _ (own_phase (Reading x) q).2))
  reads x None q h room =
      looks (Reading x) x (value_of (read_set t p) x) tt (ap gone q) (inl a.phase) (why_seen x (value_of (read_set t p) x) (a.seen x))
      (λ clear fresh.
      cond_both (current (process_at t p) (object_at e t x).stamp) _ _ (Here (Reading x))
      (λ b. joins clear fresh (current_cases (object_at e t x).stamp (process_at t p).clock (process_at t p).reads b) (value_of (read_set t p) x) refl)
      (λ b. on e number t s p g l (Reading x) (with_hand t p content) (advanced (process_at t p) (Extending x (object_at e t x).stamp 0 access.Read)) Nothing _ None (frame_hand t p content) refl refl
      (waiting_shown e number t s p g v l x a h q clear fresh live (later_is (object_at e t x).stamp (process_at t p).clock (process_at t p).reads b))
      (λ k c. (rw c (Block.reads_waits x _ _ zero), c))))
    where
      a : Rests (process_at t p) (read_set t p) (row s p)
      a = live_at e number t s p g v l (Reading x) live q

      content : K
      content = (object_at e t x).content

      zero : (process_at t p).steps ≡ 0
      zero = (own_phase (Reading x) q).2

      -- the answer, over tables w with the record r
      answers : (w : Tables K) (r : Process) → Frame t w p → w.objects ≡ t.objects → w.writes ≡ t.writes → r.live ≡ true → r.phase ≡ Idle → r.steps ≡ 0 → r.writes ≡ (process_at t p).writes → r.clock ≡ max (process_at t p).clock (object_at e t x).stamp
          → (clear : foreign (object_at e t x).holder p ≡ false) (fresh : differs (value_of (read_set t p) x) (object_at e t x).stamp ≡ false) → In-set e number t s p g v l x a h q clear fresh (window w.reads (p * 32) r.reads)
          → ((object_at e t x).stamp ≤ (process_at t p).clock) ⊎ (((process_at t p).clock < (object_at e t x).stamp) × ((process_at t p).reads ≡ 0))
          → Here (Reading x) (outcome (answering Nothing (answer_is.Read content ((process_at t p).steps + 1))) (with_process w p r))
      answers w r f eo ew rl rp rs wr rc clear fresh inset (inl low) =
          done e number t s p g l (Reading x) w r Nothing (answer_is.Read content ((process_at t p).steps + 1)) _ f rp rs
          (now_shown e number t s p g v l x a h q clear fresh w r f eo ew rl rp wr (omega arith) inset low) (λ k b. rw b (Block.reads_now x _ _ _ zero))
      answers w r f eo ew rl rp rs wr rc clear fresh inset (inr late) =
          let d = late.0 in
          done e number t s p g l (Reading x) w r Nothing (answer_is.Read content ((process_at t p).steps + 1)) _ f rp rs
          (later_shown e number t s p g v l x a h q clear fresh w r f eo ew rl rp wr (omega arith) inset late.1 d) (λ k b. rw b (Block.reads_later x _ _ _ zero))

      -- it, by whether x is in the read set
      joins : foreign (object_at e t x).holder p ≡ false → differs (value_of (read_set t p) x) (object_at e t x).stamp ≡ false
          → ((object_at e t x).stamp ≤ (process_at t p).clock) ⊎ (((process_at t p).clock < (object_at e t x).stamp) × ((process_at t p).reads ≡ 0)) → (o : Option ℕ) → value_of (read_set t p) x ≡ o
          → Here (Reading x) (outcome (answering Nothing (answer_is.Read content ((process_at t p).steps + 1))) (joined (with_hand t p content) p x (object_at e t x).stamp (max (process_at t p).clock (object_at e t x).stamp) o))
      joins clear fresh when (Some u) k =
          answers (with_hand t p content) (completed (process_at t p) (max (process_at t p).clock (object_at e t x).stamp)) (frame_hand t p content) refl refl live refl refl refl refl clear fresh
          (in_already e number t s p g v l x a h q clear fresh u k) when
      joins clear fresh when None k =
          let w = with_hand t p content in
          let n = pair x (object_at e t x).stamp in
          answers (with_read w p (process_at t p).reads n) (read_joined (process_at t p) (max (process_at t p).clock (object_at e t x).stamp))
          (frame_both t w (with_read w p (process_at t p).reads n) p (frame_hand t p content) (frame_read w p (process_at t p).reads n (room h k))) refl refl live refl refl refl refl clear fresh
          (in_joined e number t s p g v l x a h q clear fresh (room h k) k) when

  -- a write
  writes : (x : ℕ) (o : Option ℕ) → (process_at t p).phase ≡ Writing x → x < length t.objects → place_of (write_set t p) x 0 ≡ o → (place_of (write_set t p) x 0 ≡ None → (process_at t p).writes < 16) → Here (Writing x) (write_at_place e t p x o)
  writes x (Some i) q hx h room =
      let a = live_at e number t s p g v l (Writing x) live q in
      let old = rewrite_held e number t s p g v l live x i q h in
      done e number t s p g l (Writing x) (with_write t p i (pair x (hand_at e t p))) (completed (process_at t p) (process_at t p).clock) Nothing (answer_is.Written ((process_at t p).steps + 1)) _
      (frame_write t p i (pair x (hand_at e t p)) (place_within e t p g l x i h)) refl refl
      (rewrite_shown e number t s p g v l live x i q a h) (λ k b. rw b (Block.rewrites x _ old.0 _ (own_phase (Writing x) q).2 old.2))
  writes x None q hx h room =
      looks (Writing x) x None tt (ap gone q) (inl a.phase) (λ c. cc)
      (λ clear fresh.
      cond_both (current (process_at t p) (object_at e t x).stamp) _ _ (Here (Writing x))
      (λ b. takes clear (current_cases (object_at e t x).stamp (process_at t p).clock (process_at t p).reads b))
      (λ b. on e number t s p g l (Writing x) w (advanced (write_joined (process_at t p)) (Extending x (object_at e t x).stamp 0 access.Write)) (Took x) _ None frame refl refl
      (held_waiting e number t s p g v l live x q hx a clear none (room h) (later_is (object_at e t x).stamp (process_at t p).clock (process_at t p).reads b))
      (λ k c. (rw c (Block.takes_waits x _ _ zero (free clear)), c))))
    where
      a : Rests (process_at t p) (read_set t p) (row s p)
      a = live_at e number t s p g v l (Writing x) live q

      zero : (process_at t p).steps ≡ 0
      zero = (own_phase (Writing x) q).2

      none : value_of (write_set t p) x ≡ None
      none = no_value (write_set t p) x h

      free : foreign (object_at e t x).holder p ≡ false → s.held x ≡ nobody
      free clear = held_nobody e number t s v p x clear (ap (λ (k : List (Slot K)). value_of k x) (pending_at e number t s p g v l (Writing x) q) ∙ none)

      -- the tables with x held, before p's record changes
      w : Tables K
      w = with_write (with_object t x (held_by (object_at e t x) p)) p (process_at t p).writes (pair x (hand_at e t p))

      frame : Frame t w p
      frame =
          let o = held_by (object_at e t x) p in
          frame_both t (with_object t x o) w p (frame_object t p x o) (frame_write (with_object t x o) p (process_at t p).writes (pair x (hand_at e t p)) (room h))

      -- the answer
      takes : foreign (object_at e t x).holder p ≡ false
          → ((object_at e t x).stamp ≤ (process_at t p).clock) ⊎ (((process_at t p).clock < (object_at e t x).stamp) × ((process_at t p).reads ≡ 0))
          → Here (Writing x) (outcome (answering (Took x) (answer_is.Written ((process_at t p).steps + 1))) (holding e t p x (object_at e t x) (completed (write_joined (process_at t p)) (max (process_at t p).clock (object_at e t x).stamp))))
      takes clear (inl low) =
          let c = max (process_at t p).clock (object_at e t x).stamp in
          done e number t s p g l (Writing x) w (completed (write_joined (process_at t p)) c) (Took x) (answer_is.Written ((process_at t p).steps + 1)) _ frame refl refl
          (held_now e number t s p g v l live x q hx a clear none (room h) c (omega arith) low) (λ k b. rw b (Block.takes_now x _ _ zero (free clear)))
      takes clear (inr late) =
          let d = late.0 in
          let c = max (process_at t p).clock (object_at e t x).stamp in
          done e number t s p g l (Writing x) w (completed (write_joined (process_at t p)) c) (Took x) (answer_is.Written ((process_at t p).steps + 1)) _ frame refl refl
          (held_later e number t s p g v l live x q hx a clear none (room h) c (omega arith) late.1 d) (λ k b. rw b (Block.takes_later x _ _ zero (free clear)))

  -- what p has seen of pair i
  pair_seen : (i : ℕ) → i < (process_at t p).reads → ((x : ℕ) → SeenAs (value_of (read_set t p) x) (s.seen p x)) → SeenAs (Some (read_at t p i).value) (s.seen p (read_at t p i).object)
  pair_seen i within seen =
      subst (λ (o : Option ℕ). SeenAs o (s.seen p (read_at t p i).object)) (value_is e number t s p g v l i within) (seen (read_at t p i).object)

  -- a step of an extension
  extends : (x to i : ℕ) (acc : Access) → (process_at t p).phase ≡ Extending x to i acc → i < (process_at t p).reads → (value_of (read_set t p) x ≡ None → acc ≡ access.Read → (process_at t p).reads < 32) → Here (Extending x to i acc) (after_look e t p (Extending x to i acc) (pair_looked e t p i))
  extends x to i access.Read q within room =
      let b = live_at e number t s p g v l (Extending x to i access.Read) live q in
      let a = b.0 in
      looks (Extending x to i access.Read) (read_at t p i).object (Some (read_at t p i).value) tt (ap gone q) (inl a.phase) (why_changed (read_at t p i).object (read_at t p i).value (pair_seen i within a.seen))
      (λ clear fresh.
      cond_both (eqb (i + 1) (process_at t p).reads) _ _ (Here (Extending x to i access.Read))
      (λ c. finished b.1 clear fresh (eqb-true (i + 1) (process_at t p).reads c) (value_of (read_set t p) x) refl)
      (λ c. on e number t s p g l (Extending x to i access.Read) t (advanced (process_at t p) (Extending x to (i + 1) access.Read)) Nothing _ None (frame_none t p) refl refl
      (extending_shown e number t s p g v l live x to i access.Read q within clear fresh) (λ k d. (rw d (Block.extends_read x _ _), d))))
    where
      finished : ((u : ℕ) → value_of (read_set t p) x ≡ Some u → u ≡ to) → foreign (object_at e t (read_at t p i).object).holder p ≡ false → differs (Some (read_at t p i).value) (object_at e t (read_at t p i).object).stamp ≡ false → i + 1 ≡ (process_at t p).reads
          → (o : Option ℕ) → value_of (read_set t p) x ≡ o
          → Here (Extending x to i access.Read) (outcome (answering Nothing (answer_is.Read (hand_at e t p) ((process_at t p).steps + 1))) (joined t p x to to o))
      finished same clear fresh last (Some u) k =
          done e number t s p g l (Extending x to i access.Read) t (completed (process_at t p) to) Nothing (answer_is.Read (hand_at e t p) ((process_at t p).steps + 1)) _ (frame_none t p) refl refl
          (read_extended e number t s p g v l live x to i t (completed (process_at t p) to) q last clear fresh (frame_none t p) refl refl live refl refl refl (λ y. already y))
          (λ j b. rw b (Block.reads_extended x _ _ _ _))
        where
          already : (y : ℕ) → value_of (read_set t p) y ≡ cond (eqb x y) (Some to) (value_of (read_set t p) y)
          already y = grind arith
      finished same clear fresh last None k =
          let few = room k refl in
          let size = (sizes_facts t g.sizes).reads in
          let w = with_read t p (process_at t p).reads (pair x to) in
          let f = frame_read t p (process_at t p).reads (pair x to) few in
          done e number t s p g l (Extending x to i access.Read) w (read_joined (process_at t p) to) Nothing (answer_is.Read (hand_at e t p) ((process_at t p).steps + 1)) _ f refl refl
          (read_extended e number t s p g v l live x to i w (read_joined (process_at t p) to) q last clear fresh f refl refl live refl refl refl
          (λ y. ap (λ (rs : List (Slot ℕ)). value_of rs y) (window_push t.reads (p * 32) (process_at t p).reads (pair x to) (omega arith)) ∙ value_push (read_set t p) x y to k))
          (λ j b. rw b (Block.reads_extended x _ _ _ _))
  extends x to i access.Write q within room =
      let a = live_at e number t s p g v l (Extending x to i access.Write) live q in
      looks (Extending x to i access.Write) (read_at t p i).object (Some (read_at t p i).value) tt (ap gone q) (inl a.phase) (why_changed (read_at t p i).object (read_at t p i).value (pair_seen i within a.seen))
      (λ clear fresh.
      cond_both (eqb (i + 1) (process_at t p).reads) _ _ (Here (Extending x to i access.Write))
      (λ c. done_after e number t s p g l (Extending x to i access.Write) t (completed (process_at t p) to) Nothing (answer_is.Written ((process_at t p).steps + 1)) _ (frame_none t p) refl refl
      (write_extended e number t s p g v l live x to i q (eqb-true (i + 1) (process_at t p).reads c) clear fresh) (λ b k d. rw d (Block.writes_extended x _ _ _ b)))
      (λ c. on_after e number t s p g l (Extending x to i access.Write) t (advanced (process_at t p) (Extending x to (i + 1) access.Write)) Nothing _ None (frame_none t p) refl refl
      (extending_shown e number t s p g v l live x to i access.Write q within clear fresh) (λ b k d. rw d (Block.extends_write x _ _ _ b)) (λ k d. d)))

  -- certification has begun
  certifies : (i : ℕ) → (process_at t p).phase ≡ Certifying i → Certifies (process_at t p) (read_set t p) i (row s p) → i < (process_at t p).reads → Here (Certifying i) (after_look e t p (Certifying i) (pair_looked e t p i))
  certifies i q a within =
      looks (Certifying i) (read_at t p i).object (Some (read_at t p i).value) tt (ap gone q) (inr a.phase) (why_changed (read_at t p i).object (read_at t p i).value (pair_seen i within a.seen))
      (λ clear fresh.
      cond_both (eqb (i + 1) (process_at t p).reads && eqb (process_at t p).writes 0) _ _ (Here (Certifying i))
      (λ c. let d = and_parts (eqb (i + 1) (process_at t p).reads) (eqb (process_at t p).writes 0) c in
      over e number t s p g l (Certifying i) t Nothing (answer_is.Committed ((process_at t p).steps + 1)) _ (frame_none t p)
      (certified_ends e number t s p g v l live i q a within clear fresh (eqb-true (i + 1) (process_at t p).reads d.0) (eqb-true (process_at t p).writes 0 d.1))
      (λ k b. rw b (Block.passes_last _ _)))
      (λ c. on e number t s p g l (Certifying i) t (advanced (process_at t p) (Certifying (i + 1))) Nothing _ None (frame_none t p) refl refl
      (certified_on e number t s p g v l live i q a within clear fresh) (λ k b. (rw b (Block.passes _ _), b))))

  -- a step that stores
  stores : (i : ℕ) → (process_at t p).phase ≡ Storing i → i < (process_at t p).writes → Here (Storing i) (store_step e t p i)
  stores i q within =
      let x = (write_at e t p i).object in
      let fr = frame_object t p x (stored_object (write_at e t p i).value (process_at t p).clock) in
      cond_both (eqb (i + 1) (process_at t p).writes) _ _ (Here (Storing i))
      (λ c. over e number t s p g l (Storing i) (stored e t p i) (Stored x) (answer_is.Committed ((process_at t p).steps + 1)) _ fr
      (store_last e number t s p i g v l live within (ap gone q) q (eqb-true (i + 1) (process_at t p).writes c)) (λ k b. rw b (Block.stores_last x _ _ _)))
      (λ c. on e number t s p g l (Storing i) (stored e t p i) (advanced (process_at t p) (Storing (i + 1))) (Stored x) _ None fr refl refl
      (store_on e number t s p i g v l live within (ap gone q) q) (λ k b. (rw b (Block.stores x _ _ _), b)))

  -- a step that frees, of a transaction that is given up
  frees : (i : ℕ) (x : Ending) → (process_at t p).phase ≡ Freeing i x → s.phase p ≡ aborting → (0 < (process_at t p).writes → i < (process_at t p).writes) → Here (Freeing i x) (free_step e t p i x)
  frees i x q given within =
      let y = (write_at e t p i).object in
      let fr = frame_object t p y (unheld_object (object_at e t y)) in
      cond_both (eqb (process_at t p).writes 0) _ _ (Here (Freeing i x))
      (λ c. over e number t s p g l (Freeing i x) t Nothing (ending_answer x ((process_at t p).steps + 1)) _ (frame_none t p)
      (closes e number t s p g v l live given (eqb-true (process_at t p).writes 0 c)) (λ k a. empty x k a))
      (λ c. let n = eqb-false (process_at t p).writes 0 c in
      cond_both (eqb (i + 1) (process_at t p).writes) _ _ (Here (Freeing i x))
      (λ d. over e number t s p g l (Freeing i x) (released e t y) (Freed y) (ending_answer x ((process_at t p).steps + 1)) _ fr
      (free_last e number t s p i g v l live (within (omega arith)) (ap gone q) given (eqb-true (i + 1) (process_at t p).writes d)) (λ k a. last x k a))
      (λ d. on e number t s p g l (Freeing i x) (released e t y) (advanced (process_at t p) (Freeing (i + 1) x)) (Freed y) _ (conflict_of x) fr refl refl
      (free_on e number t s p i g v l live (within (omega arith)) (ap gone q) x q given)
      (λ k a. (Block.frees k (conflict_of x) y _ _, asks_freeing (hand_at e t p) i (i + 1) x k a))))
    where
      empty : (x : Ending) (k : Request K) → Asks (hand_at e t p) (Freeing i x) k → Block s p k (process_at t p).steps (conflict_of x) (answering Nothing (ending_answer x ((process_at t p).steps + 1))) (close p ∷ []) None
      empty (Abort c) k a = Block.aborts_empty k c _
      empty Withdraw k a = rw a (Block.withdraws_empty _)

      last : (x : Ending) (k : Request K) → Asks (hand_at e t p) (Freeing i x) k
          → Block s p k (process_at t p).steps (conflict_of x) (answering (Freed (write_at e t p i).object) (ending_answer x ((process_at t p).steps + 1))) (close p ∷ free p (write_at e t p i).object (write_at e t p i).value ∷ []) None
      last (Abort c) k a = Block.aborts_freed k c _ _ _
      last Withdraw k a = rw a (Block.withdraws_freed _ _ _)

module _ {K B : Type 0} (e : K) (number : B → ℕ → ℕ) (moved : B → ℕ → ℕ → B) (rises : (b : B) (p u q : ℕ) → number b q ≤ number (moved b p u) q) (t : Tables K) (b : B) (p : ℕ) (g : Good e t) (l : p < length t.processes) (live : (process_at t p).live ≡ true) where
  -- what the step of the phase rests on
  facts : (f : Phase) → (process_at t p).phase ≡ f → PhaseFacts t p f
  facts f q =
      subst (PhaseFacts t p) q (phase_facts e t p (process_at t p).phase (phase_from e t p (process_at t p).phase g.objects (g.owns p l).phase))

  -- a step in the phase f that comes to the outcome z and leaves the bank c
  abbrev Ours : State K → B → Phase → Outcome (Stepped K) K → Type 0
  Ours s c f z = Made e (length t.processes) (number c) t z.tables s p f z.reply

  -- the sealing step
  seals : (s : State K) (i : ℕ) → View e (number b) t s → (process_at t p).phase ≡ Certifying i → Certifies (process_at t p) (read_set t p) i (row s p) → i ≡ (process_at t p).reads
      → (o : Option ℕ) → seal_stamp (process_at t p).clock (number b p) ≡ o → Ours s (sealed_bank moved b p o) (Certifying i) (sealed_at e t p o)
  seals s i v q a last (Some st) h =
      let at : 1 + max (process_at t p).clock (number b p) ≡ st = stamp_is (leb (1 + max (process_at t p).clock (number b p)) (2 ^ 40)) h in
      on e (number (moved b p st)) t s p g l (Certifying i) t (sealed (process_at t p) st) Sealed _ None (frame_none t p) refl refl
      (seal_shown e (number b) t s p g v l live i st (number (moved b p st)) q a last (omega arith) (omega arith) (λ n. rises b p st n)) (λ k c. (rw c (Block.seals _ _ _), c))
    where
      stamp_is : (c : Bool) → cond c (Some (1 + max (process_at t p).clock (number b p))) None ≡ Some st → 1 + max (process_at t p).clock (number b p) ≡ st
      stamp_is c k = grind arith
  seals s i v q a last None h = stops e (number b) t s p g v l live (Certifying i) conflict.Spent tt a.phase (inr a.phase) (ap gone q)

  -- a step of a commit, once certification has begun
  commits : (s : State K) (i : ℕ) → View e (number b) t s → (process_at t p).phase ≡ Certifying i → Certifies (process_at t p) (read_set t p) i (row s p)
      → Ours s (commit_bank number moved t b p i) (Certifying i) (commit_step e (number b p) t p i)
  commits s i v q a =
      elim (cases_Bool (ltb i (process_at t p).reads)) [
        | inl c ↦ simp c (certifies e (number b) t s p g v l live i q a (ltb-true i (process_at t p).reads c))
        | inr c ↦
            (let last : i ≡ (process_at t p).reads = (let d = ltb-false i (process_at t p).reads c in let k = (own_phase e (number b) t s p g v l live (Certifying i) q).0 in omega arith) in
            elim (cases_Bool (eqb (process_at t p).writes 0)) [
              | inl d ↦
                  simp (c, d)
                  (over e (number b) t s p g l (Certifying i) t Nothing (answer_is.Committed ((process_at t p).steps + 1)) _ (frame_none t p)
                  (commits_nothing e (number b) t s p g v l live i q a last (eqb-true (process_at t p).writes 0 d)) (λ k j. rw j (Block.commits_nothing _)))
              | inr d ↦ simp (c, d) (seals s i v q a last (seal_stamp (process_at t p).clock (number b p)) refl)
            ])
      ]

  -- the step of a call that comes to the outcome z and leaves the bank c
  abbrev Step : State K → B → Outcome (Stepped K) K → Type 0
  Step s c z = Advance e (length t.processes) (number c) t z.tables s p z.reply

  -- a step of a commit, its first one too
  commits_from : (s : State K) (i : ℕ) → View e (number b) t s → (process_at t p).phase ≡ Certifying i → NotBegun (process_at t p) (read_set t p) i (row s p) ⊎ Certifies (process_at t p) (read_set t p) i (row s p)
      → Step s (commit_bank number moved t b p i) (commit_step e (number b p) t p i)
  commits_from s i v q (inr a) =
      alone e (length t.processes) (number (commit_bank number moved t b p i)) t _ s p (Certifying i) _ q live (λ _ run. differ certifying running tt (sym a.phase ∙ run)) (commits s i v q a)
  commits_from s i v q (inl a) =
      let before = certify_first e (number b) t s p g v l live i q a in
      let s1 = next s (certify p) in
      let m = commits s1 i before.view q (begun (live_at e (number b) t s1 p g before.view l (Certifying i) live q)) in
      first e (length t.processes) (number (commit_bank number moved t b p i)) t _ s p (Certifying i) _ q live (certify p) before.lawful m
      (λ r c. rw c (Act.certifying_first a.0 (m.block tt ask.Commit refl)))
    where
      begun : NotBegun (process_at t p) (read_set t p) i (row (next s (certify p)) p) ⊎ Certifies (process_at t p) (read_set t p) i (row (next s (certify p)) p) → Certifies (process_at t p) (read_set t p) i (row (next s (certify p)) p)
      begun h = grind arith

  -- a step that frees, the first one of a withdrawal too
  frees_from : (s : State K) (i : ℕ) (x : Ending) → View e (number b) t s → (process_at t p).phase ≡ Freeing i x → FreeingAs (process_at t p) (read_set t p) i x (row s p) → Step s b (free_step e t p i x)
  frees_from s i (Abort c) v q a =
      alone e (length t.processes) (number b) t _ s p (Freeing i (Abort c)) _ q live (λ _ run. differ aborting running tt (sym a ∙ run))
      (frees e (number b) t s p g v l live i (Abort c) q a (facts (Freeing i (Abort c)) q))
  frees_from s i Withdraw v q (inr a) =
      alone e (length t.processes) (number b) t _ s p (Freeing i Withdraw) _ q live (λ no run. no) (frees e (number b) t s p g v l live i Withdraw q a (facts (Freeing i Withdraw) q))
  frees_from s i Withdraw v q (inl a) =
      let before = withdraw_first e (number b) t s p g v l live i q a in
      let s1 = next s (fail p withdrawn) in
      let m = frees e (number b) t s1 p g before.view l live i Withdraw q (put_same s.phase p aborting p refl) (facts (Freeing i Withdraw) q) in
      first e (length t.processes) (number b) t _ s p (Freeing i Withdraw) _ q live (fail p withdrawn) before.lawful m
      (λ r c. rw c (Act.withdrawing_first a.0 (m.block tt ask.Withdraw refl)))

  -- begin
  begins : (s : State K) (n least : ℕ) → View e (number b) t s → (process_at t p).phase ≡ Beginning n least → Ours s b (Beginning n least) (begin_step (number b) t p n least)
  begins s n least v q =
      let low = min (number b n) least in
      cond_both (eqb (n + 1) (length t.processes)) _ _ (Ours s b (Beginning n least))
      (λ c. done e (number b) t s p g l (Beginning n least) t (completed (process_at t p) low) Nothing (answer_is.Begun ((process_at t p).steps + 1)) _ (frame_none t p) refl refl
      (ready_shown e (number b) t s p g v l n least (eqb-true (n + 1) (length t.processes) c) live q) (λ k a. rw a (Block.begins _ _)))
      (λ c. on e (number b) t s p g l (Beginning n least) t (advanced (process_at t p) (Beginning (n + 1) low)) Nothing _ None (frame_none t p) refl refl
      (reading_bank e (number b) t s p g v l n least live q) (λ k a. (rw a (Block.reads_bank _), a)))

  -- a step whose reply is z
  replied : (s : State K) (c : B) (o : Outcome (Stepped K) K) (z : Stepped K) → (accepted o).reply ≡ Ok z → Step s c o → Advance e (length t.processes) (number c) t o.tables s p z
  replied s c o z h a =
      let same : o.reply ≡ z = cc in
      subst (λ (k : Stepped K). Advance e (length t.processes) (number c) t o.tables s p k) same a

  -- one that is its own block alone and leaves the bank
  replied_alone : (s : State K) (f : Phase) (o : Outcome (Stepped K) K) (z : Stepped K) → (process_at t p).phase ≡ f → (MayCommit f → s.phase p ≡ running → ⊥) → (accepted o).reply ≡ Ok z → Ours s b f o
      → Advance e (length t.processes) (number b) t o.tables s p z
  replied_alone s f o z q still h m =
      replied s b o z h (alone e (length t.processes) (number b) t o.tables s p f o.reply q live still m)

  -- the step of each phase
  pub phase_advances : (s : State K) (f : Phase) (z : Stepped K) → View e (number b) t s → (process_at t p).phase ≡ f → (phase_step e (number b) t p f).reply ≡ Ok z
      → Advance e (length t.processes) (number (phase_bank number moved t b p f)) t (phase_step e (number b) t p f).tables s p z
  phase_advances s Idle z v q h = cc
  phase_advances s (Beginning n least) z v q h =
      replied_alone s (Beginning n least) (begin_step (number b) t p n least) z q (λ no run. no) h (begins s n least v q)
  phase_advances s (Reading x) z v q h =
      let k = facts (Reading x) q in
      replied_alone s (Reading x) (read_step e t p x) z q (λ no run. no) h (reads e (number b) t s p g v l live x (value_of (write_set t p) x) q refl k.1)
  phase_advances s (Writing x) z v q h =
      let k = facts (Writing x) q in
      replied_alone s (Writing x) (write_step e t p x) z q (λ no run. no) h (writes e (number b) t s p g v l live x (place_of (write_set t p) x 0) q k.0 refl k.1)
  phase_advances s (Extending x to i access.Read) z v q h =
      let f = Extending x to i access.Read in
      let k = facts f q in
      replied_alone s f (after_look e t p f (pair_looked e t p i)) z q (λ no run. no) h (extends e (number b) t s p g v l live x to i access.Read q k.0 (λ n m. k.1 n))
  phase_advances s (Extending x to i access.Write) z v q h =
      let f = Extending x to i access.Write in
      replied_alone s f (after_look e t p f (pair_looked e t p i)) z q (λ no run. no) h
      (extends e (number b) t s p g v l live x to i access.Write q (facts f q).0 (λ n m. cc))
  phase_advances s (Certifying i) z v q h =
      replied s (commit_bank number moved t b p i) (commit_step e (number b p) t p i) z h (commits_from s i v q (live_at e (number b) t s p g v l (Certifying i) live q))
  phase_advances s (Storing i) z v q h =
      let a = live_at e (number b) t s p g v l (Storing i) live q in
      replied_alone s (Storing i) (store_step e t p i) z q (λ _ run. differ (sealing (process_at t p).clock) running tt (sym a ∙ run)) h (stores e (number b) t s p g v l live i q (facts (Storing i) q))
  phase_advances s (Freeing i x) z v q h =
      replied s b (free_step e t p i x) z h (frees_from s i x v q (live_at e (number b) t s p g v l (Freeing i x) live q))
