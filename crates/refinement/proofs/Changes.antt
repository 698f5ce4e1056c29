-- Each part of a step keeps a memory good.
use Rattle.std.proofs.Common.{◌≡◌, ℕ, ◌+◌, ◌-◌, ◌*◌, ◌^◌, ◌<◌, ◌≤◌, true, false, cond, ◌&&◌, eqb, ltb, leb, List, [], ◌∷◌, ◌++◌, length, get_or, set, is_some, Some, None, Option, sym, refl, ap, ◌∙◌, inl, inr, arith}
use Rattle.std.proofs.lemmas.Bool.{cases_lt, and_parts, and_from, leb-true, cond_both, lt-ltb}
use Rattle.std.proofs.lemmas.List.{get_or_past}
use Rattle.tables.specs.Lookup.{pair, value_of, place_of}
use Rattle.tables.specs.Tables.{Tables, process_at, hand_at, read_set, write_set, with_process, with_object, with_read, with_write, with_hand, blank_object, sizes_ok}
use Rattle.tables.specs.declared.map.Slot.{Slot}
use Rattle.tables.specs.declared.memory.Object.{Object}
use Rattle.tables.specs.declared.process.Ending.TheVariants.{Abort}
use Rattle.tables.specs.declared.process.Phase.{Phase}
use Rattle.tables.specs.declared.process.Phase.TheVariants.{Freeing}
use Rattle.tables.specs.declared.process.Process.{Process}
use Rattle.tables.specs.declared.reply.Conflict.{Conflict}
use Rattle.engine.specs.Outcome.{Outcome, advanced, completed, closed}
use Rattle.engine.specs.Ends.{ended, stopped}
use Rattle.engine.specs.Reads.{read_joined, joined}
use Rattle.engine.specs.Writes.{held_by, holding}
use Rattle.engine.specs.Ready.{Sound}
use Rattle.engine.specs.Sound.{object_ok, holder_ok, counts_ok, sets_ok, phase_ok, steps_left}
use Rattle.engine.proofs.Facts.{ready, sound_facts}
use Rattle.refinement.proofs.Windows.{window, window_push, window_at, window_length}
use Rattle.refinement.proofs.Sets.{names, below, among, apart, ObjectsOk, value_among, below_push, apart_push, stamps_push, names_push, place_found, names_same}
use Rattle.refinement.proofs.Own.{ConflictNamed, PhaseOwn, OwnOf, Own, Good, sound_from}
use Rattle.refinement.proofs.Frames.{frame_process, frame_object, frame_hand, frame_read, frame_write, frame_ended, frame_both, own_at, own_with, objects_kept, keeps}

pub record Sizes {K : Type 0} (t : Tables K) : Type 0 where
  pub few : length t.processes ≤ 64
  pub reads : length t.reads ≡ length t.processes * 32
  pub writes : length t.writes ≡ length t.processes * 16
  pub hands : length t.hands ≡ length t.processes

pub sizes_facts : {K : Type 0} (t : Tables K) → sizes_ok t ≡ true → Sizes t
sizes_facts t h = grind arith

-- the pairs of a sound record name objects
pub sound_of : {K : Type 0} (e : K) (t : Tables K) (p : ℕ) → Good e t → p < length t.processes → Sound e t p
sound_of e t p g l =
    let r = process_at t p in
    let c = counts_ok r in
    let s = sets_ok e t p in
    let f = phase_ok e t p r r.phase in
    let a = and_parts (c && s && f) (leb (r.steps + steps_left t p r r.phase) 64) (sound_from e t p g l) in
    let b = and_parts (c && s) f a.0 in
    let d = and_parts c s b.0 in
    sound_facts e t p (ready t p g.sizes l d.0) d.1

-- objects in range
pub ok_at : {K : Type 0} (e : K) (os : List (Object K)) (n x : ℕ) → ObjectsOk e os n → object_ok (get_or os x (blank_object e)) n ≡ true
ok_at e os n x ok =
    elim (cases_lt x (length os)) [
      | inl l ↦ ok x l
      | inr l ↦ ap (λ (o : Object _). object_ok o n) (get_or_past os x (blank_object e) l)
    ]

pub stamp_ok : {K : Type 0} (o : Object K) (n : ℕ) → object_ok o n ≡ true → o.stamp ≤ 2 ^ 40
stamp_ok o n h = leb-true o.stamp (2 ^ 40) (and_parts (leb o.stamp (2 ^ 40)) (holder_ok o.holder n) h).0

module _ {K : Type 0} (e : K) (t : Tables K) (p : ℕ) (g : Good e t) (l : p < length t.processes) where
  own : Own t p
  own = g.owns p l

  sizes : Sizes t
  sizes = sizes_facts t g.sizes

  -- the record changes, and its sets stay
  pub sets_stay : (r : Process) → r.reads ≡ (process_at t p).reads → r.writes ≡ (process_at t p).writes → r.clock ≤ 2 ^ 40 → PhaseOwn (length t.processes) (length t.objects) r (read_set t p) (write_set t p) r.phase → Good e (with_process t p r)
  sets_stay r er ew hc ph =
      let o : OwnOf (length t.processes) (length t.objects) r (read_set t p) (write_set t p) =
      record {
        read_count = let z = own.read_count in omega arith;
        write_count = let z = own.write_count in omega arith;
        clock = hc;
        reads_below = own.reads_below;
        writes_below = own.writes_below;
        reads_apart = own.reads_apart;
        writes_apart = own.writes_apart;
        stamps = own.stamps;
        phase = ph;
      } in
      keeps e t (with_process t p r) p g (frame_process t p r) g.objects
      (own_with t p r l
      (own_at _ _ _ _ _ _ _ _ _ _ refl refl refl (ap (window t.reads (p * 32)) (sym er)) (ap (window t.writes (p * 16)) (sym ew)) o))

  -- the request is answered
  pub completes : (c : ℕ) → c ≤ 2 ^ 40 → Good e (with_process t p (completed (process_at t p) c))
  completes c h = sets_stay (completed (process_at t p) c) refl refl h refl

  -- the request goes on in a phase
  pub advances : (f : Phase) → PhaseOwn (length t.processes) (length t.objects) (advanced (process_at t p) f) (read_set t p) (write_set t p) f → Good e (with_process t p (advanced (process_at t p) f))
  advances f h = sets_stay (advanced (process_at t p) f) refl refl own.clock h

  -- the hand place
  pub hands_good : (v : K) → Good e (with_hand t p v)
  hands_good v = keeps e t (with_hand t p v) p g (frame_hand t p v) g.objects own

  -- an object
  pub object_good : (x : ℕ) (o : Object K) → object_ok o (length t.processes) ≡ true → Good e (with_object t x o)
  object_good x o h =
      let f = frame_object t p x o in
      keeps e t (with_object t x o) p g f (objects_kept e t.objects (length t.processes) x o g.objects h)
      (own_at _ _ _ _ _ _ _ _ _ _ refl (sym f.objects) refl refl refl own)

  -- the transaction has ended
  pub ends : Good e (ended e t p)
  ends =
      let w : Tables K = record { objects = t.objects; processes = t.processes; reads = (ended e t p).reads; writes = (ended e t p).writes; hands = (ended e t p).hands } in
      keeps e t (ended e t p) p g (frame_ended t p e l sizes.reads sizes.writes) g.objects
      (own_with w p (closed (process_at t p)) l
      (record {
        read_count = omega arith;
        write_count = omega arith;
        clock = own.clock;
        reads_below = refl;
        writes_below = refl;
        reads_apart = refl;
        writes_apart = refl;
        stamps = refl;
        phase = refl;
      }))

  not_among : {V : Type 0} (xs : List (Slot V)) (x : ℕ) → value_of xs x ≡ None → among x (names xs) ≡ false
  not_among xs x h = sym (value_among xs x) ∙ ap is_some h

  -- one pair more in the read set
  pub joins : (x s c : ℕ) → x < length t.objects → s ≤ 2 ^ 40 → c ≤ 2 ^ 40 → (process_at t p).reads < 32 → value_of (read_set t p) x ≡ None → Good e (with_process (with_read t p (process_at t p).reads (pair x s)) p (read_joined (process_at t p) c))
  joins x s c hx hs hc few none =
      let n = (process_at t p).reads in
      let w = with_read t p n (pair x s) in
      let r = read_joined (process_at t p) c in
      let size = sizes.reads in
      let push : window w.reads (p * 32) (n + 1) ≡ read_set t p ++ pair x s ∷ [] = window_push t.reads (p * 32) n (pair x s) (omega arith) in
      let named = names_push (read_set t p) (pair x s) in
      let o : OwnOf (length t.processes) (length t.objects) r (read_set t p ++ pair x s ∷ []) (write_set t p) =
      record {
        read_count = omega arith;
        write_count = own.write_count;
        clock = hc;
        reads_below = ap (below (length t.objects)) named ∙ below_push (length t.objects) (names (read_set t p)) x own.reads_below hx;
        writes_below = own.writes_below;
        reads_apart = ap apart named ∙ apart_push (names (read_set t p)) x own.reads_apart (not_among (read_set t p) x none);
        writes_apart = own.writes_apart;
        stamps = stamps_push (read_set t p) (pair x s) own.stamps hs;
        phase = refl;
      } in
      keeps e t (with_process w p r) p g (frame_both t w (with_process w p r) p (frame_read t p n (pair x s) few) (frame_process w p r)) g.objects
      (own_with w p r l (own_at _ _ _ _ _ _ _ _ _ _ refl refl refl (sym push) refl o))

  -- a read is answered, by whether its object is in the read set
  pub joined_good : (x s c : ℕ) (seen : Option ℕ) → value_of (read_set t p) x ≡ seen → x < length t.objects → s ≤ 2 ^ 40 → c ≤ 2 ^ 40 → (value_of (read_set t p) x ≡ None → (process_at t p).reads < 32) → Good e (joined t p x s c seen)
  joined_good x s c (Some u) q hx hs hc few = completes c hc
  joined_good x s c None q hx hs hc few = joins x s c hx hs hc (few q) q

  -- one pair more in the write set, with x held by p
  pub holds : (x : ℕ) (o : Object K) (r : Process) → x < length t.objects → object_ok o (length t.processes) ≡ true → (process_at t p).writes < 16 → value_of (write_set t p) x ≡ None
      → r.reads ≡ (process_at t p).reads → r.writes ≡ (process_at t p).writes + 1 → r.clock ≤ 2 ^ 40
      → PhaseOwn (length t.processes) (length t.objects) r (read_set t p) (write_set t p ++ pair x (hand_at e t p) ∷ []) r.phase
      → Good e (holding e t p x o r)
  holds x o r hx ho few none er ew hc ph =
      let n = (process_at t p).writes in
      let s = pair x (hand_at e t p) in
      let v = with_object t x (held_by o p) in
      let w = with_write v p n s in
      let size = sizes.writes in
      let push : window w.writes (p * 16) (n + 1) ≡ write_set t p ++ s ∷ [] = window_push t.writes (p * 16) n s (omega arith) in
      let named = names_push (write_set t p) s in
      let ok : object_ok (held_by o p) (length t.processes) ≡ true = and_from (leb o.stamp (2 ^ 40)) (ltb p (length t.processes)) (and_parts (leb o.stamp (2 ^ 40)) (holder_ok o.holder (length t.processes)) ho).0 (lt-ltb p (length t.processes) l) in
      let f = frame_object t p x (held_by o p) in
      let oo : OwnOf (length t.processes) (length t.objects) r (read_set t p) (write_set t p ++ s ∷ []) =
      record {
        read_count = let z = own.read_count in omega arith;
        write_count = omega arith;
        clock = hc;
        reads_below = own.reads_below;
        writes_below = ap (below (length t.objects)) named ∙ below_push (length t.objects) (names (write_set t p)) x own.writes_below hx;
        reads_apart = own.reads_apart;
        writes_apart = ap apart named ∙ apart_push (names (write_set t p)) x own.writes_apart (not_among (write_set t p) x none);
        stamps = own.stamps;
        phase = ph;
      } in
      keeps e t (with_process w p r) p g
      (frame_both t w (with_process w p r) p (frame_both t v w p f (frame_write v p n s few)) (frame_process w p r))
      (objects_kept e t.objects (length t.processes) x (held_by o p) g.objects ok)
      (own_with w p r l
      (own_at _ _ _ _ _ _ _ _ _ _ refl (sym f.objects) refl
      (ap (window t.reads (p * 32)) (sym er))
      (sym push ∙ ap (window w.writes (p * 16)) (sym ew)) oo))

  -- the place of a pair in the write set
  pub place_within : (x i : ℕ) → place_of (write_set t p) x 0 ≡ Some i → i < 16
  place_within x i q =
      let found = (place_found (write_set t p) x 0 i q).1 in
      let size = sizes.writes in
      let few = own.write_count in
      let long = window_length t.writes (p * 16) (process_at t p).writes (omega arith) in
      omega arith

  -- a pair's value is replaced in the write set
  pub replaces : (x i : ℕ) → place_of (write_set t p) x 0 ≡ Some i → Good e (with_process (with_write t p i (pair x (hand_at e t p))) p (completed (process_at t p) (process_at t p).clock))
  replaces x i q =
      let v = hand_at e t p in
      let n = (process_at t p).writes in
      let w = with_write t p i (pair x v) in
      let r = completed (process_at t p) (process_at t p).clock in
      let found = place_found (write_set t p) x 0 i q in
      let inside = place_within x i q in
      let same : names (set (write_set t p) i (pair x v)) ≡ names (write_set t p) =
      names_same (write_set t p) x i v (λ d. ap (λ (k : ℕ). get_or (names (write_set t p)) k d) (omega arith) ∙ found.2 d) in
      let at : window w.writes (p * 16) n ≡ set (write_set t p) i (pair x v) = window_at t.writes (p * 16) n i (pair x v) in
      let o : OwnOf (length t.processes) (length t.objects) r (read_set t p) (set (write_set t p) i (pair x v)) =
      record {
        read_count = own.read_count;
        write_count = own.write_count;
        clock = own.clock;
        reads_below = own.reads_below;
        writes_below = ap (below (length t.objects)) same ∙ own.writes_below;
        reads_apart = own.reads_apart;
        writes_apart = ap apart same ∙ own.writes_apart;
        stamps = own.stamps;
        phase = refl;
      } in
      keeps e t (with_process w p r) p g (frame_both t w (with_process w p r) p (frame_write t p i (pair x v) inside) (frame_process w p r)) g.objects
      (own_with w p r l (own_at _ _ _ _ _ _ _ _ _ _ refl refl refl refl (sym at) o))

  -- a conflict
  pub stops : (c : Conflict) → ConflictNamed (length t.objects) c → (process_at t p).steps + 1 + (process_at t p).writes ≤ 49 → Good e (stopped e t p c).tables
  stops c named few =
      cond_both (eqb (process_at t p).writes 0) _ _ (λ (z : Outcome _ K). Good e z.tables)
      (λ _. ends)
      (λ q. advances (Freeing 0 (Abort c)) (inr (positive (process_at t p).writes q), named, freeing (process_at t p).writes (process_at t p).steps q few))
    where
      positive : (n : ℕ) → eqb n 0 ≡ false → 0 < n
      positive n q = grind arith

      freeing : (n s : ℕ) → eqb n 0 ≡ false → s + 1 + n ≤ 49 → s + 1 + cond (eqb n 0) 1 (n - 0) ≤ 49
      freeing n s q h = simp q (omega arith)
