-- A block of events of one process that touch no object: what it leaves, and the step that it shows.
use Rattle.std.proofs.Common.{◌≡◌, ℕ, ◌*◌, ◌<◌, ◌≤◌, ◌⊎◌, List, [], ◌∷◌, length, drop, sym, refl, ap, ◌∙◌, subst, inl, inr, arith}
use Rattle.std.proofs.lemmas.List.{get_or-set_same, drop_all}
use Rattle.tables.specs.Tables.{Tables, process_at, hand_at, read_set, with_process, idle_process}
use Rattle.tables.specs.declared.map.Slot.{Slot}
use Rattle.tables.specs.declared.process.Process.{Process}
use Rattle.protocol.specs.Protocol.{states, State, Event, next}
use Rattle.protocol.specs.Protocol.Held.{by}
use Rattle.protocol.specs.Protocol.Phase.{running, out}
use Rattle.protocol.specs.Protocol.Event.{begin, ready, look, check, extend, answer, own, write, certify, pass, seal, finish, move, store, fail, free, commit, close}
use Rattle.engine.specs.Ends.{ended}
use Rattle.engine.specs.Outcome.{closed}
use Rattle.protocol.proofs.Invariant.{differ}
use Rattle.refinement.proofs.Changes.{sizes_facts}
use Rattle.refinement.proofs.Frames.{Frame, frame_process, frame_ended, frame_both}
use Rattle.refinement.proofs.Own.{Good}
use Rattle.refinement.proofs.Windows.{window}
use Rattle.refinement.proofs.Rows.{Row, row, acted, Acts, row_acted, row_others}
use Rattle.refinement.proofs.View.{gone, pending_of, RowAs, View, row_at}
use Rattle.refinement.proofs.OwnRow.{quiet_view}

module _ {K : Type 0} where
  -- an event of p that changes no object, no holder and no bank
  abbrev pub Quiet : ℕ → Event K → Type 0
  Quiet p (begin q) = q ≡ p
  Quiet p (ready q c) = q ≡ p
  Quiet p (look q x v) = q ≡ p
  Quiet p (check q x) = q ≡ p
  Quiet p (extend q) = q ≡ p
  Quiet p (answer q x t v) = q ≡ p
  Quiet p (own q x v) = q ≡ p
  Quiet p (write q x v) = ⊥
  Quiet p (certify q) = q ≡ p
  Quiet p (pass q x) = q ≡ p
  Quiet p (seal q t b) = ⊥
  Quiet p (finish q) = q ≡ p
  Quiet p (move b) = ⊥
  Quiet p (store q x v t) = ⊥
  Quiet p (fail q c) = q ≡ p
  Quiet p (free q x v) = ⊥
  Quiet p (commit q t) = q ≡ p
  Quiet p (close q) = q ≡ p

  quiet_acts : (p : ℕ) (ev : Event K) → Quiet p ev → Acts ev p
  quiet_acts p ev a = grind arith

  -- the parts that belong to no process
  pub record Shared (s z : State K) : Type 0 where
    pub content : z.content ≡ s.content
    pub stamp : z.stamp ≡ s.stamp
    pub held : z.held ≡ s.held
    pub bank : z.bank ≡ s.bank

  same : (s : State K) → Shared s s
  same s = record { content = refl; stamp = refl; held = refl; bank = refl }

  quiet_shared : (s : State K) (p : ℕ) (ev : Event K) → Quiet p ev → Shared s (next s ev)
  quiet_shared s p ev a = grind arith

  -- blocks of such events, the newest first
  abbrev pub AllQuiet : ℕ → List (Event K) → Type 0
  AllQuiet p [] = Unit {0}
  AllQuiet p (ev ∷ es) = Quiet p ev × AllQuiet p es

  abbrev pub acted_all : (ℕ → ℕ) → List (Event K) → Row K → Row K
  acted_all stamp [] r = r
  acted_all stamp (ev ∷ es) r = acted stamp ev (acted_all stamp es r)

  pub all_shared : (s : State K) (p : ℕ) (es : List (Event K)) → AllQuiet p es → Shared s (states s es)
  all_shared s p [] a = same s
  all_shared s p (ev ∷ es) a =
      let b = all_shared s p es a.1 in
      let c = quiet_shared (states s es) p ev a.0 in
      record { content = c.content ∙ b.content; stamp = c.stamp ∙ b.stamp; held = c.held ∙ b.held; bank = c.bank ∙ b.bank }

  pub all_others : (s : State K) (p : ℕ) (es : List (Event K)) → AllQuiet p es → (q : ℕ) → (p ≡ q → ⊥) → row (states s es) q ≡ row s q
  all_others s p [] a q n = refl
  all_others s p (ev ∷ es) a q n = row_others (states s es) ev p q (quiet_acts p ev a.0) n ∙ all_others s p es a.1 q n

  pub all_acted : (s : State K) (p : ℕ) (es : List (Event K)) → AllQuiet p es → row (states s es) p ≡ acted_all s.stamp es (row s p)
  all_acted s p [] a = refl
  all_acted s p (ev ∷ es) a =
      row_acted (states s es) ev p (quiet_acts p ev a.0)
      ∙ ap (λ (f : ℕ → ℕ). acted f ev (row (states s es) p)) (all_shared s p es a.1).stamp
      ∙ ap (acted s.stamp ev) (all_acted s p es a.1)

-- no change at all
pub frame_none : {K : Type 0} (t : Tables K) (p : ℕ) → Frame t t p
frame_none t p =
    record {
      processes = refl;
      objects = refl;
      reads = refl;
      writes = refl;
      hands = refl;
      others = λ q n. refl;
      other_reads = λ q n d l. refl;
      other_writes = λ q n d l. refl;
      other_hands = λ q d n. refl;
    }

module _ {K : Type 0} (e : K) (number : ℕ → ℕ) (t : Tables K) (s : State K) (p : ℕ) (g : Good e t) (v : View e number t s) (l : p < length t.processes) where
  -- A step of p leads to the tables w with the record r for p: a view of the state after the block es.
  pub shows : (w : Tables K) (r : Process) (es : List (Event K)) → AllQuiet p es → Frame t w p → w.objects ≡ t.objects → w.writes ≡ t.writes
      → drop (gone r.phase) (window t.writes (p * 16) r.writes) ≡ pending_of t p
      → RowAs number r (window w.reads (p * 32) r.reads) (hand_at e w p) r.live (acted_all s.stamp es (row s p))
      → ((x : ℕ) (k : K) → (acted_all s.stamp es (row s p)).phase ≡ running → s.held x ≡ by p k
      → (s.stamp x ≤ (acted_all s.stamp es (row s p)).clock) ⊎ (s.stamp x ≤ (acted_all s.stamp es (row s p)).need))
      → View e number (with_process w p r) (states s es)
  shows w r es quiet f eo ew pend mine covers =
      let l' : p < length w.processes = subst (λ (n : ℕ). p < n) (sym f.processes) l in
      let q : process_at (with_process w p r) p ≡ r = get_or-set_same w.processes p r idle_process l' in
      let sh = all_shared s p es quiet in
      let ra = all_acted s p es quiet in
      quiet_view e number number t (with_process w p r) s (states s es) p g v (frame_both t w (with_process w p r) p f (frame_process w p r)) eo
      (ap (λ (z : Process). drop (gone z.phase) (window w.writes (p * 16) z.writes)) q
      ∙ ap (λ (z : List (Slot K)). drop (gone r.phase) (window z (p * 16) r.writes)) ew ∙ pend)
      sh.content sh.stamp sh.held (λ n. ap (λ (b : ℕ → ℕ). b n) sh.bank ∙ v.bank n) (λ n. omega arith)
      (all_others s p es quiet)
      (row_at number r (process_at (with_process w p r) p) _ _ _ _ (acted_all s.stamp es (row s p)) (row (states s es) p)
      (sym q) (ap (λ (z : Process). window w.reads (p * 32) z.reads) (sym q)) refl (sym ra) mine)
      (λ x k run h.
      let a = ap (λ (z : Row K). z.phase) ra in
      let b = ap (λ (z : Row K). z.clock) ra in
      let c = ap (λ (z : Row K). z.need) ra in
      elim (covers x k (sym a ∙ run) h) [ inl y ↦ inl (omega arith) | inr y ↦ inr (omega arith) ])

  -- Events before a step: the tables stay as they are.
  pub stays : (es : List (Event K)) → AllQuiet p es
      → RowAs number (process_at t p) (read_set t p) (hand_at e t p) (process_at t p).live (acted_all s.stamp es (row s p))
      → ((x : ℕ) (k : K) → (acted_all s.stamp es (row s p)).phase ≡ running → s.held x ≡ by p k
      → (s.stamp x ≤ (acted_all s.stamp es (row s p)).clock) ⊎ (s.stamp x ≤ (acted_all s.stamp es (row s p)).need))
      → View e number t (states s es)
  stays es quiet mine covers =
      let sh = all_shared s p es quiet in
      let ra = all_acted s p es quiet in
      quiet_view e number number t t s (states s es) p g v (frame_none t p) refl refl
      sh.content sh.stamp sh.held (λ n. ap (λ (b : ℕ → ℕ). b n) sh.bank ∙ v.bank n) (λ n. omega arith)
      (all_others s p es quiet)
      (row_at number (process_at t p) (process_at t p) (read_set t p) (read_set t p) (hand_at e t p) (hand_at e t p) _ (row (states s es) p) refl refl refl (sym ra) mine)
      (λ x k run h.
      let a = ap (λ (z : Row K). z.phase) ra in
      let b = ap (λ (z : Row K). z.clock) ra in
      let c = ap (λ (z : Row K). z.need) ra in
      elim (covers x k (sym a ∙ run) h) [ inl y ↦ inl (omega arith) | inr y ↦ inr (omega arith) ])

  -- A step that ends a transaction with nothing held.
  pub shows_ended : (es : List (Event K)) → AllQuiet p es → (process_at t p).writes ≡ 0 → (acted_all s.stamp es (row s p)).phase ≡ out → View e number (ended e t p) (states s es)
  shows_ended es quiet none over =
      let z = sizes_facts t g.sizes in
      let u = ended e t p in
      let f = frame_ended t p e l z.reads z.writes in
      let q : process_at u p ≡ closed (process_at t p) = get_or-set_same t.processes p (closed (process_at t p)) idle_process l in
      let sh = all_shared s p es quiet in
      let ra = all_acted s p es quiet in
      let ph : (row (states s es) p).phase ≡ out = ap (λ (k : Row K). k.phase) ra ∙ over in
      quiet_view e number number t u s (states s es) p g v f refl
      (ap (λ (k : Process). drop (gone k.phase) (window u.writes (p * 16) k.writes)) q
      ∙ sym (ap (λ (n : ℕ). drop (gone (process_at t p).phase) (window t.writes (p * 16) n)) none ∙ drop_all (gone (process_at t p).phase) (window t.writes (p * 16) 0) (omega arith)))
      sh.content sh.stamp sh.held (λ n. ap (λ (b : ℕ → ℕ). b n) sh.bank ∙ v.bank n) (λ n. omega arith)
      (all_others s p es quiet)
      (row_at number (closed (process_at t p)) (process_at u p) (window u.reads (p * 32) 0) (read_set u p) (hand_at e u p) (hand_at e u p) (row (states s es) p) (row (states s es) p)
      (sym q) (ap (λ (k : Process). window u.reads (p * 32) k.reads) (sym q)) refl refl (ph, refl, refl, refl))
      (λ x k run h. absurd (differ out running tt (sym ph ∙ run)))
