-- Every placing and every step on a good memory is a lawful block of events of the protocol, by what it replies.
use Rattle.std.proofs.Common.{◌≡◌, ℕ, ◌<◌, ◌≤◌, Bool, true, false, cond, List, [], ◌∷◌, length, Some, None, Ok, Err, Option, sym, refl, subst, arith}
use Rattle.std.proofs.lemmas.List.{get_or-set_same}
use Rattle.std.proofs.lemmas.Bool.{not-true}
use Rattle.tables.specs.Tables.{Tables, process_at, hand_at, with_process, with_hand, idle_process}
use Rattle.tables.specs.declared.process.Phase.{Phase}
use Rattle.tables.specs.declared.process.Phase.TheVariants.{Idle}
use Rattle.tables.specs.declared.process.Process.{Process}
use Rattle.tables.specs.declared.refusal.Refusal.{Refusal}
use Rattle.tables.specs.declared.refusal.Refusal.TheVariants as refusal
use Rattle.tables.specs.declared.reply.Request.{Request}
use Rattle.tables.specs.declared.reply.Request.TheVariants as ask
use Rattle.tables.specs.declared.reply.Stepped.{Stepped}
use Rattle.engine.specs.Place.{is_idle, due, object_no, request_no, first_no, handed, placed, place_no, place_unless, place_call}
use Rattle.engine.specs.Sound.{refused}
use Rattle.engine.specs.Step.{phase_step, phase_bank, step_unless, step_call, bank_unless, step_bank}
use Rattle.protocol.specs.Protocol.{State, Event}
use Rattle.protocol.specs.Protocol.Event.{begin}
use Rattle.refinement.proofs.Kept.{within}
use Rattle.refinement.proofs.Frames.{Frame, frame_process, frame_hand, frame_both}
use Rattle.refinement.proofs.Own.{Good}
use Rattle.refinement.proofs.Changes.{sizes_facts}
use Rattle.refinement.proofs.Blocks.{frame_none}
use Rattle.refinement.proofs.Placing.{Shown, placed_shown, begin_shown, mine}
use Rattle.refinement.proofs.Acts.{Asks, Advance}
use Rattle.refinement.proofs.Stepping.{phase_advances}
use Rattle.refinement.proofs.View.{View}

module _ {K B : Type 0} (e : K) (number : B → ℕ → ℕ) (moved : B → ℕ → ℕ → B) (rises : (b : B) (p u q : ℕ) → number b q ≤ number (moved b p u) q) where
  -- a step of a process that is there, by whether it has a transaction
  step_live : (t : Tables K) (b : B) (p : ℕ) (s : State K) → Good e t → View e (number b) t s → p < length t.processes → (z : Stepped K) → (phase_step e (number b) t p (process_at t p).phase).reply ≡ Ok z → (k : Bool) → (process_at t p).live ≡ k
      → Advance e (length t.processes) (number (phase_bank number moved t b p (process_at t p).phase)) t (phase_step e (number b) t p (process_at t p).phase).tables s p z
  step_live t b p s g v l z h true live = phase_advances e number moved rises t b p g l live s (process_at t p).phase z v refl h
  step_live t b p s g v l z h false dead =
      let idle = (mine e (number b) t s p g v l false dead).1 in
      let no = subst (λ (f : Phase). (phase_step e (number b) t p f).reply ≡ Ok z) idle h in
      cc

  -- a step that is made
  pub step_advances : (t : Tables K) (b : B) (p : ℕ) (s : State K) → Good e t → View e (number b) t s → (z : Stepped K) → (step_call e (number b) t p).reply ≡ Ok z
      → Advance e (length t.processes) (number (step_bank e number moved t b p)) t (step_call e (number b) t p).tables s p z
  step_advances t b p s g v z = go (refused e t p) refl
    where
      go : (o : Option Refusal) → refused e t p ≡ o → (step_unless o e (number b) t p).reply ≡ Ok z
          → Advance e (length t.processes) (number (bank_unless o number moved t b p)) t (step_unless o e (number b) t p).tables s p z
      go (Some q) n h = cc
      go None n h = step_live t b p s g v (within e t p n) z h (process_at t p).live refl

  -- a step that is refused changes nothing
  pub step_refused : (t : Tables K) (b : B) (p : ℕ) (q : Refusal) → (step_call e (number b) t p).reply ≡ Err q → ((step_call e (number b) t p).tables ≡ t) × (step_bank e number moved t b p ≡ b)
  step_refused t b p q = grind arith

-- the events of a placing
abbrev pub placing_events : {K : Type 0} → ℕ → Request K → List (Event K)
placing_events p ask.Begin = begin p ∷ []
placing_events p (ask.Read x) = []
placing_events p (ask.Write x w) = []
placing_events p ask.Commit = []
placing_events p ask.Withdraw = []

-- A placing of the request q for process p, from the tables t to the tables u.
pub record Placement {K : Type 0} (e : K) (P : ℕ) (number : ℕ → ℕ) (t u : Tables K) (s : State K) (p : ℕ) (q : Request K) : Type 0 where
  pub shown : Shown e P number u s (placing_events p q)
  pub within : p < length t.processes
  pub idle : (process_at t p).phase ≡ Idle
  pub due : due q (process_at t p).live ≡ true
  pub tables : u ≡ with_process (handed t p q) p (placed (process_at t p) q)
  pub process : process_at u p ≡ placed (process_at t p) q
  pub asks : Asks (hand_at e u p) (process_at u p).phase q
  pub others : (n : ℕ) → (n ≡ p → ⊥) → (process_at u n ≡ process_at t n) × (hand_at e u n ≡ hand_at e t n)

-- what follows once the block and the hand place are known
placement : {K : Type 0} (e : K) (number : ℕ → ℕ) (t : Tables K) (s : State K) (p : ℕ) (q : Request K) → p < length t.processes → (process_at t p).phase ≡ Idle → due q (process_at t p).live ≡ true → Frame t (handed t p q) p
    → Asks (hand_at e (handed t p q) p) (placed (process_at t p) q).phase q
    → Shown e (length t.processes) number (with_process (handed t p q) p (placed (process_at t p) q)) s (placing_events p q)
    → Placement e (length t.processes) number t (with_process (handed t p q) p (placed (process_at t p) q)) s p q
placement e number t s p q l idle d f asks shown =
    let w = handed t p q in
    let r = placed (process_at t p) q in
    let is : process_at (with_process w p r) p ≡ r = get_or-set_same w.processes p r idle_process (subst (λ (n : ℕ). p < n) (sym f.processes) l) in
    let fr = frame_both t w (with_process w p r) p f (frame_process w p r) in
    record {
      shown = shown;
      within = l;
      idle = idle;
      due = d;
      tables = refl;
      process = is;
      asks = subst (λ (k : Process). Asks (hand_at e w p) k.phase q) (sym is) asks;
      others = λ n k. (fr.others n k, fr.other_hands n e k);
    }

-- a phase that is idle
idle_of : (f : Phase) → is_idle f ≡ true → f ≡ Idle
idle_of f h = grind arith

module _ {K : Type 0} (e : K) (number : ℕ → ℕ) (t : Tables K) (p : ℕ) where
  -- a placing, by its request
  placed_as : (s : State K) (q : Request K) → Good e t → View e number t s → p < length t.processes → (process_at t p).phase ≡ Idle → due q (process_at t p).live ≡ true
      → Placement e (length t.processes) number t (with_process (handed t p q) p (placed (process_at t p) q)) s p q
  placed_as s ask.Begin g v l idle d =
      placement e number t s p ask.Begin l idle d (frame_none t p) refl (begin_shown e number t s p g v l (not-true (process_at t p).live d))
  placed_as s (ask.Read x) g v l idle d =
      placement e number t s p (ask.Read x) l idle d (frame_none t p) refl
      (placed_shown e number t s p g v l t (ask.Read x) (frame_none t p) refl refl refl d idle (λ n. cc))
  placed_as s (ask.Write x w) g v l idle d =
      let size = (sizes_facts t g.sizes).hands in
      let in_hand : hand_at e (with_hand t p w) p ≡ w = get_or-set_same t.hands p w e (omega arith) in
      placement e number t s p (ask.Write x w) l idle d (frame_hand t p w) (λ i. ask.Write x (sym in_hand i))
      (placed_shown e number t s p g v l (with_hand t p w) (ask.Write x w) (frame_hand t p w) refl refl refl d idle (λ n. cc))
  placed_as s ask.Commit g v l idle d =
      placement e number t s p ask.Commit l idle d (frame_none t p) refl
      (placed_shown e number t s p g v l t ask.Commit (frame_none t p) refl refl refl d idle (λ n. cc))
  placed_as s ask.Withdraw g v l idle d =
      placement e number t s p ask.Withdraw l idle d (frame_none t p) refl
      (placed_shown e number t s p g v l t ask.Withdraw (frame_none t p) refl refl refl d idle (λ n. cc))

  -- a placing that is made
  pub place_advances : (s : State K) (q : Request K) → Good e t → View e number t s → (place_call e t p q).reply ≡ Ok tt → Placement e (length t.processes) number t (place_call e t p q).tables s p q
  place_advances s q g v = go (place_no e t p q) refl
    where
      both : (x y : Option Refusal) → first_no x y ≡ None → (x ≡ None) × (y ≡ None)
      both x y h = grind arith

      asked : (x y : Bool) (o : Option Refusal) → cond x (cond y o (Some refusal.Transaction)) (Some refusal.InHand) ≡ None → (x ≡ true) × (y ≡ true)
      asked x y o h = grind arith

      go : (o : Option Refusal) → place_no e t p q ≡ o → (place_unless o t p q).reply ≡ Ok tt → Placement e (length t.processes) number t (place_unless o t p q).tables s p q
      go (Some r) n h = cc
      go None n h =
          let a = both (refused e t p) (request_no t p q) n in
          let c = asked (is_idle (process_at t p).phase) (due q (process_at t p).live) (object_no t p q) a.1 in
          placed_as s q g v (within e t p a.0) (idle_of (process_at t p).phase c.0) c.1

-- a placing that is refused changes nothing
pub place_refused : {K : Type 0} (e : K) (t : Tables K) (p : ℕ) (q : Request K) (r : Refusal) → (place_call e t p q).reply ≡ Err r → (place_call e t p q).tables ≡ t
place_refused e t p q r = grind arith
