-- Every list of calls on a fresh memory is a lawful run of the protocol, whose last state the tables and the bank show.
use Rattle.std.proofs.Common.{◌≡◌, ℕ, ◌^◌, ◌≤◌, true, List, [], ◌∷◌, ◌++◌, length, Ok, Err, Result, sym, refl, ◌∙◌, subst}
use Rattle.std.proofs.lemmas.List.{length-replicate}
use Rattle.tables.specs.Fresh.{fresh_tables}
use Rattle.tables.specs.Tables.{Tables, numbers_ok, idle_process}
use Rattle.tables.specs.declared.refusal.Refusal.{Refusal}
use Rattle.tables.specs.declared.reply.Stepped.{Stepped}
use Rattle.engine.specs.Place.{place_call}
use Rattle.engine.specs.Step.{step_call, step_bank}
use Rattle.protocol.specs.Protocol.{State, Event, Lawful, LawfulFrom, state, fresh}
use Rattle.protocol.proofs.Blocks.{joined, lawful_on}
use Rattle.refinement.proofs.Calls.{step_advances, place_advances, step_refused, place_refused, placing_events}
use Rattle.refinement.proofs.Counts.{step_counts, place_counts}
use Rattle.refinement.proofs.Kept.{fresh_good}
use Rattle.refinement.proofs.Own.{Good}
use Rattle.refinement.proofs.Placing.{Shown}
use Rattle.refinement.proofs.View.{View}
use Rattle.law.proofs.Course.{opening, fresh_view}
use Rattle.journal.specs.Runs.{World, world, after_call, after_calls}
use Rattle.journal.specs.declared.call.Call.{Call}
use Rattle.journal.proofs.Trusting.{call_good}
use Rattle.journal.specs.declared.call.Call.TheVariants.{Place, Step}

-- a block of events that the tables u show
pub record Refined {K : Type 0} (e : K) (P : ℕ) (number : ℕ → ℕ) (u : Tables K) (s : State K) : Type 0 where
  pub events : List (Event K)
  pub shown : Shown e P number u s events

-- nothing happens
nothing : {K : Type 0} (e : K) (P : ℕ) (number : ℕ → ℕ) (t : Tables K) (s : State K) → View e number t s → Refined e P number t s
nothing e P number t s v = record { events = []; shown = record { lawful = tt; view = v } }

-- a run of events, from a fresh state, that the tables and the bank of a world show
pub record Follows {K B : Type 0} (e : K) (number : B → ℕ → ℕ) (P : ℕ) (start : ℕ → K) (b : ℕ → ℕ) (w : World K B) : Type 0 where
  pub events : List (Event K)
  pub lawful : Lawful P start b events
  pub view : View e (number w.bank) w.tables (state start b events)

module _ {K B : Type 0} (e : K) (number : B → ℕ → ℕ) (moved : B → ℕ → ℕ → B) (rises : (b : B) (p u q : ℕ) → number b q ≤ number (moved b p u) q) where
  -- a call
  pub call_refined : (w : World K B) (c : Call K) (s : State K) → Good e w.tables → View e (number w.bank) w.tables s
      → Refined e (length w.tables.processes) (number (after_call e number moved w c).bank) (after_call e number moved w c).tables s
  call_refined w (Place p q) s g v = go (place_call e w.tables p q).reply refl
    where
      go : (r : Result (Unit {0}) Refusal) → (place_call e w.tables p q).reply ≡ r
          → Refined e (length w.tables.processes) (number w.bank) (place_call e w.tables p q).tables s
      go (Ok tt) h = record { events = placing_events p q; shown = (place_advances e (number w.bank) w.tables p s q g v h).shown }
      go (Err r) h =
          subst (λ (u : Tables K). Refined e (length w.tables.processes) (number w.bank) u s) (sym (place_refused e w.tables p q r h))
          (nothing e (length w.tables.processes) (number w.bank) w.tables s v)
  call_refined w (Step p) s g v = go (step_call e (number w.bank) w.tables p).reply refl
    where
      go : (r : Result (Stepped K) Refusal) → (step_call e (number w.bank) w.tables p).reply ≡ r
          → Refined e (length w.tables.processes) (number (step_bank e number moved w.tables w.bank p)) (step_call e (number w.bank) w.tables p).tables s
      go (Ok z) h =
          let a = step_advances e number moved rises w.tables w.bank p s g v z h in
          record { events = a.events; shown = a.shown }
      go (Err r) h =
          let k = step_refused e number moved rises w.tables w.bank p r h in
          subst (λ (u : Tables K). Refined e (length w.tables.processes) (number (step_bank e number moved w.tables w.bank p)) u s) (sym k.0)
          (subst (λ (c : B). Refined e (length w.tables.processes) (number c) w.tables s) (sym k.1)
          (nothing e (length w.tables.processes) (number w.bank) w.tables s v))

module _ {K B : Type 0} (e : K) (number : B → ℕ → ℕ) (moved : B → ℕ → ℕ → B) (ranged : (b : B) (q : ℕ) → number b q ≤ 2 ^ 40) (rises : (b : B) (p u q : ℕ) → number b q ≤ number (moved b p u) q) where
  call_counts : (w : World K B) (c : Call K) → length (after_call e number moved w c).tables.processes ≡ length w.tables.processes
  call_counts w (Place p q) = place_counts e w.tables p q
  call_counts w (Step p) = step_counts e w.tables p (number w.bank)

  module _ (P : ℕ) (start : ℕ → K) (b : ℕ → ℕ) where
    one_more : (w : World K B) (c : Call K) → Good e w.tables → length w.tables.processes ≡ P → Follows e number P start b w → Follows e number P start b (after_call e number moved w c)
    one_more w c g n f =
        let r = call_refined e number moved rises w c (state start b f.events) g f.view in
        record {
          events = r.events ++ f.events;
          lawful = lawful_on P (fresh start b) r.events f.events f.lawful
              (subst (λ (m : ℕ). LawfulFrom m (state start b f.events) r.events) n r.shown.lawful);
          view = subst (View e (number (after_call e number moved w c).bank) (after_call e number moved w c).tables) (sym (joined (fresh start b) r.events f.events)) r.shown.view;
        }

    follows : (w : World K B) (cs : List (Call K)) → Good e w.tables → length w.tables.processes ≡ P → Follows e number P start b w → Follows e number P start b (after_calls e number moved w cs)
    follows w [] g n f = f
    follows w (c ∷ cs) g n f =
        follows (after_call e number moved w c) cs (call_good e number moved ranged w c g) (call_counts w c ∙ n) (one_more w c g n f)

  pub run_refined : (contents : List K) (n : ℕ) (b : B) (cs : List (Call K)) → numbers_ok (length contents) n ≡ true
      → Follows e number n (opening e (number b) contents n) (number b) (after_calls e number moved (world (fresh_tables e contents n) b) cs)
  run_refined contents n b cs h =
      follows n (opening e (number b) contents n) (number b) (world (fresh_tables e contents n) b) cs
      (fresh_good e contents n h) (length-replicate n idle_process)
      (record { events = []; lawful = tt; view = fresh_view e (number b) contents n })
