-- What soundness says of one process, over its record and its two sets alone, and of a whole memory.
use Rattle.std.proofs.Common.{◌≡◌, ℕ, ◌+◌, ◌-◌, ◌^◌, ◌<◌, ◌≤◌, true, cond, ◌&&◌, ◌||◌, eqb, leb, ◌⊎◌, List, length, is_some, refl, ◌∙◌, arith}
use Rattle.std.proofs.lemmas.Bool.{and_from, le-leb}
use Rattle.tables.specs.Lookup.{value_of}
use Rattle.tables.specs.Tables.{Tables, process_at, read_set, write_set, sizes_ok}
use Rattle.tables.specs.declared.map.Slot.{Slot}
use Rattle.tables.specs.declared.process.Access.{Access}
use Rattle.tables.specs.declared.process.Access.TheVariants as access
use Rattle.tables.specs.declared.process.Ending.{Ending}
use Rattle.tables.specs.declared.process.Ending.TheVariants.{Abort, Withdraw}
use Rattle.tables.specs.declared.process.Phase.{Phase}
use Rattle.tables.specs.declared.process.Phase.TheVariants.{Idle, Beginning, Reading, Writing, Extending, Certifying, Storing, Freeing}
use Rattle.tables.specs.declared.process.Process.{Process}
use Rattle.tables.specs.declared.reply.Conflict.{Conflict}
use Rattle.tables.specs.declared.reply.Conflict.TheVariants.{Held, Changed, Spent}
use Rattle.engine.specs.Sound.{room, counts_ok, sets_ok, phase_ok, steps_left, sound_ok, all_named, stamps_ok, distinct}
use Rattle.refinement.proofs.Sets.{names, below, apart, ObjectsOk, named_of_below, distinct_apart}

-- the objects that an ending names are below n
abbrev pub ConflictNamed : ℕ → Conflict → Type 0
ConflictNamed n (Held x) = x < n
ConflictNamed n (Changed x) = x < n
ConflictNamed n Spent = Unit {0}

abbrev pub EndingNamed : ℕ → Ending → Type 0
EndingNamed n (Abort c) = ConflictNamed n c
EndingNamed n Withdraw = Unit {0}

abbrev pub AccessFits : Process → List (Slot ℕ) → ℕ → Access → Type 0
AccessFits r rs x access.Read = room rs r.reads 32 x ≡ true
AccessFits r rs x access.Write = Unit {0}

-- the phase of a process: P processes, N objects; a begin makes at most P steps, other requests at most 49
abbrev pub PhaseOwn : {K : Type 0} → ℕ → ℕ → Process → List (Slot ℕ) → List (Slot K) → Phase → Type 0
PhaseOwn P N r rs ws Idle = r.steps ≡ 0
PhaseOwn P N r rs ws (Beginning next least) = (next < P) × (least ≤ 2 ^ 40) × (r.steps ≤ next)
PhaseOwn P N r rs ws (Reading x) =
    (x < N) × ((is_some (value_of ws x) || room rs r.reads 32 x) ≡ true) × (r.steps ≡ 0)
PhaseOwn P N r rs ws (Writing x) = (x < N) × (room ws r.writes 16 x ≡ true) × (r.steps ≡ 0)
PhaseOwn P N r rs ws (Extending x to next a) =
    (x < N) × (to ≤ 2 ^ 40) × (next < r.reads) × AccessFits r rs x a × (r.steps + (r.reads - next) + r.writes ≤ 49)
PhaseOwn P N r rs ws (Certifying next) = (next ≤ r.reads) × (r.steps + (r.reads - next) + 1 + r.writes ≤ 49)
PhaseOwn P N r rs ws (Storing next) = (next < r.writes) × (r.steps + (r.writes - next) ≤ 49)
PhaseOwn P N r rs ws (Freeing next e) =
    ((r.writes ≡ 0) ⊎ (next < r.writes)) × EndingNamed N e × (r.steps + cond (eqb r.writes 0) 1 (r.writes - next) ≤ 49)

pub record OwnOf {K : Type 0} (P N : ℕ) (r : Process) (rs : List (Slot ℕ)) (ws : List (Slot K)) : Type 0 where
  pub read_count : r.reads ≤ 32
  pub write_count : r.writes ≤ 16
  pub clock : r.clock ≤ 2 ^ 40
  pub reads_below : below N (names rs) ≡ true
  pub writes_below : below N (names ws) ≡ true
  pub reads_apart : apart (names rs) ≡ true
  pub writes_apart : apart (names ws) ≡ true
  pub stamps : stamps_ok rs ≡ true
  pub phase : PhaseOwn P N r rs ws r.phase

abbrev pub Own : {K : Type 0} → Tables K → ℕ → Type 0
Own t p = OwnOf (length t.processes) (length t.objects) (process_at t p) (read_set t p) (write_set t p)

pub record Good {K : Type 0} (e : K) (t : Tables K) : Type 0 where
  pub sizes : sizes_ok t ≡ true
  pub objects : ObjectsOk e t.objects (length t.processes)
  pub owns : (p : ℕ) → p < length t.processes → Own t p

pub phase_from : {K : Type 0} (e : K) (t : Tables K) (p : ℕ) (f : Phase) → ObjectsOk e t.objects (length t.processes) → PhaseOwn (length t.processes) (length t.objects) (process_at t p) (read_set t p) (write_set t p) f → phase_ok e t p (process_at t p) f ≡ true
phase_from e t p f ok h = grind arith

pub steps_from : {K : Type 0} (t : Tables K) (p : ℕ) (f : Phase) → length t.processes ≤ 64 → (process_at t p).reads ≤ 32 → (process_at t p).writes ≤ 16 → (process_at t p).phase ≡ f → PhaseOwn (length t.processes) (length t.objects) (process_at t p) (read_set t p) (write_set t p) f → (process_at t p).steps + steps_left t p (process_at t p) f ≤ 64
steps_from t p f few a b q h = grind arith

few_from : {K : Type 0} (t : Tables K) → sizes_ok t ≡ true → length t.processes ≤ 64
few_from t h = grind arith

pub sound_from : {K : Type 0} (e : K) (t : Tables K) (p : ℕ) → Good e t → p < length t.processes → sound_ok e t p ≡ true
sound_from e t p g l =
    let o = g.owns p l in
    let r = process_at t p in
    let few = few_from t g.sizes in
    let st = steps_from t p r.phase few o.read_count o.write_count refl o.phase in
    let counts : counts_ok r ≡ true = counts_from r.reads r.writes r.clock r.steps o.read_count o.write_count o.clock (omega arith) in
    let sets : sets_ok e t p ≡ true =
    and_from _ (distinct (write_set t p))
    (and_from _ (distinct (read_set t p))
    (and_from _ (stamps_ok (read_set t p))
    (and_from (all_named e t.objects (length t.processes) (read_set t p)) (all_named e t.objects (length t.processes) (write_set t p))
    (named_of_below e t.objects (length t.processes) (read_set t p) g.objects o.reads_below)
    (named_of_below e t.objects (length t.processes) (write_set t p) g.objects o.writes_below))
    o.stamps)
    (distinct_apart (read_set t p) ∙ o.reads_apart))
    (distinct_apart (write_set t p) ∙ o.writes_apart) in
    and_from (counts_ok r && sets_ok e t p && phase_ok e t p r r.phase) (leb (r.steps + steps_left t p r r.phase) 64)
    (and_from (counts_ok r && sets_ok e t p) (phase_ok e t p r r.phase)
    (and_from (counts_ok r) (sets_ok e t p) counts sets)
    (phase_from e t p r.phase g.objects o.phase))
    (le-leb (r.steps + steps_left t p r r.phase) 64 st)
  where
    counts_from : (a b c d : ℕ) → a ≤ 32 → b ≤ 16 → c ≤ 2 ^ 40 → d ≤ 64 → (leb a 32 && leb b 16 && leb c (2 ^ 40) && leb d 64) ≡ true
    counts_from a b c d h i j k = grind arith
