-- What the steps rest on: facts of a memory of the stated sizes in which the record of a process is sound.
use Rattle.std.specs.Prelude.{◌≡◌, ℕ, ◌*◌, ◌^◌, ◌<◌, ◌≤◌, length, None}
use Rattle.tables.specs.Lookup.{value_of, place_of}
use Rattle.tables.specs.Tables.{Tables, process_at, read_at, write_at, read_set, write_set}
use Rattle.tables.specs.declared.process.Access.{Access}
use Rattle.tables.specs.declared.process.Access.TheVariants as access
use Rattle.tables.specs.declared.process.Phase.{Phase}
use Rattle.tables.specs.declared.process.Phase.TheVariants.{Idle, Beginning, Reading, Writing, Extending, Certifying, Storing, Freeing}

-- the tables have their sizes, and the record of p its counts, clock and steps in range
pub record Ready {K : Type 0} (t : Tables K) (p : ℕ) : Type 0 where
  pub process : p < length t.processes
  pub few : length t.processes ≤ 64
  pub reads : length t.reads ≡ length t.processes * 32
  pub writes : length t.writes ≡ length t.processes * 16
  pub hands : length t.hands ≡ length t.processes
  pub read_count : (process_at t p).reads ≤ 32
  pub write_count : (process_at t p).writes ≤ 16
  pub clock : (process_at t p).clock ≤ 2 ^ 40
  pub steps : (process_at t p).steps ≤ 64

-- An access that an extension completes finds a place for the pair that joins.
abbrev pub JoinsIn : {K : Type 0} → Tables K → ℕ → ℕ → Access → Type 0
JoinsIn t p x access.Read = value_of (read_set t p) x ≡ None → (process_at t p).reads < 32
JoinsIn t p x access.Write = Unit {0}

-- what each phase rests on
abbrev pub PhaseFacts : {K : Type 0} → Tables K → ℕ → Phase → Type 0
PhaseFacts t p Idle = Unit {0}
PhaseFacts t p (Beginning next least) = next < length t.processes
PhaseFacts t p (Reading x) =
    (x < length t.objects) × (value_of (write_set t p) x ≡ None → value_of (read_set t p) x ≡ None → (process_at t p).reads < 32)
PhaseFacts t p (Writing x) = (x < length t.objects) × (place_of (write_set t p) x 0 ≡ None → (process_at t p).writes < 16)
PhaseFacts t p (Extending x to next a) = (next < (process_at t p).reads) × JoinsIn t p x a
PhaseFacts t p (Certifying next) = Unit {0}
PhaseFacts t p (Storing next) = next < (process_at t p).writes
PhaseFacts t p (Freeing next e) = 0 < (process_at t p).writes → next < (process_at t p).writes

-- the record of p is sound; its pairs name objects
pub record Sound {K : Type 0} (empty : K) (t : Tables K) (p : ℕ) : Type 0 where
  pub ready : Ready t p
  pub reads_named : (i : ℕ) → i < (process_at t p).reads → (read_at t p i).object < length t.objects
  pub writes_named : (i : ℕ) → i < (process_at t p).writes → (write_at empty t p i).object < length t.objects
