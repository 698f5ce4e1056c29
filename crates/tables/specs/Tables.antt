-- The tables of a memory as plain lists, by their parts.
use Rattle.std.specs.Prelude.{ℕ, ◌+◌, ◌*◌, Bool, false, ◌&&◌, List, length, take, drop, None, vec_items, ◌==◌, nat_le, slice_index_or, slice_set}
use Rattle.tables.specs.Lookup.{pair}
use Rattle.tables.specs.declared.map.Slot.{Slot}
use Rattle.tables.specs.declared.memory.Memory.{Memory}
use Rattle.tables.specs.declared.memory.Object.{Object}
use Rattle.tables.specs.declared.process.Process.{Process}
use Rattle.tables.specs.declared.process.Phase.TheVariants.{Idle}

pub record Tables (K : Type 0) : Type 0 where
  pub objects : List (Object K)
  pub processes : List Process
  pub reads : List (Slot ℕ)
  pub writes : List (Slot K)
  pub hands : List K

abbrev pub tables_of : {K : Type 0} → Memory K → Tables K
tables_of m =
    record {
      objects = vec_items m.objects;
      processes = vec_items m.processes;
      reads = vec_items m.reads;
      writes = vec_items m.writes;
      hands = vec_items m.hands;
    }

-- 1 to 4,096 objects and 1 to 64 processes
abbrev pub numbers_ok : ℕ → ℕ → Bool
numbers_ok objects processes = nat_le 1 objects && nat_le objects 4096 && nat_le 1 processes && nat_le processes 64

-- The sizes: the numbers of objects and processes, and for each process 32 read places, 16 write places and a hand place.
abbrev pub sizes_ok : {K : Type 0} → Tables K → Bool
sizes_ok t =
    numbers_ok (length t.objects) (length t.processes)
    && length t.reads == length t.processes * 32
    && length t.writes == length t.processes * 16
    && length t.hands == length t.processes

-- The record of a process with no transaction and clock 0.
abbrev pub idle_process : Process
idle_process = record { live = false; clock = 0; reads = 0; writes = 0; steps = 0; phase = Idle }

abbrev pub process_at : {K : Type 0} → Tables K → ℕ → Process
process_at t p = slice_index_or t.processes p idle_process

-- In what follows `empty` is the blank content of the kind.
abbrev pub blank_object : {K : Type 0} → K → Object K
blank_object empty = record { content = empty; stamp = 0; holder = None }

abbrev pub object_at : {K : Type 0} → K → Tables K → ℕ → Object K
object_at empty t x = slice_index_or t.objects x (blank_object empty)

abbrev pub hand_at : {K : Type 0} → K → Tables K → ℕ → K
hand_at empty t p = slice_index_or t.hands p empty

-- the pair in place i of p's read set, and of its write set
abbrev pub read_at : {K : Type 0} → Tables K → ℕ → ℕ → Slot ℕ
read_at t p i = slice_index_or t.reads (p * 32 + i) (pair 0 0)

abbrev pub write_at : {K : Type 0} → K → Tables K → ℕ → ℕ → Slot K
write_at empty t p i = slice_index_or t.writes (p * 16 + i) (pair 0 empty)

-- p's read set and write set: the pairs that its counts include
abbrev pub read_set : {K : Type 0} → Tables K → ℕ → List (Slot ℕ)
read_set t p = take (process_at t p).reads (drop (p * 32) t.reads)

abbrev pub write_set : {K : Type 0} → Tables K → ℕ → List (Slot K)
write_set t p = take (process_at t p).writes (drop (p * 16) t.writes)

-- the tables with one part changed
abbrev pub with_process : {K : Type 0} → Tables K → ℕ → Process → Tables K
with_process t p r =
    record { objects = t.objects; processes = slice_set t.processes p r; reads = t.reads; writes = t.writes; hands = t.hands }

abbrev pub with_object : {K : Type 0} → Tables K → ℕ → Object K → Tables K
with_object t x o =
    record { objects = slice_set t.objects x o; processes = t.processes; reads = t.reads; writes = t.writes; hands = t.hands }

abbrev pub with_read : {K : Type 0} → Tables K → ℕ → ℕ → Slot ℕ → Tables K
with_read t p i s =
    record { objects = t.objects; processes = t.processes; reads = slice_set t.reads (p * 32 + i) s; writes = t.writes; hands = t.hands }

abbrev pub with_write : {K : Type 0} → Tables K → ℕ → ℕ → Slot K → Tables K
with_write t p i s =
    record { objects = t.objects; processes = t.processes; reads = t.reads; writes = slice_set t.writes (p * 16 + i) s; hands = t.hands }

abbrev pub with_hand : {K : Type 0} → Tables K → ℕ → K → Tables K
with_hand t p v =
    record { objects = t.objects; processes = t.processes; reads = t.reads; writes = t.writes; hands = slice_set t.hands p v }
