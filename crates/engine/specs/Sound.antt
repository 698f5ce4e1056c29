-- The questions on the tables' sizes, the process, and the soundness of its record.
use Rattle.std.specs.Prelude.{ℕ, ◌+◌, ◌-◌, ◌^◌, Bool, true, cond, not, ◌&&◌, ◌||◌, List, [], ◌∷◌, length, is_some, Some, None, Option, ◌==◌, nat_le, nat_lt, slice_index_or}
use Rattle.std.specs.List.{list_all}
use Rattle.tables.specs.Lookup.{value_of}
use Rattle.tables.specs.Tables.{Tables, process_at, blank_object, read_set, write_set, sizes_ok}
use Rattle.tables.specs.declared.map.Slot.{Slot}
use Rattle.tables.specs.declared.memory.Object.{Object}
use Rattle.tables.specs.declared.process.Access.{Access}
use Rattle.tables.specs.declared.process.Access.TheVariants as access
use Rattle.tables.specs.declared.process.Ending.{Ending}
use Rattle.tables.specs.declared.process.Ending.TheVariants.{Abort, Withdraw}
use Rattle.tables.specs.declared.process.Phase.{Phase}
use Rattle.tables.specs.declared.process.Phase.TheVariants.{Idle, Beginning, Reading, Writing, Extending, Certifying, Storing, Freeing}
use Rattle.tables.specs.declared.process.Process.{Process}
use Rattle.tables.specs.declared.refusal.Refusal.{Refusal}
use Rattle.tables.specs.declared.refusal.Refusal.TheVariants as refusal
use Rattle.tables.specs.declared.reply.Conflict.{Conflict}
use Rattle.tables.specs.declared.reply.Conflict.TheVariants.{Held, Changed, Spent}

-- a holder is one of n processes, or nobody
abbrev pub holder_ok : Option ℕ → ℕ → Bool
holder_ok None n = true
holder_ok (Some q) n = nat_lt q n

-- the stamp and the holder are in range
abbrev pub object_ok : {K : Type 0} → Object K → ℕ → Bool
object_ok o n = nat_le o.stamp (2 ^ 40) && holder_ok o.holder n

-- x is an object, with a stamp and a holder in range; n is the number of processes
abbrev pub named_ok : {K : Type 0} → K → List (Object K) → ℕ → ℕ → Bool
named_ok empty os n x = nat_lt x (length os) && object_ok (slice_index_or os x (blank_object empty)) n

-- each pair of a set names such an object
abbrev pub all_named : {K V : Type 0} → K → List (Object K) → ℕ → List (Slot V) → Bool
all_named {V = V} empty os n = list_all (λ (s : Slot V). named_ok empty os n s.object)

-- no object is in the set twice
abbrev pub distinct : {V : Type 0} → List (Slot V) → Bool
distinct [] = true
distinct (s ∷ ss) = not (is_some (value_of ss s.object)) && distinct ss

-- each stamp is at most 2^40
abbrev pub stamps_ok : List (Slot ℕ) → Bool
stamps_ok = list_all (λ (s : Slot ℕ). nat_le s.value (2 ^ 40))

-- counts, clock and steps are within their limits
abbrev pub counts_ok : Process → Bool
counts_ok r = nat_le r.reads 32 && nat_le r.writes 16 && nat_le r.clock (2 ^ 40) && nat_le r.steps 64

-- both sets are sound
abbrev pub sets_ok : {K : Type 0} → K → Tables K → ℕ → Bool
sets_ok empty t p =
    all_named empty t.objects (length t.processes) (read_set t p)
    && all_named empty t.objects (length t.processes) (write_set t p)
    && stamps_ok (read_set t p)
    && distinct (read_set t p)
    && distinct (write_set t p)

-- x is in the set of n pairs, or the set has a free place
abbrev pub room : {V : Type 0} → List (Slot V) → ℕ → ℕ → ℕ → Bool
room set n most x = is_some (value_of set x) || nat_lt n most

-- x has a pending content, or its pair has a place in the read set
abbrev pub readable : {K : Type 0} → Tables K → ℕ → ℕ → Bool
readable t p x = is_some (value_of (write_set t p) x) || room (read_set t p) (process_at t p).reads 32 x

abbrev pub writable : {K : Type 0} → Tables K → ℕ → ℕ → Bool
writable t p x = room (write_set t p) (process_at t p).writes 16 x

-- the pair of an extended access has a place
abbrev pub access_room : {K : Type 0} → Tables K → ℕ → ℕ → Access → Bool
access_room t p x access.Read = room (read_set t p) (process_at t p).reads 32 x
access_room t p x access.Write = true

-- the object that a conflict names
abbrev pub conflict_ok : {K : Type 0} → K → List (Object K) → ℕ → Conflict → Bool
conflict_ok empty os n (Held x) = named_ok empty os n x
conflict_ok empty os n (Changed x) = named_ok empty os n x
conflict_ok empty os n Spent = true

abbrev pub ending_ok : {K : Type 0} → K → List (Object K) → ℕ → Ending → Bool
ending_ok empty os n (Abort c) = conflict_ok empty os n c
ending_ok empty os n Withdraw = true

-- The steps that a request may still make. A read may look, extend over the whole read set and then free all that is
-- held; a write may besides hold one object more; freeing with nothing held takes one step.
abbrev pub steps_left : {K : Type 0} → Tables K → ℕ → Process → Phase → ℕ
steps_left t p r Idle = 0
steps_left t p r (Beginning next least) = length t.processes - next
steps_left t p r (Reading x) = cond (is_some (value_of (write_set t p) x)) 1 (1 + r.reads + r.writes)
steps_left t p r (Writing x) = cond (is_some (value_of (write_set t p) x)) 1 (2 + r.reads + r.writes)
steps_left t p r (Extending x to next a) = (r.reads - next) + r.writes
steps_left t p r (Certifying next) = (r.reads - next) + 1 + r.writes
steps_left t p r (Storing next) = r.writes - next
steps_left t p r (Freeing next e) = cond (r.writes == 0) 1 (r.writes - next)

-- What the phase names is there: objects, a next process or pair, a free place for a pair to join, clocks in range.
abbrev pub phase_ok : {K : Type 0} → K → Tables K → ℕ → Process → Phase → Bool
phase_ok empty t p r Idle = true
phase_ok empty t p r (Beginning next least) = nat_lt next (length t.processes) && nat_le least (2 ^ 40)
phase_ok empty t p r (Reading x) = named_ok empty t.objects (length t.processes) x && readable t p x
phase_ok empty t p r (Writing x) = named_ok empty t.objects (length t.processes) x && writable t p x
phase_ok empty t p r (Extending x to next a) =
    named_ok empty t.objects (length t.processes) x && nat_le to (2 ^ 40) && nat_lt next r.reads && access_room t p x a
phase_ok empty t p r (Certifying next) = nat_le next r.reads
phase_ok empty t p r (Storing next) = nat_lt next r.writes
phase_ok empty t p r (Freeing next e) =
    (r.writes == 0 || nat_lt next r.writes) && ending_ok empty t.objects (length t.processes) e

-- the record of p is sound
abbrev pub sound_ok : {K : Type 0} → K → Tables K → ℕ → Bool
sound_ok empty t p =
    counts_ok (process_at t p)
    && sets_ok empty t p
    && phase_ok empty t p (process_at t p) (process_at t p).phase
    && nat_le ((process_at t p).steps + steps_left t p (process_at t p) (process_at t p).phase) 64

-- the first of these questions that is answered no
unfoldable pub refused : {K : Type 0} → K → Tables K → ℕ → Option Refusal
refused empty t p =
    cond (sizes_ok t)
    (cond (nat_lt p (length t.processes))
    (cond (sound_ok empty t p) None (Some refusal.Record))
    (Some refusal.Process))
    (Some refusal.Sizes)
