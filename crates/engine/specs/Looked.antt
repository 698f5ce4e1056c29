-- The steps that look at an object, by their phase and what the look finds.
use Rattle.std.specs.Prelude.{ℕ, ◌<◌, length, Some, None, Ok, Err, Option, Result}
use Rattle.tables.specs.Lookup.{value_of, place_of}
use Rattle.tables.specs.Tables.{Tables, process_at, read_set, write_set}
use Rattle.tables.specs.declared.memory.Object.{Object}
use Rattle.tables.specs.declared.process.Access.TheVariants as access
use Rattle.tables.specs.declared.process.Phase.{Phase}
use Rattle.tables.specs.declared.process.Phase.TheVariants.{Idle, Beginning, Reading, Writing, Extending, Certifying, Storing, Freeing}
use Rattle.tables.specs.declared.reply.Conflict.{Conflict}
use Rattle.tables.specs.declared.reply.Effect.TheVariants.{Nothing}
use Rattle.tables.specs.declared.reply.Stepped.{Stepped}
use Rattle.engine.specs.Ready.{JoinsIn}
use Rattle.engine.specs.Outcome.{Outcome, outcome, going}
use Rattle.engine.specs.Look.{looked}
use Rattle.engine.specs.Ends.{stopped}
use Rattle.engine.specs.Reads.{pending_read, admitted}
use Rattle.engine.specs.Writes.{rewritten, held}
use Rattle.engine.specs.Extend.{extension_passed}
use Rattle.engine.specs.Commit.{certified}

-- What a look's step rests on; the other phases look at nothing.
abbrev pub Looks : {K : Type 0} → Tables K → ℕ → Phase → Type 0
Looks t p Idle = ⊥
Looks t p (Beginning next least) = ⊥
Looks t p (Reading x) = JoinsIn t p x access.Read
Looks t p (Writing x) = (x < length t.objects) × ((process_at t p).writes < 16)
Looks t p (Extending x to next a) = (next < (process_at t p).reads) × JoinsIn t p x a
Looks t p (Certifying next) = next < (process_at t p).reads
Looks t p (Storing next) = ⊥
Looks t p (Freeing next ending) = ⊥

-- a look that has passed and found o
abbrev pub passed : {K : Type 0} → K → Tables K → ℕ → Phase → Object K → Outcome (Stepped K) K
passed empty t p Idle o = outcome (going Nothing) t
passed empty t p (Beginning next least) o = outcome (going Nothing) t
passed empty t p (Reading x) o = admitted t p x o
passed empty t p (Writing x) o = held empty t p x o
passed empty t p (Extending x to next a) o = extension_passed empty t p x to next a
passed empty t p (Certifying next) o = certified empty t p next
passed empty t p (Storing next) o = outcome (going Nothing) t
passed empty t p (Freeing next ending) o = outcome (going Nothing) t

abbrev pub after_look : {K : Type 0} → K → Tables K → ℕ → Phase → Result (Object K) Conflict → Outcome (Stepped K) K
after_look empty t p f (Err c) = stopped empty t p c
after_look empty t p f (Ok o) = passed empty t p f o

-- the first step of a read, by the pending content
abbrev pub read_at_value : {K : Type 0} → K → Tables K → ℕ → ℕ → Option K → Outcome (Stepped K) K
read_at_value empty t p x (Some v) = pending_read t p v
read_at_value empty t p x None = after_look empty t p (Reading x) (looked empty t p x (value_of (read_set t p) x))

abbrev pub read_step : {K : Type 0} → K → Tables K → ℕ → ℕ → Outcome (Stepped K) K
read_step empty t p x = read_at_value empty t p x (value_of (write_set t p) x)

-- the first step of a write, by the place of the pending content; a write compares no stamp
abbrev pub write_at_place : {K : Type 0} → K → Tables K → ℕ → ℕ → Option ℕ → Outcome (Stepped K) K
write_at_place empty t p x (Some i) = rewritten empty t p x i
write_at_place empty t p x None = after_look empty t p (Writing x) (looked empty t p x None)

abbrev pub write_step : {K : Type 0} → K → Tables K → ℕ → ℕ → Outcome (Stepped K) K
write_step empty t p x = write_at_place empty t p x (place_of (write_set t p) x 0)
