-- Reading.
use Rattle.std.specs.Prelude.{ℕ, ◌+◌, max, Bool, cond, ◌||◌, Some, None, Option, ◌==◌, nat_le}
use Rattle.tables.specs.Lookup.{pair, value_of}
use Rattle.tables.specs.Tables.{Tables, process_at, read_set, with_process, with_hand, with_read}
use Rattle.tables.specs.declared.memory.Object.{Object}
use Rattle.tables.specs.declared.process.Access.TheVariants as access
use Rattle.tables.specs.declared.process.Phase.TheVariants.{Idle, Extending}
use Rattle.tables.specs.declared.process.Process.{Process}
use Rattle.tables.specs.declared.reply.Answer.TheVariants.{Read}
use Rattle.tables.specs.declared.reply.Effect.TheVariants.{Nothing}
use Rattle.tables.specs.declared.reply.Stepped.{Stepped}
use Rattle.engine.specs.Outcome.{Outcome, outcome, going, answering, advanced, completed}

-- A stamp needs no extension if it is at most the clock, or if nothing was read.
abbrev pub current : Process → ℕ → Bool
current r stamp = nat_le stamp r.clock || r.reads == 0

-- the record once a read is answered whose pair joins the read set
abbrev pub read_joined : Process → ℕ → Process
read_joined r clock =
    record { live = r.live; clock = clock; reads = r.reads + 1; writes = r.writes; steps = 0; phase = Idle }

-- the pair (x, stamp) joins p's read set where x is not in it, and the request is answered
abbrev pub joined : {K : Type 0} → Tables K → ℕ → ℕ → ℕ → ℕ → Option ℕ → Tables K
joined t p x stamp clock (Some seen) = with_process t p (completed (process_at t p) clock)
joined t p x stamp clock None =
    with_process (with_read t p (process_at t p).reads (pair x stamp)) p (read_joined (process_at t p) clock)

-- a read of a pending content
abbrev pub pending_read : {K : Type 0} → Tables K → ℕ → K → Outcome (Stepped K) K
pending_read t p v =
    outcome (answering Nothing (Read v ((process_at t p).steps + 1)))
    (with_process (with_hand t p v) p (completed (process_at t p) (process_at t p).clock))

-- a read whose look has passed and found o: the content is in hand, and the read is answered or needs an extension
abbrev pub admitted : {K : Type 0} → Tables K → ℕ → ℕ → Object K → Outcome (Stepped K) K
admitted t p x o =
    cond (current (process_at t p) o.stamp)
    (outcome (answering Nothing (Read o.content ((process_at t p).steps + 1)))
    (joined (with_hand t p o.content) p x o.stamp (max (process_at t p).clock o.stamp) (value_of (read_set t p) x)))
    (outcome (going Nothing)
    (with_process (with_hand t p o.content) p (advanced (process_at t p) (Extending x o.stamp 0 access.Read))))
