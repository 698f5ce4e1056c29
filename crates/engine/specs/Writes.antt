-- Writing.
use Rattle.std.specs.Prelude.{ℕ, ◌+◌, max, cond, Some}
use Rattle.tables.specs.Lookup.{pair}
use Rattle.tables.specs.Tables.{Tables, process_at, hand_at, with_process, with_object, with_write}
use Rattle.tables.specs.declared.memory.Object.{Object}
use Rattle.tables.specs.declared.process.Access.TheVariants as access
use Rattle.tables.specs.declared.process.Phase.TheVariants.{Extending}
use Rattle.tables.specs.declared.process.Process.{Process}
use Rattle.tables.specs.declared.reply.Answer.TheVariants.{Written}
use Rattle.tables.specs.declared.reply.Effect.TheVariants.{Nothing, Took}
use Rattle.tables.specs.declared.reply.Stepped.{Stepped}
use Rattle.engine.specs.Outcome.{Outcome, outcome, going, answering, advanced, completed}
use Rattle.engine.specs.Reads.{current}

-- a write to an object in the write set: its pair is in place i
abbrev pub rewritten : {K : Type 0} → K → Tables K → ℕ → ℕ → ℕ → Outcome (Stepped K) K
rewritten empty t p x i =
    outcome (answering Nothing (Written ((process_at t p).steps + 1)))
    (with_process (with_write t p i (pair x (hand_at empty t p))) p (completed (process_at t p) (process_at t p).clock))

abbrev pub held_by : {K : Type 0} → Object K → ℕ → Object K
held_by o p = record { content = o.content; stamp = o.stamp; holder = Some p }

-- the record with one pair more in its write set
abbrev pub write_joined : Process → Process
write_joined r =
    record { live = r.live; clock = r.clock; reads = r.reads; writes = r.writes + 1; steps = r.steps; phase = r.phase }

-- p becomes the holder of x, and the pair of x and the content in hand joins the write set; r is the record of p then
abbrev pub holding : {K : Type 0} → K → Tables K → ℕ → ℕ → Object K → Process → Tables K
holding empty t p x o r =
    with_process (with_write (with_object t x (held_by o p)) p (process_at t p).writes (pair x (hand_at empty t p))) p r

-- a write whose look has passed and found o: it is answered or needs an extension
abbrev pub held : {K : Type 0} → K → Tables K → ℕ → ℕ → Object K → Outcome (Stepped K) K
held empty t p x o =
    cond (current (process_at t p) o.stamp)
    (outcome (answering (Took x) (Written ((process_at t p).steps + 1)))
    (holding empty t p x o (completed (write_joined (process_at t p)) (max (process_at t p).clock o.stamp))))
    (outcome (going (Took x))
    (holding empty t p x o (advanced (write_joined (process_at t p)) (Extending x o.stamp 0 access.Write))))
