-- Snapshot extension: once the last pair of the read set has passed, the clock is moved and the request completed.
use Rattle.std.specs.Prelude.{ℕ, ◌+◌, cond, ◌==◌}
use Rattle.tables.specs.Lookup.{value_of}
use Rattle.tables.specs.Tables.{Tables, process_at, hand_at, read_set, with_process}
use Rattle.tables.specs.declared.process.Access.{Access}
use Rattle.tables.specs.declared.process.Access.TheVariants as access
use Rattle.tables.specs.declared.process.Phase.TheVariants.{Extending}
use Rattle.tables.specs.declared.reply.Answer.TheVariants as answer
use Rattle.tables.specs.declared.reply.Effect.TheVariants.{Nothing}
use Rattle.tables.specs.declared.reply.Stepped.{Stepped}
use Rattle.engine.specs.Outcome.{Outcome, outcome, going, answering, advanced, completed}
use Rattle.engine.specs.Reads.{joined}

-- the access to x is completed at the clock `to`
abbrev pub extended : {K : Type 0} → K → Tables K → ℕ → ℕ → ℕ → Access → Outcome (Stepped K) K
extended empty t p x to access.Read =
    outcome (answering Nothing (answer.Read (hand_at empty t p) ((process_at t p).steps + 1)))
    (joined t p x to to (value_of (read_set t p) x))
extended empty t p x to access.Write =
    outcome (answering Nothing (answer.Written ((process_at t p).steps + 1)))
    (with_process t p (completed (process_at t p) to))

-- pair i has passed
abbrev pub extension_passed : {K : Type 0} → K → Tables K → ℕ → ℕ → ℕ → ℕ → Access → Outcome (Stepped K) K
extension_passed empty t p x to i a =
    cond (i + 1 == (process_at t p).reads)
    (extended empty t p x to a)
    (outcome (going Nothing) (with_process t p (advanced (process_at t p) (Extending x to (i + 1) a))))
