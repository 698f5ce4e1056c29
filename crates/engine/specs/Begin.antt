-- Begin: each step reads the bank for one process, and the last sets the clock to the least number.
use Rattle.std.specs.Prelude.{ℕ, ◌+◌, min, cond, length, ◌==◌}
use Rattle.tables.specs.Tables.{Tables, process_at, with_process}
use Rattle.tables.specs.declared.process.Phase.TheVariants.{Beginning}
use Rattle.tables.specs.declared.reply.Answer.TheVariants.{Begun}
use Rattle.tables.specs.declared.reply.Effect.TheVariants.{Nothing}
use Rattle.tables.specs.declared.reply.Stepped.{Stepped}
use Rattle.engine.specs.Outcome.{Outcome, outcome, going, answering, advanced, completed}

-- low is the least number so far, that of process `next` included
abbrev pub begin_at : {K : Type 0} → Tables K → ℕ → ℕ → ℕ → Outcome (Stepped K) K
begin_at t p next low =
    cond (next + 1 == length t.processes)
    (outcome (answering Nothing (Begun ((process_at t p).steps + 1))) (with_process t p (completed (process_at t p) low)))
    (outcome (going Nothing) (with_process t p (advanced (process_at t p) (Beginning (next + 1) low))))

-- number is the bank's
abbrev pub begin_step : {K : Type 0} → (ℕ → ℕ) → Tables K → ℕ → ℕ → ℕ → Outcome (Stepped K) K
begin_step number t p next least = begin_at t p next (min (number next) least)
