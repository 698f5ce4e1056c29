-- Commit: certification looks at each pair of the read set, sealing takes the stamp, storing writes the objects.
use Rattle.std.specs.Prelude.{ℕ, ◌+◌, ◌^◌, max, cond, ◌&&◌, Some, None, Option, ◌==◌, nat_le}
use Rattle.tables.specs.Tables.{Tables, process_at, write_at, with_process, with_object}
use Rattle.tables.specs.declared.memory.Object.{Object}
use Rattle.tables.specs.declared.process.Phase.TheVariants.{Certifying, Storing}
use Rattle.tables.specs.declared.process.Process.{Process}
use Rattle.tables.specs.declared.reply.Answer.TheVariants.{Committed}
use Rattle.tables.specs.declared.reply.Conflict.TheVariants.{Spent}
use Rattle.tables.specs.declared.reply.Effect.{Effect}
use Rattle.tables.specs.declared.reply.Effect.TheVariants.{Nothing, Sealed, Stored}
use Rattle.tables.specs.declared.reply.Stepped.{Stepped}
use Rattle.engine.specs.Outcome.{Outcome, outcome, going, answering, advanced}
use Rattle.engine.specs.Ends.{ended, stopped}

-- the step that answers committed
abbrev pub committed : {K : Type 0} → K → Tables K → ℕ → Effect → Outcome (Stepped K) K
committed empty t p effect = outcome (answering effect (Committed ((process_at t p).steps + 1))) (ended empty t p)

-- certification's look at pair i has passed; the last pass answers if nothing is to be written
abbrev pub certified : {K : Type 0} → K → Tables K → ℕ → ℕ → Outcome (Stepped K) K
certified empty t p i =
    cond (i + 1 == (process_at t p).reads && (process_at t p).writes == 0)
    (committed empty t p Nothing)
    (outcome (going Nothing) (with_process t p (advanced (process_at t p) (Certifying (i + 1)))))

-- the stamp of a sealing step: 1 more than the larger of the clock and the bank's number, if that is at most 2^40
abbrev pub seal_stamp : ℕ → ℕ → Option ℕ
seal_stamp clock number = cond (nat_le (1 + max clock number) (2 ^ 40)) (Some (1 + max clock number)) None

-- the record once its transaction is sealed with a stamp
abbrev pub sealed : Process → ℕ → Process
sealed r stamp =
    record { live = r.live; clock = stamp; reads = r.reads; writes = r.writes; steps = r.steps + 1; phase = Storing 0 }

-- the sealing step, by the stamp
abbrev pub sealed_at : {K : Type 0} → K → Tables K → ℕ → Option ℕ → Outcome (Stepped K) K
sealed_at empty t p (Some stamp) = outcome (going Sealed) (with_process t p (sealed (process_at t p) stamp))
sealed_at empty t p None = stopped empty t p Spent

-- the bank after it
abbrev pub sealed_bank : {B : Type 0} → (B → ℕ → ℕ → B) → B → ℕ → Option ℕ → B
sealed_bank moved b p (Some stamp) = moved b p stamp
sealed_bank moved b p None = b

-- an object with its new content and stamp
abbrev pub stored_object : {K : Type 0} → K → ℕ → Object K
stored_object v stamp = record { content = v; stamp = stamp; holder = None }

-- pair i of the write set is given to its object
abbrev pub stored : {K : Type 0} → K → Tables K → ℕ → ℕ → Tables K
stored empty t p i =
    with_object t (write_at empty t p i).object (stored_object (write_at empty t p i).value (process_at t p).clock)

abbrev pub store_step : {K : Type 0} → K → Tables K → ℕ → ℕ → Outcome (Stepped K) K
store_step empty t p i =
    cond (i + 1 == (process_at t p).writes)
    (committed empty (stored empty t p i) p (Stored (write_at empty t p i).object))
    (outcome (going (Stored (write_at empty t p i).object))
    (with_process (stored empty t p i) p (advanced (process_at t p) (Storing (i + 1)))))
