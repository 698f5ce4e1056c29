-- The end of a transaction: places are zeroed and blanked, and one that is given up first frees what it holds.
use Rattle.std.specs.Prelude.{ℕ, ◌+◌, ◌*◌, cond, List, ◌++◌, take, drop, replicate, None, ◌==◌, slice_set}
use Rattle.tables.specs.Lookup.{pair}
use Rattle.tables.specs.Tables.{Tables, process_at, object_at, write_at, with_process, with_object}
use Rattle.tables.specs.declared.memory.Object.{Object}
use Rattle.tables.specs.declared.process.Ending.{Ending}
use Rattle.tables.specs.declared.process.Ending.TheVariants.{Abort, Withdraw}
use Rattle.tables.specs.declared.process.Phase.TheVariants.{Freeing}
use Rattle.tables.specs.declared.reply.Answer.{Answer}
use Rattle.tables.specs.declared.reply.Answer.TheVariants.{Aborted, Withdrawn}
use Rattle.tables.specs.declared.reply.Conflict.{Conflict}
use Rattle.tables.specs.declared.reply.Effect.{Effect}
use Rattle.tables.specs.declared.reply.Effect.TheVariants.{Nothing, Freed}
use Rattle.tables.specs.declared.reply.Stepped.{Stepped}
use Rattle.engine.specs.Outcome.{Outcome, outcome, going, answering, advanced, closed}

-- n places from `at` on overwritten by v
abbrev pub wiped : {X : Type 0} → List X → ℕ → ℕ → X → List X
wiped xs at n v = take at xs ++ (replicate n v ++ drop (at + n) xs)

-- the transaction of p has ended
abbrev pub ended : {K : Type 0} → K → Tables K → ℕ → Tables K
ended empty t p =
    record {
      objects = t.objects;
      processes = slice_set t.processes p (closed (process_at t p));
      reads = wiped t.reads (p * 32) 32 (pair 0 0);
      writes = wiped t.writes (p * 16) 16 (pair 0 empty);
      hands = slice_set t.hands p empty;
    }

-- the answer that an ending gives
abbrev pub ending_answer : {K : Type 0} → Ending → ℕ → Answer K
ending_answer (Abort conflict) steps = Aborted conflict steps
ending_answer Withdraw steps = Withdrawn steps

-- the last step of a transaction that is given up
abbrev pub given_up : {K : Type 0} → K → Tables K → ℕ → Ending → Effect → Outcome (Stepped K) K
given_up empty t p ending effect =
    outcome (answering effect (ending_answer ending ((process_at t p).steps + 1))) (ended empty t p)

-- A conflict: its step answers if nothing is held; otherwise each later step frees one object.
abbrev pub stopped : {K : Type 0} → K → Tables K → ℕ → Conflict → Outcome (Stepped K) K
stopped empty t p conflict =
    cond ((process_at t p).writes == 0)
    (given_up empty t p (Abort conflict) Nothing)
    (outcome (going Nothing) (with_process t p (advanced (process_at t p) (Freeing 0 (Abort conflict)))))

-- the object x with nobody as its holder
abbrev pub unheld_object : {K : Type 0} → Object K → Object K
unheld_object o = record { content = o.content; stamp = o.stamp; holder = None }

abbrev pub released : {K : Type 0} → K → Tables K → ℕ → Tables K
released empty t x = with_object t x (unheld_object (object_at empty t x))

-- one held object is freed, that of pair i of the write set
abbrev pub freed : {K : Type 0} → K → Tables K → ℕ → ℕ → ℕ → Ending → Outcome (Stepped K) K
freed empty t p i x ending =
    cond (i + 1 == (process_at t p).writes)
    (given_up empty (released empty t x) p ending (Freed x))
    (outcome (going (Freed x)) (with_process (released empty t x) p (advanced (process_at t p) (Freeing (i + 1) ending))))

-- A step that frees: a withdrawal with nothing held only answers.
abbrev pub free_step : {K : Type 0} → K → Tables K → ℕ → ℕ → Ending → Outcome (Stepped K) K
free_step empty t p i ending =
    cond ((process_at t p).writes == 0)
    (given_up empty t p ending Nothing)
    (freed empty t p i (write_at empty t p i).object ending)
