-- A run that meets the premises of the law over whole runs, with two commits, a fair binding and an abort.
use Rattle.std.specs.Prelude.{◌≡◌, ℕ, List, [], ◌∷◌, replicate, Some, None, Option, slice_index, refl}
use Rattle.banks.specs.Banks.{own_number, own_moved}
use Rattle.banks.specs.declared.state.OwnBank.{OwnBank}
use Rattle.tables.specs.Fresh.{fresh_tables}
use Rattle.tables.specs.declared.reply.Conflict.{Conflict}
use Rattle.tables.specs.declared.reply.Conflict.TheVariants.{Held}
use Rattle.tables.specs.declared.reply.Request.TheVariants.{Begin, Read, Write, Commit}
use Rattle.law.specs.Trace.{Trace}
use Rattle.law.specs.Ledger.{begun_at, sealed_at, ended_at, answer_of}
use Rattle.law.specs.Law.{Earlier, ReadOf, Fair}
use Rattle.journal.specs.Runs.{World, world, journal, after_calls, Ran}
use Rattle.journal.specs.Traces.{trace_on, Reached}
use Rattle.journal.specs.declared.call.Call.{Call}
use Rattle.journal.specs.declared.call.Call.TheVariants.{Place, Step}
use Rattle.journal.specs.declared.call.Line.{Line}

-- Two processes and two objects with content 0, and the own bank with every number 0.
abbrev pub opened : World ℕ OwnBank
opened = world (fresh_tables 0 (0 ∷ 0 ∷ []) 2) (record { numbers = replicate 64 0; lawful = refl })

-- Transaction 0, of process 0, writes object 0 and commits while transaction 1, of process 1, is open. Transaction 1 has read
-- object 1 before, reads object 0 after, and commits. Transaction 2, of process 0, writes object 1 and stays open;
-- transaction 3, of process 1, reads it and is aborted.
abbrev pub calls : List (Call ℕ)
calls =
    Place 0 Begin ∷ Step 0 ∷ Step 0 ∷ Place 1 Begin ∷ Step 1 ∷ Step 1
    ∷ Place 0 (Write 0 7) ∷ Step 0 ∷ Place 1 (Read 1) ∷ Step 1
    ∷ Place 0 Commit ∷ Step 0 ∷ Step 0 ∷ Place 1 (Read 0) ∷ Step 1 ∷ Step 1
    ∷ Place 1 Commit ∷ Step 1 ∷ Step 1
    ∷ Place 0 Begin ∷ Step 0 ∷ Step 0 ∷ Place 0 (Write 1 5) ∷ Step 0
    ∷ Place 1 Begin ∷ Step 1 ∷ Step 1 ∷ Place 1 (Read 1) ∷ Step 1 ∷ []

abbrev pub lines : List (Line ℕ)
lines = journal 0 own_number own_moved opened calls

-- the conflict that the newest entry answers with
abbrev pub newest_conflict : Trace ℕ → Option Conflict
newest_conflict [] = None
newest_conflict (l ∷ j) = (answer_of l.act).conflict

abbrev pub run : Trace ℕ
run = trace_on [] lines

-- the contents at the start
abbrev pub start : ℕ → ℕ
start x = slice_index (0 ∷ 0 ∷ []) x

abbrev pub Example : Type 0
Example =
    -- the memory is fresh, and the run is what the contract of `execute` says of these calls
    Reached 0 own_number own_moved 2 start opened []
    × Ran 0 own_number own_moved opened calls lines (after_calls 0 own_number own_moved opened calls)
    -- transactions 0 and 1 are sealed and end; 3 ends with the last entry, aborted since object 1 is held
    × (sealed_at run 0 ≡ Some 11)
    × (ended_at run 0 ≡ Some 12)
    × (sealed_at run 1 ≡ Some 18)
    × (ended_at run 1 ≡ Some 18)
    × (ended_at run 3 ≡ Some 28)
    × (sealed_at run 3 ≡ None)
    × (newest_conflict run ≡ Some (Held 1))
    -- transaction 1 read a version of 0, which was sealed after the begin of 1 was answered, and all its bindings are fair
    × ReadOf run 1 0
    × Earlier (begun_at run 1) (sealed_at run 0)
    × Fair run 1
