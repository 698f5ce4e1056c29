-- The calls that records ask for.
use Rattle.std.specs.Prelude.{◌≡◌, ℕ, cond, List, map, length, Some, None, Ok, Err, vec_items, Result, ◌==◌}
use Rattle.std.specs.Global.{Vec}
use Rattle.blocks.specs.Reading.{read_refusal, records_of, count_of}
use Rattle.blocks.specs.Records.{Said, at32}
use Rattle.tables.specs.declared.reply.Request.TheVariants.{Begin, Read, Write, Commit, Withdraw}
use Rattle.journal.specs.declared.call.Call.{Call}
use Rattle.journal.specs.declared.call.Call.TheVariants.{Place, Step}
use Rattle.turns.specs.declared.block_error.BlockError.{BlockError}
use Rattle.turns.specs.declared.block_error.BlockError.TheVariants.{Refused, NoMemory}

-- the number that four bytes hold, low byte first
abbrev pub number_in : List ℕ → ℕ
number_in bs = cond (length bs == 4) (at32 bs 0) 0

-- the call that a record asks for, by its letter B, R, W, C or D, or else S
abbrev pub call_of : Said → Call ℕ
call_of s =
    cond (s.letter == 66) (Place s.process Begin)
    (cond (s.letter == 82) (Place s.process (Read s.object))
    (cond (s.letter == 87) (Place s.process (Write s.object (number_in s.content)))
    (cond (s.letter == 67) (Place s.process Commit)
    (cond (s.letter == 68) (Place s.process Withdraw) (Step s.process)))))

-- What asking a block for its calls answers: the calls of all its records, in order; or the block's refusal.
abbrev pub Called : List ℕ → ℕ → Result (Vec (Call ℕ)) BlockError → Type 0
Called bs next (Ok calls) = (read_refusal bs next ≡ None) × (vec_items calls ≡ map call_of (records_of bs (count_of bs)))
Called bs next (Err (Refused q)) = read_refusal bs next ≡ Some q
Called bs next (Err NoMemory) = read_refusal bs next ≡ None
