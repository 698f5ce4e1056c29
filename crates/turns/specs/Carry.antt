-- What carrying out a block answers and leaves.
use Rattle.std.specs.Prelude.{◌≡◌, ℕ, List, map, Some, None, Ok, Err, vec_items, Result}
use Rattle.std.specs.Global.{Vec}
use Rattle.blocks.specs.Reading.{read_refusal, records_of, count_of}
use Rattle.journal.specs.Runs.{World, Ran}
use Rattle.journal.specs.declared.call.Line.{Line}
use Rattle.turns.specs.Calls.{call_of}
use Rattle.turns.specs.declared.block_error.BlockError.{BlockError}
use Rattle.turns.specs.declared.block_error.BlockError.TheVariants.{Refused, NoMemory}

-- w is the world before and v the one after; the blank of 32-bit numbers is 0
abbrev pub Carried : {B : Type 0} → (B → ℕ → ℕ) → (B → ℕ → ℕ → B) → List ℕ → ℕ → World ℕ B → Result (Vec (Line ℕ)) BlockError → World ℕ B → Type 0
Carried number moved bs next w (Ok lines) v =
    (read_refusal bs next ≡ None) × Ran 0 number moved w (map call_of (records_of bs (count_of bs))) (vec_items lines) v
Carried number moved bs next w (Err (Refused q)) v = (read_refusal bs next ≡ Some q) × (v ≡ w)
Carried number moved bs next w (Err NoMemory) v = (read_refusal bs next ≡ None) × (v ≡ w)
