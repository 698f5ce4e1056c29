-- What a run starts with, and what a piece of the input leaves of it.
use Rattle.std.specs.Prelude.{◌≡◌, ℕ, ◌+◌, Bool, true, false, List, [], ◌∷◌, ◌++◌, map, length, string_bytes}
use Rattle.banks.specs.Banks.{own_number, own_moved}
use Rattle.banks.specs.declared.state.OwnBank.{OwnBank}
use Rattle.blocks.specs.Reading.{records_of, count_of, read_refusal}
use Rattle.journal.specs.Runs.{World, world, journal, after_calls}
use Rattle.journal.specs.declared.call.Call.{Call}
use Rattle.journal.specs.declared.call.Line.{Line}
use Rattle.tables.specs.Fresh.{fresh_tables}
use Rattle.tables.specs.Tables.{tables_of}
use Rattle.turns.specs.Calls.{call_of}
use Rattle.session.specs.declared.state.Session.{Session}
use Rattle.session.specs.Printed.{printed, block_line}

-- the tables and the bank of a run
abbrev pub world_of : Session → World ℕ OwnBank
world_of r = world (tables_of r.memory) r.bank

-- The run has made no call: its memory has 4 fresh objects and 2 idle processes, and each number of its bank is 0.
abbrev pub Fresh : Session → Type 0
Fresh r =
    (tables_of r.memory ≡ fresh_tables 0 (0 ∷ 0 ∷ 0 ∷ 0 ∷ []) 2)
    × ((p : ℕ) → own_number r.bank p ≡ 0)
    × (r.done ≡ 0)
    × (string_bytes r.text ≡ [])

-- the calls that a block asks for
abbrev pub calls_of : List ℕ → List (Call ℕ)
calls_of piece = map call_of (records_of piece (count_of piece))

-- the journal of these calls on the memory and the bank of a run
abbrev pub journal_of : Session → List ℕ → List (Line ℕ)
journal_of a piece = journal 0 own_number own_moved (world_of a) (calls_of piece)

-- The run was a and is b. Where it goes on, all calls of the block were made, counted and printed; where it ends, the
-- refusal was printed and the memory, the bank and the count are as they were.
abbrev pub Left : ℕ → List ℕ → Session → Bool → Session → Type 0
Left place piece a true b =
    (world_of b ≡ after_calls 0 own_number own_moved (world_of a) (calls_of piece))
    × (b.done ≡ a.done + length (journal_of a piece))
    × (string_bytes b.text ≡ string_bytes a.text ++ printed a.done (journal_of a piece))
Left place piece a false b =
    (world_of b ≡ world_of a)
    × (b.done ≡ a.done)
    × (string_bytes b.text ≡ string_bytes a.text ++ block_line place (read_refusal piece place))
