-- A fresh memory.
use Rattle.std.specs.Prelude.{◌≡◌, ℕ, ◌*◌, true, false, List, map, length, replicate, None, Ok, Err, Result}
use Rattle.tables.specs.Lookup.{pair}
use Rattle.tables.specs.Tables.{Tables, tables_of, idle_process, numbers_ok}
use Rattle.tables.specs.declared.fresh_error.FreshError.{FreshError}
use Rattle.tables.specs.declared.fresh_error.FreshError.TheVariants.{Refused, NoMemory}
use Rattle.tables.specs.declared.memory.Memory.{Memory}
use Rattle.tables.specs.declared.memory.Object.{Object}
use Rattle.tables.specs.declared.refusal.Refusal.TheVariants.{Sizes}

-- an object with a content, stamp 0 and no holder
abbrev pub unheld : {K : Type 0} → K → Object K
unheld v = record { content = v; stamp = 0; holder = None }

-- The opening contents are free; no transaction is open, and all places are zero and blank.
abbrev pub fresh_tables : {K : Type 0} → K → List K → ℕ → Tables K
fresh_tables empty contents count =
    record {
      objects = map unheld contents;
      processes = replicate count idle_process;
      reads = replicate (count * 32) (pair 0 0);
      writes = replicate (count * 16) (pair 0 empty);
      hands = replicate count empty;
    }

-- What the making of a fresh memory answers.
abbrev pub Freshly : {K : Type 0} → K → List K → ℕ → Result (Memory K) FreshError → Type 0
Freshly empty contents count (Ok m) =
    (numbers_ok (length contents) count ≡ true) × (tables_of m ≡ fresh_tables empty contents count)
Freshly empty contents count (Err (Refused q)) = (q ≡ Sizes) × (numbers_ok (length contents) count ≡ false)
Freshly empty contents count (Err NoMemory) = numbers_ok (length contents) count ≡ true
