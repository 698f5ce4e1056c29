-- A look takes an object's holder, stamp and content together and judges them for a process.
use Rattle.std.specs.Prelude.{ℕ, Bool, false, cond, not, Some, None, Ok, Err, Option, Result, ◌==◌}
use Rattle.tables.specs.Tables.{Tables, object_at, read_at}
use Rattle.tables.specs.declared.memory.Object.{Object}
use Rattle.tables.specs.declared.reply.Conflict.{Conflict}
use Rattle.tables.specs.declared.reply.Conflict.TheVariants.{Held, Changed}

-- the holder is another process than p
abbrev pub foreign : Option ℕ → ℕ → Bool
foreign None p = false
foreign (Some q) p = not (q == p)

-- the stamp is another than the one that was seen
abbrev pub differs : Option ℕ → ℕ → Bool
differs None stamp = false
differs (Some seen) stamp = not (seen == stamp)

-- what p finds at the object x, which it may have seen at a stamp
abbrev pub judged : {K : Type 0} → Object K → ℕ → ℕ → Option ℕ → Result (Object K) Conflict
judged o p x seen = cond (foreign o.holder p) (Err (Held x)) (cond (differs seen o.stamp) (Err (Changed x)) (Ok o))

abbrev pub looked : {K : Type 0} → K → Tables K → ℕ → ℕ → Option ℕ → Result (Object K) Conflict
looked empty t p x seen = judged (object_at empty t x) p x seen

-- the look at pair i of p's read set
abbrev pub pair_looked : {K : Type 0} → K → Tables K → ℕ → ℕ → Result (Object K) Conflict
pair_looked empty t p i = looked empty t p (read_at t p i).object (Some (read_at t p i).value)
