-- After i turns the table has i elements.
use Rattle.std.proofs.Common.{◌≡◌, replicate, vec_items}
use Rattle.tables.proofs.memory.filled.Given as goal

abbrev pub invariant-loop-i : goal.invariant-loop-i
invariant-loop-i g l = vec_items l.table ≡ replicate l._i l.element
