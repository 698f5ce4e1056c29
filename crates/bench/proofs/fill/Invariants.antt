-- What was read lies within the buffer.
use Rattle.std.proofs.Common.{◌≤◌, length}
use Rattle.bench.proofs.fill.Given as goal

abbrev pub invariant-loop : goal.invariant-loop
invariant-loop g l = l.filled ≤ length l.buffer
