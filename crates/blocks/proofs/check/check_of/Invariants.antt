-- What the loop of the check keeps true: the sum so far and what is left make up the whole.
use Rattle.std.proofs.Common.{◌≡◌, ◌+◌, ◌*◌, ◌≤◌, drop}
use Rattle.blocks.specs.Checks.{weighted}
use Rattle.blocks.proofs.check.check_of.Given as goal

abbrev pub invariant-loop-byte : goal.invariant-loop-byte
invariant-loop-byte l =
    (l.weight ≡ l.byte-index + 1)
    × (l.sum ≤ 130050 * l.byte-index)
    × (l.sum + weighted l.weight (drop l.byte-index l.part) ≡ weighted 1 l.part)
