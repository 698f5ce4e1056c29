-- After i lines: what was added, and what the other lines will add, are what all lines add.
use Rattle.std.proofs.Common.{◌≡◌, ◌+◌, ◌++◌, drop, string_bytes}
use Rattle.session.specs.Printed.{printed}
use Rattle.session.proofs.state.add_lines.Given as goal

abbrev pub invariant-loop-i : goal.invariant-loop-i
invariant-loop-i l = string_bytes l.text ++ printed (l.done + l.i) (drop l.i l.lines) ≡ string_bytes l.initial.text ++ printed l.done l.lines
