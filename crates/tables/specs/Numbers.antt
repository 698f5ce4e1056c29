-- The numbers of the refusals.
use Rattle.std.specs.Prelude.{ℕ}
use Rattle.tables.specs.declared.refusal.Refusal.{Refusal}
use Rattle.tables.specs.declared.refusal.Refusal.TheVariants.{Sizes, Process, Record, InHand, Transaction, Object, Room, NoRequest}

-- Each refusal has the number of the question that was answered no.
abbrev pub refusal_number : Refusal → ℕ
refusal_number Sizes = 1
refusal_number Process = 2
refusal_number Record = 3
refusal_number InHand = 4
refusal_number Transaction = 5
refusal_number Object = 6
refusal_number Room = 7
refusal_number NoRequest = 8
