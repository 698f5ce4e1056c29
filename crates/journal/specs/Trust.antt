-- On a fresh memory no call is refused for the state of the tables, whatever calls were made before it.
use Rattle.std.specs.Prelude.{◌≡◌, ℕ, true, List, [], ◌∷◌, length, Ok, Err}
use Rattle.tables.specs.Fresh.{fresh_tables}
use Rattle.tables.specs.Tables.{Tables, numbers_ok}
use Rattle.tables.specs.declared.refusal.Refusal.{Refusal}
use Rattle.tables.specs.declared.refusal.Refusal.TheVariants.{Sizes, Process, Record, InHand, Transaction, Object, Room, NoRequest}
use Rattle.journal.specs.declared.call.Line.{Line}
use Rattle.journal.specs.Runs.{Reply}

-- a question other than those on the sizes of the tables and the soundness of the record
abbrev pub OfTheCall : Refusal → Type 0
OfTheCall Sizes = ⊥
OfTheCall Process = Unit {0}
OfTheCall Record = ⊥
OfTheCall InHand = Unit {0}
OfTheCall Transaction = Unit {0}
OfTheCall Object = Unit {0}
OfTheCall Room = Unit {0}
OfTheCall NoRequest = Unit {0}

-- if a call was refused, then for what was asked and not for the state of the tables
abbrev pub Trusted : {K : Type 0} → Reply K → Type 0
Trusted (Ok d) = Unit {0}
Trusted (Err q) = OfTheCall q

abbrev pub AllTrusted : {K : Type 0} → List (Line K) → Type 0
AllTrusted [] = Unit {0}
AllTrusted (l ∷ ls) = Trusted l.reply × AllTrusted ls

-- the tables of some fresh memory
abbrev pub IsFresh : {K : Type 0} → K → Tables K → Type 0
IsFresh {K} empty t = (contents : List K) × (n : ℕ) × (numbers_ok (length contents) n ≡ true) × (t ≡ fresh_tables empty contents n)
