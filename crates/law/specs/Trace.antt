-- What is on record of a run: every placing and every step that was carried out, the newest first. Calls that were refused
-- are not on record. The time of an entry is the number of entries before it.
use Rattle.std.specs.Prelude.{ℕ, List}
use Rattle.tables.specs.declared.reply.Request.{Request}
use Rattle.tables.specs.declared.reply.Stepped.{Stepped}

-- A request was placed, or a step was made; a step's reply says what it did to the shared memory, and the answer if it
-- completed the request.
pub data Act (K : Type 0) : Type 0 where
  placed : Request K → Act K
  made : Stepped K → Act K

pub record Entry (K : Type 0) : Type 0 where
  pub process : ℕ
  pub act : Act K

abbrev pub entry : {K : Type 0} → ℕ → Act K → Entry K
entry p a = record { process = p; act = a }

abbrev pub Trace : Type 0 → Type 0
Trace K = List (Entry K)
