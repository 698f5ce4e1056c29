-- What a call comes to: its reply and the tables then. And what calls do to the record of a process.
use Rattle.std.specs.Prelude.{ℕ, ◌+◌, false, Some, None, Ok, Result}
use Rattle.tables.specs.Tables.{Tables}
use Rattle.tables.specs.declared.process.Process.{Process}
use Rattle.tables.specs.declared.process.Phase.{Phase}
use Rattle.tables.specs.declared.process.Phase.TheVariants.{Idle}
use Rattle.tables.specs.declared.refusal.Refusal.{Refusal}
use Rattle.tables.specs.declared.reply.Answer.{Answer}
use Rattle.tables.specs.declared.reply.Effect.{Effect}
use Rattle.tables.specs.declared.reply.Stepped.{Stepped}

pub record Outcome (R K : Type 0) : Type 0 where
  pub reply : R
  pub tables : Tables K

abbrev pub outcome : {R K : Type 0} → R → Tables K → Outcome R K
outcome r t = record { reply = r; tables = t }

-- the reply of a step after which the request goes on
abbrev pub going : {K : Type 0} → Effect → Stepped K
going e = record { effect = e; answer = None }

-- the reply of a step that completes the request
abbrev pub answering : {K : Type 0} → Effect → Answer K → Stepped K
answering e a = record { effect = e; answer = Some a }

-- a step that was made
abbrev pub accepted : {R K : Type 0} → Outcome R K → Outcome (Result R Refusal) K
accepted o = outcome (Ok o.reply) o.tables

-- the record one step on, in the given phase
abbrev pub advanced : Process → Phase → Process
advanced r f =
    record { live = r.live; clock = r.clock; reads = r.reads; writes = r.writes; steps = r.steps + 1; phase = f }

-- the record once its request is answered: the request is zeroed, and the clock is as given
abbrev pub completed : Process → ℕ → Process
completed r clock =
    record { live = r.live; clock = clock; reads = r.reads; writes = r.writes; steps = 0; phase = Idle }

-- the record once its transaction has ended: counts and request are zeroed, the clock stays
abbrev pub closed : Process → Process
closed r = record { live = false; clock = r.clock; reads = 0; writes = 0; steps = 0; phase = Idle }
