-- The facts of a record whose tests have passed.
use Rattle.std.proofs.Common.{sym, rules}
use Rattle.tables.specs.Tables.{tables_of}
use Rattle.engine.proofs.Facts.{sound_record}
use Rattle.engine.proofs.questions.questions.Goals as goal

pub returns-then-steps_fit-clause-sound : goal.returns-then-steps_fit-clause-sound
returns-then-steps_fit-clause-sound g c =
    sound_record g.K.Kind.empty (tables_of c.args.memory.now) c.args.p c.record.result c.record.ensures (sym c.if-not-sized.ensures) (search rules) (search rules) (sym c.if-sets_fit.ensures) (search rules)
