use Rattle.std.proofs.Common.{arith}
use Rattle.begun_lines.proofs.BegunKinds.{begins_by_words, too_long}
use Rattle.begun_lines.proofs.entries.begins_entry.Goals as goal

pub returns-in-Some : goal.returns-in-Some
returns-in-Some c = λ part places left. begins_by_words part places left c.args.rest.now c.in-Some.room
    (omega (arith, c.in-Some.ensures)) c.becomes_entry.result c.becomes_entry.ensures

pub returns-in-None : goal.returns-in-None
returns-in-None c = λ part places left. too_long part places left c.args.rest.now (omega (arith, c.in-None.ensures))
