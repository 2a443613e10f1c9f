use Rattle.std.proofs.Common.{rules}
use Rattle.report_writer.proofs.writer.write_report.Goals as goal

pub returns-in-Ok-clause-written : goal.returns-in-Ok-clause-written
returns-in-Ok-clause-written g c = search rules

pub returns-in-Ok-clause-pieces : goal.returns-in-Ok-clause-pieces
returns-in-Ok-clause-pieces g c = search rules

pub returns-in-Err-clause-written : goal.returns-in-Err-clause-written
returns-in-Err-clause-written g c = search rules

pub returns-in-Err-clause-pieces : goal.returns-in-Err-clause-pieces
returns-in-Err-clause-pieces g c = search rules
