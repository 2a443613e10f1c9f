-- The LSAs of the network are the report.
use Rattle.std.proofs.Common.{refl}
use Rattle.std.proofs.lemmas.Result.{err_from_is_err_and}
use Rattle.database_commands.proofs.LsasRuns.{reported}
use Rattle.database_commands.proofs.lsas.report_of.Goals as goal

pub returns-in_err-bytes-clause-wanting : goal.returns-in_err-bytes-clause-wanting
returns-in_err-bytes-clause-wanting c =
    let p = err_from_is_err_and c.from_residual.result c.from_residual.ensures.1 in
    rw (p.1, p.2) refl

pub returns-clause-made : goal.returns-clause-made
returns-clause-made c = λ names d is. reported d c.in_ok-bytes.bytes.items c.lsas.result (c.in_ok-bytes.ensures names d is) c.lsas.ensures
