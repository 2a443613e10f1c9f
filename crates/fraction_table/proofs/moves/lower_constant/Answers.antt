-- The difference that is too wide is told.
use Rattle.std.proofs.Common.{sym, subst}
use Rattle.std.proofs.lemmas.Result.{err_from_is_err_and}
use Rattle.fraction_lines.specs.Entries.{IsPassing}
use Rattle.fraction_table.proofs.moves.lower_constant.Goals as goal

pub returns-in_err-constant-clause-passes : goal.returns-in_err-constant-clause-passes
returns-in_err-constant-clause-passes c =
    let p = err_from_is_err_and c.from_residual.result c.from_residual.ensures.1 in
    rw (p.1, p.2) (subst (IsPassing c.args.top) (sym c.in_err-constant.ensures.wide.named) c.in_err-constant.ensures.wide.passes)
