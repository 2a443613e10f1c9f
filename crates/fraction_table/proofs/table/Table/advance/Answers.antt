-- Where no form's constant is negative, all lines are high.
use Rattle.std.proofs.Common.{length, subst}
use Rattle.fraction_table.specs.PivotForms.{IsPivotFormFound, sign_at}
use Rattle.fraction_table.proofs.PivotForms.{none_high}
use Rattle.fraction_table.proofs.table.Table.advance.Goals as goal

pub returns-in-None-clause-ahead : goal.returns-in-None-clause-ahead
returns-in-None-clause-ahead c =
    let t = c.args.self.now in
    none_high t c.requires.tableau
    (subst (IsPivotFormFound (length t.costs.low) t.rows.items (sign_at t)) c.in-None.is c.pivot_form.ensures)
