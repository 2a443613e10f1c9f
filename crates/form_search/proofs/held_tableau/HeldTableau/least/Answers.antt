use Rattle.std.proofs.Common.{length}
use Rattle.form_search.proofs.NextEntries.{printed_held}
use Rattle.form_search.proofs.held_tableau.HeldTableau.least.Goals as goal

pub returns-in_ok-wide_at-in-Err-TooWide-clause-told : goal.returns-in_ok-wide_at-in-Err-TooWide-clause-told
returns-in_ok-wide_at-in-Err-TooWide-clause-told c =
    printed_held c.args.self.now.tableau.top (length c.args.self.now.tableau.costs.low) c.args.self.now.tableau.costs
    c.args.forms.now c.solve_to.new.self c.in_ok-wide_at-in-Err-TooWide.field-0
    c.solve_to.ensures.held.is_held c.solve_to.ensures.held.costs c.in_ok-wide_at-in-Err-TooWide.ensures
