use Rattle.design_problem.proofs.TermLaws.{terms_are}
use Rattle.design_problem.proofs.form.Form.from_terms.Goals as goal

pub invariant_of-result : goal.invariant_of-result
invariant_of-result c = terms_are c.args.variables c.args.constant c.args.terms.items c.requires
