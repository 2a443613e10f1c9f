use Rattle.std.proofs.Common.{SFits, w64, rules, get_or}
use Rattle.std.specs.Prelude.{pos}
use Rattle.std.proofs.lemmas.Int.{to_z-of_z}
use Rattle.design_problem.proofs.TermLaws.{terms_next}
use Rattle.design_problem.proofs.form.terms_of_all.Goals as goal

pub loop-var-preserved : goal.loop-var-preserved
loop-var-preserved c =
    let coefficient = get_or c.args.coefficients.now c.loop-var.var (pos 0) in
    let fits : SFits w64 coefficient = search rules in
    terms_next c.args.coefficients.now c.loop-var.var _ c.loop-var.terms.items c.push_term.new.terms.items
    c.loop-var-test.true (to_z-of_z w64 coefficient fits) c.loop-var.invariant c.in_ok-push_term.ensures
