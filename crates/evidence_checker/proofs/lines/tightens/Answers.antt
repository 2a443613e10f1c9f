use Rattle.std.proofs.Common.{◌<◌, ◌∙◌, ap, subst, refl, length, rules, SFits, ℕ}
use Rattle.std.specs.Int.{w128}
use Rattle.std.proofs.lemmas.Int.{to_z-of_z}
use Rattle.evidence_checker.proofs.LineLaws.{tightens_iff}
use Rattle.design_problem.proofs.PartLaws.{form_read}
use Rattle.evidence_checker.proofs.lines.tightens.Goals as goal

pub returns : goal.returns
returns c =
    let fits : SFits w128 c.greatest_removed.result = search rules in
    tightens_iff c.args.forms.now c.args.costs.now c.args.bound.side c.args.bound.var c.args.bound.value c.args.row c.index-forms-row.result _
    (subst (λ (n : ℕ). c.args.bound.var < n) (ap length c.as_slice.ensures) c.if-as_slice-bound.false) c.if-forms-row.false (c.if-not-is_smaller.ensures.0 refl)
    (form_read c.args.forms.now c.args.row c.index-forms-row.result c.if-forms-row.false c.index-forms-row.is)
    (to_z-of_z w128 c.greatest_removed.result fits ∙ c.greatest_removed.ensures)
