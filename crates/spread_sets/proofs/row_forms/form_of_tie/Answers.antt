use Rattle.std.proofs.Common.{rules, ◌≡◌, length}
use Rattle.std.specs.Prelude.{pos, ◌+ℤ◌}
use Rattle.std.proofs.lemmas.Result.{IfOk-weaker}
use Rattle.design_problem.specs.Forms.{Form}
use Rattle.spread_sets.specs.Spreads.{edges_of, form_of_tie}
use Rattle.spread_sets.proofs.TieForms.{tie_is}
use Rattle.spread_sets.proofs.row_forms.form_of_tie.Goals as goal

pub returns : goal.returns
returns c =
    let p = c.args.problem.now in
    let form = c.in_ok-form.form in
    let second : c.in_ok-row.row.rival ≡ edges_of p c.args.second = search rules in
    IfOk-weaker c.with_one_more.result (λ (more : Form). more ≡ record form { constant = form.constant +ℤ pos 1 })
    (λ (more : Form). more ≡ form_of_tie p.graph (length p.low) (edges_of p c.args.first)
    (edges_of p c.args.second))
    (λ more is_more. tie_is p c.in_ok-row.row c.args.first c.args.second form more c.in_ok-row.ensures.request second
    c.requires.same_ends c.in_ok-form.ensures.form is_more)
    c.with_one_more.ensures
