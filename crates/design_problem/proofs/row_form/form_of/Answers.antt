use Rattle.std.proofs.Common.{◌≡◌, ℕ, ◌∙◌, sym, subst, ap, get_or, List, length}
use Rattle.std.proofs.lemmas.Result.{IfOk-weaker}
use Rattle.design_problem.specs.declared.problem.Request.{Request}
use Rattle.design_problem.specs.declared.form.Form.{Form}
use Rattle.design_problem.specs.Problems.{DesignProblem}
use Rattle.design_problem.specs.Rows.{HasRoute, form_between, form_of_row}
use Rattle.design_problem.specs.Forms.{IsSmallForm}
use Rattle.design_problem.specs.contracts.problem.Problem.{the_view}
use Rattle.design_problem.proofs.PathBounds.{path-known, path-short}
use Rattle.design_problem.proofs.FormBounds.{simple_form_small}
use Rattle.design_problem.proofs.RowForms.{RowPaths, row_paths}
use Rattle.design_problem.proofs.row_form.form_of.Goals as goal

paths : (c : goal.After-as_slice-2) →
    RowPaths (the_view c.problem.inside) c.args.row.now c.index-as_slice-row.result c.as_slice-wanted.result.now
    c.as_slice-rival.result.now
paths c =
    row_paths (the_view c.problem.inside) c.args.row.now c.index-as_slice-row.result c.as_slice-wanted.result.now c.as_slice-rival.result.now
    c.problem.invariant
    (subst (λ (p : DesignProblem). HasRoute p c.args.row.now) (sym c.problem.view_is) c.requires)
    (c.as_slice-wanted.ensures ∙ ap (λ (rs : List Request). (get_or rs c.args.row.now.request c.index-as_slice-row.result).path.edges) c.as_slice.ensures)
    c.as_slice-rival.ensures

pub form_of_paths-requires-clause-wanted_known : goal.form_of_paths-requires-clause-wanted_known
form_of_paths-requires-clause-wanted_known c = path-known c.problem.inside.graph _ c.as_slice-wanted.result.now (paths c).wanted_path

pub form_of_paths-requires-clause-wanted_short : goal.form_of_paths-requires-clause-wanted_short
form_of_paths-requires-clause-wanted_short c =
    path-short c.problem.inside.graph _ c.as_slice-wanted.result.now c.keeps_conditions.ensures.fits
    (paths c).wanted_path

pub form_of_paths-requires-clause-rival_known : goal.form_of_paths-requires-clause-rival_known
form_of_paths-requires-clause-rival_known c = path-known c.problem.inside.graph _ c.as_slice-rival.result.now (paths c).rival_path

pub form_of_paths-requires-clause-rival_short : goal.form_of_paths-requires-clause-rival_short
form_of_paths-requires-clause-rival_short c =
    path-short c.problem.inside.graph _ c.as_slice-rival.result.now c.keeps_conditions.ensures.fits (paths c).rival_path

paths_after : (c : goal.After-form_of_paths) →
    RowPaths (the_view c.problem.inside) c.args.row.now c.index-as_slice-row.result c.as_slice-wanted.result.now
    c.as_slice-rival.result.now
paths_after c =
    row_paths (the_view c.problem.inside) c.args.row.now c.index-as_slice-row.result c.as_slice-wanted.result.now c.as_slice-rival.result.now
    c.problem.invariant
    (subst (λ (p : DesignProblem). HasRoute p c.args.row.now) (sym c.problem.view_is) c.requires)
    (c.as_slice-wanted.ensures ∙ ap (λ (rs : List Request). (get_or rs c.args.row.now.request c.index-as_slice-row.result).path.edges) c.as_slice.ensures)
    c.as_slice-rival.ensures

-- what was made is the form of the row
made : (c : goal.After-form_of_paths) (f : Form) →
    f ≡ form_between c.problem.inside.graph (length c.as_slice-2.result.now) c.as_slice-wanted.result.now
    c.as_slice-rival.result.now → f ≡ form_of_row (the_view c.problem.inside) c.args.row.now
made c f e =
    e ∙ ap (λ (n : ℕ). form_between c.problem.inside.graph n c.as_slice-wanted.result.now c.as_slice-rival.result.now)
    (ap length c.as_slice-2.ensures) ∙ (paths_after c).form

pub returns-clause-form : goal.returns-clause-form
returns-clause-form c =
    IfOk-weaker c.form_of_paths.result
    (λ f. f ≡ form_between c.problem.inside.graph (length c.as_slice-2.result.now) c.as_slice-wanted.result.now
    c.as_slice-rival.result.now) (λ f. f ≡ form_of_row c.args.problem.now c.args.row.now)
    (λ f e. made c f e ∙ ap (λ (p : DesignProblem). form_of_row p c.args.row.now) c.problem.view_is)
    c.form_of_paths.ensures

pub returns-clause-small : goal.returns-clause-small
returns-clause-small c =
    let small = simple_form_small c.problem.inside.graph (length c.problem.inside.low) _ _ c.as_slice-wanted.result.now
    c.as_slice-rival.result.now c.keeps_conditions.ensures.fits c.keeps_conditions.ensures.metrics
    c.problem.invariant.priced (paths_after c).wanted_path (paths_after c).rival_path in
    let is_small = subst (λ (f : Form). IsSmallForm (length c.problem.inside.low) f) (paths_after c).form small in
    IfOk-weaker c.form_of_paths.result
    (λ f. f ≡ form_between c.problem.inside.graph (length c.as_slice-2.result.now) c.as_slice-wanted.result.now
    c.as_slice-rival.result.now) (λ f. IsSmallForm (length c.args.problem.now.low) f)
    (λ f e. subst (λ (n : ℕ). IsSmallForm n f) (ap (λ (p : DesignProblem). length p.low) c.problem.view_is)
    (subst (λ (g : Form). IsSmallForm (length c.problem.inside.low) g) (sym (made c f e)) is_small))
    c.form_of_paths.ensures
