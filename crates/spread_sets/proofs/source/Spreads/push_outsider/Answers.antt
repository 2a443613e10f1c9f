use Rattle.std.proofs.Common.{◌∙◌, ℕ, [], ◌∷◌, ◌++◌, sym, subst, ap}
use Rattle.std.specs.Prelude.{slice_get}
use Rattle.design_problem.specs.Forms.{Form}
use Rattle.design_problem.specs.Rows.{IsRouteOf}
use Rattle.spread_sets.specs.declared.spread.SetRow.TheVariants.{Outsider}
use Rattle.spread_sets.specs.Spreads.{form_of_set_row}
use Rattle.spread_sets.specs.Sources.{KnownSets, set_at}
use Rattle.spread_sets.proofs.Separations.{found_row, row_form}
use Rattle.spread_sets.proofs.source.Spreads.push_outsider.Goals as goal

pub form_of-requires : goal.form_of-requires
form_of-requires g c =
    let s = c.args.self.now in
    let found = found_row s.problem c.requires.cheap.0 (set_at s.sets c.args.place) c.args.edges.now c.in_ok-row.row
    (c.keeps.ensures.sets c.args.place [] c.requires.place) c.requires.cheap.1 (c.in_ok-row.ensures.request ∙ c.name-name.ensures)
    c.in_ok-row.ensures.edges in
    subst (λ (t : KnownSets). IsRouteOf t.problem.graph (slice_get t.problem.requests c.in_ok-row.row.request) c.in_ok-row.row.rival)
    (sym c.self.view_is) found.route

pub push_row-requires : goal.push_row-requires
push_row-requires g c =
    let s = c.args.self.now in
    let found = found_row s.problem c.requires.cheap.0 (set_at s.sets c.args.place) c.args.edges.now c.in_ok-row.row
    (c.keeps.ensures.sets c.args.place [] c.requires.place) c.requires.cheap.1 (c.in_ok-row.ensures.request ∙ c.name-name.ensures)
    c.in_ok-row.ensures.edges in
    c.in_ok-form.ensures.form
    ∙ row_form c.self.inside.problem.now c.in_ok-row.row
    (subst (λ (t : KnownSets). IsRouteOf t.problem.graph (slice_get t.problem.requests c.in_ok-row.row.request) c.in_ok-row.row.rival)
    (sym c.self.view_is) found.route)
    ∙ ap (λ (t : KnownSets). form_of_set_row t.problem (Outsider c.in_ok-row.row.request c.in_ok-row.row.rival)) c.self.view_is

pub returns-clause-one : goal.returns-clause-one
returns-clause-one g c = λ point cheap.
    let s = c.args.self.now in
    let row = c.in_ok-row.row in
    let found = found_row s.problem point (set_at s.sets c.args.place) c.args.edges.now row
    (c.keeps.ensures.sets c.args.place [] c.requires.place) cheap (c.in_ok-row.ensures.request ∙ c.name-name.ensures)
    c.in_ok-row.ensures.edges in
    let q = c.self.inside.problem.now in
    record {
      kept = c.keeps.ensures.kept;
      are = c.keeps.ensures.sets;
      outsider = row.rival;
      cheap = found.cheap;
      rows = c.in_ok-push_row.ensures.row ∙ ap (λ (k : ℕ). let t : KnownSets = record s { rows = s.rows ++ Outsider k row.rival ∷ [] } in t) found.name;
      forms = c.in_ok-push_row.ensures.form ∙ ap (λ (f : Form). c.args.pool.now ++ f ∷ [])
          (c.in_ok-form.ensures.form
          ∙ row_form q row (subst (λ (t : KnownSets). IsRouteOf t.problem.graph (slice_get t.problem.requests row.request) row.rival) (sym c.self.view_is)
          found.route)
          ∙ ap (λ (t : KnownSets). form_of_set_row t.problem (Outsider row.request row.rival)) c.self.view_is
          ∙ ap (λ (k : ℕ). form_of_set_row s.problem (Outsider k row.rival)) found.name);
    }
