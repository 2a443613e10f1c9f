-- The source's rows are the problem's, and its forms are those of the tree.
use Rattle.std.proofs.Common.{sym, ◌∙◌, ap, subst}
use Rattle.form_search.specs.Finds.{IsSearchResult}
use Rattle.least_total.specs.Totals.{LeadsWithin}
use Rattle.least_total.specs.Bounded.{BoundedRows, possible_forms_within}
use Rattle.least_total.proofs.RoundLaws.{sought_is}
use Rattle.least_total.proofs.rounds.search_within.Goals as goal

pub returns : goal.returns
returns g c =
    let p = c.args.problem.now in
    let limits = c.args.limits.now in
    let source = c.search.new.source in
    let pool = c.search.new.pool in
    let same_problem = c.into_parts-rows.ensures.problem ∙ sym c.requires.problem in
    let possible_forms = c.search.ensures.left.same.same_possible_forms ∙
    ap (λ (s : BoundedRows). possible_forms_within s.known.problem s.most) c.new-source.ensures in
    let found = subst (λ (s : BoundedRows).
    IsSearchResult (LeadsWithin s.known.problem s.most) limits.top limits.nodes pool c.args.costs.now
    c.in_ok-found.found) c.new-source.ensures c.in_ok-found.ensures.found in
    sought_is p limits.top limits.nodes c.args.most c.args.costs.now source pool
    (record { rows = c.into_parts-rows.result.0; before = c.into_parts-rows.result.1; found = c.in_ok-found.found })
    same_problem possible_forms c.in_ok-found.ensures.left.lists found c.into_parts-rows.ensures.rows
    c.into_parts-rows.ensures.before
