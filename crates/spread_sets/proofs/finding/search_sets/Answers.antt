-- The search begins with the problem and its sets, and what it finds is by the rows that are known then.
use Rattle.std.proofs.Common.{◌≡◌, sym, ◌∙◌, ap, subst, length}
use Rattle.design_problem.specs.Boxes.{IsBox}
use Rattle.design_problem.specs.Problems.{DesignProblem, IsProblemOnGraph}
use Rattle.spread_sets.specs.MemberSets.{AreMemberSets, sets_in}
use Rattle.spread_sets.specs.Sources.{KnownSets}
use Rattle.spread_sets.proofs.Findings.{found_as, sought_is, trees_sets}
use Rattle.spread_sets.proofs.finding.search_sets.Goals as goal

pub search_box-requires-clause-rows : goal.search_box-requires-clause-rows
search_box-requires-clause-rows g c = ap (λ (s : KnownSets). s.rows) c.in_ok-source.ensures

pub search_box-requires-clause-kept : goal.search_box-requires-clause-kept
search_box-requires-clause-kept g c =
    subst (λ (s : KnownSets). IsProblemOnGraph s.problem) (sym c.in_ok-source.ensures) c.keeps_problem_on_graph.ensures

pub search_box-requires-clause-sets : goal.search_box-requires-clause-sets
search_box-requires-clause-sets g c =
    subst (λ (s : KnownSets). AreMemberSets s.problem s.sets) (sym c.in_ok-source.ensures)
    (trees_sets c.args.problem.now c.args.sets.items c.requires.trees)

pub search_box-requires-clause-ranges : goal.search_box-requires-clause-ranges
search_box-requires-clause-ranges g c =
    subst (λ (s : KnownSets). IsBox (length s.problem.low) c.args.costs.now) (sym c.in_ok-source.ensures) c.requires.ranges

pub returns : goal.returns
returns g c =
    let p = c.args.problem.now in
    let sets = sets_in c.args.sets.items in
    let limits = c.args.limits.now in
    let costs = c.args.costs.now in
    let found = c.in_ok-found.ensures in
    let first = c.in_ok-source.ensures in
    sought_is p sets limits.top limits.nodes costs c.search_box.new.source found.forms
    (record { rows = c.into_rows.result; found = c.in_ok-found.found }) (c.into_rows.ensures.problem ∙ sym c.requires.problem)
    (c.into_rows.ensures.sets ∙ sym c.requires.sets) found.lists
    (found_as p _ sets _ limits.top limits.nodes found.forms costs c.in_ok-found.found (ap (λ (s : KnownSets). s.problem) first)
    (ap (λ (s : KnownSets). s.sets) first) found.result) c.into_rows.ensures.rows
