-- What a search's tree names is printed, and shows what is answered.
use Rattle.std.proofs.Common.{◌≡◌, ℕ, List, subst}
use Rattle.design_problem.specs.Problems.{DesignProblem}
use Rattle.design_problem.specs.Answers.{whole_box}
use Rattle.form_search.specs.Finds.{IsSearchResult}
use Rattle.form_search.specs.declared.found.Found.{Found}
use Rattle.form_search.specs.declared.found.Found.TheVariants.{Refuted, Undecided}
use Rattle.spread_sets.specs.declared.finding.Sought.{Sought}
use Rattle.spread_sets.specs.Spreads.{SharesEach, forms_of_set_rows}
use Rattle.spread_sets.specs.MemberSets.{AreMemberSets}
use Rattle.spread_sets.specs.Sources.{IsSpreadSought}
use Rattle.spread_sets.proofs.PrintedSets.{CanPrintSets, shown_closed, shown_used_up, tree_names}
use Rattle.spread_sets.proofs.finding.answered.Goals.{After-keeps_problem_on_graph}
use Rattle.spread_sets.proofs.finding.answered.Goals as goal

-- what was found, in each of its cases
found_as : (p : DesignProblem) (sets : List (List ℕ)) (top nodes : ℕ) (sought : Sought) (found : Found) →
    sought.found ≡ found → IsSpreadSought p sets top nodes (whole_box p) sought →
    IsSearchResult (SharesEach p sets) top nodes (forms_of_set_rows p sought.rows.items) (whole_box p) found
found_as p sets top nodes sought found is holds =
    subst (λ (f : Found). IsSearchResult (SharesEach p sets) top nodes (forms_of_set_rows p sought.rows.items) (whole_box p) f)
    is holds.found

pub printed-requires : goal.printed-requires
printed-requires c =
    let limits = c.args.limits.now in
    let found = found_as c.args.problem.now c.requires.sought.0 limits.top limits.nodes c.args.sought
    (Refuted c.in-Refuted.tree) c.in-Refuted.is c.requires.sought.2 in
    tree_names c.args.problem.now c.requires.sought.0 limits.top c.args.sought.rows.items c.in-Refuted.tree found.0

pub printed-requires-in-Undecided : goal.printed-requires-in-Undecided
printed-requires-in-Undecided c =
    let limits = c.args.limits.now in
    let found = found_as c.args.problem.now c.requires.sought.0 limits.top limits.nodes c.args.sought
    (Undecided c.in-Undecided.tree) c.in-Undecided.is c.requires.sought.2 in
    tree_names c.args.problem.now c.requires.sought.0 limits.top c.args.sought.rows.items c.in-Undecided.tree found.0

-- what the rows' lines need to be short
can : (c : After-keeps_problem_on_graph) (sets : List (List ℕ)) → AreMemberSets c.args.problem.now sets →
    CanPrintSets c.args.problem.now sets c.args.limits.now.nodes
can c sets are = record {
  kept = c.keeps_problem_on_graph.ensures;
  are = are;
  small = c.requires.bound_small;
  budget = c.args.limits.now.budget_end;
}

pub returns-in_ok-rows-in-Refuted : goal.returns-in_ok-rows-in-Refuted
returns-in_ok-rows-in-Refuted c = λ sets are distinct sought.
    let p = c.args.problem.now in
    let limits = c.args.limits.now in
    let sheet = c.in_ok-rows-in-Refuted.field-0 in
    let found = found_as p sets limits.top limits.nodes c.args.sought (Refuted c.in-Refuted.tree) c.in-Refuted.is sought in
    shown_closed p sets limits.top limits.nodes c.args.sought.rows.items sheet.rows.items c.in-Refuted.tree sheet.tree
    (can (goal.at.returns-in_ok-rows-in-Refuted c).After-keeps_problem_on_graph sets are) sought.true_rows (sought.once distinct) found.0 found.2 found.1
    c.in_ok-rows-in-Refuted.ensures

pub returns-in_ok-rows-in-Undecided : goal.returns-in_ok-rows-in-Undecided
returns-in_ok-rows-in-Undecided c = λ sets are distinct sought.
    let p = c.args.problem.now in
    let limits = c.args.limits.now in
    let sheet = c.in_ok-rows-in-Undecided.field-0 in
    let found = found_as p sets limits.top limits.nodes c.args.sought (Undecided c.in-Undecided.tree) c.in-Undecided.is sought in
    shown_used_up p sets limits.top limits.nodes c.args.sought.rows.items sheet.rows.items c.in-Undecided.tree sheet.tree
    (can (goal.at.returns-in_ok-rows-in-Undecided c).After-keeps_problem_on_graph sets are) sought.true_rows (sought.once distinct) found.0 found.1 found.2
    c.in_ok-rows-in-Undecided.ensures
