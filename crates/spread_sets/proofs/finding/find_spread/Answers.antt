-- The sets that are made are the problem's, and so what is found is found of them.
use Rattle.std.proofs.Common.{◌≡◌, ◌∙◌, ap, List, ℕ}
use Rattle.design_problem.specs.Answers.{greatest_bound}
use Rattle.design_problem.specs.Problems.{DesignProblem}
use Rattle.design_problem.specs.Rows.{greatest_cost}
use Rattle.spread_sets.specs.Spreads.{all_sets}
use Rattle.spread_sets.specs.MemberSets.{sets_in}
use Rattle.spread_sets.proofs.DistinctRows.{all_sets_distinct}
use Rattle.spread_sets.proofs.Findings.{lows_within, made_are, made_sets, sought_whole}
use Rattle.spread_sets.proofs.MadeSets.{sets_below}
use Rattle.spread_sets.proofs.SetLaws.{all_sets_are}
use Rattle.spread_sets.proofs.finding.find_spread.Goals as goal

pub with_trees-requires : goal.with_trees-requires
with_trees-requires c =
    let p = c.args.problem.now in
    let lines = c.args.sets.now in
    let made = c.in_ok-all.ensures ∙ ap (λ (ls : List (List ℕ)). sets_below ls c.request_count.result) c.as_slice.ensures in
    made_are p lines c.in_ok-all.all.items c.requires (made_sets p lines c.in_ok-all.all.items c.request_count.result c.request_count.ensures made)

pub box_at-requires : goal.box_at-requires
box_at-requires c =
    let p = c.args.problem.now in
    lows_within p c.greatest_of-cap.result c.keeps_problem_on_graph.ensures.problem (c.greatest_of-cap.ensures
    ∙ ap greatest_cost (c.as_slice-2.ensures ∙ ap (λ (q : DesignProblem). q.high) c.problem.view_is))

pub answered-requires-clause-sought : goal.answered-requires-clause-sought
answered-requires-clause-sought c =
    let p = c.args.problem.now in
    let lines = c.args.sets.now in
    let limits = c.args.limits.now in
    let made = c.in_ok-all.ensures ∙ ap (λ (ls : List (List ℕ)). sets_below ls c.request_count.result) c.as_slice.ensures in
    let same = made_sets p lines c.in_ok-all.all.items c.request_count.result c.request_count.ensures made in
    let cap : c.greatest_of-cap.result ≡ greatest_bound p = c.greatest_of-cap.ensures
    ∙ ap greatest_cost (c.as_slice-2.ensures ∙ ap (λ (q : DesignProblem). q.high) c.problem.view_is) in (
      all_sets p lines,
      all_sets_are p lines c.requires,
      sought_whole p (all_sets p lines) (sets_in c.in_ok-grown.grown.items) limits.top limits.nodes
          c.greatest_of-cap.result c.in_ok-costs.costs c.in_ok-sought.sought (c.in_ok-grown.ensures.sets ∙ same) cap
          c.in_ok-costs.ensures.cut c.in_ok-sought.ensures,
    )

pub returns : goal.returns
returns c =
    let p = c.args.problem.now in
    let lines = c.args.sets.now in
    let limits = c.args.limits.now in
    let made = c.in_ok-all.ensures ∙ ap (λ (ls : List (List ℕ)). sets_below ls c.request_count.result) c.as_slice.ensures in
    let same = made_sets p lines c.in_ok-all.all.items c.request_count.result c.request_count.ensures made in
    let cap : c.greatest_of-cap.result ≡ greatest_bound p = c.greatest_of-cap.ensures
    ∙ ap greatest_cost (c.as_slice-2.ensures ∙ ap (λ (q : DesignProblem). q.high) c.problem.view_is) in
    c.answered.ensures (all_sets p lines) (all_sets_are p lines c.requires) (all_sets_distinct p lines c.requires)
    (sought_whole p (all_sets p lines) (sets_in c.in_ok-grown.grown.items) limits.top limits.nodes
    c.greatest_of-cap.result c.in_ok-costs.costs c.in_ok-sought.sought (c.in_ok-grown.ensures.sets ∙ same) cap
    c.in_ok-costs.ensures.cut c.in_ok-sought.ensures)
