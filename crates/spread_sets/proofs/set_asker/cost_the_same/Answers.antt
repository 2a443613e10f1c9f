use Rattle.std.proofs.Common.{◌≡◌, ◌∙◌, ap, ℕ}
use Rattle.area_graph.specs.Costs.{cost}
use Rattle.spread_sets.specs.Spreads.{cost_of_set, edges_of}
use Rattle.spread_sets.proofs.Separations.{all_tied, not_tied}
use Rattle.spread_sets.proofs.set_asker.cost_the_same.Goals as goal

pub returns-then-cost_of-first : goal.returns-then-cost_of-first
returns-then-cost_of-first c =
    let p = c.args.problem.now in
    let point = c.args.point.now in
    let members = c.args.members.now in
    let first : c.cost_of-first.result ≡ cost_of_set p point members = c.cost_of-first.ensures
    ∙ ap (λ (i : ℕ). cost p.graph point (edges_of p i)) c.first_of.ensures in
    not_tied p point members c.loop-member.member-index c.cost_of-first.result first c.loop-member-test.true
    (λ same. c.if-cost_of-first.true (c.cost_of.ensures ∙ same))

pub returns : goal.returns
returns c =
    let p = c.args.problem.now in
    let point = c.args.point.now in
    let members = c.args.members.now in
    let first : c.cost_of-first.result ≡ cost_of_set p point members = c.cost_of-first.ensures
    ∙ ap (λ (i : ℕ). cost p.graph point (edges_of p i)) c.first_of.ensures in
    all_tied p point members c.loop-member.member-index c.cost_of-first.result first c.loop-member-test.false c.loop-member.invariant
