use Rattle.std.proofs.Common.{rules, ◌+◌, ◌<◌, sym, subst, Bool, length}
use Rattle.area_graph.proofs.PassSteps.{Passed, passed_lower, passed_stays}
use Rattle.area_graph.proofs.passes.pass.Goals.{then-visit, else-visit}
use Rattle.area_graph.proofs.passes.pass.Goals as goal

pub loop-number-preserved : goal.loop-number-preserved
loop-number-preserved c =
    let known : c.loop-number.number < length c.args.subgraph.now.graph.now.edges = search rules in
    let after = λ (b : Bool). Passed c.args.subgraph.now.graph.now c.args.subgraph.now.point.now c.args.subgraph.now.exclusion.now (c.loop-number.number + 1)
    c.args.distances.now.items c.visit.new.distances.items b in
    elim c.if-visit.branch [
      | then-visit w ↦
          let both = c.visit.ensures.lowered w.if-visit.true in
          subst after (sym w.lowered-is)
          (passed_lower c.args.subgraph.now.graph.now c.args.subgraph.now.point.now c.args.subgraph.now.exclusion.now c.loop-number.number
          c.args.distances.now.items c.loop-number.distances.items c.visit.new.distances.items
          c.loop-number.lowered c.keeps_conditions.ensures.fits c.requires.numbers.count c.loop-number.invariant known
          both.0 both.1)
      | else-visit w ↦
          subst after (sym w.lowered-is)
          (passed_stays c.args.subgraph.now.graph.now c.args.subgraph.now.point.now c.args.subgraph.now.exclusion.now c.loop-number.number
          c.args.distances.now.items c.loop-number.distances.items c.visit.new.distances.items
          c.loop-number.lowered c.loop-number.invariant (c.visit.ensures.same w.if-visit.false)
          (c.visit.ensures.least w.if-visit.false))
    ]
