use Rattle.std.proofs.Common.{◌∙◌, ◌||◌, Bool, List, ℕ, ap, arith, false, get_or, refl, sym, take_all}
use Rattle.std.proofs.Math.Bool.{or-false}
use Rattle.area_graph.specs.declared.Edge.{Edge}
use Rattle.design_problem.specs.Rows.{is_var}
use Rattle.change_steps.specs.Kinds.{goes_over}
use Rattle.change_steps.proofs.MarkedLaws.{goes_none, path_more}
use Rattle.change_steps.proofs.kinds.mark_path.Goals as goal

pub loop-edge-init : goal.loop-edge-init
loop-edge-init c = record {
  count = refl;
  told = λ v within.
      let was = get_or c.args.marks.now.items v false in
      sym (ap (λ (b : Bool). was || b) (goes_none c.args.graph.now v) ∙ or-false was);
}

pub edge_of-requires : goal.edge_of-requires
edge_of-requires c = c.requires c.loop-edge.edge-index 0 c.loop-edge-test.true

pub loop-edge-preserved : goal.loop-edge-preserved
loop-edge-preserved c = record {
  count = c.mark_price.ensures.count ∙ c.loop-edge.invariant.count;
  told = λ v within.
      path_more c.args.graph.now c.args.edges.now c.loop-edge.edge-index v (get_or c.args.marks.now.items v false)
      (get_or c.loop-edge.marks.items v false) (get_or c.mark_price.new.marks.items v false) c.loop-edge-test.true (c.loop-edge.invariant.told v within)
      (c.mark_price.ensures.marks v (let count = c.loop-edge.invariant.count in omega (arith, count, within))
      ∙ ap (λ (e : Edge). get_or c.loop-edge.marks.items v false || is_var v e.price) c.edge_of.ensures);
}

pub returns-clause-count : goal.returns-clause-count
returns-clause-count c = c.loop-edge.invariant.count

pub returns-clause-marks : goal.returns-clause-marks
returns-clause-marks c = λ v within.
    c.loop-edge.invariant.told v within
    ∙ ap (λ (es : List ℕ). get_or c.args.marks.now.items v false || goes_over c.args.graph.now es v)
    (take_all c.loop-edge.edge-index c.args.edges.now c.loop-edge-test.false)
