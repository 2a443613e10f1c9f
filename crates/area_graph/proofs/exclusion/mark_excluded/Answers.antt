use Rattle.std.proofs.Common.{◌≡◌, ◌∙◌, ap, length, length-set, get_or, true}
use Rattle.std.proofs.lemmas.List.{get_or_default}
use Rattle.area_graph.proofs.ExcludedMarks.{marks_next}
use Rattle.area_graph.proofs.exclusion.mark_excluded.Goals as goal

pub loop-edge-preserved : goal.loop-edge-preserved
loop-edge-preserved c =
    let excluded = c.args.excluded.now in
    let i = c.loop-edge.edge-index in
    let edge = get_or excluded i 0 in
    record {
      marks = marks_next excluded i edge c.loop-edge.marks.items c.mark_within.new.marks.items c.loop-edge-test.true
          (get_or_default excluded i 0 edge c.loop-edge-test.true) c.loop-edge.invariant.marks c.mark_within.ensures;
      count = ap length c.mark_within.ensures ∙ length-set c.loop-edge.marks.items edge true ∙ c.loop-edge.invariant.count;
    }
