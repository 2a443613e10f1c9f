use Rattle.std.proofs.Common.{◌<◌, ◌∙◌, ℕ, All, List, ap, length, subst, sym, take_all}
use Rattle.area_graph.specs.Area.{Area}
use Rattle.design_problem.specs.declared.problem.Request.{Request}
use Rattle.change_steps.specs.Search.{AreHeldMarks}
use Rattle.change_steps.proofs.MarkedLaws.{held_more_marked, held_none_marked, path_known}
use Rattle.change_steps.proofs.kinds.mark_held.Goals as goal

pub loop-number-init : goal.loop-number-init
loop-number-init c =
    held_none_marked c.args.rollout.now c.in_ok-marks.marks.items (c.in_ok-marks.ensures.counted ∙ ap length c.present.ensures) c.in_ok-marks.ensures.none

pub request-requires : goal.request-requires
request-requires c = c.requires c.loop-number.number-index 0 c.loop-number-test.true

pub mark_path-requires : goal.mark_path-requires
mark_path-requires c =
    subst (λ (g : Area). All (λ e. e < length g.edges) c.as_slice.result.now) (sym c.graph.ensures)
    (subst (λ (es : List ℕ). All (λ e. e < length c.args.rollout.now.graph.edges) es)
    (sym (c.as_slice.ensures ∙ ap (λ (q : Request). q.path.edges) c.request.ensures))
    (path_known c.args.rollout.now _ c.keeps_conditions.ensures (c.requires c.loop-number.number-index 0 c.loop-number-test.true)))

pub loop-number-preserved : goal.loop-number-preserved
loop-number-preserved c =
    held_more_marked c.args.rollout.now c.args.held.now c.as_slice.result.now c.loop-number.number-index c.loop-number.marks.items c.mark_path.new.marks.items
    c.graph.result.now c.loop-number-test.true c.loop-number.invariant c.graph.ensures
    (c.as_slice.ensures ∙ ap (λ (q : Request). q.path.edges) c.request.ensures) c.mark_path.ensures.count c.mark_path.ensures.marks

pub returns : goal.returns
returns c =
    subst (λ (xs : List ℕ). AreHeldMarks c.args.rollout.now xs c.loop-number.marks.items)
    (take_all c.loop-number.number-index c.args.held.now c.loop-number-test.false) c.loop-number.invariant
