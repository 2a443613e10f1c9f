use Rattle.std.proofs.Common.{◌∙◌, ◌++◌, ◌∷◌, [], Bool, List, ap, map, subst, sym}
use Rattle.cost_base.specs.Lists.{numbers_from}
use Rattle.change_steps.specs.Search.{AreHeldMarks}
use Rattle.area_graph.proofs.Vertices.{map-numbers_from-push}
use Rattle.change_steps.specs.declared.kinds.Kind.{Kind}
use Rattle.change_steps.specs.Kinds.{kind_of_step}
use Rattle.change_steps.proofs.kinds.kinds_of.Goals as goal

pub loop-step-preserved : goal.loop-step-preserved
loop-step-preserved c =
    c.in_ok-push.ensures.items ∙ ap (λ (ks : List Kind). ks ++ c.kind_of.result ∷ []) c.loop-step.invariant
    ∙ ap (λ (k : Kind). map (kind_of_step c.args.rollout.now c.args.held.now) (numbers_from 0 c.loop-step.step) ++ k ∷ [])
    (c.kind_of.ensures c.args.held.now (subst (λ (ms : List Bool). AreHeldMarks c.args.rollout.now c.args.held.now ms) (sym c.deref.ensures.value)
    c.in_ok-marks.ensures))
    ∙ sym (map-numbers_from-push (kind_of_step c.args.rollout.now c.args.held.now) c.loop-step.step)
