use Rattle.std.proofs.Common.{◌∙◌, ap, List, get_or}
use Rattle.std.proofs.lemmas.List.{get_or_default}
use Rattle.area_graph.specs.Area.{no_edge}
use Rattle.area_graph.specs.declared.Edge.{Edge}
use Rattle.design_problem.proofs.PaymentLaws.{note_next}
use Rattle.design_problem.proofs.payments.note_path.Goals as goal

pub loop-e-preserved : goal.loop-e-preserved
loop-e-preserved c =
    let e = get_or c.args.path.now c.loop-e.e-index 0 in
    note_next c.args.graph.now c.args.by_rival c.args.path.now c.loop-e.e-index c.args.payments.now.items
    c.loop-e.payments.items c.note_price.new.payments.items _ c.loop-e-test.true c.loop-e.invariant
    c.in_ok-note_price.ensures
    (ap (λ (es : List Edge). (get_or es e _).price) c.edges-edges.ensures
    ∙ ap (λ (edge : Edge). edge.price) (get_or_default c.args.graph.now.edges e _ no_edge (c.requires c.loop-e.e-index 0 c.loop-e-test.true)))
