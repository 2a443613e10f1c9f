use Rattle.std.proofs.Common.{◌∙◌, ℕ, List, ap, inl, subst, sym}
use Rattle.std.proofs.lemmas.Bool.{both_ways, not-true}
use Rattle.cost_base.specs.Lists.{Has}
use Rattle.cost_base.proofs.MarkLaws.{has_one_of, one_of_has}
use Rattle.area_graph.specs.declared.Edge.{Edge}
use Rattle.area_graph.specs.Area.{Area, edge_at}
use Rattle.design_problem.specs.declared.problem.Request.{Request}
use Rattle.change_steps.specs.Reaches.{price_rises}
use Rattle.change_steps.proofs.reach.Reach.is_harmless.Goals as goal

pub returns-then-contains : goal.returns-then-contains
returns-then-contains c = λ falls.
    let edge_is = c.edge_of.ensures ∙ ap (λ (g : Area). edge_at g c.args.edge) c.graph.ensures in
    let edges_are = c.as_slice-edges.ensures ∙ ap (λ (q : Request). q.path.edges) c.request.ensures in
    record {
      on = λ has. sym (c.price_rises-rises.ensures ∙ ap (λ (x : Edge). price_rises c.args.rollout.now.moves x.price) edge_is) ∙
          not-true c.price_rises-rises.result falls;
      off = λ away. absurd (away (subst (λ (es : List ℕ). Has es c.args.edge) edges_are
          (one_of_has c.as_slice-edges.result.now c.args.edge (sym c.contains.ensures.value ∙ c.if-contains.true))));
    }

pub returns-then-rises : goal.returns-then-rises
returns-then-rises c = λ rises.
    let edge_is = c.edge_of.ensures ∙ ap (λ (g : Area). edge_at g c.args.edge) c.graph.ensures in
    let edges_are = c.as_slice-edges.ensures ∙ ap (λ (q : Request). q.path.edges) c.request.ensures in
    record {
      on = λ has. absurd (both_ways c.contains.result c.if-contains.false
          (c.contains.ensures.value ∙ has_one_of c.as_slice-edges.result.now c.args.edge (subst (λ (es : List ℕ). Has es c.args.edge) (sym edges_are) has)));
      off = λ away. inl (sym (c.price_rises-rises.ensures ∙ ap (λ (x : Edge). price_rises c.args.rollout.now.moves x.price) edge_is) ∙ rises);
    }
