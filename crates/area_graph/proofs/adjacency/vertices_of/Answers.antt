use Rattle.std.proofs.Common.{List, [], ◌∷◌, ◌++◌, map, ap, sym, ◌∙◌, append_assoc}
use Rattle.cost_base.specs.Lists.{numbers_from}
use Rattle.area_graph.specs.declared.Vertex.{Vertex}
use Rattle.area_graph.specs.declared.Vertex.TheVariants.{Router, Subnet}
use Rattle.area_graph.proofs.Vertices.{map-numbers_from-push}
use Rattle.area_graph.proofs.adjacency.vertices_of.Goals as goal

pub loop-router-preserved : goal.loop-router-preserved
loop-router-preserved c =
    c.in_ok-push.ensures.items
    ∙ ap (λ (vertices : List Vertex). vertices ++ Router c.loop-router.router ∷ []) c.loop-router.invariant
    ∙ sym (map-numbers_from-push Router c.loop-router.router)

pub loop-subnet-preserved : goal.loop-subnet-preserved
loop-subnet-preserved c =
    let routers = map Router (numbers_from 0 c.args.routers) in
    c.in_ok-push-2.ensures.items
    ∙ ap (λ (vertices : List Vertex). vertices ++ Subnet c.loop-subnet.subnet ∷ []) c.loop-subnet.invariant
    ∙ append_assoc routers (map Subnet (numbers_from 0 c.loop-subnet.subnet)) (Subnet c.loop-subnet.subnet ∷ [])
    ∙ ap (λ (vertices : List Vertex). routers ++ vertices) (sym (map-numbers_from-push Subnet c.loop-subnet.subnet))
