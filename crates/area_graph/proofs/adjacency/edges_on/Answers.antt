use Rattle.std.proofs.Common.{rules, ap, ◌≡◌, ◌<◌, [], ◌∷◌, ◌++◌, length, get_or, ◌∙◌, length-set}
use Rattle.std.proofs.lemmas.List.{get_or_default}
use Rattle.area_graph.specs.Area.{no_edge}
use Rattle.area_graph.specs.Adjacency.{edge_end_on}
use Rattle.area_graph.proofs.ListedEdges.{lists_more}
use Rattle.area_graph.proofs.adjacency.edges_on.Goals as goal

pub loop-number-preserved : goal.loop-number-preserved
loop-number-preserved c =
    let within : c.end_of.result < length c.loop-number.lists.items = search rules in
    let end : c.end_of.result ≡ edge_end_on c.args.side (get_or c.args.edges.now c.loop-number.number no_edge) =
    c.end_of.ensures ∙ ap (edge_end_on c.args.side) (get_or_default c.args.edges.now c.loop-number.number _ no_edge c.loop-number-test.true) in
    let pushed : c.push.new.self ≡ get_or c.loop-number.lists.items c.end_of.result [] ++ c.loop-number.number ∷ [] =
    c.in_ok-push.ensures.pushed ∙ ap (λ xs. xs ++ c.loop-number.number ∷ []) (c.index_mut.ensures.value
    ∙ get_or_default c.loop-number.lists.items c.end_of.result _ [] within) in
    record {
      count = length-set c.loop-number.lists.items c.end_of.result c.push.new.self ∙ c.loop-number.invariant.count;
      lists = lists_more c.loop-number.lists.items c.loop-number.number c.args.side
          (record { vertices = c.args.vertices.now; edges = c.args.edges.now }) c.loop-number.invariant.lists
          c.loop-number.invariant.count c.end_of.result end within c.push.new.self pushed;
    }
