use Rattle.std.proofs.Common.{◌<◌, sym, subst, ℕ, List, All, length}
use Rattle.area_graph.proofs.ListedEdges.{out_known}
use Rattle.spf_ties.proofs.room.Room.next_hops.Goals as goal

pub invariant_of-result : goal.invariant_of-result
invariant_of-result c = record {
  room = c.requires.room;
  fits = c.requires.fits;
  known = subst (λ (es : List ℕ). All (λ e. e < length c.args.graph.now.edges) es) (sym c.edges_out.ensures) (out_known c.args.graph.now c.args.vertex);
}
