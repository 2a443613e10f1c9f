use Rattle.std.proofs.Common.{◌≡◌, ◌<◌, All, filter, length}
use Rattle.spf_ties.specs.Distances.{is_tight}
use Rattle.spf_ties.proofs.next_hops.first_tight.Given as goal

abbrev pub invariant-loop-left : goal.invariant-loop-left
invariant-loop-left l = record {
  same : filter (is_tight l.graph l.point l.room) l.edges ≡ filter (is_tight l.graph l.point l.room) l.left;
  known : All (λ e. e < length l.graph.edges) l.left;
}

abbrev pub decreases-loop-left : goal.decreases-loop-left
decreases-loop-left l = length l.left
