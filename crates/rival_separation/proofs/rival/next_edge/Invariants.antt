use Rattle.std.proofs.Common.{◌≡◌, All, take, true, false, get_or}
use Rattle.area_graph.specs.Area.{edges_out}
use Rattle.spf_ties.specs.Distances.{is_tight}
use Rattle.rival_separation.proofs.rival.next_edge.Given as goal

abbrev pub invariant-loop-number : goal.invariant-loop-number
invariant-loop-number l = All (λ e. is_tight l.graph l.point l.room e ≡ true → get_or l.room.marks e true ≡ false → ⊥)
    (take l.number-index (edges_out l.graph l.vertex))
