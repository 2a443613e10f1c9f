use Rattle.std.proofs.Common.{ap, sym, ◌∙◌, ◌&&◌, not, nat_le, count_by}
use Rattle.lsdb_build.specs.Neighbours.{Port, shares_subnet}
use Rattle.lsdb_build.proofs.checks.is_crowding.Goals as goal

pub returns-then-not-is_broadcast : goal.returns-then-not-is_broadcast
returns-then-not-is_broadcast c = λ before tally.
    let p = c.args.port.now in
    ap (nat_le 2) (c.members_before-members.ensures before tally)
    ∙ ap (λ b. b && nat_le 2 (count_by (λ (q : Port). shares_subnet q p) before)) (sym (ap not (sym c.is_broadcast.ensures ∙ c.if-not-is_broadcast.true)))
