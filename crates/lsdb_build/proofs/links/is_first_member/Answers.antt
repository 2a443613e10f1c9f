use Rattle.std.proofs.Common.{ap, sym, ◌∙◌, ◌&&◌, not, nat_eq}
use Rattle.std.specs.List.{list_any}
use Rattle.lsdb_build.specs.Neighbours.{shares_subnet}
use Rattle.lsdb_build.proofs.Tallies.{none_counted}
use Rattle.lsdb_build.proofs.links.is_first_member.Goals as goal

pub returns-then-is_broadcast : goal.returns-then-is_broadcast
returns-then-is_broadcast c = λ before seen.
    ap (λ n. nat_eq n 0) (c.members_on-members.ensures before seen) ∙ none_counted (shares_subnet c.args.port.now) before
    ∙ ap (λ b. b && not (list_any (shares_subnet c.args.port.now) before)) (sym c.if-is_broadcast.true ∙ c.is_broadcast.ensures)
