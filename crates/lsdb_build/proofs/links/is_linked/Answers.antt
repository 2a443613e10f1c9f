use Rattle.std.proofs.Common.{ap, ◌∙◌, count_by}
use Rattle.lsdb_build.specs.Neighbours.{Port, is_linked_kind, shares_subnet}
use Rattle.lsdb_build.proofs.links.is_linked.Goals as goal

pub returns : goal.returns
returns c = λ all tally.
    c.links_members.ensures ∙ ap (is_linked_kind c.port.inside.interface.now.kind) (c.members_on.ensures all tally)
    ∙ ap (λ (p : Port). is_linked_kind p.interface.kind (count_by (shares_subnet c.args.port.now) all))
    c.port.view_is
