use Rattle.std.proofs.Common.{◌∙◌, ap, List}
use Rattle.cost_base.specs.Lists.{first_of}
use Rattle.lsdb_build.specs.declared.Linked.{Linked}
use Rattle.path_requests.specs.Resolving.{cost_faults, present_asked}
use Rattle.path_requests.proofs.costless.first_without_cost.Goals as goal

pub returns : goal.returns
returns c =
    let d = c.args.lsdb.now in
    c.first_at_present.ensures d
    ∙ ap (λ (links : List Linked). first_of (cost_faults (present_asked c.args.request_file.now) d 0 links)) c.links.ensures.value
