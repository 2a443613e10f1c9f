use Rattle.std.proofs.Common.{◌≡◌, ◌∙◌, ap, subst, List, Option}
use Rattle.std.specs.Prelude.{IfErr}
use Rattle.cost_base.specs.Lists.{first_of}
use Rattle.lsdb_build.specs.declared.Linked.{Linked}
use Rattle.wanted_paths.specs.declared.fault.ResolutionFault.{ResolutionFault}
use Rattle.wanted_paths.specs.LineFaults.{TellsResolution}
use Rattle.path_requests.specs.Resolving.{cost_faults, present_asked}
use Rattle.path_requests.proofs.CostlessLinks.{none_refused}
use Rattle.path_requests.proofs.costless.check_present.Goals.{After-first_at_present}
use Rattle.path_requests.proofs.costless.check_present.Goals as goal

-- what is found is the first fault
found : (c : After-first_at_present) → c.first_at_present.result
    ≡ first_of (cost_faults (present_asked c.args.request_file.now) c.args.names.now 0 c.args.names.now.links)
found c =
    let d = c.args.names.now in
    c.first_at_present.ensures d
    ∙ ap (λ (links : List Linked). first_of (cost_faults (present_asked c.args.request_file.now) d 0 links)) c.links.ensures.value

pub returns-clause-made : goal.returns-clause-made
returns-clause-made c =
    none_refused c.refuse.result _ c.first_at_present.result (found (goal.at.returns-clause-made c).After-first_at_present) c.refuse.ensures.made

pub returns-clause-refused : goal.returns-clause-refused
returns-clause-refused c =
    subst (λ (fault : Option ResolutionFault). IfErr c.refuse.result (TellsResolution fault))
    (found (goal.at.returns-clause-refused c).After-first_at_present) c.refuse.ensures.refused
