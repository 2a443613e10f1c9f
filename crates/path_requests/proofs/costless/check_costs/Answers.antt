use Rattle.std.proofs.Common.{◌≡◌, sym, ◌∙◌, ap, subst, List, Option}
use Rattle.std.specs.Prelude.{IfErr}
use Rattle.cost_base.specs.Lists.{first_of}
use Rattle.lsdb_build.specs.declared.Linked.{Linked}
use Rattle.request_reader.specs.Asked.{Asked}
use Rattle.wanted_paths.specs.declared.fault.ResolutionFault.{ResolutionFault}
use Rattle.wanted_paths.specs.LineFaults.{TellsResolution}
use Rattle.path_requests.specs.Resolving.{cost_faults}
use Rattle.path_requests.proofs.CostlessLinks.{all_ranges, none_refused}
use Rattle.path_requests.proofs.costless.check_costs.Goals.{After-first_lacking}
use Rattle.path_requests.proofs.costless.check_costs.Goals as goal

-- what is found is the first fault
found : (c : After-first_lacking) → c.first_lacking.result
    ≡ first_of (cost_faults c.args.choices.now.asked c.args.choices.now.database 0 c.args.choices.now.database.links)
found c =
    let a = c.args.choices.now.asked in
    let d = c.args.choices.now.database in
    c.first_lacking.ensures a d (ap (λ (x : Asked). x.default_cost) (sym c.request_file.ensures.value))
    (all_ranges a d c.links.result.now c.ranges-2.result.now c.links.ensures.value c.ranges-2.ensures)
    ∙ ap (λ (links : List Linked). first_of (cost_faults a d 0 links)) c.links.ensures.value

pub returns-clause-made : goal.returns-clause-made
returns-clause-made c =
    none_refused c.refuse.result _ c.first_lacking.result (found (goal.at.returns-clause-made c).After-first_lacking) c.refuse.ensures.made

pub returns-clause-refused : goal.returns-clause-refused
returns-clause-refused c =
    subst (λ (fault : Option ResolutionFault). IfErr c.refuse.result (TellsResolution fault))
    (found (goal.at.returns-clause-refused c).After-first_lacking) c.refuse.ensures.refused
