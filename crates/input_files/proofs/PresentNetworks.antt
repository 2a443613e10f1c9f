-- Networks at present costs and beside them: their request file has no fault, and each present cost is above 0.
use Rattle.std.proofs.Common.{◌≡◌, ◌<◌, refl, sym, ◌∙◌, ap, subst, [], ◌++◌, map, All, Option, None}
use Rattle.cost_base.proofs.ListLemmas.{append-none, none_first}
use Rattle.lsdb_build.specs.Graphs.{Database, IsAreaDatabase}
use Rattle.design_problem.specs.Problems.{DesignProblem}
use Rattle.request_reader.specs.Asked.{IsAsked}
use Rattle.wanted_paths.specs.declared.fault.ResolutionFault.{ResolutionFault}
use Rattle.wanted_paths.specs.LineFaults.{line_faults}
use Rattle.path_requests.specs.Meaning.{present_cost, problem_of}
use Rattle.path_requests.specs.Resolving.{ends_faults, variable_faults, cost_faults, present_asked, present_fault, present_problem_of}
use Rattle.present_costs.specs.PresentCosts.{fault_beside_present}
use Rattle.present_costs.specs.AtCosts.{graph_at_costs}
use Rattle.present_costs.proofs.PositiveCosts.{present_above}
use Rattle.present_costs.proofs.ByLinks.{present_graph}
use Rattle.input_files.specs.declared.problem.View.TheVariants.{AtPresent, BesidePresent}
use Rattle.input_files.specs.Inputs.{InputFiles}
use Rattle.input_files.specs.Readings.{Reading, Ready, unless_refused, Says, EndsAs}
use Rattle.input_files.specs.Outcomes.{Input, problem_read, resolution_refused}
use Rattle.input_files.proofs.Readings.{said_unless}

resolved : (names : InputFiles) (d : Database) (p q : DesignProblem) (fault : Option ResolutionFault) →
    unless_refused (resolution_refused names d) p fault ≡ Ready q → (fault ≡ None) × (q ≡ p)
resolved names d p q fault h =
    said_unless (resolution_refused names d) p q fault [] (subst (λ (m : Reading DesignProblem). EndsAs m [] (Says q)) (sym h) refl)

-- At present costs.

-- the request file has no fault, and the problem is that of the present network
pub at_present : (names : InputFiles) (d : Input) → problem_read AtPresent names d.asked d.database ≡ Ready d.problem →
    (present_fault d.asked d.database ≡ None) × (d.problem ≡ present_problem_of d.asked d.database)
at_present names d is = resolved names d.database (present_problem_of d.asked d.database) d.problem (present_fault d.asked d.database) is

-- each present cost is above 0
pub above_at_present : (names : InputFiles) (d : Input) → IsAsked d.asked → IsAreaDatabase d.database →
    problem_read AtPresent names d.asked d.database ≡ Ready d.problem → All (λ cost. 0 < cost) (map (present_cost d.asked) d.database.links)
above_at_present names d asked base is =
    let none = none_first (line_faults d.database d.asked.items ++ cost_faults (present_asked d.asked) d.database 0 d.database.links) (at_present names d is).0
    in
    present_above d.asked d.database asked base
    (append-none (line_faults d.database d.asked.items) (cost_faults (present_asked d.asked) d.database 0 d.database.links) none).1

-- the problem's graph is the one with the present costs
pub graph_at_present : (names : InputFiles) (d : Input) → problem_read AtPresent names d.asked d.database ≡ Ready d.problem →
    d.problem.graph ≡ graph_at_costs d.database (map (present_cost d.asked) d.database.links)
graph_at_present names d is = ap (λ (p : DesignProblem). p.graph) (at_present names d is).1 ∙ present_graph d.asked d.database

-- Beside present costs.

-- the request file has no fault, and the problem is its
pub beside_present : (names : InputFiles) (d : Input) → problem_read BesidePresent names d.asked d.database ≡ Ready d.problem →
    (fault_beside_present d.asked d.database ≡ None) × (d.problem ≡ problem_of d.asked d.database)
beside_present names d is = resolved names d.database (problem_of d.asked d.database) d.problem (fault_beside_present d.asked d.database) is

-- each present cost is above 0
pub above_beside_present : (names : InputFiles) (d : Input) → IsAsked d.asked → IsAreaDatabase d.database →
    problem_read BesidePresent names d.asked d.database ≡ Ready d.problem → All (λ cost. 0 < cost) (map (present_cost d.asked) d.database.links)
above_beside_present names d asked base is =
    let before = line_faults d.database d.asked.items ++ ends_faults d.asked d.database d.asked.items ++ variable_faults d.asked d.database in
    let none = none_first (before ++ cost_faults (present_asked d.asked) d.database 0 d.database.links) (beside_present names d is).0 in
    present_above d.asked d.database asked base (append-none before (cost_faults (present_asked d.asked) d.database 0 d.database.links) none).1
