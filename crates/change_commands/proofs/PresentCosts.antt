-- The present costs of a problem's variables, and the network that the files of words say beside them.
use Rattle.std.proofs.Common.{◌≡◌, ℕ, sym, ◌∙◌, ap, subst, List, Option, arith}
use Rattle.lsdb_build.specs.Graphs.{Database}
use Rattle.design_problem.specs.Problems.{DesignProblem}
use Rattle.request_reader.specs.Asked.{Asked}
use Rattle.path_requests.specs.Meaning.{problem_of}
use Rattle.present_costs.specs.PresentCosts.{present_of_variables}
use Rattle.present_costs.proofs.VariableLaws.{present_count, present_at, present_within}
use Rattle.input_files.specs.declared.network.Network.{Network}
use Rattle.input_files.specs.declared.problem.View.TheVariants.{BesidePresent}
use Rattle.input_files.specs.Inputs.{InputFiles}
use Rattle.input_files.specs.Outcomes.{Input}
use Rattle.input_files.specs.Networks.{IsNetworkOf}
use Rattle.input_files.proofs.PresentNetworks.{beside_present}
use Rattle.least_change.specs.Present.{ArePresentCosts}
use Rattle.least_change.proofs.Changes.{present_known}

-- there is one for each variable, within its bounds
present_costs_are : (a : Asked) (d : Database) → ArePresentCosts (problem_of a d) (present_of_variables a d)
present_costs_are a d = record {
  counted = present_count a d;
  within = λ v cost is.
      let known = present_known (present_of_variables a d) v cost is in
      present_within a d v cost (sym (present_at a d v (omega (arith, present_count a d, known))) ∙ is);
}

-- so it is for the problem and the present costs of requests
pub asked_present : (a : Asked) (d : Database) (p : DesignProblem) (present : List (Option ℕ)) → p ≡ problem_of a d →
    present ≡ present_of_variables a d → ArePresentCosts p present
asked_present a d p present built costs =
    subst (λ (q : DesignProblem). ArePresentCosts q present) (sym built)
    (subst (λ (ps : List (Option ℕ)). ArePresentCosts (problem_of a d) ps) (sym costs) (present_costs_are a d))

-- the problem is that of the requests
pub network_built : (names : InputFiles) (network : Network) (d : Input) → IsNetworkOf BesidePresent names network d →
    network.problem ≡ problem_of network.request_file network.lsdb
network_built names network d of =
    of.problem ∙ (beside_present names d of.resolved).1 ∙ ap (λ (a : Asked). problem_of a d.database) (sym of.request_file)
    ∙ ap (λ (b : Database). problem_of network.request_file b) (sym of.lsdb)
