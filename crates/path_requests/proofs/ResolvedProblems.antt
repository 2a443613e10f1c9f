-- Requests that are resolved in a database make a problem.
use Rattle.std.proofs.Common.{◌≡◌, ◌++◌, length, None}
use Rattle.std.specs.Prelude.{nat_le}
use Rattle.std.proofs.lemmas.Bool.{leb-true}
use Rattle.cost_base.proofs.ListLemmas.{append-none, none_first}
use Rattle.lsdb_build.specs.Graphs.{Database, IsAreaDatabase}
use Rattle.design_problem.specs.Problems.{IsProblem}
use Rattle.request_reader.specs.Asked.{Asked, IsAsked}
use Rattle.wanted_paths.specs.declared.fault.ResolutionFault.TheVariants.{TooManyVariables}
use Rattle.wanted_paths.specs.LineFaults.{line_faults}
use Rattle.wanted_paths.proofs.Walks.{well_from}
use Rattle.path_requests.specs.Meaning.{owners, problem_of}
use Rattle.path_requests.specs.Resolving.{ends_faults, variable_faults, cost_faults, whole_faults, resolution_faults, resolution_fault}
use Rattle.path_requests.proofs.WholeProblems.{whole_is_problem}

pub resolved_is_problem : (a : Asked) (d : Database) → IsAsked a → IsAreaDatabase d → resolution_fault a d ≡ None → IsProblem (problem_of a d)
resolved_is_problem a d asked base none =
    let all = append-none (line_faults d a.items) (whole_faults a d) (none_first (resolution_faults a d) none) in
    let whole = append-none (ends_faults a d a.items ++ variable_faults a d) (cost_faults a d 0 d.links) all.1 in
    let parts = append-none (ends_faults a d a.items) (variable_faults a d) whole.0 in
    whole_is_problem a d asked base all.0 parts.0
    (leb-true (length (owners a d)) 1000 (well_from (nat_le (length (owners a d)) 1000) TooManyVariables parts.1))
