-- The problem at present costs.
use Rattle.std.proofs.Common.{◌≡◌, refl, []}
use Rattle.lsdb_build.specs.Graphs.{Database}
use Rattle.request_reader.specs.Asked.{Asked}
use Rattle.path_requests.specs.Resolving.{present_problem_of}
use Rattle.path_requests.proofs.PresentLaws.{none_owned}

-- it has no variable
pub present_low : (a : Asked) (d : Database) → (present_problem_of a d).low ≡ []
present_low a d = rw (none_owned a d) refl
