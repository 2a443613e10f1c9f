-- The problem of the network that was read.
use Rattle.std.proofs.lemmas.Result.{err_from_is_err_and}
use Rattle.input_files.specs.Stops.{files_named}
use Rattle.input_files.proofs.Networks.{problem_in}
use Rattle.input_files.proofs.problem.read_problem.Goals as goal

pub returns-in_err-network-clause-read : goal.returns-in_err-network-clause-read
returns-in_err-network-clause-read g c =
    let p = err_from_is_err_and c.from_residual.result c.from_residual.ensures.1 in
    rw (p.1, p.2) c.in_err-network.ensures.read

pub returns-clause-read : goal.returns-clause-read
returns-clause-read g c =
    problem_in (g.S.Shelf.gave c.args.shelf.now c.read_network.new.shelf) c.args.view (files_named c.args.words)
    c.in_ok-network.network c.in_ok-network.ensures.read
