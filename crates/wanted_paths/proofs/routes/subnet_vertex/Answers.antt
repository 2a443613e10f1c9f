use Rattle.std.proofs.Common.{arith}
use Rattle.wanted_paths.proofs.LookUps.{vertices_count}
use Rattle.wanted_paths.proofs.routes.subnet_vertex.Goals as goal

pub returns-clause-within : goal.returns-clause-within
returns-clause-within c = omega (arith, vertices_count c.args.names.now, c.requires)
