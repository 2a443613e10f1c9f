use Rattle.std.proofs.Common.{rules}
use Rattle.lsdb_build.proofs.links.links_members.Goals as goal

pub returns-in-PointToPoint : goal.returns-in-PointToPoint
returns-in-PointToPoint c = search rules
