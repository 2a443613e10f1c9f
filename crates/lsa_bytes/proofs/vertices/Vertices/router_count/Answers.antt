use Rattle.lsa_bytes.proofs.Spots.{router_count}
use Rattle.lsa_bytes.proofs.vertices.Vertices.router_count.Goals as goal

pub returns : goal.returns
returns c = router_count c.self.inside.lsas.now c.args.self.now c.self.inside.routers c.self.invariant.routers c.self.view_is
