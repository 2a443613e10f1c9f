use Rattle.lsa_bytes.proofs.Spots.{network_count}
use Rattle.lsa_bytes.proofs.vertices.Vertices.network_count.Goals as goal

pub returns : goal.returns
returns c = network_count c.self.inside.lsas.now c.args.self.now c.self.inside.networks c.self.invariant.networks c.self.view_is
