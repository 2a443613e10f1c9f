use Rattle.lsa_bytes.proofs.Outcomes.{stop_small}
use Rattle.lsa_bytes.proofs.reading.read_lsas.Goals as goal

pub first_refusal-requires : goal.first_refusal-requires
first_refusal-requires c = stop_small c.args.bytes.now c.push_instances.new.instances.items c.in-Err.refusal c.in-Err.ensures c.requires
