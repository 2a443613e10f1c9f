use Rattle.lsa_bytes.specs.Written.{lsa_bytes}
use Rattle.lsa_writer.specs.WrittenLsas.{subnet_lsa}
use Rattle.lsa_writer.proofs.WritingSteps.{one_more, one_subnet_added}
use Rattle.lsa_writer.proofs.writing.push_network_lsas.Goals as goal

pub loop-i-preserved : goal.loop-i-preserved
loop-i-preserved c =
    one_more lsa_bytes (subnet_lsa c.args.ends.now) c.push_network_lsa.new.bytes.items c.loop-i.bytes.items _
    c.args.subnets.now c.loop-i.i c.index-subnets-i.result c.loop-i-test.true c.index-subnets-i.is
    (one_subnet_added c.args.ends.now c.args.designated.now c.args.subnets.now c.loop-i.i c.index-subnets-i.result
    c.as_slice.result.now c.end_at-from.result c.loop-i.bytes.items c.push_network_lsa.new.bytes.items
    c.loop-i-test.true c.index-subnets-i.is c.requires.designated c.as_slice.ensures c.end_at-from.ensures c.in_ok-push_network_lsa.ensures) c.loop-i.invariant
