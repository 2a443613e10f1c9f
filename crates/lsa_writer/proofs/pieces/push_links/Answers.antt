use Rattle.lsa_bytes.specs.Written.{link_bytes}
use Rattle.lsa_writer.specs.declared.said.OwnedLink.{OwnedLink}
use Rattle.lsa_writer.proofs.WritingSteps.{one_more_at}
use Rattle.lsa_writer.proofs.pieces.push_links.Goals as goal

pub loop-said-preserved : goal.loop-said-preserved
loop-said-preserved c =
    one_more_at link_bytes (λ (s : OwnedLink). s.link) c.push_link.new.bytes.items c.loop-said.bytes.items _
    c.args.links.now c.loop-said.said-index _ c.loop-said-test.true c.in_ok-push_link.ensures c.loop-said.invariant
