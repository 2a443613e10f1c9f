-- One more is within its range.
use Rattle.std.proofs.Common.{List, All, subst}
use Rattle.std.proofs.lemmas.List.{take_all}
use Rattle.std.proofs.lemmas.List.Elements.{All-more}
use Rattle.lsa_writer.specs.declared.said.OwnedLink.{OwnedLink}
use Rattle.lsa_writer.specs.OneGraph.{IsRangedLink}
use Rattle.lsa_writer.proofs.ranges.keeps_said.Goals as goal

pub loop-link-preserved : goal.loop-link-preserved
loop-link-preserved c = All-more IsRangedLink c.args.said.now c.loop-link.link-index _ c.loop-link-test.true c.loop-link.invariant c.keeps_link.ensures

pub returns : goal.returns
returns c = subst (λ (left : List OwnedLink). All IsRangedLink left)
    (take_all c.loop-link.link-index c.args.said.now c.loop-link-test.false) c.loop-link.invariant
