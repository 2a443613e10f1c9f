-- One more is within its range.
use Rattle.std.proofs.Common.{List, All, subst}
use Rattle.std.proofs.lemmas.List.{take_all}
use Rattle.std.proofs.lemmas.List.Elements.{All-more}
use Rattle.lsa_writer.specs.declared.ends.LinkEnd.{LinkEnd}
use Rattle.lsa_writer.specs.OneGraph.{IsRangedEnd}
use Rattle.lsa_writer.proofs.ranges.keeps_ends.Goals as goal

pub loop-end-preserved : goal.loop-end-preserved
loop-end-preserved c = All-more IsRangedEnd c.args.ends.now c.loop-end.end-index _ c.loop-end-test.true c.loop-end.invariant c.keeps_end.ensures

pub returns : goal.returns
returns c = subst (λ (left : List LinkEnd). All IsRangedEnd left) (take_all c.loop-end.end-index c.args.ends.now c.loop-end-test.false) c.loop-end.invariant
