-- Those before are within their ranges.
use Rattle.std.proofs.Common.{All, take}
use Rattle.lsa_writer.specs.OneGraph.{IsRangedLink}
use Rattle.lsa_writer.proofs.ranges.keeps_said.Given as goal

abbrev pub invariant-loop-link : goal.invariant-loop-link
invariant-loop-link l = All IsRangedLink (take l.link-index l.said)
