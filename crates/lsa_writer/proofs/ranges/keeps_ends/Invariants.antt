-- Those before are within their ranges.
use Rattle.std.proofs.Common.{All, take}
use Rattle.lsa_writer.specs.OneGraph.{IsRangedEnd}
use Rattle.lsa_writer.proofs.ranges.keeps_ends.Given as goal

abbrev pub invariant-loop-end : goal.invariant-loop-end
invariant-loop-end l = All IsRangedEnd (take l.end-index l.ends)
