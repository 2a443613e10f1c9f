use Rattle.std.proofs.Common.{◌∷◌, length}
use Rattle.text_lines.specs.Lines.{words}
use Rattle.request_reader.specs.ReadingLines.{to_without}
use Rattle.request_reader.proofs.ReadingRoutes.{RouteTo}
use Rattle.request_reader.proofs.reading.path.read_route.Given as goal

-- the hops stand for the words before this one
abbrev pub invariant-loop-next : goal.invariant-loop-next
invariant-loop-next l = RouteTo (l.fn.first ∷ to_without (words l.fn.text)) l.word (to_without (words l.left)) l.hops.items

abbrev pub decreases-loop-next : goal.decreases-loop-next
decreases-loop-next l = length (to_without (words l.left))
