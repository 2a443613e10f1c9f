use Rattle.std.proofs.Common.{take}
use Rattle.std.specs.Prelude.{All}
use Rattle.network_cases.specs.Members.{TiesWith}
use Rattle.network_cases.proofs.outsiders.all_tie.Given as goal

-- the first paths tie
abbrev pub invariant-loop-path : goal.invariant-loop-path
invariant-loop-path l = All (TiesWith l.outlook.graph.now l.outlook.point.now l.outlook.request.now) (take l.path-index l.others)
