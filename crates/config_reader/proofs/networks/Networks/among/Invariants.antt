use Rattle.std.proofs.Common.{◌≡◌, ◌++◌, map, drop}
use Rattle.config_reader.specs.Heards.{said_of}
use Rattle.config_reader.specs.Drafting.{network_lines}
use Rattle.config_reader.proofs.networks.Networks.among.Given as goal

-- the lines so far, and those of what is left, are those of the whole
abbrev pub invariant-loop-line : goal.invariant-loop-line
invariant-loop-line l = l.networks ++ network_lines (map said_of (drop l.line-index l.said)) ≡ network_lines (map said_of l.fn.said)
