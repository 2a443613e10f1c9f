use Rattle.std.proofs.Common.{◌≡◌, None, map, drop}
use Rattle.config_reader.specs.Heards.{said_of}
use Rattle.config_reader.specs.Drafting as drafting
use Rattle.config_reader.proofs.faults.router_id.Given as goal

-- what was found and what is left tell the last
abbrev pub invariant-loop-line : goal.invariant-loop-line
invariant-loop-line l = drafting.id_after l.found (map said_of (drop l.line-index l.said)) ≡ drafting.id_after None (map said_of l.said)
