use Rattle.std.proofs.Common.{◌↔◌, drop}
use Rattle.evidence_checker.specs.Tests.{NamesPlaces}
use Rattle.evidence_checker.proofs.costs.names_places.Given as goal

abbrev pub invariant-loop-index : goal.invariant-loop-index
invariant-loop-index l = NamesPlaces l.names l.lines ↔ NamesPlaces (drop l.index l.names) (drop l.index l.lines)
