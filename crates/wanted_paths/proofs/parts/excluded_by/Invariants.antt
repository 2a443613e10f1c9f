use Rattle.std.proofs.Common.{◌≡◌, ◌++◌, drop}
use Rattle.wanted_paths.specs.LineFaults.{parts_faults}
use Rattle.wanted_paths.specs.Excluded.{excluded_by_all}
use Rattle.wanted_paths.proofs.parts.excluded_by.Given as goal

abbrev pub invariant-loop-part : goal.invariant-loop-part
invariant-loop-part l = record {
  faults : parts_faults l.names l.line (drop l.part-index l.parts) ≡ parts_faults l.names l.line l.parts;
  excluded : l.excluded.items ++ excluded_by_all l.names l.graph (drop l.part-index l.parts) ≡ excluded_by_all l.names l.graph l.parts;
}
