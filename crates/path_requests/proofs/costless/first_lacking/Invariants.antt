-- the links that are left have the faults of all
use Rattle.std.proofs.Common.{◌≡◌, drop}
use Rattle.lsdb_build.specs.Graphs.{Database}
use Rattle.request_reader.specs.Asked.{Asked}
use Rattle.path_requests.specs.Checked.{HasRanges}
use Rattle.path_requests.specs.Resolving.{cost_faults}
use Rattle.path_requests.proofs.costless.first_lacking.Given as goal

abbrev pub invariant-loop-i : goal.invariant-loop-i
invariant-loop-i l = (a : Asked) (d : Database) → a.default_cost ≡ l.request_file.default_cost → HasRanges a d l.links l.ranges →
    cost_faults a d l.i (drop l.i l.links) ≡ cost_faults a d 0 l.links
