use Rattle.std.proofs.Common.{◌≡◌, drop, length}
use Rattle.least_change.specs.KeptBoxes.{pinned_all}
use Rattle.least_change.proofs.boxes.kept_box.Given as goal

-- what is left to cut cuts the box to the whole one's
abbrev pub invariant-loop-var : goal.invariant-loop-var
invariant-loop-var l = record {
  left : pinned_all l.present l.costs (drop l.var-index l.kept) ≡ pinned_all l.present l.initial.costs l.kept;
  low : length l.costs.low ≡ length l.initial.costs.low;
  high : length l.costs.high ≡ length l.initial.costs.high;
}
