-- The least of the columns before the counter stand in front; those from it on stand as they did.
use Rattle.std.proofs.Common.{◌≡◌, ◌<◌, ◌≤◌, drop, take}
use Rattle.integer_pivots.specs.Choices.{AreLeast}
use Rattle.integer_pivots.proofs.choice.put_least.Given as goal

abbrev pub invariant-loop-index : goal.invariant-loop-index
invariant-loop-index l = record {
  some : (0 < l.kept) × (l.kept ≤ l.index);
  rest : drop l.index l.left ≡ drop l.index l.fn.left;
  least : AreLeast l.numbers l.line (take l.index l.fn.left) (take l.kept l.left);
}
