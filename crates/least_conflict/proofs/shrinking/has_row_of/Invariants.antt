use Rattle.std.proofs.Common.{◌≡◌, ◌==◌, take, false}
use Rattle.std.specs.List.{list_any}
use Rattle.least_conflict.proofs.shrinking.has_row_of.Given as goal

abbrev pub invariant-loop-row : goal.invariant-loop-row
invariant-loop-row l = list_any (λ row. row.request == l.request) (take l.row-index l.rows) ≡ false
