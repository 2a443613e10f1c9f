use Rattle.std.proofs.Common.{◌≡◌, take}
use Rattle.spread_sets.specs.Spreads.{forms_of_set_rows}
use Rattle.spread_sets.specs.Sources.{tie_rows}
use Rattle.spread_sets.proofs.source.Spreads.begin.Given as goal

-- the rows of the first sets
abbrev pub invariant-loop-place : goal.invariant-loop-place
invariant-loop-place g l = record {
  problem : l.self.problem ≡ l.fn.self.problem;
  sets : l.self.sets ≡ l.fn.self.sets;
  rows : l.self.rows ≡ tie_rows (take l.place l.fn.self.sets);
  forms : l.pool ≡ forms_of_set_rows l.fn.self.problem l.self.rows;
}
