use Rattle.std.proofs.Common.{◌≡◌, ℕ, ◌<◌, ◌≤◌, ◌%◌, length, get_or}
use Rattle.std.specs.Prelude.{All}
use Rattle.form_search.specs.Points.{IsFractional, candidates_below}
use Rattle.form_search.proofs.candidates.fractional.Given as goal

abbrev pub invariant-loop-var : goal.invariant-loop-var
invariant-loop-var l = record {
  within : l.var ≤ length l.point.values;
  all : l.candidates.items ≡ candidates_below l.costs l.point l.var;
  found : All (IsFractional l.costs l.point) l.candidates.items;
  some : (k : ℕ) → k < l.var → (get_or l.point.values k 0 % l.point.scale ≡ 0 → ⊥) → 0 < length l.candidates.items;
}
