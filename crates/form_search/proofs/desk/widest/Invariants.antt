use Rattle.std.proofs.Common.{◌≡◌, ℕ, ◌<◌, ◌≤◌, length, get_or}
use Rattle.form_search.proofs.desk.widest.Given as goal

abbrev pub invariant-loop-var : goal.invariant-loop-var
invariant-loop-var l = record {
  same_before : l.width ≡ 0 → (k : ℕ) → k < l.var → get_or l.high k 0 ≤ get_or l.low k 0;
  found : 0 < l.width → (l.widest < length l.low) × (get_or l.low l.widest 0 < get_or l.high l.widest 0);
}
