use Rattle.std.proofs.Common.{◌≡◌, [], ◌∷◌, length, drop}
use Rattle.evidence_checker.proofs.WalkLaws.{HaveEnds, Walks}
use Rattle.evidence_checker.proofs.tree.check_lines.Given as goal

abbrev pub invariant-loop-line : goal.invariant-loop-line
invariant-loop-line l = record {
  walks : Walks l.forms (l.fn.boxes.present ∷ []) l.entries l.boxes.present l.boxes.behind l.line (drop l.line l.entries);
  ends : HaveEnds (length l.fn.boxes.present.low) (l.boxes.present ∷ l.boxes.behind);
  sums : length l.sums.items ≡ length l.fn.boxes.present.low;
}
