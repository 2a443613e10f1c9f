use Rattle.std.proofs.Common.{◌≡◌, ◌+◌, ◌-◌, ◌≤◌, All, length, map}
use Rattle.design_problem.specs.Text.{entry_line, FitsEntry}
use Rattle.answer_lines.specs.Grammar.{AtTree}
use Rattle.answer_lines.specs.Going.{Goes}
use Rattle.evidence_text.specs.declared.TreePart.{TreePart}
use Rattle.evidence_reader.proofs.TreeLines.{LeavesOpen}
use Rattle.evidence_reader.proofs.stage_trees.tree_behind.Given as goal

abbrev pub invariant-loop : goal.invariant-loop
invariant-loop l = record {
  count_is : length l.entries.items ≡ l.counter;
  few : l.places ≤ l.counter + 1;
  goes : (part : TreePart) → Goes (AtTree part 1 l.count) l.text (map entry_line l.entries.items) (AtTree part l.places (l.count - l.counter)) l.left;
  fits : All FitsEntry l.entries.items;
  leaves : LeavesOpen l.places l.entries.items;
}
