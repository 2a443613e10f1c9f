use Rattle.std.proofs.Common.{ℕ, List, length}
use Rattle.answer_lines.specs.Grammar.{AtUnread}
use Rattle.answer_lines.specs.Going.{Goes}
use Rattle.sections_reader.proofs.unread.pass_end.Given as goal

-- some lines were passed, and none of them was `end`
abbrev pub invariant-loop-line : goal.invariant-loop-line
invariant-loop-line l = record {
  passed : (more : ℕ) → (unread : List (List ℕ)) × Goes (AtUnread more) l.text unread (AtUnread more) l.left;
}

abbrev pub decreases-loop-line : goal.decreases-loop-line
decreases-loop-line l = length l.left.left.now
