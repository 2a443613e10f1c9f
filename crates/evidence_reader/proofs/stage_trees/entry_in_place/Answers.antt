use Rattle.std.proofs.Common.{suc}
use Rattle.answer_lines.specs.Grammar.{AtTree}
use Rattle.evidence_reader.proofs.stage_trees.entry_in_place.Goals as goal

pub returns-in-Some : goal.returns-in-Some
returns-in-Some c = λ part places left. rw c.in-Some.is at (c.in_ok-found.ensures part places left)

pub returns-in-None : goal.returns-in-None
returns-in-None c =
    λ part places left.
    c.fault_at.ensures.stops (AtTree part (suc places) (suc left)) (λ e. cc) (rw c.in-None.is at (c.in_ok-found.ensures part places left))
    (c.begins_entry.ensures part places left)
