use Rattle.std.proofs.Common.{◌≢◌}
use Rattle.answer_lines.specs.Grammar.{AfterEnd}
use Rattle.evidence_reader.specs.Stages.{before_part}
use Rattle.evidence_text.specs.declared.TreePart.{TreePart}
use Rattle.evidence_text.specs.declared.TreePart.TheVariants.{Proof, Undecided}
use Rattle.evidence_reader.proofs.stage_trees.part_head.Goals as goal

inside : (part : TreePart) → before_part part ≢ AfterEnd
inside Proof e = cc
inside Undecided e = cc

pub returns-in-None : goal.returns-in-None
returns-in-None c = c.fault_at.ensures.stops (before_part c.args.part) (inside c.args.part) c.in-None.ensures c.begins_part.ensures
