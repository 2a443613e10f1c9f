use Rattle.std.proofs.Common.{◌∙◌}
use Rattle.evidence_text.proofs.PutLines.{put_as}
use Rattle.evidence_text.proofs.put_parts.put_tree_part.Goals as goal

pub start-requires : goal.start-requires
start-requires g c = c.no_tree_line.ensures.short

pub put_some_tree-requires : goal.put_some_tree-requires
put_some_tree-requires g c = rw c.in-Some.is at c.requires

pub returns-in-None : goal.returns-in-None
returns-in-None g c = rw c.in-None.is (put_as (c.start.ensures ∙ c.no_tree_line.ensures.is) c.put.ensures)

pub returns-in-Some : goal.returns-in-Some
returns-in-Some g c = rw c.in-Some.is c.put_some_tree.ensures
