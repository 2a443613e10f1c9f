use Rattle.std.proofs.Common.{ap, ◌∙◌}
use Rattle.live_reader.proofs.WalkLaws.{text_in, text_first, no_text}
use Rattle.live_reader.proofs.tree.text_at.Goals as goal

pub returns-in-String : goal.returns-in-String
returns-in-String c j stands = ap text_in (c.in-String.ensures j stands) ∙ text_first j

pub returns-in_default : goal.returns-in_default
returns-in_default c j stands = no_text c.node_at.result c.in_default.not-String ∙ ap text_in (c.node_at.ensures j stands) ∙ text_first j
