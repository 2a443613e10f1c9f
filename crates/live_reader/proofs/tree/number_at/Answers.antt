use Rattle.std.proofs.Common.{ap, ◌∙◌}
use Rattle.live_reader.proofs.WalkLaws.{number_in, number_first, no_number}
use Rattle.live_reader.proofs.tree.number_at.Goals as goal

pub returns-in-Number : goal.returns-in-Number
returns-in-Number c j stands = ap number_in (c.in-Number.ensures j stands) ∙ number_first j

pub returns-in_default : goal.returns-in_default
returns-in_default c j stands = no_number c.node_at.result c.in_default.not-Number ∙ ap number_in (c.node_at.ensures j stands) ∙ number_first j
