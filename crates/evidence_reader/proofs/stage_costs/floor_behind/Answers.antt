use Rattle.std.proofs.Common.{None}
use Rattle.std.specs.Option.{option_copied}
use Rattle.design_problem.specs.Text.{floor_line}
use Rattle.answer_lines.specs.Grammar.{AtFloor, AtSections}
use Rattle.evidence_reader.proofs.SectionLines.{ends-behind, lacks-both}
use Rattle.evidence_reader.proofs.stage_costs.floor_behind.Goals as goal

pub returns-in-Some : goal.returns-in-Some
returns-in-Some c =
    ends-behind None (option_copied c.args.before) (floor_line c.in-Some.found.0) AtFloor (λ next leads. (leads.is, leads.short))
    c.in-Some.ensures.1

pub returns-in-None : goal.returns-in-None
returns-in-None c =
    let before = option_copied c.args.before in
    let bytes = c.args.text.left.now in
    c.fault_at.ensures.stops (AtSections None before) (λ e. cc)
    (lacks-both None before bytes c.requires
    (λ line left next first end. c.in-None.ensures line left first.parts first.one (next, record { is = end; short = first.short })))
    c.begins_section.ensures
