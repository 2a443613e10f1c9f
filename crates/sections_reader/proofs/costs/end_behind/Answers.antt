use Rattle.std.proofs.Common.{Some}
use Rattle.std.specs.Option.{option_copied}
use Rattle.answer_lines.specs.Grammar.{AtSections}
use Rattle.evidence_reader.proofs.SectionLines.{lacks-both}
use Rattle.sections_reader.proofs.costs.end_behind.Goals as goal

pub returns-in-None : goal.returns-in-None
returns-in-None c =
    let before = option_copied c.args.before in
    let of = c.args.of in
    c.fault_at.ensures.stops (AtSections (Some of) before) (λ e. cc)
    (lacks-both (Some of) before c.args.text.left.now c.requires
    (λ line left next first end. c.in-None.ensures line left first.parts first.one (next, record { is = end; short = first.short })))
    c.begins_other_section.ensures
