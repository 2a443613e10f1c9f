use Rattle.std.specs.Option.{option_copied}
use Rattle.answer_lines.specs.Grammar.{AtSections}
use Rattle.evidence_reader.specs.Stages.{behind_section_line}
use Rattle.answer_lines.proofs.FirstLines.{read-one}
use Rattle.evidence_reader.proofs.SectionLines.{section_says, lacks-cost}
use Rattle.evidence_reader.proofs.stage_sections.section_line_next.Goals as goal

pub returns-in_err-line : goal.returns-in_err-line
returns-in_err-line c = rw c.from_residual.ensures (λ of line left next first is. c.in_err-line.ensures line left first)

pub returns-in_err-said : goal.returns-in_err-said
returns-in_err-said c =
    rw c.from_residual-in_err-said.ensures
    (λ of. lacks-cost of (option_copied c.args.before) c.args.text.left.now c.in_ok-line.line.now c.in_ok-line.rest.left.now
    c.in_ok-line.ensures.0 (c.in_err-said.ensures of))

pub returns : goal.returns
returns c =
    λ of.
    let before = option_copied c.args.before in
    let said = c.in_ok-said.said in
    let line = c.in_ok-line.line.now in (
      line,
      c.in_ok-said.ensures,
      read-one (AtSections of before) (behind_section_line of said) c.args.text.read c.in_ok-line.rest.read
          c.args.text.left.now line c.in_ok-line.rest.left.now c.in_ok-line.ensures.0
          (section_says of before line said c.in_ok-said.ensures) c.in_ok-line.ensures.1,
    )
