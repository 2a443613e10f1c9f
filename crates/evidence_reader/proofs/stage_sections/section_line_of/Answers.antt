use Rattle.std.proofs.Common.{ap}
use Rattle.std.specs.Option.{option_copied}
use Rattle.evidence_reader.proofs.SectionLines.{no_section, none_again, again_said}
use Rattle.evidence_reader.proofs.stage_sections.section_line_of.Goals as goal

pub returns-in_err-router : goal.returns-in_err-router
returns-in_err-router c =
    let before = option_copied c.args.before in
    let line = c.args.line.now in
    rw c.from_residual.ensures
    (no_section before line c.in_default.ensures (λ of next is. none_again of before line next (ap (λ b. option_copied b) c.in_err-router.was) is))

pub returns-in_err-interface : goal.returns-in_err-interface
returns-in_err-interface c =
    let before = option_copied c.args.before in
    let line = c.args.line.now in
    rw c.from_residual-in_err-interface.ensures
    (no_section before line c.in_default.ensures
    (λ of next is.
    let said = again_said of before c.in_ok-router.router.now line next (ap (λ b. option_copied b) c.in_ok-router.was) is in
    c.in_err-interface.ensures said.name said.word said.is))
