use Rattle.std.proofs.Common.{◌≡◌, All, None, Option, length}
use Rattle.std.specs.Prelude.{IfSome}
use Rattle.std.specs.Option.{option_copied}
use Rattle.cost_base.specs.Words.{IsOneWord}
use Rattle.design_problem.specs.Text.{cost_lines, FitsCostLine}
use Rattle.answer_lines.specs.declared.other_text.OtherText.{OtherText}
use Rattle.answer_lines.specs.Grammar.{AtSections}
use Rattle.answer_lines.specs.Going.{Goes}
use Rattle.evidence_reader.proofs.SectionLines.{router_before}
use Rattle.evidence_reader.proofs.stage_sections.read_sections.Given as goal

abbrev pub invariant-loop-lines : goal.invariant-loop-lines
invariant-loop-lines l = record {
  goes : (of : Option OtherText) → Goes (AtSections of None) l.text (cost_lines None l.lines.items) (AtSections of (option_copied l.before)) l.left;
  fits : All FitsCostLine l.lines.items;
  last : option_copied l.before ≡ router_before None l.lines.items;
  word : IfSome (option_copied l.before) IsOneWord;
}

abbrev pub decreases-loop-lines : goal.decreases-loop-lines
decreases-loop-lines l = length l.left.left.now
