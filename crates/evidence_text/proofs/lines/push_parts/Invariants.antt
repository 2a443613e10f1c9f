use Rattle.std.proofs.Common.{◌≡◌, drop}
use Rattle.design_problem.specs.Text.{multiplier_words}
use Rattle.line_builder.specs.Words.{with_words}
use Rattle.evidence_text.proofs.lines.push_parts.Given as goal

abbrev pub invariant-loop-part : goal.invariant-loop-part
invariant-loop-part l = with_words l.line (multiplier_words (drop l.part-index l.parts)) ≡ with_words l.initial.line (multiplier_words l.parts)
