use Rattle.std.proofs.Common.{◌≡◌, map, drop}
use Rattle.cost_base.specs.Decimal.{decimal}
use Rattle.line_builder.specs.Words.{with_words}
use Rattle.evidence_text.proofs.lines.push_numbers.Given as goal

abbrev pub invariant-loop-number : goal.invariant-loop-number
invariant-loop-number l = with_words l.line (map decimal (drop l.number-index l.numbers)) ≡ with_words l.initial.line (map decimal l.numbers)
