use Rattle.std.proofs.Common.{◌≡◌, map, drop}
use Rattle.cost_base.specs.Decimal.{decimal}
use Rattle.line_builder.specs.Words.{with_words}
use Rattle.line_builder.proofs.line.LineBuilder.numbers.Given as goal

-- the line so far, with the numbers that are left
abbrev pub invariant-loop-number : goal.invariant-loop-number
invariant-loop-number l = with_words l.self (map decimal (drop l.number-index l.numbers)) ≡ with_words l.initial.self (map decimal l.numbers)
