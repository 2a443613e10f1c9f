use Rattle.std.proofs.Common.{◌≡◌, map, drop}
use Rattle.cost_base.specs.Decimal.{decimal}
use Rattle.line_builder.specs.Words.{with_words}
use Rattle.line_builder.proofs.line.LineBuilder.counts.Given as goal

-- the line so far, with the counts that are left
abbrev pub invariant-loop-count : goal.invariant-loop-count
invariant-loop-count l = with_words l.self (map decimal (drop l.count-index l.counts)) ≡ with_words l.initial.self (map decimal l.counts)
