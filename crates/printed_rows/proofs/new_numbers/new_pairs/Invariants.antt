use Rattle.std.proofs.Common.{◌≡◌, map, take}
use Rattle.design_problem.specs.Renumbering.{renumbered_multiplier}
use Rattle.printed_rows.specs.NewNumbers.{number_given}
use Rattle.printed_rows.proofs.new_numbers.new_pairs.Given as goal

abbrev pub invariant-loop-row : goal.invariant-loop-row
invariant-loop-row l = l.pairs.items ≡ map (renumbered_multiplier (number_given l.numbers)) (take l.row-index l.parts)
