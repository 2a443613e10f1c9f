use Rattle.std.proofs.Common.{◌≡◌, map, take}
use Rattle.design_problem.specs.Renumbering.{renumbered}
use Rattle.printed_rows.specs.NewNumbers.{number_given}
use Rattle.printed_rows.proofs.new_numbers.new_entries.Given as goal

abbrev pub invariant-loop-entry : goal.invariant-loop-entry
invariant-loop-entry l = l.new.items ≡ map (renumbered (number_given l.numbers)) (take l.entry-index l.entries)
