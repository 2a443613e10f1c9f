use Rattle.std.proofs.Common.{◌≡◌, map, take}
use Rattle.design_problem.specs.Renumbering.{renumbered_member}
use Rattle.printed_rows.specs.NewNumbers.{number_given}
use Rattle.printed_rows.proofs.new_numbers.new_basis.Given as goal

abbrev pub invariant-loop-member : goal.invariant-loop-member
invariant-loop-member l = l.members.items ≡ map (renumbered_member (number_given l.numbers)) (take l.member-index l.basis)
