use Rattle.std.proofs.Common.{◌≡◌, ◌≤◌}
use Rattle.cost_base.specs.Marks.{is_marked}
use Rattle.printed_rows.specs.NewNumbers.{AreNewNumbers, new_number}
use Rattle.printed_rows.proofs.new_numbers.new_numbers.Given as goal

-- the numbers of the rows so far, and the number of the next one
abbrev pub invariant-loop-is_marked : goal.invariant-loop-is_marked
invariant-loop-is_marked l = record {
  next_is : l.next ≡ new_number (is_marked l.marks) l.is_marked-index;
  small : l.next ≤ l.is_marked-index;
  numbers : AreNewNumbers (is_marked l.marks) l.is_marked-index l.numbers.items;
}
