-- The sum is that of the multipliers before the index.
use Rattle.std.proofs.Common.{◌≡◌}
use Rattle.std.specs.Prelude.{take}
use Rattle.whole_numbers.specs.Fractions.{sum_of}
use Rattle.wide_fraction.specs.Widths.{IsWithin}
use Rattle.fraction_table.specs.Multipliers.{wholes}
use Rattle.fraction_table.proofs.multipliers.sum_of_parts.Given as goal

abbrev pub invariant-loop-index : goal.invariant-loop-index
invariant-loop-index l = record {
  so_far : l.sum ≡ sum_of (take l.index (wholes l.parts));
  within : IsWithin l.top l.sum;
}
