-- The lines of the variables before the counter were put.
use Rattle.std.proofs.Common.{◌≡◌, suc, ◌∷◌, ◌++◌, map}
use Rattle.std.specs.Prelude.{pos}
use Rattle.cost_base.specs.Lists.{numbers_from}
use Rattle.whole_numbers.specs.Fractions.{whole}
use Rattle.design_problem.specs.Basis.{unit}
use Rattle.fraction_lines.specs.Turns.{AreTableLines}
use Rattle.fraction_table.proofs.start.push_low_lines.Given as goal

abbrev pub invariant-loop-var : goal.invariant-loop-var
invariant-loop-var l = record {
  lines : l.lines.items ≡ l.initial.lines.items ++ map (λ v. whole (pos 0) ∷ map whole (unit l.width v (pos 1))) (numbers_from 0 l.var);
  numbers : AreTableLines l.top (suc l.width) l.lines.items;
}
