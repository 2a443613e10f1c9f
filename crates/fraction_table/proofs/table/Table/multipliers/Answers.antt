-- The parts in order of the rows refute the box.
use Rattle.std.proofs.Common.{ℕ, sym, ◌∙◌, subst, List}
use Rattle.whole_numbers.specs.Fractions.{Fraction}
use Rattle.fraction_table.specs.Multipliers.{AreParts}
use Rattle.fraction_table.proofs.Refuting.{are_parts, made_few, made_refute, made_told}
use Rattle.fraction_table.proofs.table.Table.multipliers.Goals as goal

pub whole_multipliers-requires : goal.whole_multipliers-requires
whole_multipliers-requires c =
    let t = c.args.self.now in
    record {
      parts =
          subst (λ (ps : List (ℕ × Fraction)). AreParts t.top ps) (sym (c.as_slice.ensures.value ∙ c.in_ok-fractions.ensures))
          (are_parts t c.args.line (record { tableau = c.requires.tableau; line_in = c.requires.line; refuting = c.requires.refuting }));
    }

pub returns-clause-refutes : goal.returns-clause-refutes
returns-clause-refutes c =
    made_refute c.args.self.now c.args.line c.as_slice.result.now c.whole_multipliers.result
    (record { tableau = c.requires.tableau; line_in = c.requires.line; refuting = c.requires.refuting })
    (c.as_slice.ensures.value ∙ c.in_ok-fractions.ensures) c.whole_multipliers.ensures.made c.whole_multipliers.ensures.small

pub returns-clause-few : goal.returns-clause-few
returns-clause-few c =
    made_few c.args.self.now c.args.line c.as_slice.result.now c.whole_multipliers.result
    (record { tableau = c.requires.tableau; line_in = c.requires.line; refuting = c.requires.refuting })
    (c.as_slice.ensures.value ∙ c.in_ok-fractions.ensures) c.whole_multipliers.ensures.made

pub returns-clause-told : goal.returns-clause-told
returns-clause-told c =
    made_told c.args.self.now c.args.line c.as_slice.result.now c.whole_multipliers.result
    (record { tableau = c.requires.tableau; line_in = c.requires.line; refuting = c.requires.refuting })
    (c.as_slice.ensures.value ∙ c.in_ok-fractions.ensures) c.whole_multipliers.ensures.wide
