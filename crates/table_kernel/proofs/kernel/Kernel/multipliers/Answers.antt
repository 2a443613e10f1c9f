-- The parts in order of the rows refute the box.
use Rattle.std.proofs.Common.{ℕ, sym, ◌∙◌, subst, List}
use Rattle.whole_numbers.specs.Fractions.{Fraction}
use Rattle.fraction_table.specs.Multipliers.{AreParts}
use Rattle.fraction_table.proofs.Refuting.{are_parts, made_few, made_refute, made_told}
use Rattle.table_kernel.specs.Kernels.{stated}
use Rattle.table_kernel.proofs.StatedLines.{stated_refuting}
use Rattle.table_kernel.proofs.kernel.Kernel.multipliers.Goals as goal

pub whole_multipliers-requires : goal.whole_multipliers-requires
whole_multipliers-requires c =
    let t = c.args.self.now in
    record {
      parts =
          subst (λ (ps : List (ℕ × Fraction)). AreParts t.table.top ps) (sym (c.as_slice.ensures.value ∙ c.in_ok-fractions.ensures))
          (are_parts (stated t) c.args.place (stated_refuting t c.args.place c.requires.kernel c.requires.place c.requires.refuting));
    }

pub returns-clause-refutes : goal.returns-clause-refutes
returns-clause-refutes c =
    let t = c.args.self.now in
    made_refute (stated t) c.args.place c.as_slice.result.now c.whole_multipliers.result
    (stated_refuting t c.args.place c.requires.kernel c.requires.place c.requires.refuting)
    (c.as_slice.ensures.value ∙ c.in_ok-fractions.ensures) c.whole_multipliers.ensures.made c.whole_multipliers.ensures.small

pub returns-clause-few : goal.returns-clause-few
returns-clause-few c =
    let t = c.args.self.now in
    made_few (stated t) c.args.place c.as_slice.result.now c.whole_multipliers.result
    (stated_refuting t c.args.place c.requires.kernel c.requires.place c.requires.refuting)
    (c.as_slice.ensures.value ∙ c.in_ok-fractions.ensures) c.whole_multipliers.ensures.made

pub returns-clause-told : goal.returns-clause-told
returns-clause-told c =
    let t = c.args.self.now in
    made_told (stated t) c.args.place c.as_slice.result.now c.whole_multipliers.result
    (stated_refuting t c.args.place c.requires.kernel c.requires.place c.requires.refuting)
    (c.as_slice.ensures.value ∙ c.in_ok-fractions.ensures) c.whole_multipliers.ensures.wide
