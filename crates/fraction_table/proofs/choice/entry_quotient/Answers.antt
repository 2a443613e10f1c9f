-- The two entries are numbers of the table.
use Rattle.std.proofs.Common.{suc, sym, subst}
use Rattle.cost_base.specs.declared.StepName.TheVariants.{Div}
use Rattle.whole_numbers.specs.Fractions.{Fraction}
use Rattle.wide_fraction.specs.Widths.{IsWithin}
use Rattle.fraction_lines.proofs.NamedSteps.{named_passes}
use Rattle.fraction_lines.proofs.TableLineLaws.{number_at}
use Rattle.fraction_table.proofs.choice.entry_quotient.Goals as goal

pub div-requires-clause-left_within : goal.div-requires-clause-left_within
div-requires-clause-left_within c =
    let own_is = number_at c.args.top c.args.line.now (suc c.args.other) c.requires.numbers c.requires.other in
    subst (IsWithin c.args.top) (sym c.entry.ensures) own_is.within

pub div-requires-clause-right_within : goal.div-requires-clause-right_within
div-requires-clause-right_within c =
    let own_is = number_at c.args.top c.args.line.now (suc c.args.column) c.requires.numbers c.requires.column in
    subst (IsWithin c.args.top) (sym c.entry-2.ensures) own_is.within

pub returns-clause-passes : goal.returns-clause-passes
returns-clause-passes c =
    named_passes {X = Fraction} c.div.result c.args.top Div c.entry.result c.entry-2.result c.div.ensures.wide
