-- The list has the entry of each column, and 0 at one without a mark.
use Rattle.std.proofs.Common.{◌<◌, ℕ, suc, ◌∙◌, ap, sym, List, arith}
use Rattle.whole_numbers.specs.Fractions.{Fraction}
use Rattle.design_problem.specs.Basis.{entry}
use Rattle.fraction_lines.specs.TableLines.{fraction_at}
use Rattle.fraction_lines.proofs.FilledLines.{line_entry, width_is}
use Rattle.fraction_lines.proofs.MarkLaws.{unmarked_nothing}
use Rattle.fraction_lines.proofs.table_line.TableLine.entry.Goals as goal

pub find_fraction-requires : goal.find_fraction-requires
find_fraction-requires c = rw c.as_slice.ensures.value (c.self.inside.width, c.self.invariant.rises)

pub returns-then-is_marked : goal.returns-then-is_marked
returns-then-is_marked c =
    let inside = c.self.inside in
    let counted = width_is inside.constant inside.width inside.entries.items c.args.self.now c.self.view_is in
    let column_in : c.args.column < inside.width = omega (arith, c.requires) in
    c.find_fraction.ensures
    ∙ ap (λ (es : List (ℕ × Fraction)). fraction_at es c.args.column) c.as_slice.ensures.value
    ∙ sym (line_entry inside.constant inside.width inside.entries.items c.args.column column_in)
    ∙ ap (λ (now : List Fraction). entry now (suc c.args.column)) c.self.view_is

pub returns-else-is_marked : goal.returns-else-is_marked
returns-else-is_marked c =
    let inside = c.self.inside in
    let counted = width_is inside.constant inside.width inside.entries.items c.args.self.now c.self.view_is in
    let column_in : c.args.column < inside.width = omega (arith, c.requires) in
    c.whole.ensures
    ∙ sym (unmarked_nothing inside.marks inside.entries.items c.args.column c.self.invariant.marked (c.is_marked.ensures c.if-is_marked.false))
    ∙ sym (line_entry inside.constant inside.width inside.entries.items c.args.column column_in)
    ∙ ap (λ (now : List Fraction). entry now (suc c.args.column)) c.self.view_is
