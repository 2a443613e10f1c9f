-- A column without a mark has 0.
use Rattle.std.proofs.Common.{◌≡◌, ◌<◌, Bool, true, false, not, refl, suc, ◌∙◌, ap, sym, List, arith}
use Rattle.whole_numbers.specs.Fractions.{Fraction}
use Rattle.design_problem.specs.Basis.{entry}
use Rattle.fraction_lines.proofs.FilledLines.{line_entry, width_is}
use Rattle.fraction_lines.proofs.MarkLaws.{unmarked_nothing}
use Rattle.fraction_lines.proofs.table_line.TableLine.lacks.Goals as goal

turned : (b : Bool) → not b ≡ true → b ≡ false
turned true is = sym is
turned false is = refl

pub returns : goal.returns
returns c lacking =
    let inside = c.self.inside in
    let counted = width_is inside.constant inside.width inside.entries.items c.args.self.now c.self.view_is in
    let column_in : c.args.column < inside.width = omega (arith, c.requires) in
    ap (λ (now : List Fraction). entry now (suc c.args.column)) (sym c.self.view_is)
    ∙ line_entry inside.constant inside.width inside.entries.items c.args.column column_in
    ∙ unmarked_nothing inside.marks inside.entries.items c.args.column c.self.invariant.marked (c.is_marked.ensures (turned c.is_marked.result lacking))
