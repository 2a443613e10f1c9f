-- A line without columns is one of zeros.
use Rattle.std.proofs.Common.{◌≡◌, ℕ, ◌-◌, ◌∙◌, ap, List, ◌∷◌, length, arith}
use Rattle.whole_numbers.specs.Fractions.{Fraction}
use Rattle.fraction_lines.specs.TableLines.{blank_line, filled, nothing}
use Rattle.fraction_lines.proofs.FilledLines.{width_is}
use Rattle.fraction_lines.proofs.table_line.TableLine.clear.Goals as goal

pub returns : goal.returns
returns c =
    let s = c.self.inside in
    let width : s.width ≡ length c.args.self.now - 1 = omega (arith, width_is s.constant s.width s.entries.items c.args.self.now c.self.view_is) in
    ap (λ (q : Fraction). q ∷ filled s.width c.clear.new.self.items) c.whole-self-inside.ensures
    ∙ ap (λ (es : List (ℕ × Fraction)). nothing ∷ filled s.width es) c.clear.ensures.items
    ∙ ap blank_line width
