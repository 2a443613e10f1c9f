-- The list fills the line.
use Rattle.std.proofs.Common.{◌≡◌, ℕ, suc, ◌-◌, ◌∙◌, ap, sym, subst, List, ◌∷◌, length, arith}
use Rattle.whole_numbers.specs.Fractions.{Fraction}
use Rattle.design_problem.specs.Basis.{entry}
use Rattle.fraction_lines.specs.TableLines.{Rises, filled}
use Rattle.fraction_lines.proofs.FilledLines.{width_is}
use Rattle.fraction_lines.proofs.table_line.TableLine.entries.Goals as goal

less_one : (n w : ℕ) → n ≡ suc w → w ≡ n - 1
less_one n w e = omega arith

pub returns-clause-value : goal.returns-clause-value
returns-clause-value c =
    let inside = c.self.inside in
    let width = less_one (length c.args.self.now) inside.width (width_is inside.constant inside.width inside.entries.items c.args.self.now c.self.view_is) in
    sym c.self.view_is
    ∙ ap (λ (now : List Fraction). entry now 0 ∷ filled inside.width inside.entries.items) c.self.view_is
    ∙ ap (λ (w : ℕ). entry c.args.self.now 0 ∷ filled w inside.entries.items) width
    ∙ ap (λ (es : List (ℕ × Fraction)). entry c.args.self.now 0 ∷ filled (length c.args.self.now - 1) es) (sym c.as_slice.ensures.value)

pub returns-clause-rises : goal.returns-clause-rises
returns-clause-rises c =
    let inside = c.self.inside in
    let width = less_one (length c.args.self.now) inside.width (width_is inside.constant inside.width inside.entries.items c.args.self.now c.self.view_is) in
    rw c.as_slice.ensures.value (subst (λ (w : ℕ). Rises 0 w inside.entries.items) width c.self.invariant.rises)
