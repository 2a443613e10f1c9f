-- The value at the low corner is a number of each table, and so is 0.
use Rattle.std.proofs.Common.{◌<◌, ◌^◌, ◌∙◌, ap, sym, subst, nat_abs, w64, arith, SFits}
use Rattle.std.specs.Prelude.{ℤ, pos}
use Rattle.std.proofs.lemmas.Int.{fits_signed_from_abs, to_z-of_z}
use Rattle.whole_numbers.specs.Fractions.{whole}
use Rattle.fraction_lines.specs.TableLines.{IsTableNumber}
use Rattle.fraction_lines.proofs.SmallNumbers.{whole_number}
use Rattle.fraction_table.proofs.add_row.start_at.Goals as goal

pub returns-then-place-eq0-clause-number : goal.returns-then-place-eq0-clause-number
returns-then-place-eq0-clause-number c =
    let z = c.corner_value.result in
    let small : nat_abs z < 2 ^ 27 = subst (λ (n : ℤ). nat_abs n < 2 ^ 27) (sym c.corner_value.ensures) c.requires.fits.corner in
    let fits : SFits w64 z = fits_signed_from_abs w64 z (omega (arith, small)) in
    subst (IsTableNumber c.args.top) (sym (c.whole.ensures ∙ ap whole (to_z-of_z w64 z fits)))
    (whole_number c.args.top z c.value.ensures.width small)

pub returns-else-place-eq0-clause-number : goal.returns-else-place-eq0-clause-number
returns-else-place-eq0-clause-number c =
    subst (IsTableNumber c.args.top) (sym c.whole-else-place-eq0.ensures) (whole_number c.args.top (pos 0) c.value.ensures.width (omega arith))
