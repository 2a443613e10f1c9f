-- The pair at the place is the only one that may be replaced.
use Rattle.std.proofs.Common.{ℕ, ◌∙◌, ap, arith}
use Rattle.std.specs.Prelude.{slice_set}
use Rattle.whole_numbers.specs.Fractions.{Fraction}
use Rattle.fraction_lines.specs.Entries.{replaced}
use Rattle.fraction_lines.proofs.HalvedPlaces.{place_beyond, place_written}
use Rattle.fraction_lines.proofs.entries.replace_fraction.Goals as goal

pub returns-then-place-entries : goal.returns-then-place-entries
returns-then-place-entries c =
    let es = c.args.entries.now in
    let place = c.place_of-place.result in
    ap (λ (e : ℕ × Fraction). slice_set es place e) (c.replaced.ensures
    ∙ ap (λ (e : ℕ × Fraction). replaced c.args.column c.args.value e) c.index-entries-place.is)
    ∙ place_written c.args.column c.args.value es place _ c.place_of-place.ensures (omega (arith, c.if-place-entries.true))

pub returns-else-place-entries : goal.returns-else-place-entries
returns-else-place-entries c =
    place_beyond c.args.column c.args.value c.args.entries.now c.place_of-place.result c.place_of-place.ensures (omega (arith, c.if-place-entries.false))
