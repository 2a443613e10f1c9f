-- Each form has its starting line.
use Rattle.std.proofs.Common.{ℕ, ◌∙◌, ap, sym, subst, List, ◌∷◌, length, map}
use Rattle.std.specs.Prelude.{pos, negsuc, slice_index}
use Rattle.whole_numbers.specs.Fractions.{whole}
use Rattle.design_problem.specs.Basis.{IsFormOf, unit}
use Rattle.fraction_table.specs.ValidTables.{starting_line}
use Rattle.fraction_table.proofs.Restarts.{high_starts, low_starts}
use Rattle.fraction_table.proofs.Shifts.{kept_number}
use Rattle.fraction_table.proofs.restart.put_line.Goals as goal

pub returns-in-Low-clause-line : goal.returns-in-Low-clause-line
returns-in-Low-clause-line c =
    let costs = c.args.costs.now in
    let rows = c.args.rows.now in
    low_starts costs rows c.in-Low.var c.in-Low.field-1 c.put_unit_line.new.line (subst (IsFormOf costs rows) c.in-Low.is c.requires.form)
    (c.put_unit_line.ensures.line ∙ ap (λ (n : ℕ). whole (pos 0) ∷ map whole (unit n c.in-Low.var (pos 1))) (ap length c.as_slice-low.ensures))
    ∙ ap (starting_line costs rows) (sym c.in-Low.is)

pub returns-in-High-clause-line : goal.returns-in-High-clause-line
returns-in-High-clause-line c =
    let costs = c.args.costs.now in
    let rows = c.args.rows.now in
    high_starts costs rows c.in-High.var c.in-High.bound (slice_index c.as_slice-low.result.now c.in-High.var)
    c.range_of-range.result c.put_unit_line-in-High.new.line
    (subst (IsFormOf costs rows) c.in-High.is c.requires.form)
    (ap (λ (bs : List ℕ). slice_index bs c.in-High.var) c.as_slice-low.ensures) c.range_of-range.ensures.range
    (c.put_unit_line-in-High.ensures.line
    ∙ ap (λ z. whole z ∷ map whole (unit (length c.as_slice-low.result.now) c.in-High.var (negsuc 0)))
    (kept_number c.range_of-range.result c.range_of-range.ensures.small)
    ∙ ap (λ (n : ℕ). whole c.range_of-range.result ∷ map whole (unit n c.in-High.var (negsuc 0))) (ap length c.as_slice-low.ensures))
    ∙ ap (starting_line costs rows) (sym c.in-High.is)
