-- A place's form is that of a bound or of a row.
use Rattle.std.proofs.Common.{◌≡◌, ◌<◌, ◌∙◌, sym, ap, subst, length, arith}
use Rattle.std.specs.Prelude.{nat_abs}
use Rattle.design_problem.specs.Basis.{IsFormOf}
use Rattle.integer_pivots.specs.declared.line.Line.{Line}
use Rattle.integer_pivots.proofs.Sizes.{read_known, read_number}
use Rattle.table_kernel.specs.Turns.{line_of}
use Rattle.table_kernel.proofs.AtBasis.{kernel_basis}
use Rattle.table_kernel.proofs.Columns.{place_is}
use Rattle.table_kernel.proofs.Lines.{constant_small, entering_is, high_stands, line_read, low_stands}
use Rattle.table_kernel.proofs.PlaceConstants.{row_is_at}
use Rattle.table_kernel.proofs.kernel.Kernel.put_line.Goals as goal

pub member_at-requires-clause-line : goal.member_at-requires-clause-line
member_at-requires-clause-line c = omega (arith, c.requires.place, c.requires.kernel.shaped.constants)

pub member_at-requires-clause-ranges : goal.member_at-requires-clause-ranges
member_at-requires-clause-ranges c = (kernel_basis c.args.self.now c.requires.kernel).0.high_count

pub index-requires : goal.index-requires
index-requires c =
    let k = c.args.self.now in
    let s = c.requires.kernel.shaped in
    let known = subst (IsFormOf k.table.costs k.table.rows.items) (sym c.in-Low.ensures) (place_is k s c.args.place c.requires.place) in
    omega (arith, known.0, s.lows, k.lows.ok.0)

pub put_signed-requires-clause-var : goal.put_signed-requires-clause-var
put_signed-requires-clause-var c =
    let k = c.args.self.now in
    (subst (IsFormOf k.table.costs k.table.rows.items) (sym c.in-Low.ensures) (place_is k c.requires.kernel.shaped c.args.place c.requires.place)).0

pub high_constant-constant-requires-clause-var : goal.high_constant-constant-requires-clause-var
high_constant-constant-requires-clause-var c =
    let k = c.args.self.now in
    (subst (IsFormOf k.table.costs k.table.rows.items) (sym c.in-High.ensures) (place_is k c.requires.kernel.shaped c.args.place c.requires.place)).0

pub put_signed-requires-in-High-clause-var : goal.put_signed-requires-in-High-clause-var
put_signed-requires-in-High-clause-var c =
    let k = c.args.self.now in
    (subst (IsFormOf k.table.costs k.table.rows.items) (sym c.in-High.ensures) (place_is k c.requires.kernel.shaped c.args.place c.requires.place)).0

pub put_row_line-requires-clause-row : goal.put_row_line-requires-clause-row
put_row_line-requires-clause-row c =
    let k = c.args.self.now in
    let known : c.in-Row.row < length k.table.rows.items =
    subst (IsFormOf k.table.costs k.table.rows.items) (sym c.in-Row.ensures) (place_is k c.requires.kernel.shaped c.args.place c.requires.place) in
    known

pub put_row_line-requires-clause-place : goal.put_row_line-requires-clause-place
put_row_line-requires-clause-place c =
    row_is_at c.args.self.now c.requires.kernel.shaped c.args.place c.in-Row.row c.requires.place (sym c.in-Row.ensures)

pub returns-in-Low-clause-line : goal.returns-in-Low-clause-line
returns-in-Low-clause-line c =
    let k = c.args.self.now in
    let m = c.requires.kernel in
    let v = c.in-Low.var in
    let p = c.put_signed.ensures in
    let known = subst (IsFormOf k.table.costs k.table.rows.items) (sym c.in-Low.ensures) (place_is k m.shaped c.args.place c.requires.place) in
    let l = line_read k m.shaped m.bounded v c.index.result.now known.0 c.index.ensures in
    let same : c.index.result.now.constant ≡ (line_of k v).constant = ap (λ (line : Line). line.constant) l.is in
    let small = constant_small k m.shaped m.bounded v known.0 in
    entering_is k c.put_signed.new.self c.args.place p.keeps
    (low_stands k m c.args.place v c.in-Low.field-1 c.requires.place c.put_signed.new.self.entering known (sym c.in-Low.ensures)
    (p.keeps.entering ∙ m.shaped.entering) p.numbers p.denominator
    (p.constant ∙ read_number c.index.result.now.constant (omega (arith, ap nat_abs same, small)) ∙ same))
    p.line

pub returns-in-High-clause-line : goal.returns-in-High-clause-line
returns-in-High-clause-line c =
    let k = c.args.self.now in
    let m = c.requires.kernel in
    let v = c.in-High.var in
    let p = c.put_signed-in-High.ensures in
    let known = subst (IsFormOf k.table.costs k.table.rows.items) (sym c.in-High.ensures) (place_is k m.shaped c.args.place c.requires.place) in
    entering_is k c.put_signed-in-High.new.self c.args.place p.keeps
    (high_stands k m c.args.place v c.in-High.field-1 c.requires.place c.put_signed-in-High.new.self.entering known (sym c.in-High.ensures)
    (p.keeps.entering ∙ m.shaped.entering) p.numbers p.denominator
    (p.constant ∙ read_known c.high_constant-constant.result c.high_constant-constant.type_inv ∙ c.high_constant-constant.ensures))
    p.line
