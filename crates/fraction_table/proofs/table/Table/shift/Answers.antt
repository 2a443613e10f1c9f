-- The lines and the basis move together.
use Rattle.std.proofs.Common.{◌≡◌, suc, ◌∙◌, ap, sym, subst, List, length, arith, w64}
use Rattle.std.specs.Vec.{with_items}
use Rattle.std.proofs.lemmas.Int.{to_z-of_z}
use Rattle.std.proofs.lemmas.List.{with_items_is}
use Rattle.std.proofs.lemmas.Result.{err_from_is_err_and}
use Rattle.whole_numbers.specs.Fractions.{Fraction, whole}
use Rattle.design_problem.specs.declared.tree.Member.{Member}
use Rattle.fraction_lines.specs.TableLines.{IsTableNumber}
use Rattle.fraction_lines.specs.Turns.{AreTableLines}
use Rattle.fraction_table.specs.Moves.{IsColumnOf, ShiftsWide, shifted_lines}
use Rattle.fraction_lines.proofs.SmallNumbers.{whole_number}
use Rattle.fraction_table.proofs.MoveLines.{column_in, column_there, length-put}
use Rattle.fraction_table.proofs.table.Table.shift.Goals.{After-shift_lines}
use Rattle.fraction_table.proofs.table.Table.shift.Goals as goal

pub shift_lines-requires-clause-own : goal.shift_lines-requires-clause-own
shift_lines-requires-clause-own c = omega (arith, ap length c.as_mut_slice.ensures.value, c.requires.own)

pub shift_lines-requires-clause-lines : goal.shift_lines-requires-clause-lines
shift_lines-requires-clause-lines c =
    let t = c.args.self.now in
    let n = length t.costs.low in (
      suc n,
      omega arith,
      column_in c.as_slice.result.now c.args.before c.column_of-column.result n c.column_of-column.ensures
          (ap length c.as_slice.ensures.value ∙ c.requires.shape.basis),
      subst (AreTableLines t.top (suc n)) (sym c.as_mut_slice.ensures.value) c.requires.shape.lines,
    )

pub shift_lines-requires-clause-fall : goal.shift_lines-requires-clause-fall
shift_lines-requires-clause-fall c =
    let t = c.args.self.now in
    subst (IsTableNumber t.top) (sym (c.whole-fall.ensures ∙ ap whole (to_z-of_z w64 c.args.fall c.ranges.fall)))
    (whole_number t.top c.args.fall c.value.ensures.width c.requires.small)

pub put_member-requires : goal.put_member-requires
put_member-requires c =
    column_there c.args.self.now.basis.items c.args.before c.column_of-column.result
    (subst (λ (bs : List Member). IsColumnOf bs c.args.before c.column_of-column.result) c.as_slice.ensures.value c.column_of-column.ensures)

-- the lines that were written are the table's, as many as before, and numbers within the top
lines_long : (c : After-shift_lines) → length c.shift_lines.new.lines ≡ length c.args.self.now.lines.items
lines_long c = c.shift_lines.ensures.count ∙ ap length c.as_mut_slice.ensures.value

lines_kept : (c : After-shift_lines) → (with_items c.args.self.now.lines c.shift_lines.new.lines).items ≡ c.shift_lines.new.lines
lines_kept c =
    let t = c.args.self.now in
    let same = lines_long c in
    with_items_is t.lines c.shift_lines.new.lines (omega (arith, same, t.lines.ok.0))

lines_numbers : (c : After-shift_lines) →
    AreTableLines c.args.self.now.top (suc (length c.args.self.now.costs.low))
    (with_items c.args.self.now.lines c.shift_lines.new.lines).items
lines_numbers c =
    let t = c.args.self.now in
    let count = suc (length t.costs.low) in
    subst (AreTableLines t.top count) (sym (lines_kept c))
    (c.shift_lines.ensures.numbers count
    (subst (AreTableLines t.top count) (sym c.as_mut_slice.ensures.value) c.requires.shape.lines))

pub returns-in_err-shift_lines-clause-shape : goal.returns-in_err-shift_lines-clause-shape
returns-in_err-shift_lines-clause-shape c =
    let t = c.args.self.now in
    let s = c.requires.shape in
    let shifted = (goal.at.returns-in_err-shift_lines-clause-shape c).After-shift_lines in
    record {
      high = s.high;
      basis = s.basis;
      lines = lines_numbers shifted;
      many = ap length (lines_kept shifted) ∙ lines_long shifted ∙ s.many;
      room = record { few = s.room.few; quotients = s.room.quotients; scratch = s.room.scratch };
    }

pub returns-in_err-shift_lines-clause-wide : goal.returns-in_err-shift_lines-clause-wide
returns-in_err-shift_lines-clause-wide c =
    let p = err_from_is_err_and c.from_residual.result c.from_residual.ensures.1 in
    let t = c.args.self.now in
    let column = c.column_of-column.result in
    let wide = c.in_err-shift_lines.field-0.0 in
    rw (p.1, p.2)
    (record {
      column = column;
      found = subst (λ (bs : List Member). IsColumnOf bs c.args.before column) c.as_slice.ensures.value c.column_of-column.ensures;
      is_wide =
          subst (λ (lines : List (List Fraction)). ShiftsWide t.top column c.args.own (whole c.args.fall) lines wide) c.as_mut_slice.ensures.value
          (subst (λ (q : Fraction). ShiftsWide t.top column c.args.own q c.as_mut_slice.result.now wide)
          (c.whole-fall.ensures ∙ ap whole (to_z-of_z w64 c.args.fall c.ranges.fall))
          c.in_err-shift_lines.ensures.wide);
    })

pub returns-clause-shape : goal.returns-clause-shape
returns-clause-shape c =
    let t = c.args.self.now in
    let s = c.requires.shape in
    let shifted = (goal.at.returns-clause-shape c).After-shift_lines in
    record {
      high = s.high;
      basis = ap length c.put_member.ensures ∙ length-put c.column_of-column.result c.args.after t.basis.items ∙ s.basis;
      lines = lines_numbers shifted;
      many = ap length (lines_kept shifted) ∙ lines_long shifted ∙ s.many;
      room = record { few = s.room.few; quotients = s.room.quotients; scratch = s.room.scratch };
    }

pub returns-clause-shifted : goal.returns-clause-shifted
returns-clause-shifted c =
    let t = c.args.self.now in
    let column = c.column_of-column.result in
    record {
      column = column;
      found = subst (λ (bs : List Member). IsColumnOf bs c.args.before column) c.as_slice.ensures.value c.column_of-column.ensures;
      basis = c.put_member.ensures;
      lines =
          lines_kept (goal.at.returns-clause-shifted c).After-shift_lines ∙ c.in_ok-shift_lines.ensures.shifted
          ∙ ap (λ (lines : List (List Fraction)). shifted_lines column c.args.own c.whole-fall.result lines) c.as_mut_slice.ensures.value
          ∙ ap (λ (q : Fraction). shifted_lines column c.args.own q t.lines.items) (c.whole-fall.ensures ∙ ap whole (to_z-of_z w64 c.args.fall c.ranges.fall));
    }
