-- One more column gives its multiplier.
use Rattle.std.proofs.Common.{◌≡◌, ◌^◌, ◌≤◌, sym, ◌∙◌, ap, subst, List, [], ◌∷◌, ◌++◌, drop, arith, nat_abs}
use Rattle.std.specs.Prelude.{pos}
use Rattle.std.proofs.lemmas.List.{take_all}
use Rattle.whole_numbers.specs.Fractions.{whole}
use Rattle.design_problem.specs.declared.tree.Member.{Member}
use Rattle.design_problem.specs.Basis.{IsFormOf, member_form}
use Rattle.fraction_table.specs.Multipliers.{columns_numbered, numbered}
use Rattle.fraction_table.specs.Pivots.{line_at, member_at}
use Rattle.fraction_table.proofs.MultiplierColumns.{fractions_next}
use Rattle.fraction_table.proofs.MultiplierSteps.{read_back}
use Rattle.integer_pivots.proofs.Sizes.{read_number}
use Rattle.table_kernel.specs.Kernels.{stated, width_of}
use Rattle.table_kernel.specs.Numbers.{number_at_column}
use Rattle.table_kernel.specs.Lines.{column_of, form_of_place}
use Rattle.table_kernel.proofs.Columns.{common_small, place_is, place_number_within}
use Rattle.table_kernel.proofs.OverCommon.{over_as}
use Rattle.table_kernel.proofs.StatedLines.{stated_entry, stated_long}
use Rattle.table_kernel.proofs.kernel.Kernel.fractions.Goals as goal

pub entry-requires-clause-member : goal.entry-requires-clause-member
entry-requires-clause-member c =
    let t = c.args.self.now in
    subst (λ (m : Member). IsFormOf t.table.costs t.table.rows.items m) (sym c.member_at-member.ensures)
    (place_is t c.requires.kernel.shaped c.args.place c.requires.place)

pub entry-requires-clause-column : goal.entry-requires-clause-column
entry-requires-clause-column c =
    omega (arith, c.loop-column-test.true, c.width-column-end.ensures)

pub fraction_over-entry-requires-clause-number : goal.fraction_over-entry-requires-clause-number
fraction_over-entry-requires-clause-number c =
    let t = c.args.self.now in
    let m = c.requires.kernel in
    let number_is : c.entry.result ≡ number_at_column (form_of_place t c.args.place) (column_of t c.loop-column.column) =
    c.entry.ensures.number ∙ ap (λ (member : Member). number_at_column (member_form (width_of t) t.table.rows.items member)
    (column_of t c.loop-column.column)) c.member_at-member.ensures in
    let small = place_number_within t m.shaped m.bounded c.args.place c.requires.place c.loop-column.column in
    let read = read_back c.entry.result (omega (arith, ap nat_abs number_is, small)) in
    omega (arith, ap nat_abs read, ap nat_abs number_is, small, m.bounded.top)

pub index-requires : goal.index-requires
index-requires c =
    let t = c.args.self.now in
    omega (
      arith,
      c.loop-column-test.true,
      c.width-column-end.ensures,
      c.requires.kernel.tableau.unboxed.count,
      t.table.basis.ok.0,
    )

pub loop-column-preserved : goal.loop-column-preserved
loop-column-preserved c =
    let t = c.args.self.now in
    let m = c.requires.kernel in
    let place = c.args.place in
    let column = c.loop-column.column in
    let common : nat_abs t.common ≤ 2 ^ 30 = common_small t m.bounded in
    let number_is : c.entry.result ≡ number_at_column (form_of_place t place) (column_of t column) =
    c.entry.ensures.number ∙ ap (λ (member : Member). number_at_column (member_form (width_of t) t.table.rows.items member)
    (column_of t column)) c.member_at-member.ensures in
    let small = place_number_within t m.shaped m.bounded place c.requires.place column in
    fractions_next t.table.basis.items (member_at (stated t) place) (line_at (stated t) place) column
    (width_of t) c.index.result.now c.fraction_over-entry.result c.loop-column.parts.items
    c.put_negated.new.parts.items
    (omega (arith, c.loop-column-test.true, c.width-column-end.ensures, m.tableau.unboxed.count))
    (omega (arith, c.loop-column-test.true, c.width-column-end.ensures))
    (stated_long t m place c.requires.place)
    c.loop-column.invariant c.index.ensures
    (c.fraction_over-entry.ensures.value
    ∙ over_as _ _ _ _ (ap nat_abs (read_number t.common (omega (arith, common))))
    (read_back c.entry.result (omega (arith, ap nat_abs number_is, small)) ∙ number_is)
    ∙ sym (stated_entry t m place column c.requires.place (omega (arith, c.loop-column-test.true, c.width-column-end.ensures))))
    c.in_ok-put_negated.ensures

pub returns : goal.returns
returns c =
    let t = c.args.self.now in
    c.loop-column.invariant
    ∙ ap (λ (members : List Member). numbered (member_at (stated t) c.args.place) (whole (pos 1) ∷ [])
    ++ columns_numbered members (drop 1 (line_at (stated t) c.args.place)))
    (take_all c.loop-column.column t.table.basis.items
    (omega (
      arith,
      c.loop-column-test.false,
      c.width-column-end.ensures,
      c.requires.kernel.tableau.unboxed.count,
    )))
