-- The line's place tells its member.
use Rattle.std.proofs.Common.{◌≡◌, ℕ, ◌+◌, ◌-◌, ◌∙◌, ap, sym, length, arith}
use Rattle.std.specs.Prelude.{slice_index_or, slice_index}
use Rattle.design_problem.specs.declared.tree.Member.TheVariants.{Low, High}
use Rattle.fraction_table.specs.ValidTables.{members_of_box}
use Rattle.fraction_table.proofs.Bases.{members_begin}
use Rattle.fraction_table.proofs.Pivots.{high_place, members_long, row_place}
use Rattle.fraction_table.proofs.table.Table.member_at.Goals as goal

pub returns-then-line-width : goal.returns-then-line-width
returns-then-line-width c =
    let t = c.args.self.now in
    ap (λ bounds. Low c.args.line (slice_index bounds c.args.line)) c.as_slice-low.ensures
    ∙ sym (members_begin t.costs (length t.rows.items) c.args.line (Low 0 0) (omega (arith, c.if-line-width.true, ap length c.as_slice-low.ensures)))

pub returns-then-line-width-2 : goal.returns-then-line-width-2
returns-then-line-width-2 c =
    let t = c.args.self.now in
    let n = length t.costs.low in
    let k = c.args.line - length c.as_slice-low.result.now in
    let there : n + k ≡ c.args.line = omega (arith, c.if-line-width.false, ap length c.as_slice-low.ensures) in
    ap (λ bounds. High k (slice_index bounds k)) c.as_slice-high.ensures
    ∙ sym (high_place t.costs (length t.rows.items) k (Low 0 0) (omega (arith, c.if-line-width-2.true, ap length c.as_slice-low.ensures)))
    ∙ ap (λ (place : ℕ). slice_index_or (members_of_box t.costs (length t.rows.items)) place (Low 0 0)) there

pub returns-else-line-width-2 : goal.returns-else-line-width-2
returns-else-line-width-2 c =
    let t = c.args.self.now in
    let n = length t.costs.low in
    let k = c.args.line - length c.as_slice-low.result.now - length c.as_slice-low.result.now in
    let there : n + n + k ≡ c.args.line = omega (arith, c.if-line-width.false, c.if-line-width-2.false, ap length c.as_slice-low.ensures) in
    sym (row_place t.costs (length t.rows.items) k (Low 0 0) (omega (arith, there, c.requires.line, members_long t.costs (length t.rows.items))))
    ∙ ap (λ (place : ℕ). slice_index_or (members_of_box t.costs (length t.rows.items)) place (Low 0 0)) there
