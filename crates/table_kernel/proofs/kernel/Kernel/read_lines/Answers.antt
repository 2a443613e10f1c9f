-- One line more is read.
use Rattle.std.proofs.Common.{◌≡◌, ℕ, suc, ◌<◌, refl, sym, ◌∙◌, ap, subst, List, length, arith}
use Rattle.std.proofs.lemmas.List.{get_or_default}
use Rattle.whole_numbers.specs.Fractions.{Fraction}
use Rattle.fraction_table.specs.declared.table.Table.{Table}
use Rattle.integer_pivots.specs.declared.line.Line.{Line}
use Rattle.integer_pivots.specs.Lines.{IsLine, no_line}
use Rattle.table_kernel.specs.Kernels.{width_of}
use Rattle.table_kernel.specs.ReadBack.{FitsOver}
use Rattle.table_kernel.proofs.ReadSteps.{low_line_in, low_line_long, one_more_read, row_at}
use Rattle.table_kernel.proofs.Refusals.{on_err}
use Rattle.table_kernel.proofs.kernel.Kernel.read_lines.Goals.{After-index_mut}
use Rattle.table_kernel.proofs.kernel.Kernel.read_lines.Goals as goal

var_in : (c : After-index_mut) → c.loop-var.var < width_of c.args.self.now
var_in c =
    let k = c.args.self.now in
    omega (arith, c.loop-var-test.true, c.len-var-end.ensures, k.lows.ok.0, c.requires.shaped.lows)

line_long : (c : After-index_mut) → length c.index_mut.result.now.numbers ≡ width_of c.args.self.now
line_long c =
    let b = c.loop-var.invariant in
    ap (λ (line : Line). length line.numbers) c.index_mut.ensures.value
    ∙ b.each c.loop-var.var c.index_mut.result.now (omega (arith, b.count, var_in c))

pub index-requires : goal.index-requires
index-requires c =
    let inside = low_line_in c.args.self.now c.loop-var.var c.requires.shaped (var_in (goal.at.index-requires c).After-index_mut) in
    let count = ap (λ (t : Table). length t.lines.items) c.loop-var.invariant.keeps.table in
    omega (arith, inside, count, c.loop-var.self.table.lines.ok.0)

pub read_line-requires-clause-fractions : goal.read_line-requires-clause-fractions
read_line-requires-clause-fractions c =
    let k = c.args.self.now in
    let at = (goal.at.read_line-requires-clause-fractions c).After-index_mut in
    let inside = var_in at in
    let same = row_at k c.loop-var.self c.loop-var.var c.index.result.now c.requires.shaped c.loop-var.invariant.keeps inside c.index.ensures in
    ap length same ∙ low_line_long k c.loop-var.var c.requires.shaped inside ∙ ap suc (sym (line_long at))

pub returns-in_err-read_line-clause-refused : goal.returns-in_err-read_line-clause-refused
returns-in_err-read_line-clause-refused c =
    let inside = var_in (goal.at.returns-in_err-read_line-clause-refused c).After-index_mut in
    on_err c.from_residual.result (
      c.loop-var.var,
      inside,
      subst (λ (row : List Fraction). (D : ℕ) → FitsOver D row → ⊥)
          (row_at c.args.self.now c.loop-var.self c.loop-var.var c.index.result.now c.requires.shaped c.loop-var.invariant.keeps inside c.index.ensures)
          c.in_err-read_line.ensures.refused,
    )

pub loop-var-preserved : goal.loop-var-preserved
loop-var-preserved c =
    let at = (goal.at.loop-var-preserved c).After-index_mut in
    let inside = var_in at in
    one_more_read c.args.self.now c.loop-var.self _ c.loop-var.var c.index.result.now c.read_line.new.line c.requires.shaped inside
    c.loop-var.invariant c.index.ensures (c.read_line.ensures.count ∙ line_long at) c.in_ok-read_line.ensures.line c.in_ok-read_line.ensures.read refl

pub returns-clause-lines : goal.returns-clause-lines
returns-clause-lines c =
    let b = c.loop-var.invariant in
    λ v d v_in. subst IsLine (get_or_default c.loop-var.self.lows.items v no_line d v_in)
    (b.lines v (omega (arith, v_in, b.count, c.requires.shaped.lows, c.loop-var-test.false, c.len-var-end.ensures, c.args.self.now.lows.ok.0)))
