-- One more line has risen.
use Rattle.std.proofs.Common.{◌≡◌, ◌<◌, ◌∙◌, ap, subst, sym, List, map, length, arith}
use Rattle.std.specs.Prelude.{ℤ, pos, ◌+ℤ◌, ◌*ℤ◌, slice_index_or}
use Rattle.std.proofs.lemmas.List.{ext_get_or, get_or-map, get_or_default, length-map, length-set}
use Rattle.whole_numbers.specs.Lists.{number_at}
use Rattle.integer_pivots.specs.declared.line.Line.{Line}
use Rattle.integer_pivots.specs.Lines.{no_line}
use Rattle.integer_pivots.proofs.Sizes.{read, read_number}
use Rattle.integer_pivots.proofs.WrittenPlaces.{rest_more, written_more}
use Rattle.integer_pivots.proofs.LineReads.{number_small}
use Rattle.table_kernel.specs.Moves.{raised_kernel_line, with_constant}
use Rattle.table_kernel.proofs.MoveReads.{IsReadRight, raised_read}
use Rattle.table_kernel.proofs.moves.raise.Goals.{After-as_slice}
use Rattle.table_kernel.proofs.moves.raise.Goals as goal

module _ (c : After-as_slice) where
  inside : c.loop-var.var < length c.args.lines.now
  inside = omega (arith, c.loop-var-test.true, c.loop-var.invariant.count)

  -- the line before
  abbrev old : Line
  old = slice_index_or c.args.lines.now c.loop-var.var no_line

  there : (d : Line) → slice_index_or c.loop-var.lines c.loop-var.var d ≡ old
  there d =
      get_or_default c.loop-var.lines c.loop-var.var d no_line (omega (arith, inside, c.loop-var.invariant.count))
      ∙ c.loop-var.invariant.rest c.loop-var.var (omega arith)

  number_is : slice_index_or c.as_slice.result.now c.args.column (pos 0) ≡ number_at old.numbers c.args.column
  number_is = ap (λ (zs : List ℤ). slice_index_or zs c.args.column (pos 0)) (c.as_slice.ensures ∙ ap (λ (line : Line). line.numbers) (there _))

  right : (d : Line) →
      IsReadRight (read c.args.fall *ℤ read (slice_index_or c.as_slice.result.now c.args.column (pos 0)))
      (read (slice_index_or c.loop-var.lines c.loop-var.var d).constant +ℤ read (read c.args.fall *ℤ read
      (slice_index_or c.as_slice.result.now c.args.column (pos 0))))
      (old.constant +ℤ (c.args.fall *ℤ number_at old.numbers c.args.column))
  right d =
      subst (λ (z : ℤ). IsReadRight (read c.args.fall *ℤ read z)
      (read (slice_index_or c.loop-var.lines c.loop-var.var d).constant +ℤ read (read c.args.fall *ℤ read z))
      (old.constant +ℤ (c.args.fall *ℤ number_at old.numbers c.args.column))) (sym number_is)
      (subst (λ (line : Line). IsReadRight (read c.args.fall *ℤ read (number_at old.numbers c.args.column))
      (read line.constant +ℤ read (read c.args.fall *ℤ read (number_at old.numbers c.args.column)))
      (old.constant +ℤ (c.args.fall *ℤ number_at old.numbers c.args.column))) (sym (there d))
      (raised_read c.args.fall (number_at old.numbers c.args.column) old.constant c.requires.fall
      (number_small old (c.requires.lines c.loop-var.var no_line inside) c.args.column) (c.requires.constants c.loop-var.var no_line inside)))

pub overflow_mul-lines : goal.overflow_mul-lines
overflow_mul-lines c = (right (goal.at.overflow_mul-lines c).After-as_slice no_line).product_fits

pub overflow_add-lines : goal.overflow_add-lines
overflow_add-lines c = (right (goal.at.overflow_add-lines c).After-as_slice _).whole_fits

pub loop-var-preserved : goal.loop-var-preserved
loop-var-preserved c =
    let a = (goal.at.loop-var-preserved c).After-as_slice in
    let i = c.loop-var.var in
    let v = c.loop-var.invariant in
    let f = read_number c.args.fall (omega (arith, c.requires.fall)) in
    let i_in : i < length c.loop-var.lines = omega (arith, inside a, v.count) in
    let z = read ((read (slice_index_or c.loop-var.lines i c.index-lines-var-in-loop-var.result).constant)
    +ℤ read (read c.args.fall *ℤ read (slice_index_or c.as_slice.result.now c.args.column (pos 0)))) in
    let here : with_constant (slice_index_or c.loop-var.lines i c.index-lines-var-in-loop-var-2.result) z ≡
    raised_kernel_line c.args.column (read c.args.fall) (old a) =
    ap (λ (line : Line). with_constant line z) (there a c.index-lines-var-in-loop-var-2.result)
    ∙ ap (with_constant (old a)) ((right a c.index-lines-var-in-loop-var.result).value
    ∙ ap (λ (y : ℤ). (old a).constant +ℤ (y *ℤ number_at (old a).numbers c.args.column)) (sym f)) in
    record {
      count = length-set c.loop-var.lines i _ ∙ v.count;
      done = written_more (λ u line. line ≡ raised_kernel_line c.args.column (read c.args.fall) (slice_index_or c.args.lines.now u no_line)) no_line
          c.loop-var.lines i _ i_in v.done here;
      rest = rest_more no_line c.args.lines.now c.loop-var.lines i _ v.rest;
    }

pub returns : goal.returns
returns c =
    let v = c.loop-var.invariant in
    let f = read_number c.args.fall (omega (arith, c.requires.fall)) in
    ext_get_or no_line c.loop-var.lines (map (raised_kernel_line c.args.column c.args.fall) c.args.lines.now)
    (v.count ∙ sym (length-map c.args.lines.now (raised_kernel_line c.args.column c.args.fall)))
    (λ u u_in. (
    let there : u < length c.args.lines.now = omega (arith, u_in, v.count) in
    v.done u (omega (arith, u_in, c.loop-var-test.false, v.count, c.loop-var.auto.var-end))
    ∙ ap (λ (y : ℤ). raised_kernel_line c.args.column y (slice_index_or c.args.lines.now u no_line)) f
    ∙ sym (get_or-map (raised_kernel_line c.args.column c.args.fall) c.args.lines.now u no_line no_line there)))
