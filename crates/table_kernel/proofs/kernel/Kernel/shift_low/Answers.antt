-- The constant of the variable's own line falls, or those of all others rise.
use Rattle.std.proofs.Common.{◌≡◌, ℕ, ◌<◌, ◌≤◌, ◌^◌, ◌∙◌, ap, refl, List, ◌++◌, length, map, take, drop, subst, sym, arith}
use Rattle.std.specs.Prelude.{ℤ, pos, ◌-ℤ◌, ◌*ℤ◌, Option, None, Some, nat_abs, slice_index_or, slice_set, All}
use Rattle.std.proofs.lemmas.List.{get_or-map, get_or_default, length-map}
use Rattle.design_problem.specs.declared.tree.Member.{Member}
use Rattle.fraction_table.specs.Moves.{IsColumnOf}
use Rattle.integer_pivots.specs.declared.line.Line.{Line}
use Rattle.integer_pivots.specs.Lines.{no_line}
use Rattle.integer_pivots.proofs.Sizes.{read, read_number, size_most}
use Rattle.integer_pivots.proofs.WrittenPlaces.{written}
use Rattle.table_kernel.specs.Moves.{raised_kernel_line, with_constant}
use Rattle.table_kernel.specs.Turns.{line_of}
use Rattle.table_kernel.proofs.MoveReads.{IsReadRight, lowered_read}
use Rattle.table_kernel.proofs.Shares.{constants_short}
use Rattle.table_kernel.proofs.kernel.Kernel.shift_low.Goals.{After-index, After-index_mut}
use Rattle.table_kernel.proofs.kernel.Kernel.shift_low.Goals as goal

-- the line before, and its denominator
module _ (c : After-index) where
  inside : c.args.var < length c.args.self.now.lows.items
  inside = omega (arith, c.requires.var, c.requires.kernel.shaped.lows)

  right : (line : Line) → line ≡ line_of c.args.self.now c.args.var →
      IsReadRight (read c.index.result.now.denominator *ℤ read c.args.fall)
      (read line.constant -ℤ read (read c.index.result.now.denominator *ℤ read c.args.fall))
      ((line_of c.args.self.now c.args.var).constant -ℤ ((line_of c.args.self.now c.args.var).denominator *ℤ c.args.fall))
  right line line_is =
      let k = c.args.self.now in
      let old = line_of k c.args.var in
      let l = c.requires.kernel.bounded.lines c.args.var no_line inside in
      let denominator : c.index.result.now.denominator ≡ old.denominator =
      ap (λ (line : Line). line.denominator) (c.index.ensures ∙ get_or_default k.lows.items c.args.var _ no_line inside) in
      subst (λ (d : ℤ). IsReadRight (read d *ℤ read c.args.fall) (read line.constant -ℤ read (read d *ℤ read c.args.fall))
      (old.constant -ℤ (old.denominator *ℤ c.args.fall))) (sym denominator)
      (subst (λ (x : Line). IsReadRight (read old.denominator *ℤ read c.args.fall) (read x.constant -ℤ read (read old.denominator *ℤ read c.args.fall))
      (old.constant -ℤ (old.denominator *ℤ c.args.fall))) (sym line_is)
      (lowered_read old.denominator c.args.fall old.constant (size_most old.denominator (2 ^ 30) l.positive l.denominator) c.requires.fall
      (constants_short k c.requires.kernel.bounded c.args.var no_line inside)))

-- what is written to
line_is : (c : After-index_mut) → c.index_mut.result.now ≡ line_of c.args.self.now c.args.var
line_is c = c.index_mut.ensures.value ∙ get_or_default c.args.self.now.lows.items c.args.var _ no_line
    (omega (arith, c.requires.var, c.requires.kernel.shaped.lows))

pub overflow_mul-index : goal.overflow_mul-index
overflow_mul-index c = (right (goal.at.overflow_mul-index c).After-index (line_of c.args.self.now c.args.var) refl).product_fits

pub overflow_sub-index_mut : goal.overflow_sub-index_mut
overflow_sub-index_mut c =
    let at = goal.at.overflow_sub-index_mut c in
    (right at.After-index c.index_mut.result.now (line_is at.After-index_mut)).whole_fits

pub raise-requires-clause-constants : goal.raise-requires-clause-constants
raise-requires-clause-constants c =
    subst (λ (lines : List Line). All (λ (line : Line). nat_abs line.constant ≤ 2 ^ 44) lines) (sym c.as_mut_slice.ensures.value)
    (constants_short c.args.self.now c.requires.kernel.bounded)

pub returns-in-None-clause-shifted : goal.returns-in-None-clause-shifted
returns-in-None-clause-shifted c =
    let at = goal.at.returns-in-None-clause-shifted c in
    let k = c.args.self.now in
    let x = c.index_mut.result.now in
    let here = line_is at.After-index_mut in
    let value = (right at.After-index x here).value in (
      None,
      (
        record {
          found =
              subst (λ (column : Option ℕ). IsColumnOf k.table.basis.items c.args.before column) c.in-None.is
              (subst (λ (bs : List Member). IsColumnOf bs c.args.before c.column_of.result) c.as_slice.ensures.value c.column_of.ensures);
          basis = refl;
        },
        ap (slice_set k.lows.items c.args.var) (ap (with_constant x) value
            ∙ ap (λ (line : Line). with_constant line ((line_of k c.args.var).constant -ℤ ((line_of k c.args.var).denominator *ℤ c.args.fall))) here),
      ),
    )

-- the lines that rose are written, and then the variable's own
own_put : (n : ℕ) (olds lent news : List Line) (column v : ℕ) (fall seen : ℤ) (x : Line) → n ≡ length olds → lent ≡ olds → seen ≡ fall →
    news ≡ map (raised_kernel_line column seen) lent → v < length olds → x ≡ slice_index_or (take n (news ++ drop (length news) olds)) v x →
    slice_set (take n (news ++ drop (length news) olds)) v (with_constant x (pos 0))
    ≡ slice_set (map (raised_kernel_line column fall) olds) v (with_constant (slice_index_or olds v no_line) (pos 0))
own_put n olds lent news column v fall seen x counted same read_is rose v_in x_is =
    let all : news ≡ map (raised_kernel_line column fall) olds =
    rose ∙ ap (λ (z : ℤ). map (raised_kernel_line column z) lent) read_is ∙ ap (map (raised_kernel_line column fall)) same in
    let whole : take n (news ++ drop (length news) olds) ≡ map (raised_kernel_line column fall) olds =
    written n news olds (ap length all ∙ length-map olds (raised_kernel_line column fall)) counted ∙ all in
    let own : x ≡ raised_kernel_line column fall (slice_index_or olds v no_line) =
    x_is ∙ ap (λ (lines : List Line). slice_index_or lines v x) whole ∙ get_or-map (raised_kernel_line column fall) olds v no_line x v_in in
    ap (λ (lines : List Line). slice_set lines v (with_constant x (pos 0))) whole
    ∙ ap (λ (line : Line). slice_set (map (raised_kernel_line column fall) olds) v (with_constant line (pos 0))) own

pub returns-in-Some-clause-shifted : goal.returns-in-Some-clause-shifted
returns-in-Some-clause-shifted c =
    let k = c.args.self.now in (
      Some c.in-Some.column,
      (
        record {
          found =
              subst (λ (column : Option ℕ). IsColumnOf k.table.basis.items c.args.before column) c.in-Some.is
              (subst (λ (bs : List Member). IsColumnOf bs c.args.before c.column_of.result) c.as_slice.ensures.value c.column_of.ensures);
          basis = refl;
        },
        own_put k.lows.len k.lows.items c.as_mut_slice.result.now c.raise.new.lines c.in-Some.column c.args.var c.args.fall
            (read c.args.fall) c.index_mut-in-Some.result.now k.lows.ok.0 c.as_mut_slice.ensures.value
            (read_number c.args.fall (omega (arith, c.requires.fall))) c.raise.ensures
            (omega (arith, c.requires.var, c.requires.kernel.shaped.lows)) c.index_mut-in-Some.ensures.value,
      ),
    )
