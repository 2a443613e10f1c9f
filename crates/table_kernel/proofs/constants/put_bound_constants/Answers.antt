-- Two more constants are put.
use Rattle.std.proofs.Common.{List, refl, ◌≡◌, ℕ, ◌+◌, ◌<◌, ◌≤◌, ◌^◌, ◌∙◌, arith, length, subst, sym, ap, w64, to_z, of_z}
use Rattle.std.specs.Prelude.{ℤ, nat_abs, slice_index, slice_index_or, slice_set}
use Rattle.std.proofs.lemmas.List.{get_or_default, length-set}
use Rattle.std.proofs.lemmas.List.Elements.{All-set}
use Rattle.whole_numbers.specs.Lists.{number_at}
use Rattle.integer_pivots.specs.Lines.{no_line}
use Rattle.integer_pivots.proofs.Sizes.{read_number, size_most}
use Rattle.table_kernel.specs.Constants.{IsShortConstant, high_constant, line_constant}
use Rattle.table_kernel.proofs.Places.{first_more, second_more}
use Rattle.table_kernel.proofs.Lines.{read_common}
use Rattle.table_kernel.proofs.TurnArgs.{range_read}
use Rattle.table_kernel.proofs.constants.put_bound_constants.Goals.{After-index-lines-var}
use Rattle.table_kernel.proofs.constants.put_bound_constants.Goals as goal

pub loop-var-init : goal.loop-var-init
loop-var-init c =
    record { count = refl; low = λ v v_in. absurd (omega (arith, v_in)); high = λ v v_in. absurd (omega (arith, v_in)); small = λ within. within }

pub bounds-lines-var : goal.bounds-lines-var
bounds-lines-var c = omega (arith, c.loop-var-test.true, c.requires.places.variables, ap length c.as_slice-low.ensures)

pub constant_over-constant-requires-clause-common : goal.constant_over-constant-requires-clause-common
constant_over-constant-requires-clause-common c = range_read c.args.common c.requires.common

pub bounds-constants-var : goal.bounds-constants-var
bounds-constants-var c =
    omega (arith, c.loop-var-test.true, c.loop-var.invariant.count, c.requires.places.places, ap length c.as_slice-low.ensures)

pub bounds-high-var : goal.bounds-high-var
bounds-high-var c =
    omega (arith, c.loop-var-test.true, c.requires.places.high, ap length c.as_slice-low.ensures, ap length c.as_slice-high.ensures)

pub constant_of_high-requires-clause-common : goal.constant_of_high-requires-clause-common
constant_of_high-requires-clause-common c = range_read c.args.common c.requires.common

pub constant_of_high-requires-clause-constant : goal.constant_of_high-requires-clause-constant
constant_of_high-requires-clause-constant c =
    let size = c.constant_over-constant.ensures.size in
    subst (λ (z : ℤ). nat_abs z ≤ 2 ^ 44) (sym (read_number c.constant_over-constant.result (omega (arith, size)))) size

pub bounds-constants-low : goal.bounds-constants-low
bounds-constants-low c =
    omega (
      arith,
      c.loop-var-test.true,
      c.loop-var.invariant.count,
      c.requires.places.places,
      ap length c.as_slice-low.ensures,
      length-set c.loop-var.constants c.loop-var.var (to_z w64 (of_z w64 c.constant_over-constant.result)),
    )

-- the line that is read is the variable's
line_is : (c : After-index-lines-var) → c.index-lines-var.result ≡ slice_index_or c.args.lines.now c.loop-var.var no_line
line_is c =
    c.index-lines-var.is
    ∙ get_or_default c.args.lines.now c.loop-var.var _ no_line (omega (
      arith,
      c.loop-var-test.true,
      c.requires.places.variables,
      ap length
          c.as_slice-low.ensures,
    ))

pub constant_over-constant-requires-clause-line : goal.constant_over-constant-requires-clause-line
constant_over-constant-requires-clause-line c =
    let i = c.loop-var.var in
    let i_in : i < length c.args.lines.now = omega (arith, c.loop-var-test.true, c.requires.places.variables, ap length c.as_slice-low.ensures) in
    let common = read_number c.args.common (omega (arith, size_most c.args.common (2 ^ 30) c.requires.common.0 c.requires.common.1)) in
    subst (λ (z : ℤ). IsShortConstant z c.index-lines-var.result) (sym common)
    (subst (IsShortConstant c.args.common) (sym (line_is (goal.at.constant_over-constant-requires-clause-line c).After-index-lines-var))
    (c.requires.short i no_line i_in))

pub loop-var-preserved : goal.loop-var-preserved
loop-var-preserved c =
    let n = length c.as_slice-low.result.now in
    let i = c.loop-var.var in
    let xs = c.loop-var.constants in
    let x = c.constant_over-constant.result in
    let y = c.constant_of_high.result in
    let v = c.loop-var.invariant in
    let common = read_number c.args.common (omega (arith, size_most c.args.common (2 ^ 30) c.requires.common.0 c.requires.common.1)) in
    let x_read = read_number x (omega (arith, c.constant_over-constant.ensures.size)) in
    let y_read = read_number y (omega (arith, c.constant_of_high.ensures.size)) in
    let low : length c.args.costs.now.low ≡ n = ap length (sym c.as_slice-low.ensures) in
    let i_in : i < n = c.loop-var-test.true in
    let there : n + i < length xs = omega (arith, i_in, v.count, c.requires.places.places, low) in
    let here : x ≡ line_constant (to_z w64 (of_z w64 c.args.common)) (slice_index_or c.args.lines.now i no_line) =
    c.constant_over-constant.ensures.constant
    ∙ ap (line_constant (to_z w64 (of_z w64 c.args.common))) (line_is (goal.at.loop-var-preserved c).After-index-lines-var) in
    record {
      count = length-set (slice_set xs i (to_z w64 (of_z w64 x))) (n + i) (to_z w64 (of_z w64 y)) ∙ length-set xs i (to_z w64 (of_z w64 x)) ∙ v.count;
      low = first_more (λ k z. z ≡ line_constant (to_z w64 (of_z w64 c.args.common)) (slice_index_or c.args.lines.now k no_line))
          n i xs (to_z w64 (of_z w64 x)) (to_z w64 (of_z w64 y)) i_in there v.low (x_read ∙ here);
      high = second_more (λ k z. z ≡ high_constant (slice_index c.as_slice-low.result.now k) (slice_index c.as_slice-high.result.now k)
          (to_z w64 (of_z w64 c.args.common)) (line_constant (to_z w64 (of_z w64 c.args.common)) (slice_index_or c.args.lines.now k no_line)))
          n i xs (to_z w64 (of_z w64 x)) (to_z w64 (of_z w64 y)) i_in (subst (λ (m : ℕ). n + i < m) (sym (length-set xs i (to_z w64 (of_z w64 x)))) there)
          v.high
          (y_read ∙ c.constant_of_high.ensures.constant
          ∙ ap (high_constant (slice_index c.as_slice-low.result.now i) (slice_index c.as_slice-high.result.now i) (to_z w64 (of_z w64 c.args.common)))
          (x_read ∙ here));
      small = λ within. All-set (λ (z : ℤ). nat_abs z ≤ 2 ^ 62) (slice_set xs i (to_z w64 (of_z w64 x))) (n + i) (to_z w64 (of_z w64 y))
          (subst (λ (z : ℤ). nat_abs z ≤ 2 ^ 62) (sym y_read) c.constant_of_high.ensures.size)
          (All-set (λ (z : ℤ). nat_abs z ≤ 2 ^ 62) xs i (to_z w64 (of_z w64 x))
          (subst (λ (z : ℤ). nat_abs z ≤ 2 ^ 62) (sym x_read) (omega (arith, c.constant_over-constant.ensures.size))) (v.small within));
    }

pub returns-clause-count : goal.returns-clause-count
returns-clause-count c = c.loop-var.invariant.count

pub returns-clause-low : goal.returns-clause-low
returns-clause-low c v v_in =
    c.loop-var.invariant.low v (omega (arith, v_in, c.loop-var-test.false, ap length c.as_slice-low.ensures))
    ∙ ap (λ (z : ℤ). line_constant z (slice_index_or c.args.lines.now v no_line)) (read_common c.args.common c.requires.common)

pub returns-clause-high : goal.returns-clause-high
returns-clause-high c v v_in =
    let line = slice_index_or c.args.lines.now v no_line in
    let common = to_z w64 (of_z w64 c.args.common) in
    let high = c.as_slice-high.result.now in
    ap (λ (n : ℕ). number_at c.loop-var.constants (n + v)) (ap length (sym c.as_slice-low.ensures))
    ∙ c.loop-var.invariant.high v (omega (arith, v_in, c.loop-var-test.false, ap length c.as_slice-low.ensures))
    ∙ ap (λ (xs : List ℕ). high_constant (slice_index xs v) (slice_index high v) common (line_constant common line)) c.as_slice-low.ensures
    ∙ ap (λ (xs : List ℕ). high_constant (slice_index c.args.costs.now.low v) (slice_index xs v) common (line_constant common line)) c.as_slice-high.ensures
    ∙ ap (λ (z : ℤ). high_constant (slice_index c.args.costs.now.low v) (slice_index c.args.costs.now.high v) z (line_constant z line))
    (read_common c.args.common c.requires.common)

pub returns-clause-small : goal.returns-clause-small
returns-clause-small c = c.loop-var.invariant.small
