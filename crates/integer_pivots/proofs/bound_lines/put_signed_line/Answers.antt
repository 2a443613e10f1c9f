-- One more number is put; up to the next mark all are 0.
use Rattle.std.proofs.Common.{inl, inr, ◌≡◌, ℕ, ◌+◌, ◌*◌, ◌^◌, ◌<◌, ◌≤◌, ◌∙◌, refl, sym, ap, subst, List, length, arith, FitsSigned, w64}
use Rattle.std.specs.Prelude.{ℤ, pos, ◌*ℤ◌, nat_abs}
use Rattle.std.proofs.lemmas.Int.{fits_signed_from_abs, to_z-of_z, unsigned_abs-mul}
use Rattle.std.proofs.lemmas.Bool.{cases_lt}
use Rattle.std.proofs.lemmas.List.{get_or-set_other, length-set}
use Rattle.whole_numbers.specs.Lists.{number_at}
use Rattle.integer_pivots.proofs.Sizes.{number_within, read, read_number}
use Rattle.integer_pivots.proofs.WrittenPlaces.{written_more}
use Rattle.integer_pivots.proofs.LineReads.{denominator_read, numbers_small, reach_read}
use Rattle.integer_pivots.proofs.bound_lines.put_signed_line.Goals as goal
use Rattle.integer_pivots.proofs.bound_lines.put_signed_line.Goals.{In-loop-column}

pub loop-column-init : goal.loop-column-init
loop-column-init c =
    let long : length c.clear.new.line ≡ length c.as_slice-numbers.result.now =
    c.clear.ensures.count ∙ c.requires.count ∙ sym (ap length c.as_slice-numbers.ensures) in
    record {
      count = long;
      put = λ k k_in. c.clear.ensures.zeros k (omega (arith, k_in, c.next-column.ensures.within, c.requires.count))
          ∙ sym (ap (λ (z : ℤ). read c.args.sign *ℤ z) (none k k_in) ∙ lib.IntN.*ℤ-zero (read c.args.sign));
      rest = λ k from k_in. c.clear.ensures.zeros k (omega (arith, k_in, c.clear.ensures.count));
      denominator = (denominator_read c.args.line.now c.requires.line).1;
      constant = refl;
      reach = reach_read c.args.line.now c.requires.line;
    }
  where
    none : (k : ℕ) → k < c.next-column.result → number_at c.as_slice-numbers.result.now k ≡ pos 0
    none k k_in = ap (λ (zs : List ℤ). number_at zs k) c.as_slice-numbers.ensures ∙ c.next-column.ensures.passed k (omega arith) k_in

-- a number is small, and its sign may change
product : (sign z : ℤ) → nat_abs sign ≡ 1 → nat_abs z ≤ 2 ^ 30 →
    FitsSigned w64 (read sign *ℤ read z) × (read (read sign *ℤ read z) ≡ (read sign *ℤ z))
product sign z one small =
    let same : (read sign *ℤ read z) ≡ (sign *ℤ z) =
    ap (λ (y : ℤ). y *ℤ read z) (read_number sign (omega (arith, one))) ∙ ap (λ (y : ℤ). sign *ℤ y) (read_number z (omega (arith, small))) in
    let once : nat_abs sign * nat_abs z ≡ 1 * nat_abs z = ap (λ (n : ℕ). n * nat_abs z) one in
    let size : nat_abs (sign *ℤ z) < 2 ^ 63 = omega (arith, unsigned_abs-mul sign z, once, small) in (
      subst (FitsSigned w64) (sym same) (fits_signed_from_abs w64 (sign *ℤ z) size),
      ap read same ∙ read_number (sign *ℤ z) size ∙ ap (λ (y : ℤ). y *ℤ z) (sym (read_number sign (omega (arith, one)))),
    )

here : (c : In-loop-column) → FitsSigned w64 (read c.args.sign *ℤ read (number_at c.as_slice-numbers.result.now c.loop-column.column))
    × (read (read c.args.sign *ℤ read (number_at c.as_slice-numbers.result.now c.loop-column.column))
    ≡ (read c.args.sign *ℤ number_at c.as_slice-numbers.result.now c.loop-column.column))
here c =
    let zs = c.as_slice-numbers.result.now in
    product c.args.sign (number_at zs c.loop-column.column) c.requires.sign
    (subst (λ (ys : List ℤ). nat_abs (number_at ys c.loop-column.column) ≤ 2 ^ 30) (sym c.as_slice-numbers.ensures)
    (number_within (2 ^ 30) c.args.line.now.numbers c.loop-column.column (numbers_small c.args.line.now c.requires.line)))

pub overflow_mul-sign : goal.overflow_mul-sign
overflow_mul-sign c = (here (goal.at.overflow_mul-sign c).In-loop-column).0

pub set-requires : goal.set-requires
set-requires c = omega (arith, c.loop-column-test.true, c.loop-column.invariant.count)

pub loop-column-preserved : goal.loop-column-preserved
loop-column-preserved c =
    let zs = c.as_slice-numbers.result.now in
    let i = c.loop-column.column in
    let news = c.loop-column.into.numbers in
    let f = c.loop-column.invariant in
    let x = read (read c.args.sign *ℤ read (number_at zs i)) in
    let next = c.next-column-in-loop-column in
    let long : length c.set.new.self ≡ length zs = ap length c.set.ensures ∙ length-set news i x ∙ f.count in
    let kept : (k : ℕ) → i + 1 ≤ k → number_at c.set.new.self k ≡ number_at news k =
    λ k from. ap (λ (ys : List ℤ). number_at ys k) c.set.ensures ∙ get_or-set_other news i k x (pos 0) (λ same. absurd (omega (arith, same, from))) in
    let none : (k : ℕ) → i + 1 ≤ k → k < next.result → number_at zs k ≡ pos 0 =
    λ k from before. ap (λ (ys : List ℤ). number_at ys k) c.as_slice-numbers.ensures ∙ next.ensures.passed k from before in
    record {
      count = long;
      put = λ k k_in. elim (cases_lt k (i + 1)) [
        | inl before ↦
            ap (λ (ys : List ℤ). number_at ys k) c.set.ensures
            ∙ written_more (λ (j : ℕ) (z : ℤ). z ≡ (read c.args.sign *ℤ number_at zs j)) (pos 0) news i x
            (omega (arith, c.loop-column-test.true, f.count)) f.put (here (goal.at.loop-column-preserved c).In-loop-column).1 k before
        | inr behind ↦
            kept k behind ∙ f.rest k (omega (arith, behind)) (omega (arith, k_in, next.ensures.within, f.count, ap length c.as_slice-numbers.ensures))
            ∙ sym (ap (λ (z : ℤ). read c.args.sign *ℤ z) (none k behind k_in) ∙ lib.IntN.*ℤ-zero (read c.args.sign))
      ];
      rest = λ k from k_in. kept k (omega (arith, from, next.ensures.from)) ∙
          f.rest k (omega (arith, from, next.ensures.from)) (omega (arith, k_in, long, f.count));
      denominator = f.denominator;
      constant = f.constant;
      reach = f.reach;
    }

pub returns-clause-numbers : goal.returns-clause-numbers
returns-clause-numbers c k k_in =
    let long = ap length c.as_slice-numbers.ensures in
    c.loop-column.invariant.put k (omega (arith, k_in, long, c.loop-column-test.false))
    ∙ ap (λ (zs : List ℤ). read c.args.sign *ℤ number_at zs k) c.as_slice-numbers.ensures
    ∙ ap (λ (z : ℤ). z *ℤ number_at c.args.line.now.numbers k) (to_z-of_z w64 c.args.sign c.ranges.sign)

pub returns-clause-count : goal.returns-clause-count
returns-clause-count c = c.loop-column.invariant.count ∙ ap length c.as_slice-numbers.ensures

pub returns-clause-denominator : goal.returns-clause-denominator
returns-clause-denominator c = c.loop-column.invariant.denominator

pub returns-clause-constant : goal.returns-clause-constant
returns-clause-constant c = c.loop-column.invariant.constant ∙ to_z-of_z w64 c.args.constant c.ranges.constant

pub returns-clause-reach : goal.returns-clause-reach
returns-clause-reach c = c.loop-column.invariant.reach
