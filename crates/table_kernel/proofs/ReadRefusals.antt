-- Where the bounds cover a table in fractions, the lines that were read from it have a common denominator, over which
-- their constants fit.
use Prim.Native.Nat.{◌∣◌}
use native.Mathlib.Nat.{div-mul_cancel, mul_assoc, mul_comm}
use Rattle.std.proofs.Common.{◌≡◌, ℕ, ◌*◌, ◌/◌, ◌^◌, ◌<◌, ◌≤◌, sym, ◌∙◌, ap, subst, List, length, arith}
use Rattle.std.specs.Prelude.{ℤ, nat_abs, slice_index_or, All}
use Rattle.std.proofs.lemmas.List.{get_or_default}
use Rattle.std.proofs.lemmas.Nat.Gcd.{dvd_trans}
use Rattle.whole_numbers.specs.Fractions.{Fraction}
use Rattle.whole_numbers.proofs.Divisors.{quotient_positive}
use Rattle.whole_numbers.proofs.Sizes.{product_size}
use Rattle.design_problem.specs.Basis.{entry}
use Rattle.fraction_table.specs.declared.table.Table.{Table}
use Rattle.integer_pivots.specs.declared.line.Line.{Line}
use Rattle.integer_pivots.specs.Lines.{no_line}
use Rattle.table_kernel.specs.Numbers.{share_of}
use Rattle.table_kernel.specs.ReadBack.{IsLeastCommon, IsReadFrom, MayReadBack, low_line, over_denominator}
use Rattle.table_kernel.proofs.FittingConstants.{FitsIn}
use Rattle.table_kernel.proofs.LeastCommon.{GoesInto}
use Rattle.table_kernel.proofs.ReadBases.{AreReadFrom}
use Rattle.table_kernel.proofs.Shares.{factor_within, share_more}

-- the size of a line's constant over a multiple of its denominator
constant_over : (row : List Fraction) (line : Line) (C : ℕ) → IsReadFrom row line → GoesInto C line →
    nat_abs line.constant * share_of C line ≡ nat_abs (over_denominator C (entry row 0))
constant_over row line C r divides =
    let q = entry row 0 in
    let d = nat_abs line.denominator in
    let own : q.denominator ∣ d = r.least.common 0 (omega (arith, r.count)) in
    let whole : d * (C / d) ≡ C = mul_comm d (C / d) ∙ div-mul_cancel d divides in
    ap (λ (z : ℤ). nat_abs z * (C / d)) r.constant
    ∙ ap (λ (n : ℕ). n * (C / d)) (product_size q.numerator (d / q.denominator))
    ∙ mul_assoc (nat_abs q.numerator) (d / q.denominator) (C / d)
    ∙ ap (λ (n : ℕ). nat_abs q.numerator * n) (sym (share_more d (C / d) q.denominator own) ∙ ap (λ (n : ℕ). n / q.denominator) whole)
    ∙ sym (product_size q.numerator (C / q.denominator))

-- a fraction's number over a divisor of a denominator isn't greater than over that
less_over : (q : Fraction) (C M most : ℕ) → q.denominator ∣ C → C ∣ M → 0 < M → nat_abs (over_denominator M q) ≤ most → nat_abs (over_denominator C q) ≤ most
less_over q C M most own divides some small =
    let times = M / C in
    let size = nat_abs q.numerator in
    let times_some : 0 < times = quotient_positive M C some divides in
    let whole : C * times ≡ M = mul_comm C times ∙ div-mul_cancel C divides in
    let share : M / q.denominator ≡ C / q.denominator * times = ap (λ (n : ℕ). n / q.denominator) (sym whole) ∙ share_more C times q.denominator own in
    let product : nat_abs (over_denominator M q) ≡ nat_abs (over_denominator C q) * times =
    product_size q.numerator (M / q.denominator)
    ∙ ap (λ (n : ℕ). size * n) share
    ∙ sym (mul_assoc size (C / q.denominator) times)
    ∙ ap (λ (n : ℕ). n * times) (sym (product_size q.numerator (C / q.denominator))) in
    factor_within (nat_abs (over_denominator C q)) times most (omega (arith, times_some)) (omega (arith, product, small))

module _ (t : Table) (m : MayReadBack t) (lines : List Line) (many : length lines ≡ length t.costs.low) (read : AreReadFrom t lines) where
  -- the bounds' common denominator is one of all lines
  common_goes : All (GoesInto m.common) lines
  common_goes v d v_in =
      let there : v < length t.costs.low = omega (arith, v_in, many) in
      let line = slice_index_or lines v no_line in
      subst (GoesInto m.common) (get_or_default lines v no_line d v_in)
      (dvd_trans (nat_abs line.denominator) ((read v there).least.least (m.denominator v) (m.lines v there).common) (m.divides v there))

  -- so there is one of at most 2^30
  pub common_found : ((D : ℕ) → 0 < D → D ≤ 2 ^ 30 → All (GoesInto D) lines → ⊥) → ⊥
  common_found none = none m.common m.positive m.small common_goes

  -- and over the least one the constants fit
  pub constants_found : (common : ℤ) → IsLeastCommon lines common → All (FitsIn (nat_abs common)) lines
  constants_found common least v d v_in =
      let there : v < length t.costs.low = omega (arith, v_in, many) in
      let line = slice_index_or lines v no_line in
      let C = nat_abs common in
      let q = entry (low_line t v) 0 in
      let r = read v there in
      let goes : GoesInto C line = least.multiple v no_line v_in in
      let own : q.denominator ∣ C = dvd_trans q.denominator (r.least.common 0 (omega (arith, r.count))) goes in
      let small : nat_abs (over_denominator C q) ≤ 2 ^ 44 =
      less_over q C m.common (2 ^ 44) own (least.least m.common common_goes) m.positive (m.constants v there) in
      subst (FitsIn C) (get_or_default lines v no_line d v_in)
      (subst (λ (n : ℕ). n ≤ 2 ^ 44) (sym (constant_over (low_line t v) line C r goes)) small)
