-- One more term's line is added.
use Rattle.std.proofs.Common.{◌+◌, ◌*◌, ◌/◌, ◌^◌, ◌<◌, ◌≤◌, ◌∙◌, sym, ap, subst, length, get_or, arith}
use Rattle.std.specs.Prelude.{ℕ, ℤ, pos, ◌*ℤ◌, ◌<ℤ◌, nat_abs, All}
use Prim.Native.Nat.{◌∣◌}
use Rattle.whole_numbers.proofs.Divisors.{quotient_positive}
use Rattle.whole_numbers.proofs.Sizes.{size_positive}
use Rattle.design_problem.specs.Forms.{no_term}
use Rattle.integer_pivots.specs.Numbers.{product_sum}
use Rattle.integer_pivots.proofs.PartSums.{more_long}
use Rattle.integer_pivots.proofs.Sizes.{read, size_most}
use Rattle.integer_pivots.proofs.LineReads.{denominator_read, numbers_small}
use Rattle.table_kernel.specs.Lines.{factors_of}
use Rattle.table_kernel.proofs.Factors.{IsFactorRead, factor_read, factor_within, put_all, put_first, put_more, put_room, put_within, scaled_column}
use Rattle.table_kernel.proofs.Lines.{IsTermLine, read_common, term_line}
use Rattle.table_kernel.proofs.line.put_sums.Goals as goal
use Rattle.table_kernel.proofs.line.put_sums.Goals.{After-share_in}

pub loop-term-init : goal.loop-term-init
loop-term-init c =
    let same = read_common c.args.common c.requires.common in
    record {
      count = c.clear.ensures.count;
      put = put_first (nat_abs (read c.args.common)) c.args.lows.now c.terms-term-items.result.now c.args.form.now.coefficients c.clear.new.line
          c.requires.count c.terms-term-items.ensures.terms
          (subst (λ (z : ℤ). factors_of (nat_abs z) c.args.form.now.coefficients c.args.lows.now ≤ 2 ^ 32) (sym same) c.requires.factors)
          (λ k k_in. c.clear.ensures.zeros k (omega (arith, k_in, c.clear.ensures.count)));
    }

pub bounds-lows-term : goal.bounds-lows-term
bounds-lows-term c =
    let known = c.terms-term-items.ensures.known c.loop-term.term-index no_term c.loop-term-test.true in
    omega (arith, known, c.requires.count)

pub share_in-requires-clause-denominator : goal.share_in-requires-clause-denominator
share_in-requires-clause-denominator c =
    let v = (get_or c.terms-term-items.result.now c.loop-term.term-index no_term).var in
    let known = c.terms-term-items.ensures.known c.loop-term.term-index no_term c.loop-term-test.true in
    let l = term_line c.args.lows.now c.args.common (length c.args.sums.now) v c.index-lows-term.result _ (omega (arith, known, c.requires.count))
    c.index-lows-term.is c.requires.lines.0 c.requires.lines.1 c.requires.long in
    subst (λ (z : ℤ). pos 0 <ℤ z) (sym (denominator_read c.index-lows-term.result l.small).1) l.small.positive

pub share_in-requires-clause-divides : goal.share_in-requires-clause-divides
share_in-requires-clause-divides c =
    let v = (get_or c.terms-term-items.result.now c.loop-term.term-index no_term).var in
    let known = c.terms-term-items.ensures.known c.loop-term.term-index no_term c.loop-term-test.true in
    let l = term_line c.args.lows.now c.args.common (length c.args.sums.now) v c.index-lows-term.result _ (omega (arith, known, c.requires.count))
    c.index-lows-term.is c.requires.lines.0 c.requires.lines.1 c.requires.long in
    subst (λ (z : ℤ). nat_abs z ∣ nat_abs (read c.args.common)) (sym (denominator_read c.index-lows-term.result l.small).1)
    (subst (λ (z : ℤ). nat_abs c.index-lows-term.result.denominator ∣ nat_abs z) (sym (read_common c.args.common c.requires.common)) l.divides)

-- the term's line
here : (c : After-share_in) →
    IsTermLine c.args.lows.now c.args.common (length c.args.sums.now)
    (get_or c.terms-term-items.result.now c.loop-term.term-index no_term).var c.index-lows-term.result
here c =
    let v = (get_or c.terms-term-items.result.now c.loop-term.term-index no_term).var in
    let known = c.terms-term-items.ensures.known c.loop-term.term-index no_term c.loop-term-test.true in
    term_line c.args.lows.now c.args.common (length c.args.sums.now) v c.index-lows-term.result _ (omega (arith, known, c.requires.count))
    c.index-lows-term.is c.requires.lines.0 c.requires.lines.1 c.requires.long

-- the factor as it is computed
made : (c : After-share_in) →
    IsFactorRead (nat_abs (read c.args.common)) c.args.lows.now (get_or c.terms-term-items.result.now c.loop-term.term-index no_term)
    c.index-lows-term.result c.share_in.result
made c =
    let ts = c.terms-term-items.result.now in
    let cs = c.args.form.now.coefficients in
    let lines = c.args.lows.now in
    let D = nat_abs (read c.args.common) in
    let same = read_common c.args.common c.requires.common in
    let size = size_most c.args.common (2 ^ 30) c.requires.common.0 c.requires.common.1 in
    let l = here c in
    let line = c.index-lows-term.result in
    let divides : nat_abs line.denominator ∣ D = subst (λ (z : ℤ). nat_abs line.denominator ∣ nat_abs z) (sym same) l.divides in
    let some : 0 < D = subst (λ (z : ℤ). 0 < nat_abs z) (sym same) (size_positive c.args.common c.requires.common.0) in
    let light = factor_within D lines ts c.loop-term.term-index no_term cs c.loop-term-test.true c.requires.count c.terms-term-items.ensures.terms
    (subst (λ (z : ℤ). factors_of (nat_abs z) cs lines ≤ 2 ^ 32) (sym same) c.requires.factors) in
    factor_read D lines (get_or ts c.loop-term.term-index no_term) line c.share_in.result
    (omega (arith, size, ap nat_abs same)) (quotient_positive D (nat_abs line.denominator) some divides) l.is
    (c.share_in.ensures.share ∙ ap (λ (z : ℤ). pos (D / nat_abs z)) (denominator_read line l.small).1) light

pub overflow_mul-factor : goal.overflow_mul-factor
overflow_mul-factor c = (made (goal.at.overflow_mul-factor c).After-share_in).fits

pub put_multiple-requires-clause-long : goal.put_multiple-requires-clause-long
put_multiple-requires-clause-long c =
    let l = here (goal.at.put_multiple-requires-clause-long c).After-share_in in
    omega (arith, c.loop-term.invariant.count, l.long)

pub put_multiple-requires-clause-factor : goal.put_multiple-requires-clause-factor
put_multiple-requires-clause-factor c =
    let m = made (goal.at.put_multiple-requires-clause-factor c).After-share_in in
    omega (arith, m.size, m.small)

pub put_multiple-requires-clause-sums : goal.put_multiple-requires-clause-sums
put_multiple-requires-clause-sums c =
    let m = made (goal.at.put_multiple-requires-clause-sums c).After-share_in in
    subst (λ (n : ℕ). All (λ sum. nat_abs sum + n * 2 ^ 30 ≤ 2 ^ 62) c.loop-term.sums) (sym m.size)
    (put_room (nat_abs (read c.args.common)) c.args.lows.now c.terms-term-items.result.now c.loop-term.term-index no_term c.loop-term.sums
    c.loop-term-test.true c.loop-term.invariant.put)

pub put_multiple-requires-clause-numbers : goal.put_multiple-requires-clause-numbers
put_multiple-requires-clause-numbers c =
    let l = here (goal.at.put_multiple-requires-clause-numbers c).After-share_in in
    numbers_small c.index-lows-term.result l.small

pub loop-term-preserved : goal.loop-term-preserved
loop-term-preserved c =
    let l = here (goal.at.loop-term-preserved c).After-share_in in
    let m = made (goal.at.loop-term-preserved c).After-share_in in
    let f = read (read (get_or c.terms-term-items.result.now c.loop-term.term-index no_term).coefficient *ℤ read c.share_in.result) in
    let news = c.put_multiple.ensures in
    record {
      count = ap length news ∙ more_long c.loop-term.sums f c.index-lows-term.result.numbers ∙ c.loop-term.invariant.count;
      put = put_more (nat_abs (read c.args.common)) c.args.lows.now c.terms-term-items.result.now c.loop-term.term-index no_term c.loop-term.sums
          c.put_multiple.new.sums c.index-lows-term.result f c.loop-term-test.true l.inside l.is
          (numbers_small c.index-lows-term.result l.small)
          (omega (arith, l.long, c.loop-term.invariant.count))
          m.value news c.loop-term.invariant.put;
    }

pub returns-clause-count : goal.returns-clause-count
returns-clause-count c = c.loop-term.invariant.count

pub returns-clause-numbers : goal.returns-clause-numbers
returns-clause-numbers c k k_in =
    put_all (nat_abs (read c.args.common)) c.args.lows.now c.terms-term-items.result.now c.loop-term.term-index c.loop-term.sums
    c.args.form.now.coefficients c.loop-term-test.false c.terms-term-items.ensures.terms c.requires.count c.loop-term.invariant.put
    k (omega (arith, k_in, c.loop-term.invariant.count))
    ∙ ap (λ (z : ℤ). product_sum c.args.form.now.coefficients (scaled_column (nat_abs z) c.args.lows.now k)) (read_common c.args.common c.requires.common)

pub returns-clause-sizes : goal.returns-clause-sizes
returns-clause-sizes c =
    put_within (nat_abs (read c.args.common)) c.args.lows.now c.terms-term-items.result.now c.loop-term.term-index c.loop-term.sums c.loop-term.invariant.put
