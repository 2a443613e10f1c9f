-- One more number is multiplied, and those up to the next mark are 0.
use Rattle.std.proofs.Common.{◌≡◌, ℕ, ◌≤◌, sym, ◌∙◌, ap, List, arith, rules}
use Rattle.std.specs.Prelude.{ℤ, pos, ◌*ℤ◌}
use Rattle.whole_numbers.specs.Lists.{number_at}
use Rattle.integer_pivots.proofs.Sizes.{read}
use Rattle.std.proofs.lemmas.List.{get_or-set_other}
use Rattle.integer_pivots.proofs.WrittenPlaces.{AreWritten}
use Rattle.integer_pivots.proofs.MarkedWalks.{walk_goes_on}
use Rattle.integer_pivots.proofs.turned_line.multiply_first.Goals as goal

pub loop-column-preserved : goal.loop-column-preserved
loop-column-preserved c =
    let i = c.loop-column.column in
    let olds = c.args.numbers.now in
    let P = λ (k : ℕ) (z : ℤ). z ≡ (read c.args.multiplier *ℤ number_at olds k) in
    let next = c.next-column-in-loop-column.result in
    let on : AreWritten P (pos 0) olds next c.set.new.self = walk_goes_on P olds i c.loop-column.numbers c.set.new.self _ next
    c.loop-column.invariant.written (omega (arith, c.loop-column-test.true, c.requires.count)) (search rules)
    c.set.ensures c.next-column-in-loop-column.ensures.from c.next-column-in-loop-column.ensures.passed
    (λ k none. none ∙ sym (ap (λ (z : ℤ). read c.args.multiplier *ℤ z) none ∙ lib.IntN.*ℤ-zero (read c.args.multiplier))) in
    record {
      written = on;
      passed = λ k behind before. sym (kept k behind) ∙ c.next-column-in-loop-column.ensures.passed k (omega (arith, behind, c.loop-column-test.true)) before;
    }
  where
    kept : (k : ℕ) → c.args.count ≤ k → number_at c.set.new.self k ≡ number_at c.args.numbers.now k
    kept k behind =
        ap (λ (xs : List ℤ). number_at xs k) c.set.ensures
        ∙ get_or-set_other c.loop-column.numbers c.loop-column.column k _ (pos 0) (λ same. absurd (omega (arith, same, behind, c.loop-column-test.true)))
        ∙ c.loop-column.invariant.written.rest k (omega (arith, behind, c.loop-column-test.true))
