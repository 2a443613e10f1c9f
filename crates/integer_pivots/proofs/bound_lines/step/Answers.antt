-- The greater of the greatest number and the denominator.
use Rattle.std.proofs.Common.{◌≡◌, ◌≤◌, ◌^◌, ◌∙◌, ap, subst, sym, arith}
use Rattle.std.specs.Prelude.{pos, nat_abs}
use Rattle.std.proofs.Math.Nat.{max-eq_left, max-eq_right}
use Rattle.std.proofs.lemmas.Int.{ints}
use Rattle.whole_numbers.proofs.Sizes.{positive_is}
use Rattle.integer_pivots.specs.Numbers.{AllWithin, greatest_of}
use Rattle.integer_pivots.proofs.Sizes.{read, read_number, size_most}
use Rattle.integer_pivots.proofs.TurnLaws.{greatest_is}
use Rattle.integer_pivots.proofs.LineReads.{numbers_small, pos_size}
use Rattle.integer_pivots.proofs.bound_lines.step.Goals.{After-greatest-most}
use Rattle.integer_pivots.proofs.bound_lines.step.Goals as goal

module _ (c : After-greatest-most) where
  most_is : nat_abs c.greatest-most.result ≡ greatest_of c.args.line.now.numbers
  most_is =
      greatest_is c.args.line.now.numbers (nat_abs c.greatest-most.result)
      (subst (AllWithin (nat_abs c.greatest-most.result)) c.as_slice.ensures c.greatest-most.ensures.within)
      (λ m within. c.greatest-most.ensures.least m (subst (AllWithin m) (sym c.as_slice.ensures) within))

  most_small : nat_abs c.greatest-most.result ≤ 2 ^ 30
  most_small =
      c.greatest-most.ensures.least (2 ^ 30)
      (subst (AllWithin (2 ^ 30)) (sym c.as_slice.ensures) (numbers_small c.args.line.now c.requires.line))

  most_read : read c.greatest-most.result ≡ pos (greatest_of c.args.line.now.numbers)
  most_read =
      read_number c.greatest-most.result (omega (arith, most_small))
      ∙ sym (pos_size c.greatest-most.result c.greatest-most.ensures.from_zero)
      ∙ ap pos most_is

  denominator_read : read c.args.line.now.denominator ≡ pos (nat_abs c.args.line.now.denominator)
  denominator_read =
      let l = c.requires.line in
      read_number c.args.line.now.denominator (omega (arith, size_most c.args.line.now.denominator (2 ^ 30) l.positive l.denominator))
      ∙ positive_is c.args.line.now.denominator l.positive

pub returns-then-most-line-clause-exact : goal.returns-then-most-line-clause-exact
returns-then-most-line-clause-exact c =
    let a = (goal.at.returns-then-most-line-clause-exact c).After-greatest-most in
    let less : greatest_of c.args.line.now.numbers ≤ nat_abs c.args.line.now.denominator =
    omega (arith, ints, c.if-most-line.true, most_read a, denominator_read a) in
    denominator_read a ∙ ap pos (sym (max-eq_right less))

pub returns-else-most-line-clause-exact : goal.returns-else-most-line-clause-exact
returns-else-most-line-clause-exact c =
    let a = (goal.at.returns-else-most-line-clause-exact c).After-greatest-most in
    let less : nat_abs c.args.line.now.denominator ≤ greatest_of c.args.line.now.numbers =
    omega (arith, ints, c.if-most-line.false, most_read a, denominator_read a) in
    most_read a ∙ ap pos (sym (max-eq_left less))
