use Rattle.std.proofs.Common.{subst, rules}
use Rattle.whole_numbers.specs.Fractions.{Fraction, negated, plus, numbers_of_sum}
use Rattle.wide_fraction.specs.Widths.{IsExactOrTooWide}
use Rattle.wide_fraction.proofs.steps.sub.Goals.{After-sum}
use Rattle.wide_fraction.proofs.steps.sub.Goals as goal

-- the answer tells of the negated fraction
told : (c : After-sum) → IsExactOrTooWide c.args.top (numbers_of_sum c.args.left (negated c.args.right)) (plus c.args.left (negated c.args.right)) c.sum.result
told c = subst (λ (q : Fraction). IsExactOrTooWide c.args.top (numbers_of_sum c.args.left q) (plus c.args.left q) c.sum.result) c.negated.ensures c.sum.ensures

pub returns-clause-fits : goal.returns-clause-fits
returns-clause-fits c =
    let answer = told (goal.at.returns-clause-fits c).After-sum in
    search rules

pub returns-clause-wide : goal.returns-clause-wide
returns-clause-wide c =
    let answer = told (goal.at.returns-clause-wide c).After-sum in
    search rules
