use Rattle.std.proofs.Common.{◌≡◌, ℕ, sym, ◌∙◌, ap}
use Rattle.std.specs.Prelude.{pos, ◌*ℤ◌}
use Rattle.std.specs.Ordering.{int_cmp}
use mathlib.Core.Path.{ap₂}
use Rattle.whole_numbers.specs.Fractions.{Fraction, order}
use Rattle.whole_numbers.proofs.Orders.{scaled_cmp, order_ranks}
use Rattle.wide_fraction.proofs.order.cmp.Goals as goal
use Rattle.wide_fraction.proofs.order.cmp.Goals.{After-cmp}

-- fractions over one denominator are ordered as their numerators
value : (c : After-cmp) → c.cmp.result ≡ order c.args.left c.args.right
value c =
    let n = c.left.inside.numerator in
    let m = c.right.inside.numerator in
    c.cmp.ensures ∙ scaled_cmp n m c.right.inside.denominator c.right.invariant.lowest.positive
    ∙ ap (λ (k : ℕ). int_cmp (n *ℤ pos c.right.inside.denominator) (m *ℤ pos k)) (sym c.if-left-right.true)
    ∙ ap₂ (λ (p q : Fraction). order p q) c.left.view_is c.right.view_is

pub returns-then-left-right-clause-value : goal.returns-then-left-right-clause-value
returns-then-left-right-clause-value c = value c

pub returns-then-left-right-clause-ranks : goal.returns-then-left-right-clause-ranks
returns-then-left-right-clause-ranks c = order_ranks c.args.left c.args.right c.cmp.result (value c)
