-- 1 goes into 1 once; else the quotient is exact.
use Rattle.std.proofs.Common.{◌≡◌, ◌/◌, ◌^◌, sym, ◌∙◌, ap, subst, w64, to_z, of_z}
use Rattle.std.specs.Prelude.{ℤ, pos, ◌*ℤ◌, ◌≤ℤ◌, nat_abs}
use Rattle.std.specs.Int.Signed.{quot_z}
use Rattle.std.proofs.lemmas.Int.{to_z-of_z}
use Rattle.integer_pivots.proofs.ShareLaws.{share_most, share_one, share_positive, share_read, share_times}
use Rattle.integer_pivots.proofs.shares.share_in.Goals as goal
use Rattle.integer_pivots.proofs.shares.share_in.Goals.{Else-common-eq1, Then-common-eq1}

one : (c : Then-common-eq1) → pos 1 ≡ pos (nat_abs c.args.common / nat_abs c.args.denominator)
one c =
    share_one c.args.common c.args.denominator (sym (to_z-of_z w64 c.args.common c.ranges.common) ∙ ap (to_z w64) c.if-common-eq1.true)
    c.requires.denominator c.requires.divides

pub returns-then-common-eq1-clause-share : goal.returns-then-common-eq1-clause-share
returns-then-common-eq1-clause-share c = one (goal.at.returns-then-common-eq1-clause-share c).Then-common-eq1

pub returns-then-common-eq1-clause-times : goal.returns-then-common-eq1-clause-times
returns-then-common-eq1-clause-times c =
    ap (λ (z : ℤ). z *ℤ c.args.denominator) (one (goal.at.returns-then-common-eq1-clause-times c).Then-common-eq1)
    ∙ share_times c.args.common c.args.denominator c.requires.common.0 c.requires.denominator c.requires.divides

read_is : (c : Else-common-eq1) →
    to_z w64 (of_z w64 (quot_z (to_z w64 (of_z w64 c.args.common)) (to_z w64 (of_z w64 c.args.denominator))))
    ≡ pos (nat_abs c.args.common / nat_abs c.args.denominator)
read_is c = share_read c.args.common c.args.denominator c.requires.common.0 c.requires.common.1 c.requires.denominator c.requires.divides

pub returns-clause-share : goal.returns-clause-share
returns-clause-share c = read_is (goal.at.returns-clause-share c).Else-common-eq1

pub returns-clause-times : goal.returns-clause-times
returns-clause-times c =
    ap (λ (z : ℤ). z *ℤ c.args.denominator) (read_is (goal.at.returns-clause-times c).Else-common-eq1)
    ∙ share_times c.args.common c.args.denominator c.requires.common.0 c.requires.denominator c.requires.divides

pub returns-clause-positive : goal.returns-clause-positive
returns-clause-positive c =
    subst (λ (z : ℤ). pos 1 ≤ℤ z) (sym (read_is (goal.at.returns-clause-positive c).Else-common-eq1))
    (share_positive c.args.common c.args.denominator c.requires.common.0 c.requires.divides)

pub returns-clause-size : goal.returns-clause-size
returns-clause-size c =
    subst (λ (z : ℤ). z ≤ℤ pos (2 ^ 30)) (sym (read_is (goal.at.returns-clause-size c).Else-common-eq1))
    (share_most c.args.common c.args.denominator c.requires.common.0 c.requires.common.1)
