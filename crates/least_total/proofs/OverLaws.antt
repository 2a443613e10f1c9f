-- The form of the total at a point.
use Rattle.std.proofs.Common.{◌≡◌, ℕ, ◌*◌, ◌<◌, ◌≤◌, refl, sym, subst, length, arith, Bool, nat_lt, inl, inr}
use Rattle.std.specs.Prelude.{ℤ, pos, negsuc, ◌+ℤ◌, ◌*ℤ◌, ◌<ℤ◌, ◌≤ℤ◌, MatchBool, replicate}
use Rattle.std.proofs.lemmas.Int.{ints}
use Rattle.std.proofs.lemmas.Bool.{cases_lt, lt-ltb, le-ltb}
use Rattle.area_graph.specs.declared.Point.{Point}
use Rattle.design_problem.specs.Forms.{dot, value_at}
use Rattle.least_total.specs.Totals.{total, total_form}
use Rattle.least_total.specs.BoundedLaws.{minus_sum}

value_below : (most scale s : ℕ) (d : ℤ) → (d +ℤ pos s) ≡ pos 0 → most * scale < s → ((pos most *ℤ pos scale) +ℤ d) <ℤ pos 0
value_below most scale s d same over = let product : (pos most *ℤ pos scale) ≡ pos (most * scale) = refl in omega (arith, ints, product)

value_from : (most scale s : ℕ) (d : ℤ) → (d +ℤ pos s) ≡ pos 0 → s ≤ most * scale → pos 0 ≤ℤ ((pos most *ℤ pos scale) +ℤ d)
value_from most scale s d same within = let product : (pos most *ℤ pos scale) ≡ pos (most * scale) = refl in omega (arith, ints, product)

pub over_tells : (point : Point) (most wide sum : ℕ) → wide ≡ most → sum ≡ total point.values →
    MatchBool (nat_lt (wide * point.scale) sum) (value_at (total_form (length point.values) most) point <ℤ pos 0)
    (pos 0 ≤ℤ value_at (total_form (length point.values) most) point)
over_tells point most wide sum same sum_is =
    let n = length point.values in
    let d = dot (replicate n (negsuc 0)) point.values in
    let minus : (d +ℤ pos sum) ≡ pos 0 = subst (λ (s : ℕ). (d +ℤ pos s) ≡ pos 0) (sym sum_is) (minus_sum n point.values refl) in
    let Tells : Bool → Type 0 = λ b. MatchBool b (value_at (total_form n most) point <ℤ pos 0) (pos 0 ≤ℤ value_at (total_form n most) point) in
    subst (λ (m : ℕ). Tells (nat_lt (m * point.scale) sum)) (sym same)
    (elim (cases_lt (most * point.scale) sum) [
      | inl over ↦ subst Tells (sym (lt-ltb (most * point.scale) sum over)) (value_below most point.scale sum d minus over)
      | inr within ↦ subst Tells (sym (le-ltb (most * point.scale) sum within)) (value_from most point.scale sum d minus within)
    ])
