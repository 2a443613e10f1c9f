-- The steps of a pivot are steps of the basis.
use Rattle.std.proofs.Common.{◌≡◌, ◌≢◌, ℕ, zero, suc, ◌+◌, ◌<◌, cond, sym, ◌∙◌, ap, subst, List, [], ◌∷◌, length, arith, inl, inr, zero-add}
use Rattle.std.specs.Prelude.{pos, ◌==◌, Any}
use Rattle.std.proofs.lemmas.Bool.{cases_eq, eq-eqb, ne_eqb}
use Rattle.cost_base.specs.declared.StepName.{StepName}
use Rattle.cost_base.specs.declared.StepName.TheVariants.{Sub, Mul, Div}
use Rattle.whole_numbers.specs.Fractions.{Fraction, divided, numbers_of_step, times, whole}
use Rattle.design_problem.specs.declared.form.Form.{Form}
use Rattle.design_problem.specs.declared.boxes.CostBox.{CostBox}
use Rattle.design_problem.specs.declared.tree.Member.{Member}
use Rattle.design_problem.specs.Basis.{HasEntries, IsFormOf, entry}
use Rattle.design_problem.specs.Steps.{IsPivot, IsTableStep}
use Rattle.design_problem.specs.Steps.IsTableStep.{pivot_quotient, pivot_inverse, pivot_product, pivot_inverse_product, pivot_difference}
use Rattle.fraction_lines.specs.TableLines.{AreTableNumbers, IsCrossStep, IsDivideStep, divided_without, nothing}
use Rattle.fraction_lines.specs.TableLines.IsCrossStep.{product, difference}
use Rattle.fraction_lines.specs.TableLines.IsDivideStep.{quotient}
use Rattle.fraction_lines.specs.Turns.{IsQuotientStepOf, IsTurnStep}
use Rattle.fraction_lines.specs.Turns.IsQuotientStepOf.{dividing, inverting}
use Rattle.fraction_lines.specs.Turns.IsTurnStep.{crossing, entering}
use Rattle.fraction_lines.proofs.ZeroFractions.{times_nothing}
use Rattle.fraction_lines.proofs.TableLineLaws.{number_at}
use Rattle.fraction_lines.proofs.NoStep.{no_difference, no_product}

-- A line of the table at a basis: the entries of a form of the box, in numbers of the table.
pub record IsFormLine (top : ℕ) (costs : CostBox) (rows : List Form) (basis : List Member) (member : Member) (line : List Fraction) : Type 0 where
  pub form : IsFormOf costs rows member
  pub entries : HasEntries costs rows basis member line
  pub count : length line ≡ suc (length basis)
  pub numbers : AreTableNumbers top line

-- a division of the pivot's line
pub quotient_is_step : (top : ℕ) (costs : CostBox) (rows : List Form) (basis : List Member)
    (lows : List (List Fraction)) (r : Member) (es : List Fraction) (j : ℕ) → IsFormLine top costs rows basis r es →
    IsPivot basis es j → (step : StepName) (left right : Fraction) → IsQuotientStepOf es j step left right →
    IsTableStep costs rows basis lows step left right
quotient_is_step top costs rows basis lows r es j l p Div left right inverting = pivot_inverse r es j l.form l.entries p
quotient_is_step top costs rows basis lows r es j l p step left right (dividing s a b is) = divide_is s a b is
  where
    divide_is : (made : StepName) (p' q' : Fraction) → IsDivideStep (entry es j) es made p' q' → IsTableStep costs rows basis lows made p' q'
    divide_is made p' q' (quotient place place_in) = pivot_quotient r es j place l.form l.entries p (omega (arith, l.count, place_in))

-- the quotients at a place
quotient_at : (left_out place start : ℕ) (q : Fraction) (es : List Fraction) → place < length es →
    entry (divided_without left_out q es start) place ≡ cond ((start + place) == left_out) nothing
    (divided (entry es place) q)
quotient_at left_out place start q [] place_in = absurd (omega arith)
quotient_at left_out zero start q (e ∷ es) place_in = ap (λ n. cond (n == left_out) nothing (divided e q)) (omega arith)
quotient_at left_out (suc place) start q (e ∷ es) place_in =
    quotient_at left_out place (suc start) q es (omega arith)
    ∙ ap (λ n. cond (n == left_out) nothing (divided (entry es place) q)) (omega arith)

pub quotient_own : (j : ℕ) (q : Fraction) (es : List Fraction) → j < length es → entry (divided_without j q es 0) j ≡ nothing
quotient_own j q es j_in =
    quotient_at j j 0 q es j_in ∙ ap (λ b. cond b nothing (divided (entry es j) q)) (eq-eqb (0 + j) j (zero-add j))

quotient_other : (j place : ℕ) (q : Fraction) (es : List Fraction) → place ≢ j → place < length es →
    entry (divided_without j q es 0) place ≡ divided (entry es place) q
quotient_other j place q es other place_in =
    quotient_at j place 0 q es place_in
    ∙ ap (λ b. cond b nothing (divided (entry es place) q))
    (ne_eqb (0 + place) j (λ same. other (sym (zero-add place) ∙ same)))

-- A crossing of a line with the quotients: a step with a quotient that isn't 0 is one of the basis, and one with 0
-- makes no number that passes the top.
crossing_is_step : (top : ℕ) (costs : CostBox) (rows : List Form) (basis : List Member) (lows : List (List Fraction))
    (r f : Member) (es fs : List Fraction) (j : ℕ) → IsFormLine top costs rows basis r es → IsPivot basis es j →
    IsFormLine top costs rows basis f fs → (step : StepName) (left right : Fraction) →
    IsCrossStep (entry fs j) fs (divided_without j (entry es j) es 0) step left right →
    Any (λ n. top < n) (numbers_of_step step left right) → IsTableStep costs rows basis lows step left right
crossing_is_step top costs rows basis lows r f es fs j l p m step left right (product place place_in) passes =
    elim (cases_eq place j) [
      | inl same ↦
          absurd (no_product top (entry fs j) (number_at top fs j m.numbers (omega (arith, m.count, p.column)))
          (subst (λ (q : Fraction). Any (λ n. top < n) (numbers_of_step Mul (entry fs j) q))
          (ap (entry (divided_without j (entry es j) es 0)) same ∙ quotient_own j (entry es j) es (omega (arith, l.count, p.column))) passes))
      | inr other ↦
          subst (λ (q : Fraction). IsTableStep costs rows basis lows Mul (entry fs j) q)
          (sym (quotient_other j place (entry es j) es other (omega (arith, l.count, m.count, place_in))))
          (pivot_product r f es fs j place l.form l.entries p m.form m.entries (omega (arith, m.count, place_in)))
    ]
crossing_is_step top costs rows basis lows r f es fs j l p m step left right (difference place place_in) passes =
    elim (cases_eq place j) [
      | inl same ↦
          absurd (no_difference top (entry fs place) (number_at top fs place m.numbers place_in)
          (subst (λ (q : Fraction). Any (λ n. top < n) (numbers_of_step Sub (entry fs place) q))
          (ap (λ (q : Fraction). times (entry fs j) q) (ap (entry (divided_without j (entry es j) es 0)) same
          ∙ quotient_own j (entry es j) es (omega (arith, l.count, p.column)))
          ∙ times_nothing (entry fs j) (number_at top fs j m.numbers (omega (arith, m.count, p.column))).lowest.positive) passes))
      | inr other ↦
          subst (λ (q : Fraction). IsTableStep costs rows basis lows Sub (entry fs place) (times (entry fs j) q))
          (sym (quotient_other j place (entry es j) es other (omega (arith, l.count, m.count, place_in))))
          (pivot_difference r f es fs j place l.form l.entries p m.form m.entries (omega (arith, m.count, place_in)))
    ]

pub turn_is_step : (top : ℕ) (costs : CostBox) (rows : List Form) (basis : List Member) (lows : List (List Fraction))
    (r f : Member) (es fs : List Fraction) (j : ℕ) → IsFormLine top costs rows basis r es → IsPivot basis es j →
    IsFormLine top costs rows basis f fs → (step : StepName) (left right : Fraction) →
    IsTurnStep fs (divided_without j (entry es j) es 0) j (divided (whole (pos 1)) (entry es j)) step left right →
    Any (λ n. top < n) (numbers_of_step step left right) → IsTableStep costs rows basis lows step left right
turn_is_step top costs rows basis lows r f es fs j l p m step left right entering passes = pivot_inverse_product r f es fs j l.form l.entries p m.form m.entries
turn_is_step top costs rows basis lows r f es fs j l p m step left right (crossing s a b is) passes =
    crossing_is_step top costs rows basis lows r f es fs j l p m s a b is passes
