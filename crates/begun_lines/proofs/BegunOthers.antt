-- What the lines of a text begin with that is no answer's.
use Rattle.std.proofs.Common.{◌≡◌, ℕ, ◌≤◌, ◌⊎◌, ◌↔◌, List, ◌++◌, length, codes, refl, arith, inl, inr, Some, None, length-append}
use Rattle.cost_base.specs.Decimal.{decimal}
use Rattle.answer_lines.specs.declared.other_text.OtherText.{OtherText}
use Rattle.answer_lines.specs.declared.other_text.OtherText.TheVariants.{Total, Spread, Change}
use Rattle.answer_lines.specs.Grammar.{AtOtherVerdict, AtOtherCosts, AtRows, AtRow, AtSections, AtSectionsEnd, AtUnread, IsFrontAndNumber, IsPlainVerdict, costs_front, no_costs_line, greatest_of_costs}
use Rattle.answer_lines.specs.Places.{BeginsLawful}
use Rattle.begun_lines.specs.Begun.{IsLineFront, BeginsNumber, BeginsOne}
use Rattle.begun_lines.proofs.BegunPlaces.{begins-from, short_number}

-- the fronts of costs are short, and the numbers behind them not too great
front_small : (text : OtherText) → length (costs_front text) ≤ 100
front_small Total = omega arith
front_small Spread = omega arith
front_small Change = omega arith

greatest_small : (text : OtherText) → greatest_of_costs text ≤ 18446744073709551615
greatest_small Total = omega arith
greatest_small Spread = omega arith
greatest_small Change = omega arith

pub other_costs-begun : (text : OtherText) (rest : List ℕ) →
    (IsLineFront rest (no_costs_line text) ⊎ BeginsNumber rest (costs_front text) (greatest_of_costs text)) ↔ BeginsLawful (AtOtherCosts text) rest
other_costs-begun text rest = (
  λ begun. elim begun [
    | inl line ↦
        begins-from (AtOtherCosts text) (AtSectionsEnd text) rest (no_costs_line text) (inl (refl, refl))
        (omega (arith, front_small text, length-append (costs_front text) (codes "none"))) line
    | inr number ↦
        begins-from (AtOtherCosts text) (AtSections (Some text) None) rest (costs_front text ++ decimal number.0)
        (inr ((number.0, number.1, refl), refl))
        (omega (arith, short_number (costs_front text) number.0 (front_small text) (omega (arith, number.1, greatest_small text)))) number.2
  ],
  λ begins. elim begins.1.1.is [ inl none ↦ inl (begins.0, none.0) | inr some ↦ inr (some.0.0, some.0.1, (begins.0, some.0.2)) ],
)

-- the line of the number of rows, as an answer has it
rows-from : (rest more : List ℕ) → IsFrontAndNumber (codes "rows ") 18446744073709551615 (rest ++ more) → length (rest ++ more) ≤ 65536 →
    BeginsLawful AtRows rest
rows-from rest more said short =
    (more, (AtRow said.0, record { is = record { count = said.0; bounds = omega (arith, said.1); is = said.2; leads = refl }; short = short }))

-- the number of rows is begun as it is in an answer
pub rows-end : (text : OtherText) (rest : List ℕ) → (text ≡ Spread) ⊎ (text ≡ Change) → BeginsLawful AtRows rest ↔ BeginsLawful (AtSectionsEnd text) rest
rows-end text rest other = (λ begins. forth text other begins, λ begins. back text other begins)
  where
    forth : (text : OtherText) → (text ≡ Spread) ⊎ (text ≡ Change) → BeginsLawful AtRows rest → BeginsLawful (AtSectionsEnd text) rest
    forth Total (inl is) begins = cc
    forth Total (inr is) begins = cc
    forth Spread other begins = (
      begins.0,
      (AtUnread 0, record { is = ((begins.1.1.is.count, omega (arith, begins.1.1.is.bounds), begins.1.1.is.is), refl); short = begins.1.1.short }),
    )
    forth Change other begins = (
      begins.0,
      (AtUnread 0, record { is = ((begins.1.1.is.count, omega (arith, begins.1.1.is.bounds), begins.1.1.is.is), refl); short = begins.1.1.short }),
    )

    back : (text : OtherText) → (text ≡ Spread) ⊎ (text ≡ Change) → BeginsLawful (AtSectionsEnd text) rest → BeginsLawful AtRows rest
    back Total (inl is) begins = cc
    back Total (inr is) begins = cc
    back Spread other begins = rows-from rest begins.0 begins.1.1.is.0 begins.1.1.short
    back Change other begins = rows-from rest begins.0 begins.1.1.is.0 begins.1.1.short

-- a number of changes, or a verdict without a number
pub change-begun : (rest : List ℕ) →
    (BeginsNumber rest (codes "verdict fewest ") 4294967295 ⊎ BeginsOne IsPlainVerdict rest) ↔ BeginsLawful (AtOtherVerdict Change) rest
change-begun rest = (
  λ begun. elim begun [
    | inl number ↦
        begins-from (AtOtherVerdict Change) (AtOtherCosts Change) rest (codes "verdict fewest " ++ decimal number.0)
        (inl (number.0, number.1, refl), refl)
        (omega (arith, short_number (codes "verdict fewest ") number.0 (omega arith) (omega (arith, number.1)))) number.2
    | inr plain ↦ (plain.0, (AtOtherCosts Change, record { is = (inr plain.1, refl); short = plain-short (rest ++ plain.0) plain.1 }))
  ],
  λ begins. elim begins.1.1.is.0 [ inl number ↦ inl (number.0, number.1, (begins.0, number.2)) | inr plain ↦ inr (begins.0, plain) ],
)
  where
    plain-short : (line : List ℕ) → IsPlainVerdict line → length line ≤ 65536
    plain-short line (inl is) = rw is (omega arith)
    plain-short line (inr is) = rw is (omega arith)
