-- Numbers that are printed are read back.
use Rattle.std.proofs.Common.{cond, nat_le, Bool, true, false, ◌≡◌, ◌<◌, ◌≤◌, ◌^◌, ℕ, List, [], ◌∷◌, ◌≢◌, length, leb, ◌&&◌, refl, ap, ◌∙◌, arith, Some, None}
use Rattle.std.proofs.lemmas.Bool.{leb-true, and_from, le-leb, cond-true}
use Rattle.std.specs.List.{list_all}
use Rattle.cost_base.specs.Decimal.{is_digit, decimal, decimal_value}
use Rattle.text_lines.specs.Numbers.{number, number_within}
use Rattle.text_lines.proofs.Digits.{length-decimal-le}
use Rattle.text_lines.proofs.Printed.{decimal-digits, decimal_value-decimal}
use Rattle.text_lines.proofs.WordLaws.{decimal-word}

-- a number has a digit
pub length-decimal-some : (n : ℕ) → 1 ≤ length (decimal n)
length-decimal-some n = some (decimal n) (decimal-word n).some
  where
    some : (s : List ℕ) → s ≢ [] → 1 ≤ length s
    some [] h = absurd (h refl)
    some (c ∷ cs) h = omega arith

-- the digits of a number below 10 ^ most, up to the greatest, are that number
pub number_within-decimal : (most greatest n : ℕ) → 1 ≤ most → n < 10 ^ most → n ≤ greatest → number_within most greatest (decimal n) ≡ Some n
number_within-decimal most greatest n some small bound =
    let d = decimal n in
    cond-true (leb 1 (length d) && leb (length d) most && list_all is_digit d && leb (decimal_value d) greatest) (Some (decimal_value d)) None
    (and_from (leb 1 (length d) && leb (length d) most && list_all is_digit d) (leb (decimal_value d) greatest)
    (and_from (leb 1 (length d) && leb (length d) most) (list_all is_digit d)
    (and_from (leb 1 (length d)) (leb (length d) most) (le-leb 1 (length d) (length-decimal-some n))
    (le-leb (length d) most (length-decimal-le most n some small)))
    (decimal-digits n))
    (le-leb (decimal_value d) greatest (omega (arith, decimal_value-decimal n))))
    ∙ ap Some (decimal_value-decimal n)

-- a number that is printed is read back
pub number-decimal : (n greatest : ℕ) → n ≤ greatest → greatest < 10 ^ 10 → number (decimal n) greatest ≡ Some n
number-decimal n greatest bound small = number_within-decimal 10 greatest n (omega arith) (omega arith) bound

-- a number within bounds is at most the greatest
pub number_within-le : (most greatest : ℕ) (text : List ℕ) (n : ℕ) → number_within most greatest text ≡ Some n → n ≤ greatest
number_within-le most greatest text n is =
    cases (nat_le 1 (length text) && nat_le (length text) most && list_all is_digit text)
    (leb (decimal_value text) greatest) refl is
  where
    cases : (a b : Bool) → leb (decimal_value text) greatest ≡ b → cond (a && b) (Some (decimal_value text)) None ≡ Some n → n ≤ greatest
    cases true true small h = let same : decimal_value text ≡ n = cc in omega (arith, leb-true (decimal_value text) greatest small)
    cases true false small h = absurd (cc)
    cases false b small h = absurd (cc)
