-- Fractions that are begun.
use Rattle.std.proofs.Common.{◌≡◌, ◌≢◌, ℕ, zero, suc, ◌+◌, ◌<◌, ◌≤◌, ◌^◌, List, [], ◌∷◌, ◌++◌, All, length, eqb, false, codes, ℤ, pos, negsuc, nat_abs, Option, Some, None, ◌↔◌, refl, sym, ap, subst, ◌∙◌, arith, append_assoc, length-append}
use Rattle.std.proofs.lemmas.Bool.{eq-eqb}
use Rattle.std.proofs.lemmas.List.Elements.{All-head, All-tail}
use Rattle.std.specs.List.{list_all}
use Rattle.cost_base.specs.Decimal.{decimal, is_digit}
use Rattle.design_problem.specs.Text.{integer}
use Rattle.text_lines.specs.Numbers.{split}
use Rattle.text_lines.proofs.NumberLaws.{length-decimal-some}
use Rattle.text_lines.proofs.Printed.{decimal-digits, decimal-same}
use Rattle.whole_numbers.specs.Fractions.{gcd}
use Rattle.whole_numbers.proofs.Divisors.{gcd-one}
use Rattle.begun_lines.specs.BegunLines.{Never, IsLeastCompletion, IsMissing, IsCoprimeInRange, IsNumberInRange, IsRatio}
use Rattle.begun_lines.specs.declared.numbers.Numbers.{Numbers}
use Rattle.answer_lines.proofs.ListParts.{head-is, tail-is, not-both}
use Rattle.answer_lines.proofs.LineFronts.{split-front, split-whole}
use Rattle.answer_lines.proofs.RatioWords.{same_slash, printed-below, lowest_is, integer-same}
use Rattle.begun_lines.proofs.BegunNumbers.{cut_number, extends-le, zero_alone}

-- a word before the slash, and what goes on with it
record BeforeSlash (word other a b : List ℕ) : Type 0 where
  grown : List ℕ
  is : a ≡ word ++ grown
  parts : other ≡ grown ++ 47 ∷ b

before_slash : (word other a b : List ℕ) → All (λ c. eqb c 47 ≡ false) word → word ++ other ≡ a ++ 47 ∷ b → BeforeSlash word other a b
before_slash [] other a b plain e = record { grown = a; is = refl; parts = e }
before_slash (c ∷ cs) other [] b plain e =
    absurd (not-both (eqb c 47) (eq-eqb c 47 (head-is c 47 (cs ++ other) b e)) (All-head (λ x. eqb x 47 ≡ false) c cs plain))
before_slash (c ∷ cs) other (d ∷ ds) b plain e =
    let rest = before_slash cs other ds b (All-tail (λ x. eqb x 47 ≡ false) c cs plain) (tail-is c d (cs ++ other) (ds ++ 47 ∷ b) e) in
    record {
      grown = rest.grown;
      is = ap (λ h. h ∷ ds) (sym (head-is c d (cs ++ other) (ds ++ 47 ∷ b) e)) ∙ ap (λ l. c ∷ l) rest.is;
      parts = rest.parts;
    }

-- a fraction that a word without a slash begins: its numerator begins with the word
record BegunRatio (word other : List ℕ) : Type 0 where
  numerator : ℤ
  small : nat_abs numerator < 2 ^ 127
  grown : List ℕ
  is : integer numerator ≡ word ++ grown
  few : length grown + 2 ≤ length other

begun_ratio : (word other : List ℕ) → split 47 word ≡ word ∷ [] → IsRatio (word ++ other) → BegunRatio word other
begun_ratio word other one ratio =
    let q = ratio.0 in
    let printed = ratio.1 in
    let cut = before_slash word other (integer q.numerator) (integer q.denominator) (split-whole 47 word word [] one) ratio.2 in
    record {
      numerator = q.numerator;
      small = omega (arith, printed.numerator, ap (λ r. nat_abs r.numerator) printed.same);
      grown = cut.grown;
      is = cut.is;
      few =
          omega (
            arith,
            ap length cut.parts,
            length-append cut.grown (47 ∷ integer q.denominator),
            ap (λ z. length (integer z)) (printed-below q printed),
            length-decimal-some printed.fraction.denominator,
          );
    }

-- a whole number is a fraction
whole_ratio : (z : ℤ) → nat_abs z < 2 ^ 127 → IsRatio (integer z ++ codes "/1")
whole_ratio z small = (
  record { numerator = z; denominator = pos 1 },
  (lowest_is z 1 z (pos 1) refl refl (omega arith) (gcd-one (nat_abs z)) small (omega arith)).0,
  refl,
)

integer-some : (z : ℤ) → 1 ≤ length (integer z)
integer-some (pos n) = length-decimal-some n
integer-some (negsuc n) = omega arith

-- an empty word becomes `0/1`
pub least_nothing : IsLeastCompletion IsRatio [] 3
least_nothing = record {
  more = codes "0/1";
  fits = whole_ratio (pos 0) (omega arith);
  count_is = refl;
  least = λ other ratio. let begun = begun_ratio [] other refl ratio in omega (arith, begun.few, integer-some begun.numerator, ap length begun.is);
}

-- a minus becomes `-1/1`
pub least_minus : IsLeastCompletion IsRatio (codes "-") 3
least_minus = record {
  more = codes "1/1";
  fits = whole_ratio (negsuc 0) (omega arith);
  count_is = refl;
  least = λ other ratio. let begun = begun_ratio (codes "-") other refl ratio in omega (arith, begun.few, signed begun.numerator begun.grown begun.is);
}
  where
    signed : (z : ℤ) (grown : List ℕ) → integer z ≡ 45 ∷ grown → 1 ≤ length grown
    signed (pos n) grown e = absurd (not-both (list_all is_digit (decimal n)) (decimal-digits n) (ap (list_all is_digit) e))
    signed (negsuc n) grown e = omega (arith, ap length e, length-decimal-some (n + 1))

-- a whole number becomes a fraction by `/1`
pub least_whole : (word : List ℕ) (z : ℤ) → split 47 word ≡ word ∷ [] → nat_abs z < 2 ^ 127 → word ≡ integer z → IsLeastCompletion IsRatio word 2
least_whole word z one small is = record {
  more = codes "/1";
  fits = subst (λ w. IsRatio (w ++ codes "/1")) (sym is) (whole_ratio z small);
  count_is = refl;
  least = λ other ratio. let begun = begun_ratio word other one ratio in omega (arith, begun.few);
}

-- a word that is no number begins none, but for a minus
no_integer : (word grown : List ℕ) (z : ℤ) → word ≢ [] → word ≢ codes "-" → nat_abs z < 2 ^ 127 →
    integer z ≡ word ++ grown → (y : ℤ) × (nat_abs y < 2 ^ 127) × (word ≡ integer y)
no_integer word grown (pos n) some sign small e =
    let cut = cut_number (length grown) n word grown refl e some in
    (pos cut.number, omega (arith, extends-le cut.number (length grown) n cut.extends), cut.is)
no_integer [] grown (negsuc n) some sign small e = absurd (some refl)
no_integer (c ∷ cs) grown (negsuc n) some sign small e =
    let minus : 45 ≡ c = head-is 45 c (decimal (n + 1)) (cs ++ grown) e in
    let digits : decimal (n + 1) ≡ cs ++ grown = tail-is 45 c (decimal (n + 1)) (cs ++ grown) e in
    let cut = cut_number (length grown) (n + 1) cs grown refl digits (λ none. sign (ap (λ h. h ∷ cs) (sym minus) ∙ ap (λ l. 45 ∷ l) none)) in
    below_zero cut.number (omega (arith, extends-le cut.number (length grown) (n + 1) cut.extends))
    (ap (λ h. h ∷ cs) (sym minus) ∙ ap (λ l. 45 ∷ l) cut.is) (digits ∙ ap (λ l. l ++ grown) cut.is)
  where
    below_zero : (m : ℕ) → m < 2 ^ 127 → c ∷ cs ≡ 45 ∷ decimal m → decimal (n + 1) ≡ decimal m ++ grown → (y : ℤ) × (nat_abs y < 2 ^ 127) × (c ∷ cs ≡ integer y)
    below_zero zero few is begun =
        let alone : decimal (n + 1) ≡ decimal 0 = begun ∙ ap (λ l. 48 ∷ l) (zero_alone (n + 1) grown begun) in
        absurd (omega (arith, decimal-same (n + 1) 0 alone))
    below_zero (suc m) few is begun =
        let more : suc m ≡ m + 1 = omega arith in
        (negsuc m, omega arith, is ∙ ap (λ k. 45 ∷ decimal k) more)

pub never_whole : (word : List ℕ) → split 47 word ≡ word ∷ [] → word ≢ [] → word ≢ codes "-" →
    ((z : ℤ) → nat_abs z < 2 ^ 127 → word ≢ integer z) → Never IsRatio word
never_whole word one some sign none = λ other ratio.
    let begun = begun_ratio word other one ratio in
    let number = no_integer word begun.grown begun.numerator some sign begun.small begun.is in
    none number.0 number.1 number.2

-- a fraction whose numerator stands: its two numbers
record AroundSlash (above below more : List ℕ) : Type 0 where
  numerator : ℤ
  denominator : ℕ
  above_is : above ≡ integer numerator
  below_is : below ++ more ≡ decimal denominator
  small : nat_abs numerator < 2 ^ 127
  positive : 0 < denominator
  fits : denominator < 2 ^ 127
  coprime : gcd (nat_abs numerator) denominator ≡ 1

around_slash : (word above below more : List ℕ) → word ≡ above ++ 47 ∷ below → split 47 word ≡ above ∷ split 47 below →
    IsRatio (word ++ more) → AroundSlash above below more
around_slash word above below more parts pieces ratio =
    let q = ratio.0 in
    let printed = ratio.1 in
    let longer : word ++ more ≡ above ++ 47 ∷ (below ++ more) = ap (λ w. w ++ more) parts ∙ append_assoc above (47 ∷ below) more in
    let cut : split 47 (word ++ more) ≡ above ∷ split 47 (below ++ more) = ap (split 47) longer
    ∙ split-front 47 above (below ++ more) (split-whole 47 word above (split 47 below) pieces) in
    let around = same_slash (word ++ more) above (below ++ more) q longer cut ratio.2 in
    let same : q.numerator ≡ printed.fraction.numerator = ap (λ r. r.numerator) printed.same in
    record {
      numerator = printed.fraction.numerator;
      denominator = printed.fraction.denominator;
      above_is = around.0 ∙ ap integer same;
      below_is = around.1 ∙ ap integer (printed-below q printed);
      small = printed.numerator;
      positive = printed.lowest.positive;
      fits = printed.denominator;
      coprime = printed.lowest.lowest;
    }

-- before the slash stands no number
pub never_above : (word above below : List ℕ) → word ≡ above ++ 47 ∷ below → split 47 word ≡ above ∷ split 47 below →
    ((z : ℤ) → nat_abs z < 2 ^ 127 → above ≢ integer z) → Never IsRatio word
never_above word above below parts pieces none = λ more ratio.
    let around = around_slash word above below more parts pieces ratio in
    none around.numerator around.small around.above_is

-- what the denominator lacks the fraction lacks
pub missing_below : (word above below : List ℕ) (z : ℤ) (numbers : Numbers) (found : Option ℕ) →
    word ≡ above ++ 47 ∷ below → split 47 word ≡ above ∷ split 47 below → nat_abs z < 2 ^ 127 → above ≡ integer z →
    ((n : ℕ) → (IsCoprimeInRange numbers n ↔ ((0 < n) × (n < 2 ^ 127) × (gcd (nat_abs z) n ≡ 1)))) →
    IsMissing (IsNumberInRange numbers) below found → IsMissing IsRatio word found
missing_below word above below z numbers found parts pieces small is among missing = cases found missing
  where
    denominator : (more : List ℕ) → IsRatio (word ++ more) → IsNumberInRange numbers (below ++ more)
    denominator more ratio =
        let around = around_slash word above below more parts pieces ratio in
        let same : around.numerator ≡ z = integer-same around.numerator z (sym around.above_is ∙ is) in (
          around.denominator,
          (among around.denominator).1 (
            around.positive,
            around.fits,
            ap (λ y. gcd (nat_abs y) around.denominator) (sym same) ∙ around.coprime,
          ),
          around.below_is,
        )

    cases : (found : Option ℕ) → IsMissing (IsNumberInRange numbers) below found → IsMissing IsRatio word found
    cases None never = λ more ratio. never more (denominator more ratio)
    cases (Some count) least =
        let n = least.fits.0 in
        let fits = (among n).0 least.fits.1 in
        record {
          more = least.more;
          fits = (
            record { numerator = z; denominator = pos n },
            (lowest_is z n z (pos n) refl refl fits.0 fits.2 small fits.1).0,
            ap (λ w. w ++ least.more) parts ∙ append_assoc above (47 ∷ below) least.more
                ∙ ap (λ a. a ++ 47 ∷ (below ++ least.more)) is ∙ ap (λ d. integer z ++ 47 ∷ d) least.fits.2,
          );
          count_is = least.count_is;
          least = λ other ratio. least.least other (denominator other ratio);
        }
