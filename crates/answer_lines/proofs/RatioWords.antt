-- Fractions and their words.
use Rattle.std.proofs.Common.{◌≡◌, ◌≢◌, ℕ, ◌+◌, ◌<◌, List, [], ◌∷◌, ◌++◌, All, eqb, true, false, ℤ, pos, negsuc, nat_abs, MatchOption, Option, Some, None, arith, refl, sym, ap, ◌∙◌}
use Rattle.std.specs.List.{list_all}
use Rattle.cost_base.specs.Decimal.{decimal, is_digit}
use Rattle.design_problem.specs.Text.{integer}
use Rattle.text_lines.proofs.Printed.{decimal-digits}
use Rattle.std.proofs.Common.{◌≤◌, ◌^◌, leb}
use Rattle.std.proofs.lemmas.Bool.{and_parts, leb-true, ne_eqb}
use Rattle.std.proofs.lemmas.List.{append_cancel_left}
use Rattle.std.proofs.lemmas.List.Elements.{All-nil, All-cons}
use Rattle.cost_base.specs.declared.Ratio.{Ratio}
use Rattle.design_problem.specs.Text.{ratio_word, IsPrintedRatio}
use Rattle.whole_numbers.specs.Fractions.{gcd}
use Rattle.text_lines.specs.Numbers.{split}
use Rattle.text_lines.proofs.Pieces.{split-some}
use Rattle.text_lines.proofs.Printed.{decimal-same}
use Rattle.answer_lines.proofs.LineFronts.{split-front}
use Rattle.answer_lines.proofs.ListParts.{head-is, tail-is, not-both}

negative_none : (m : ℕ) (word digits : List ℕ) → word ≡ 45 ∷ digits → ((n : ℕ) → n + 1 < m → digits ≢ decimal (n + 1)) →
    (z : ℤ) → nat_abs z < m → word ≢ integer z
negative_none m word digits is h (pos n) small e = not-both (list_all is_digit word) (ap (list_all is_digit) e ∙ decimal-digits n) (ap (list_all is_digit) is)
negative_none m word digits is h (negsuc n) small e = h n (omega arith) (tail-is 45 45 digits (decimal (n + 1)) (sym is ∙ e))

-- a number below 0 by its digits
pub negative_is : (m : ℕ) (word digits : List ℕ) (r : Option ℤ) → word ≡ 45 ∷ digits →
    MatchOption r ((n : ℕ) → n + 1 < m → digits ≢ decimal (n + 1)) (λ z. (n : ℕ) × (z ≡ negsuc n) × (n + 1 < m) × (digits ≡ decimal (n + 1))) →
    MatchOption r ((z : ℤ) → nat_abs z < m → word ≢ integer z) (λ z. (nat_abs z < m) × (word ≡ integer z))
negative_is m word digits None is h = negative_none m word digits is h
negative_is m word digits (Some z) is h = rw h.1 (omega (arith, h.2), is ∙ ap (λ ds. 45 ∷ ds) h.3)

-- a number whose word doesn't begin with a minus is its digits
pub positive_none : (m : ℕ) (word : List ℕ) → ((rest : List ℕ) → word ≢ 45 ∷ rest) →
    ((n : ℕ) → n < m → word ≢ decimal n) → (z : ℤ) → nat_abs z < m → word ≢ integer z
positive_none m word other h (pos n) small e = h n small e
positive_none m word other h (negsuc n) small e = other (decimal (n + 1)) e

digits-unslashed : (ds : List ℕ) → list_all is_digit ds ≡ true → All (λ c. eqb c 47 ≡ false) ds
digits-unslashed [] digits = All-nil (λ c. eqb c 47 ≡ false)
digits-unslashed (c ∷ cs) digits =
    let parts = and_parts (is_digit c) (list_all is_digit cs) digits in
    let low : 48 ≤ c = leb-true 48 c (and_parts (leb 48 c) (leb c 57) parts.0).0 in
    All-cons (λ x. eqb x 47 ≡ false) c cs (ne_eqb c 47 (λ e. omega arith)) (digits-unslashed cs parts.1)

pub integer-unslashed : (z : ℤ) → All (λ c. eqb c 47 ≡ false) (integer z)
integer-unslashed (pos n) = digits-unslashed (decimal n) (decimal-digits n)
integer-unslashed (negsuc n) = All-cons (λ x. eqb x 47 ≡ false) 45 (decimal (n + 1)) refl (digits-unslashed (decimal (n + 1)) (decimal-digits (n + 1)))

-- a word without a slash is no fraction
pub no_slash : (word : List ℕ) → split 47 word ≡ word ∷ [] → (q : Ratio) → IsPrintedRatio q → word ≢ ratio_word q
no_slash word one q printed e =
    let cut : split 47 word ≡ integer q.numerator ∷ split 47 (integer q.denominator) = ap (split 47) e
    ∙ split-front 47 (integer q.numerator) (integer q.denominator) (integer-unslashed q.numerator) in
    split-some 47 (integer q.denominator) (tail-is _ _ _ _ (sym cut ∙ one))

-- a fraction's word around its slash
pub same_slash : (word above below : List ℕ) (q : Ratio) → word ≡ above ++ 47 ∷ below →
    split 47 word ≡ above ∷ split 47 below → word ≡ ratio_word q → (above ≡ integer q.numerator)
    × (below ≡ integer q.denominator)
same_slash word above below q parts pieces e =
    let cut : split 47 word ≡ integer q.numerator ∷ split 47 (integer q.denominator) = ap (split 47) e
    ∙ split-front 47 (integer q.numerator) (integer q.denominator) (integer-unslashed q.numerator) in
    let front : above ≡ integer q.numerator = head-is _ _ _ _ (sym pieces ∙ cut) in (
      front,
      tail-is 47 47 below (integer q.denominator)
          (append_cancel_left above (47 ∷ below) (47 ∷ integer q.denominator) (sym parts ∙ e ∙ ap (λ l. l ++ 47 ∷ integer q.denominator) (sym front))),
    )

pub integer-same : (y z : ℤ) → integer y ≡ integer z → y ≡ z
integer-same (pos n) (pos m) e = ap pos (decimal-same n m e)
integer-same (pos n) (negsuc m) e = absurd (not-both (list_all is_digit (decimal n)) (decimal-digits n) (ap (list_all is_digit) e))
integer-same (negsuc n) (pos m) e = absurd (not-both (list_all is_digit (decimal m)) (decimal-digits m) (ap (list_all is_digit) (sym e)))
integer-same (negsuc n) (negsuc m) e =
    let same : n + 1 ≡ m + 1 = decimal-same (n + 1) (m + 1) (tail-is 45 45 (decimal (n + 1)) (decimal (m + 1)) e) in
    let less : n ≡ m = omega arith in
    ap negsuc less

-- a printed fraction's numbers
pub printed-above : (q : Ratio) → IsPrintedRatio q → nat_abs q.numerator < 2 ^ 127
printed-above q p = omega (arith, p.numerator, ap (λ r. nat_abs r.numerator) p.same)

pub printed-below : (q : Ratio) (p : IsPrintedRatio q) → q.denominator ≡ pos p.fraction.denominator
printed-below q p = ap (λ r. r.denominator) p.same

-- what the numbers around a slash say of the word
pub ratio_found : (word above below : List ℕ) (numerator : ℤ) (denominator : ℕ) (r : Option Ratio) →
    word ≡ above ++ 47 ∷ below → split 47 word ≡ above ∷ split 47 below →
    above ≡ integer numerator → below ≡ decimal denominator →
    MatchOption r ((q : Ratio) → IsPrintedRatio q → q.numerator ≡ numerator → q.denominator ≡ pos denominator → ⊥)
    (λ q. IsPrintedRatio q × (q.numerator ≡ numerator) × (q.denominator ≡ pos denominator)) →
    MatchOption r ((q : Ratio) → IsPrintedRatio q → word ≢ ratio_word q) (λ q. IsPrintedRatio q × (word ≡ ratio_word q))
ratio_found word above below numerator denominator None parts pieces first second h =
    λ q printed e.
    let around = same_slash word above below q parts pieces e in
    h q printed (integer-same q.numerator numerator (sym around.0 ∙ first)) (integer-same q.denominator (pos denominator) (sym around.1 ∙ second))
ratio_found word above below numerator denominator (Some q) parts pieces first second h =
    (h.0, parts ∙ ap (λ l. l ++ 47 ∷ below) (first ∙ ap integer (sym h.1)) ∙ ap (λ l. integer q.numerator ++ 47 ∷ l) (second ∙ ap integer (sym h.2)))

-- two numbers without a common divisor are a printed fraction
pub lowest_is : (n : ℤ) (d : ℕ) (a b : ℤ) → a ≡ n → b ≡ pos d → 0 < d → gcd (nat_abs n) d ≡ 1 → nat_abs n < 2 ^ 127 →
    d < 2 ^ 127 → IsPrintedRatio (record { numerator = a; denominator = b }) × (a ≡ n) × (b ≡ pos d)
lowest_is n d a b first second some apart above below = (
  record {
    fraction = record { numerator = n; denominator = d };
    same = ap (λ (x : ℤ). record { numerator = x; denominator = b }) first ∙ ap (λ (x : ℤ). record { numerator = n; denominator = x }) second;
    lowest = record { positive = some; lowest = apart };
    numerator = above;
    denominator = below;
  },
  first,
  second,
)
