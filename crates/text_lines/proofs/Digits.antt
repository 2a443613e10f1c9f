-- Decimal digits.
use Rattle.std.proofs.Common.{◌≡◌, ℕ, zero, suc, ◌+◌, ◌-◌, ◌*◌, ◌/◌, ◌%◌, ◌^◌, ◌<◌, ◌≤◌, List, [], ◌∷◌, ◌++◌, length, map, get_or, take, drop, take-append-drop, set, eqb, leb, true, false, refl, sym, ap, ◌∙◌, arith, length-append}
use Rattle.std.proofs.lemmas.Bool.{ne_eqb, and_parts, leb-true}
use Rattle.std.proofs.lemmas.List.{map-append, length-map, take_more, take_more_set}
use Rattle.std.proofs.lemmas.List.Folds.{list_all-append}
use Rattle.std.proofs.lemmas.Int.Digits.{number_push, digits_of_step, length-digits_of-le, number_after_append, number_after_ge, number_lt}
use Rattle.std.specs.List.{list_all}
use Rattle.std.specs.Int.Digits.{digits_of, number_from_digits, number_from_digits_after, AllBelowBase}
use Rattle.cost_base.specs.Decimal.{is_digit, decimal_value, decimal}

-- one more digit
pub decimal_value-more : (s : List ℕ) (i : ℕ) → i < length s → decimal_value (take (i + 1) s) ≡ decimal_value (take i s) * 10 + (get_or s i 0 - 48)
decimal_value-more s i within =
    ap decimal_value (take_more s i 0 within)
    ∙ ap (number_from_digits 10) (map-append (λ c. c - 48) (take i s) (get_or s i 0 ∷ []))
    ∙ number_push 10 (map (λ c. c - 48) (take i s)) (get_or s i 0 - 48)

pub digits-more : (s : List ℕ) (i : ℕ) → i < length s → list_all is_digit (take i s) ≡ true →
    is_digit (get_or s i 0) ≡ true → list_all is_digit (take (i + 1) s) ≡ true
digits-more s i within before here =
    ap (list_all is_digit) (take_more s i 0 within) ∙ list_all-append is_digit (take i s) (get_or s i 0 ∷ []) ∙ rw (before, here)

-- a positive number has the digits of base 10
pub decimal-positive : (n : ℕ) → 0 < n → decimal n ≡ map (λ d. d + 48) (digits_of 10 n)
decimal-positive n some =
    let other : eqb n 0 ≡ false = ne_eqb n 0 (λ e. omega arith) in
    rw other

-- the last digit of a number of more than one digit
pub decimal-step : (n : ℕ) → 10 ≤ n → decimal n ≡ decimal (n / 10) ++ (n % 10 + 48) ∷ []
decimal-step n large =
    decimal-positive n (omega arith)
    ∙ ap (map (λ d. d + 48)) (digits_of_step 10 n (omega arith) (omega arith))
    ∙ map-append (λ d. d + 48) (digits_of 10 (n / 10)) (n % 10 ∷ [])
    ∙ ap (λ front. front ++ (n % 10 + 48) ∷ []) (sym (decimal-positive (n / 10) (omega arith)))

-- a number below 10 is one digit
pub decimal-small : (n : ℕ) → n < 10 → decimal n ≡ (n % 10 + 48) ∷ []
decimal-small zero small = refl
decimal-small (suc m) small =
    let none : suc m / 10 ≡ 0 = omega arith in
    decimal-positive (suc m) (omega arith)
    ∙ ap (map (λ d. d + 48)) (digits_of_step 10 (suc m) (omega arith) (omega arith) ∙ ap (λ q. digits_of 10 q ++ (suc m % 10) ∷ []) none)

-- a number below 10 ^ k has at most k digits
pub length-decimal-le : (k n : ℕ) → 1 ≤ k → n < 10 ^ k → length (decimal n) ≤ k
length-decimal-le k zero some small = some
length-decimal-le k (suc m) some small =
    omega (
      arith,
      ap length (decimal-positive (suc m) (omega arith)),
      length-map (digits_of 10 (suc m)) (λ d. d + 48),
      length-digits_of-le 10 k (suc m) (omega arith) small,
    )

-- a number of more than one digit has one digit more than its tenth
pub length-decimal-step : (n : ℕ) → 10 ≤ n → length (decimal n) ≡ length (decimal (n / 10)) + 1
length-decimal-step n large = omega (arith, ap length (decimal-step n large), length-append (decimal (n / 10)) ((n % 10 + 48) ∷ []))

-- a digit that is put behind the digits before it
pub digit_put : (room front : List ℕ) (i n : ℕ) → i < length room → take i room ≡ front → take (i + 1) (set room i (48 + n % 10)) ≡ front ++ (n % 10 + 48) ∷ []
digit_put room front i n within before =
    let digit : 48 + n % 10 ≡ n % 10 + 48 = omega arith in
    take_more_set room i (48 + n % 10) within ∙ ap (λ bytes. bytes ++ (48 + n % 10) ∷ []) before ∙ ap (λ d. front ++ d ∷ []) digit

-- digits to the left make no more than the whole
pub decimal_value-take-le : (s : List ℕ) (i : ℕ) → decimal_value (take i s) ≤ decimal_value s
decimal_value-take-le s i =
    let whole : decimal_value s ≡ number_from_digits_after 10 (decimal_value (take i s)) (map (λ c. c - 48) (drop i s)) =
    ap decimal_value (sym (take-append-drop i s)) ∙ ap (number_from_digits 10) (map-append (λ c. c - 48) (take i s) (drop i s))
    ∙ number_after_append 10 0 (map (λ c. c - 48) (take i s)) (map (λ c. c - 48) (drop i s)) in
    omega (arith, whole, number_after_ge 10 (decimal_value (take i s)) (map (λ c. c - 48) (drop i s)) (omega arith))

-- digits have a value below the power of their number
pub decimal_value-lt : (s : List ℕ) → list_all is_digit s ≡ true → decimal_value s < 10 ^ length s
decimal_value-lt s digits = omega (arith, ap (λ n. 10 ^ n) (length-map s (λ c. c - 48)), number_lt 10 (map (λ c. c - 48) s) (below s digits))
  where
    below : (s : List ℕ) → list_all is_digit s ≡ true → AllBelowBase 10 (map (λ c. c - 48) s)
    below [] digits = tt
    below (c ∷ cs) digits =
        let parts : (is_digit c ≡ true) × (list_all is_digit cs ≡ true) = and_parts (is_digit c) (list_all is_digit cs) digits in
        let high : c ≤ 57 = leb-true c 57 (and_parts (leb 48 c) (leb c 57) parts.0).1 in
        (omega arith, below cs parts.1)
