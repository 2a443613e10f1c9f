-- Decimal digits read back.
use Rattle.std.proofs.Common.{◌≡◌, ◌≢◌, ℕ, zero, suc, ◌+◌, ◌-◌, ◌*◌, ◌/◌, ◌%◌, ◌<◌, ◌≤◌, List, [], ◌∷◌, ◌++◌, map, get_or, eqb, leb, true, refl, sym, ap, ◌∙◌, arith, append_assoc, append-nil}
use Rattle.std.proofs.lemmas.Bool.{ne_eqb, and_parts, and_from, leb-true, le-leb, not_from_false}
use Rattle.std.proofs.lemmas.Int.Digits.{number_digits_of, all_below_base_digits_of, first_digits_of}
use Rattle.std.specs.List.{list_all}
use Rattle.std.specs.Int.Digits.{digits_of, number_from_digits, number_from_digits_after, AllBelowBase}
use Rattle.cost_base.specs.Decimal.{is_digit, decimal_value, decimal}
use Rattle.text_lines.specs.Reads.{begins_as_printed}
use Rattle.text_lines.proofs.Digits.{decimal-positive, decimal-step, decimal-small}

-- digits moved up by 48 and down again
unmoved : (ds : List ℕ) → map (λ c. c - 48) (map (λ d. d + 48) ds) ≡ ds
unmoved [] = refl
unmoved (d ∷ ds) =
    let same : d + 48 - 48 ≡ d = omega arith in
    ap (λ x. x ∷ map (λ c. c - 48) (map (λ y. y + 48) ds)) same ∙ ap (λ rest. d ∷ rest) (unmoved ds)

-- the digits of a number have its value
pub decimal_value-decimal : (n : ℕ) → decimal_value (decimal n) ≡ n
decimal_value-decimal zero = refl
decimal_value-decimal (suc m) =
    ap decimal_value (decimal-positive (suc m) (omega arith))
    ∙ ap (number_from_digits 10) (unmoved (digits_of 10 (suc m))) ∙ number_digits_of 10 (suc m) (omega arith)

-- different numbers have different digits
pub decimal-same : (m n : ℕ) → decimal m ≡ decimal n → m ≡ n
decimal-same m n e = sym (decimal_value-decimal m) ∙ ap decimal_value e ∙ decimal_value-decimal n

moved_digits : (ds : List ℕ) → AllBelowBase 10 ds → list_all is_digit (map (λ d. d + 48) ds) ≡ true
moved_digits [] below = refl
moved_digits (d ∷ ds) below =
    let low : d < 10 = below.0 in
    and_from (is_digit (d + 48)) (list_all is_digit (map (λ x. x + 48) ds))
    (and_from (leb 48 (d + 48)) (leb (d + 48) 57) (le-leb 48 (d + 48) (omega arith)) (le-leb (d + 48) 57 (omega arith)))
    (moved_digits ds below.1)

-- the digits of a number are digits
pub decimal-digits : (n : ℕ) → list_all is_digit (decimal n) ≡ true
decimal-digits zero = refl
decimal-digits (suc m) =
    ap (list_all is_digit) (decimal-positive (suc m) (omega arith)) ∙ moved_digits (digits_of 10 (suc m)) (all_below_base_digits_of 10 (suc m) (omega arith))

moved_begin : (ds : List ℕ) → 0 < get_or ds 0 0 → begins_as_printed (map (λ d. d + 48) ds) ≡ true
moved_begin [] some = absurd (omega arith)
moved_begin (d ∷ []) some = refl
moved_begin (d ∷ e ∷ es) some = not_from_false (eqb (d + 48) 48) (ne_eqb (d + 48) 48 (λ same. omega arith))

-- the digits of a number have no leading zero
pub decimal-begins : (n : ℕ) → begins_as_printed (decimal n) ≡ true
decimal-begins zero = refl
decimal-begins (suc m) =
    ap begins_as_printed (decimal-positive (suc m) (omega arith)) ∙ moved_begin (digits_of 10 (suc m)) (first_digits_of 10 (suc m) (omega arith) (omega arith))

-- one more digit behind the digits of a positive number
decimal-push : (v c : ℕ) → 1 ≤ v → is_digit c ≡ true → decimal (v * 10 + (c - 48)) ≡ decimal v ++ c ∷ []
decimal-push v c some digit =
    let parts : (leb 48 c ≡ true) × (leb c 57 ≡ true) = and_parts (leb 48 c) (leb c 57) digit in
    let low : 48 ≤ c = leb-true 48 c parts.0 in
    let high : c ≤ 57 = leb-true c 57 parts.1 in
    let front : (v * 10 + (c - 48)) / 10 ≡ v = omega arith in
    let back : (v * 10 + (c - 48)) % 10 + 48 ≡ c = omega arith in
    decimal-step (v * 10 + (c - 48)) (omega arith) ∙ ap (λ n. decimal n ++ ((v * 10 + (c - 48)) % 10 + 48) ∷ []) front ∙ ap (λ d. decimal v ++ d ∷ []) back

-- more digits behind the digits of a positive number
decimal-more : (v : ℕ) (cs : List ℕ) → 1 ≤ v → list_all is_digit cs ≡ true → decimal (number_from_digits_after 10 v (map (λ c. c - 48) cs)) ≡ decimal v ++ cs
decimal-more v [] some digits = sym (append-nil (decimal v))
decimal-more v (c ∷ cs) some digits =
    let parts : (is_digit c ≡ true) × (list_all is_digit cs ≡ true) = and_parts (is_digit c) (list_all is_digit cs) digits in
    decimal-more (v * 10 + (c - 48)) cs (omega arith) parts.1
    ∙ ap (λ front. front ++ cs) (decimal-push v c some parts.0)
    ∙ append_assoc (decimal v) (c ∷ []) cs

one_digit : (c : ℕ) → is_digit c ≡ true → decimal (c - 48) ≡ c ∷ []
one_digit c digit =
    let parts : (leb 48 c ≡ true) × (leb c 57 ≡ true) = and_parts (leb 48 c) (leb c 57) digit in
    let low : 48 ≤ c = leb-true 48 c parts.0 in
    let high : c ≤ 57 = leb-true c 57 parts.1 in
    let back : (c - 48) % 10 + 48 ≡ c = omega arith in
    decimal-small (c - 48) (omega arith) ∙ ap (λ d. d ∷ []) back

-- digits without a leading zero are the digits of their value
pub decimal-decimal_value : (s : List ℕ) → begins_as_printed s ≡ true → list_all is_digit s ≡ true → decimal (decimal_value s) ≡ s
decimal-decimal_value [] begins digits = cc
decimal-decimal_value (c ∷ []) begins digits =
    let parts : (is_digit c ≡ true) × (true ≡ true) = and_parts (is_digit c) true digits in
    let value : 0 * 10 + (c - 48) ≡ c - 48 = omega arith in
    ap decimal value ∙ one_digit c parts.0
decimal-decimal_value (c ∷ d ∷ ds) begins digits =
    let parts : (is_digit c ≡ true) × (list_all is_digit (d ∷ ds) ≡ true) = and_parts (is_digit c) (list_all is_digit (d ∷ ds)) digits in
    let low : 48 ≤ c = leb-true 48 c (and_parts (leb 48 c) (leb c 57) parts.0).0 in
    let other : c ≢ 48 = λ e. cc (begins, ap (λ x. eqb x 48) e) in
    let value : 0 * 10 + (c - 48) ≡ c - 48 = omega arith in
    ap (λ v. decimal (number_from_digits_after 10 v (map (λ x. x - 48) (d ∷ ds)))) value
    ∙ decimal-more (c - 48) (d ∷ ds) (omega arith) parts.1
    ∙ ap (λ front. front ++ (d ∷ ds)) (one_digit c parts.0)
