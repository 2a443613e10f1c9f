-- Numbers that are begun.
use Rattle.std.proofs.Common.{◌≡◌, ◌≢◌, ℕ, zero, suc, ◌+◌, ◌*◌, ◌/◌, ◌%◌, ◌^◌, ◌<◌, ◌≤◌, List, [], ◌∷◌, ◌++◌, length, MatchOption, Option, Some, None, Bool, ltb, true, false, refl, sym, ap, subst, ◌∙◌, arith, append_assoc, append-nil, length-append}
use Rattle.std.proofs.Math.Nat.{pow-suc, pow-le-pow_right, mul_assoc, mul-le-mul_right}
use Rattle.std.proofs.lemmas.Bool.{false≢true, ltb-true, ltb-false}
use Rattle.cost_base.specs.Decimal.{decimal, decimal_value}
use Rattle.text_lines.specs.Reads.{begins_as_printed}
use Rattle.text_lines.proofs.Digits.{decimal-step, decimal-small, decimal_value-lt, length-decimal-le}
use Rattle.text_lines.proofs.NumberLaws.{length-decimal-some}
use Rattle.text_lines.proofs.Printed.{decimal-digits, decimal-begins, decimal_value-decimal, decimal-same}
use Rattle.whole_numbers.specs.Fractions.{gcd}
use Rattle.begun_lines.specs.BegunLines.{Never, IsMissing, IsCoprimeInRange, IsNumberInRange, Extends}
use Rattle.begun_lines.specs.declared.numbers.Numbers.{Numbers}
use Rattle.answer_lines.proofs.ListParts.{head-is, tail-is}

-- one digit more
record OneMore (begun k : ℕ) : Type 0 where
  power : 10 ^ suc k ≡ 10 ^ k * 10
  times : begun * 10 ^ suc k ≡ begun * 10 ^ k * 10

one_more : (begun k : ℕ) → OneMore begun k
one_more begun k =
    let power : 10 ^ suc k ≡ 10 ^ k * 10 = pow-suc 10 k in
    record { power = power; times = ap (λ p. begun * p) power ∙ sym (mul_assoc begun (10 ^ k) 10) }

extends-tenth : (begun k n : ℕ) → Extends begun (suc k) n → Extends begun k (n / 10)
extends-tenth begun k n is =
    let more = one_more begun k in
    (omega (arith, is.0, more.times), omega (arith, is.1, more.times, more.power))

extends-ten : (begun k n : ℕ) → Extends begun k (n / 10) → Extends begun (suc k) n
extends-ten begun k n is =
    let more = one_more begun k in
    (omega (arith, is.0, more.times), omega (arith, is.1, more.times, more.power))

-- a number that extends a positive one is positive
extends-some : (begun k n : ℕ) → 0 < begun → Extends begun k n → 0 < n
extends-some begun zero n some is = omega (arith, is.0)
extends-some begun (suc k) n some is = omega (arith, extends-some begun k (n / 10) some (extends-tenth begun k n is))

-- a number that extends another is no less
pub extends-le : (begun k n : ℕ) → Extends begun k n → begun ≤ n
extends-le begun zero n is = omega (arith, is.0)
extends-le begun (suc k) n is = omega (arith, extends-le begun k (n / 10) (extends-tenth begun k n is))

-- 39 digits more are too many
pub too_many_digits : (begun k n : ℕ) → 0 < begun → 39 ≤ k → n < 2 ^ 128 → Extends begun k n → ⊥
too_many_digits begun k n some many small is =
    let power : 10 ^ 39 ≤ 10 ^ k = pow-le-pow_right {n = 10} (omega arith) {i = 39} {j = k} many in
    let times : 1 * 10 ^ k ≤ begun * 10 ^ k = mul-le-mul_right (10 ^ k) some in
    omega (arith, power, times, is.0)

-- the last of some bytes, and those before it
record LastByte (more : List ℕ) : Type 0 where
  front : List ℕ
  last : ℕ
  is : more ≡ front ++ last ∷ []

last_byte : (c : ℕ) (cs : List ℕ) → LastByte (c ∷ cs)
last_byte c [] = record { front = []; last = c; is = refl }
last_byte c (d ∷ ds) = let rest = last_byte d ds in record { front = c ∷ rest.front; last = rest.last; is = ap (λ l. c ∷ l) rest.is }

same_front : (xs ys : List ℕ) (x y : ℕ) → xs ++ x ∷ [] ≡ ys ++ y ∷ [] → xs ≡ ys
same_front [] [] x y e = refl
same_front [] (d ∷ ds) x y e = absurd (omega (arith, ap length e, length-append ds (y ∷ [])))
same_front (c ∷ cs) [] x y e = absurd (omega (arith, ap length e, length-append cs (x ∷ [])))
same_front (c ∷ cs) (d ∷ ds) x y e =
    ap (λ h. h ∷ cs) (head-is c d (cs ++ x ∷ []) (ds ++ y ∷ []) e) ∙ ap (λ l. d ∷ l) (same_front cs ds x y (tail-is c d (cs ++ x ∷ []) (ds ++ y ∷ []) e))

some-length : (front : List ℕ) → front ≢ [] → 0 < length front
some-length [] some = absurd (some refl)
some-length (c ∷ cs) some = omega arith

-- a number of two digits
two_digits : (n : ℕ) (front : List ℕ) (last : ℕ) → decimal n ≡ front ++ last ∷ [] → 0 < length front → 10 ≤ n
two_digits n front last is some = cases (ltb n 10) refl
  where
    cases : (b : Bool) → ltb n 10 ≡ b → 10 ≤ n
    cases false large = ltb-false n 10 large
    cases true small = absurd (omega (arith, ap length (sym (decimal-small n (ltb-true n 10 small)) ∙ is), length-append front (last ∷ []), some))

-- a number's digits before its last ones are those of a number that it extends
pub record CutNumber (front : List ℕ) (k n : ℕ) : Type 0 where
  pub number : ℕ
  pub is : front ≡ decimal number
  pub extends : Extends number k n

pub cut_number : (k n : ℕ) (front more : List ℕ) → length more ≡ k → decimal n ≡ front ++ more → front ≢ [] → CutNumber front k n
cut_number zero n front [] count e some = record { number = n; is = sym (e ∙ append-nil front); extends = (omega arith, omega arith) }
cut_number zero n front (c ∷ cs) count e some = absurd (omega arith)
cut_number (suc k) n front [] count e some = absurd (omega arith)
cut_number (suc k) n front (c ∷ cs) count e some =
    let last = last_byte c cs in
    let whole : decimal n ≡ (front ++ last.front) ++ last.last ∷ [] = e ∙ ap (λ l. front ++ l) last.is ∙ sym (append_assoc front last.front (last.last ∷ [])) in
    let shorter : length last.front ≡ k = omega (arith, count, ap length last.is, length-append last.front (last.last ∷ [])) in
    let large : 10 ≤ n = two_digits n (front ++ last.front) last.last whole (omega (arith, length-append front last.front, some-length front some)) in
    let rest = cut_number k (n / 10) front last.front shorter
    (same_front (decimal (n / 10)) (front ++ last.front) (n % 10 + 48) last.last (sym (decimal-step n large)
    ∙ whole)) some in
    record { number = rest.number; is = rest.is; extends = extends-ten rest.number k n rest.extends }

-- a nonempty front of a printed number is a printed number that isn't greater
pub cut-decimal : (n : ℕ) (front more : List ℕ) → decimal n ≡ front ++ more → front ≢ [] → (m : ℕ) × (m ≤ n) × (front ≡ decimal m)
cut-decimal n front more e some =
    let cut = cut_number (length more) n front more refl e some in
    (cut.number, extends-le cut.number (length more) n cut.extends, cut.is)

-- a number that extends a positive one has its digits and so many more
pub record MoreDigits (begun k n : ℕ) : Type 0 where
  pub more : List ℕ
  pub is : decimal n ≡ decimal begun ++ more
  pub count : length more ≡ k

pub more_digits : (begun k n : ℕ) → 0 < begun → Extends begun k n → MoreDigits begun k n
more_digits begun zero n some is =
    let same : n ≡ begun = omega (arith, is.0, is.1) in
    record { more = []; is = ap decimal same ∙ sym (append-nil (decimal begun)); count = refl }
more_digits begun (suc k) n some is =
    let tenth = extends-tenth begun k n is in
    let rest = more_digits begun k (n / 10) some tenth in
    let large : 10 ≤ n = omega (arith, extends-some begun k (n / 10) some tenth) in
    record {
      more = rest.more ++ (n % 10 + 48) ∷ [];
      is = decimal-step n large ∙ ap (λ l. l ++ (n % 10 + 48) ∷ []) rest.is ∙ append_assoc (decimal begun) rest.more ((n % 10 + 48) ∷ []);
      count = omega (arith, rest.count, length-append rest.more ((n % 10 + 48) ∷ []));
    }

-- a number that begins with a zero is that
pub zero_alone : (n : ℕ) (more : List ℕ) → decimal n ≡ 48 ∷ more → more ≡ []
zero_alone n [] e = refl
zero_alone n (c ∷ cs) e = absurd (false≢true (ap begins_as_printed (sym e) ∙ decimal-begins n))

-- a greater number has no fewer digits
pub digits-le : (a b : ℕ) → a ≤ b → length (decimal a) ≤ length (decimal b)
digits-le a b le =
    let below : decimal_value (decimal b) < 10 ^ length (decimal b) = decimal_value-lt (decimal b) (decimal-digits b) in
    length-decimal-le (length (decimal b)) a (length-decimal-some b) (omega (arith, below, decimal_value-decimal b))

-- an empty word becomes the least number of a range
pub missing_whole : (numbers : Numbers) (found : Option ℕ) → gcd numbers.coprime_to numbers.least ≡ 1 →
    MatchOption found (numbers.greatest < numbers.least) (λ count. (numbers.least ≤ numbers.greatest)
    × (count ≡ length (decimal numbers.least))) → IsMissing (IsNumberInRange numbers) [] found
missing_whole numbers None coprime empty = λ more number. omega (arith, empty, number.1.least, number.1.greatest)
missing_whole numbers (Some count) coprime is =
    record {
      more = decimal numbers.least;
      fits = (numbers.least, record { least = omega arith; greatest = is.0; coprime = coprime }, refl);
      count_is = sym is.1;
      least = λ other number. omega (arith, is.1, digits-le numbers.least number.0 number.1.least, ap length number.2);
    }

-- a zero is a whole number
pub missing_zero : (numbers : Numbers) (word : List ℕ) (found : Option ℕ) → word ≡ decimal 0 →
    MatchOption found (IsCoprimeInRange numbers 0 → ⊥) (λ count. (count ≡ 0) × IsCoprimeInRange numbers 0) →
    IsMissing (IsNumberInRange numbers) word found
missing_zero numbers word None is none = λ more number.
    let e : decimal number.0 ≡ 48 ∷ more = sym number.2 ∙ ap (λ l. l ++ more) is in
    let same : number.0 ≡ 0 = decimal-same number.0 0 (e ∙ ap (λ l. 48 ∷ l) (zero_alone number.0 more e)) in
    none (subst (IsCoprimeInRange numbers) same number.1)
missing_zero numbers word (Some count) is found =
    record {
      more = [];
      fits = (0, found.1, append-nil word ∙ is);
      count_is = sym found.0;
      least = λ other number. omega (arith, found.0);
    }

-- a word that is no number begins none
pub missing_none : (numbers : Numbers) (word : List ℕ) → word ≢ [] → ((n : ℕ) → n ≤ numbers.greatest → word ≢ decimal n) → Never (IsNumberInRange numbers) word
missing_none numbers word some none = λ more number.
    let cut = cut_number (length more) number.0 word more refl (sym number.2) some in
    none cut.number (omega (arith, extends-le cut.number (length more) number.0 cut.extends, number.1.greatest)) cut.is

-- what a search for the digits behind a positive number found
abbrev FoundDigits : Numbers → ℕ → Option ℕ → Type 0
FoundDigits numbers begun found = MatchOption found ((k n : ℕ) → Extends begun k n → IsCoprimeInRange numbers n → ⊥)
    (λ count. ((n : ℕ) × Extends begun count n × IsCoprimeInRange numbers n) × ((k n : ℕ) → Extends begun k n → IsCoprimeInRange numbers n → count ≤ k))

-- a positive number goes on with digits
pub missing_more : (numbers : Numbers) (word : List ℕ) (begun : ℕ) (found : Option ℕ) → word ≡ decimal begun →
    0 < begun → FoundDigits numbers begun found → IsMissing (IsNumberInRange numbers) word found
missing_more numbers word begun found is some h = subst (λ w. IsMissing (IsNumberInRange numbers) w found) (sym is) (cases found h)
  where
    digit : decimal begun ≢ []
    digit e = omega (arith, length-decimal-some begun, ap length e)

    extended : (more : List ℕ) (n : ℕ) → decimal begun ++ more ≡ decimal n → Extends begun (length more) n
    extended more n e =
        let cut = cut_number (length more) n (decimal begun) more refl (sym e) digit in
        subst (λ b. Extends b (length more) n) (sym (decimal-same begun cut.number cut.is)) cut.extends

    cases : (found : Option ℕ) → FoundDigits numbers begun found → IsMissing (IsNumberInRange numbers) (decimal begun) found
    cases None h = λ more number. h (length more) number.0 (extended more number.0 number.2) number.1
    cases (Some count) h =
        let digits = more_digits begun count h.0.0 some h.0.1 in
        record {
          more = digits.more;
          fits = (h.0.0, h.0.2, sym digits.is);
          count_is = digits.count;
          least = λ other number. h.1 (length other) number.0 (extended other number.0 number.2) number.1;
        }
