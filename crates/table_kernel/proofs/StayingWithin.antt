-- Constants that stay within the limit after a turn, and lines that stay as they are.
use Prim.Native.Nat.{◌∣◌}
use native.Mathlib.Nat.{div-mul_cancel, mul-one, zero-mul}
use Rattle.std.proofs.Common.{◌≡◌, Bool, ◌↔◌, ℕ, ◌+◌, ◌*◌, ◌/◌, ◌^◌, ◌<◌, ◌≤◌, ap, subst, [], ◌∷◌, arith, refl, sym, ◌∙◌}
use Rattle.std.specs.Prelude.{ℤ, pos, negsuc, ◌*ℤ◌, ◌<ℤ◌, nat_abs, IsTrue}
use Rattle.std.proofs.lemmas.Int.{unsigned_abs-mul}
use Rattle.whole_numbers.specs.Fractions.{exact_quotient, gcd}
use Rattle.whole_numbers.specs.Lists.{number_at}
use Rattle.whole_numbers.proofs.Divisors.{gcd_is}
use Rattle.whole_numbers.proofs.FractionLaws.{cancel, over-mul, product_positive}
use Rattle.whole_numbers.proofs.Ring.{num, ◌⊖◌, ◌⊗◌, ring, ring_by, using, nothing, var}
use Rattle.whole_numbers.proofs.Sizes.{size_positive}
use Rattle.integer_pivots.specs.declared.line.Line.{Line}
use Rattle.integer_pivots.specs.declared.turned_line.Turn.{Turn}
use Rattle.integer_pivots.specs.Lines.{IsLine}
use Rattle.integer_pivots.specs.Numbers.{greatest_of}
use Rattle.integer_pivots.specs.Turns.{IsTurnedLine, StaysSmall, denominator_after, turn_at, turned_number}
use Rattle.integer_pivots.proofs.TurnLaws.{greatest_least, turn_by_none}
use Rattle.integer_pivots.proofs.LineReads.{numbers_small}
use Rattle.table_kernel.specs.declared.kernel.Kernel.{Kernel}
use Rattle.table_kernel.specs.Numbers.{share_of}
use Rattle.table_kernel.specs.Turns.{constant_size, line_of, turn_of_line}
use Rattle.table_kernel.proofs.Shares.{factor_within}

pos_same : (a b : ℕ) → pos a ≡ pos b → a ≡ b
pos_same a b same = ap nat_abs same

-- a value over a common multiple is the same whichever of two denominators it stands over before
pub same_over : (c t m d C A B : ℕ) → c * m ≡ t * d → A * m ≡ C → B * d ≡ C → 0 < m → 0 < d → c * B ≡ t * A
same_over c t m d C A B same first second m_some d_some =
    let one : (pos c *ℤ pos m) ≡ (pos t *ℤ pos d) = ap pos same in
    let other : (pos B *ℤ pos d) ≡ (pos A *ℤ pos m) = ap pos (second ∙ sym first) in
    pos_same (c * B) (t * A)
    (cancel (m * d) (pos c *ℤ pos B) (pos t *ℤ pos A) (product_positive m d m_some d_some)
    (ring_by (pos c ∷ pos t ∷ pos m ∷ pos d ∷ pos A ∷ pos B ∷ []) ((var 0 ⊗ var 5) ⊗ (var 2 ⊗ var 3)) ((var 1 ⊗ var 4) ⊗ (var 2 ⊗ var 3))
    (using (var 5 ⊗ var 3) (var 0 ⊗ var 2) (var 1 ⊗ var 3) one (using (var 1 ⊗ var 3) (var 5 ⊗ var 3) (var 4 ⊗ var 2) other nothing)) refl))

-- a turned constant over the common denominator
pub constant_same : (turn : Turn) (column : ℕ) (entering old new : Line) (C : ℕ) → IsTurnedLine turn column entering old new →
    0 < nat_abs old.denominator * nat_abs turn.multiplier →
    (nat_abs old.denominator * nat_abs turn.multiplier) ∣ C → nat_abs new.denominator ∣ C →
    nat_abs new.constant * (C / nat_abs new.denominator)
    ≡ nat_abs (turned_number turn old.constant entering.constant) * (C / (nat_abs old.denominator * nat_abs turn.multiplier))
constant_same turn column entering old new C t some first second =
    let m = nat_abs old.denominator * nat_abs turn.multiplier in
    let d = nat_abs new.denominator in
    let moved = turned_number turn old.constant entering.constant in
    let same : nat_abs new.constant * m ≡ nat_abs moved * d =
    ap (λ (n : ℕ). nat_abs new.constant * n) (sym (unsigned_abs-mul old.denominator turn.multiplier))
    ∙ sym (unsigned_abs-mul new.constant (old.denominator *ℤ turn.multiplier))
    ∙ ap nat_abs t.constant
    ∙ unsigned_abs-mul moved new.denominator in
    same_over (nat_abs new.constant) (nat_abs moved) m d C (C / m) (C / d) same (div-mul_cancel m first) (div-mul_cancel d second) some
    (size_positive new.denominator t.positive)

-- a number that stays within the limit with a share that is positive is within it itself
pub within_share : (n share : ℕ) → 0 < share → n * share ≤ 2 ^ 44 → n ≤ 2 ^ 62
within_share n share some product =
    let small = factor_within n share (2 ^ 44) (omega (arith, some)) product in
    omega (arith, small)

-- a number without a factor is 0, and then the multiplier is 1
no_number : (z : ℤ) (g : ℕ) → g ∣ nat_abs z → exact_quotient z g ≡ pos 0 → z ≡ pos 0
no_number z g divides none =
    sym (over-mul z g (div-mul_cancel g divides)) ∙ ap (λ (y : ℤ). y *ℤ pos g) none ∙ ring (pos g ∷ []) (num (pos 0) ⊗ var 0) (num (pos 0)) refl

-- once a size and no other is as large as that size
kept_once : (m f a b : ℕ) → m ≡ 1 → f ≡ 0 → a ≤ 2 ^ 30 → m * a + f * b ≤ 2 ^ 30
kept_once m f a b one none small = omega (arith, small, ap (λ (n : ℕ). n * a) one, mul-one a, ap (λ (n : ℕ). n * b) none, zero-mul b)

none_times : (f b : ℕ) → f ≡ 0 → f * b ≤ 2 ^ 30
none_times f b none = omega (arith, ap (λ (n : ℕ). n * b) none, zero-mul b)

-- a line whose factor is 0 stays as it is
module _ (entering line : Line) (column : ℕ) (none : (turn_at entering column line).factor ≡ pos 0) where
  abbrev turn : Turn
  turn = turn_at entering column line

  zero_here : number_at line.numbers column ≡ pos 0
  zero_here =
      let here = number_at line.numbers column in
      let there = number_at entering.numbers column in
      no_number here (gcd (nat_abs here) (nat_abs there)) (gcd_is (nat_abs here) (nat_abs there)).0 none

  same : (z e : ℤ) → (z *ℤ (line.denominator *ℤ turn.multiplier)) ≡ (turned_number turn z e *ℤ line.denominator)
  same z e =
      ring_by (z ∷ line.denominator ∷ turn.multiplier ∷ turn.factor ∷ e ∷ []) (var 0 ⊗ (var 1 ⊗ var 2)) (((var 2 ⊗ var 0) ⊖ (var 3 ⊗ var 4)) ⊗ var 1)
      (using (var 4 ⊗ var 1) (var 3) (num (pos 0)) none nothing) refl

  own_same : (number_at line.numbers column *ℤ (line.denominator *ℤ turn.multiplier)) ≡ ((turn.factor *ℤ entering.denominator) *ℤ line.denominator)
  own_same =
      ring_by (number_at line.numbers column ∷ line.denominator ∷ turn.multiplier ∷ turn.factor ∷ entering.denominator ∷ [])
      (var 0 ⊗ (var 1 ⊗ var 2)) ((var 3 ⊗ var 4) ⊗ var 1)
      (using (var 1 ⊗ var 2) (var 0) (num (pos 0)) zero_here (using (num (negsuc 0) ⊗ (var 4 ⊗ var 1)) (var 3) (num (pos 0)) none nothing)) refl

  pub once : pos 0 <ℤ number_at entering.numbers column → turn.multiplier ≡ pos 1
  once positive =
      ap (λ (t : Turn). t.multiplier) (sym (turn_by_none (number_at line.numbers column) (number_at entering.numbers column) positive zero_here))

  -- it stays small, too
  pub small_here : IsLine line → pos 0 <ℤ number_at entering.numbers column → StaysSmall turn line entering
  small_here l positive =
      let one : nat_abs turn.multiplier ≡ 1 = ap nat_abs (once positive) in
      let zero : nat_abs turn.factor ≡ 0 = ap nat_abs none in
      let most = greatest_least line.numbers (2 ^ 30) (numbers_small line l) in
      record {
        numbers = kept_once (nat_abs turn.multiplier) (nat_abs turn.factor) (greatest_of line.numbers) (greatest_of entering.numbers) one zero most;
        own = none_times (nat_abs turn.factor) (nat_abs entering.denominator) zero;
      }

  pub stays : IsLine line → IsTurnedLine turn column entering line line
  stays l = record {
    positive = l.positive;
    count = refl;
    constant = same line.constant entering.constant;
    others = λ c c_in other. same (number_at line.numbers c) (number_at entering.numbers c);
    own = own_same;
  }

-- a number without a factor is as it was
number_here : (turn : Turn) (z e : ℤ) → turn.multiplier ≡ pos 1 → turn.factor ≡ pos 0 → turned_number turn z e ≡ z
number_here turn z e one none =
    ring_by (turn.multiplier ∷ turn.factor ∷ z ∷ e ∷ []) ((var 0 ⊗ var 2) ⊖ (var 1 ⊗ var 3)) (var 2)
    (using (var 2) (var 0) (num (pos 1)) one (using (num (negsuc 0) ⊗ var 3) (var 1) (num (pos 0)) none nothing)) refl

-- where neither it turns nor the common denominator changes, a constant is as large as before
pub same_constant : (k : Kernel) (column v C : ℕ) → (turn_of_line k column v).factor ≡ pos 0 → pos 0 <ℤ number_at k.entering.numbers column →
    C ≡ nat_abs k.common → constant_size k column C v ≡ nat_abs (line_of k v).constant * share_of (nat_abs k.common) (line_of k v)
same_constant k column v C none pivot same =
    let line = line_of k v in
    let turn = turn_of_line k column v in
    let one = once k.entering line column none pivot in
    let after : denominator_after k.entering column line ≡ nat_abs line.denominator =
    ap (λ (z : ℤ). nat_abs line.denominator * nat_abs z) one ∙ mul-one (nat_abs line.denominator) in
    ap (λ (z : ℤ). nat_abs z * (C / denominator_after k.entering column line)) (number_here turn line.constant k.entering.constant one none)
    ∙ ap (λ (n : ℕ). nat_abs line.constant * (C / n)) after
    ∙ ap (λ (n : ℕ). nat_abs line.constant * (n / nat_abs line.denominator)) same

-- what the test of a constant tells, by what it is given
pub constant_told : (k : Kernel) (column v C : ℕ) (answer : Bool) (z : ℤ) (share : ℕ) →
    z ≡ turned_number (turn_of_line k column v) (line_of k v).constant k.entering.constant →
    share ≡ C / denominator_after k.entering column (line_of k v) → IsTrue answer ↔ (nat_abs z * share ≤ 2 ^ 44) →
    IsTrue answer ↔ (constant_size k column C v ≤ 2 ^ 44)
constant_told k column v C answer z share z_is share_is told =
    let same : nat_abs z * share ≡ constant_size k column C v =
    ap (λ (y : ℤ). nat_abs y * share) z_is
    ∙ ap (λ (s : ℕ). nat_abs (turned_number (turn_of_line k column v) (line_of k v).constant k.entering.constant) * s) share_is in (
      λ holds. subst (λ (n : ℕ). n ≤ 2 ^ 44) same (told.0 holds),
      λ small. told.1 (subst (λ (n : ℕ). n ≤ 2 ^ 44) (sym same) small),
    )
