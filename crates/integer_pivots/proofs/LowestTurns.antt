-- What a line comes to in lowest terms once it has turned: it is one, and goes into every other form of the turned
-- line.
use Rattle.std.proofs.Common.{◌≡◌, ℕ, zero, suc, ◌*◌, ◌/◌, ◌^◌, ◌<◌, ◌≤◌, refl, sym, ◌∙◌, ap, subst, [], ◌∷◌, length, arith, inl, inr}
use Rattle.std.specs.Prelude.{ℤ, pos, negsuc, ◌*ℤ◌, ◌<ℤ◌, ◌≤ℤ◌, nat_abs}
use Prim.Native.Nat.{◌∣◌}
use native.Mathlib.Nat.{div-mul_cancel, dvd-mul_left, dvd-mul_right, dvd_of_mul-dvd-mul_right, mul-dvd-mul_right, mul_assoc, mul_comm}
use mathlib.Core.Path.{ap₂}
use Rattle.std.proofs.lemmas.Bool.{cases_eq}
use Rattle.std.proofs.lemmas.Int.{ints, unsigned_abs-mul}
use Rattle.std.proofs.lemmas.Nat.Gcd.{dvd_antisymm, dvd_trans, dvd-zero, le_of_dvd}
use Rattle.std.proofs.Math.Nat.{le_of_mul-le-mul_right, mul-le-mul_left, mul-le-mul_right}
use Rattle.whole_numbers.specs.Fractions.{gcd}
use Rattle.whole_numbers.specs.Lists.{number_at}
use Rattle.whole_numbers.proofs.Divisors.{divides_other, gcd_is, gcd_positive, quotient_positive}
use Rattle.whole_numbers.proofs.FractionLaws.{cancel, product_positive, reduced_lowest}
use Rattle.whole_numbers.proofs.Ring.{var, num, ◌⊗◌, ring_by, using, nothing}
use Rattle.whole_numbers.proofs.Sizes.{positive_is, size_positive}
use Rattle.integer_pivots.specs.declared.line.Line.{Line}
use Rattle.integer_pivots.specs.declared.lowest.Lowest.{Lowest}
use Rattle.integer_pivots.specs.declared.turned_line.Turn.{Turn}
use Rattle.integer_pivots.specs.Lines.{IsLine}
use Rattle.integer_pivots.specs.Turns.{AreSmallAfter, IsLowestAfter, IsPartAfter, IsTurnedLine, turned_entry, turned_number}
use Rattle.integer_pivots.proofs.LowestSteps.{after_other, after_own, line_denominator}
use Rattle.integer_pivots.proofs.LineReads.{number_small}

-- a positive factor is left out on both sides
pub factor_out : (x y p : ℤ) → pos 0 <ℤ p → (x *ℤ p) ≡ (y *ℤ p) → x ≡ y
factor_out x y p high same =
    let is = positive_is p high in
    cancel (nat_abs p) x y (size_positive p high) (ap (λ (z : ℤ). x *ℤ z) (sym is) ∙ same ∙ ap (λ (z : ℤ). y *ℤ z) is)

-- all numbers of a turned line have one greatest part
same_part : (turn : Turn) (column : ℕ) (entering line : Line) (a b : ℤ) →
    IsPartAfter turn column entering line a → IsPartAfter turn column entering line b → a ≡ b
same_part turn column entering line a b first second =
    positive_is a first.positive
    ∙ ap pos (dvd_antisymm (second.greatest (nat_abs a) first.denominator first.constant first.numbers)
    (first.greatest (nat_abs b) second.denominator second.constant second.numbers))
    ∙ sym (positive_is b second.positive)

-- a line that turns comes to one thing in lowest terms
pub lowest_unique : (turn : Turn) (column : ℕ) (entering line : Line) (a b : Lowest) →
    IsLowestAfter turn column entering line a → IsLowestAfter turn column entering line b → a ≡ b
lowest_unique turn column entering line a b first second =
    let part : a.part ≡ b.part = same_part turn column entering line a.part b.part first.part second.part in
    let denominator : a.denominator ≡ b.denominator =
    factor_out a.denominator b.denominator b.part second.part.positive
    (ap (λ (z : ℤ). a.denominator *ℤ z) (sym part) ∙ first.denominator ∙ sym second.denominator) in
    let constant : a.constant ≡ b.constant =
    factor_out a.constant b.constant b.part second.part.positive
    (ap (λ (z : ℤ). a.constant *ℤ z) (sym part) ∙ first.constant ∙ sym second.constant) in
    ap (λ (z : ℤ). record { part = z; denominator = a.denominator; constant = a.constant }) part
    ∙ ap₂ (λ (y z : ℤ). record { part = b.part; denominator = y; constant = z }) denominator constant

-- where a number over D is one over N, D without what it has in common with N goes into it
share_some : (D N t n : ℕ) → 0 < N → 0 < t → n * D ≡ t * N → D / gcd D N ∣ t
share_some D N t n N_some t_some same =
    let g = gcd D N in
    let both = gcd_is D N in
    let lowest = reduced_lowest (pos D) N N_some in
    let whole : t * N ≡ (N / g * t) * g =
    ap (λ (k : ℕ). t * k) (sym (div-mul_cancel g both.1)) ∙ sym (mul_assoc t (N / g) g) ∙ ap (λ (k : ℕ). k * g) (mul_comm t (N / g)) in
    let scaled : (D / g) * g ∣ (N / g * t) * g =
    subst (λ (k : ℕ). k ∣ (N / g * t) * g) (sym (div-mul_cancel g both.0)) (subst (λ (k : ℕ). D ∣ k) (same ∙ whole) (dvd-mul_left D n)) in
    divides_other (D / g) (N / g) t lowest.lowest (dvd_of_mul-dvd-mul_right (D / g) (gcd_positive D N N_some) scaled) t_some

share_divides : (D N t n : ℕ) → 0 < N → n * D ≡ t * N → D / gcd D N ∣ t
share_divides D N zero n N_some same = dvd-zero (D / gcd D N)
share_divides D N (suc t) n N_some same = share_some D N (suc t) n N_some (omega arith) same

-- so where that goes into P, a P-th of D goes into N
lowest_goes : (D L P N : ℕ) → L * P ≡ D → 0 < D → D / gcd D N ∣ P → L ∣ N
lowest_goes D L P N is D_some share =
    let g = gcd D N in
    let q = D / g in
    let both = gcd_is D N in
    let q_some : 0 < q = quotient_positive D g D_some both.0 in
    let scaled : L * q ∣ g * q =
    subst (λ (k : ℕ). k ∣ g * q) (mul_comm q L)
    (subst (λ (k : ℕ). q * L ∣ k) (mul_comm P L ∙ is ∙ sym (div-mul_cancel g both.0) ∙ mul_comm q g) (mul-dvd-mul_right q share L)) in
    dvd_trans L (dvd_of_mul-dvd-mul_right L q_some scaled) both.1

-- and the numbers are small over P where they are over N
small_over : (t n L P N : ℕ) → 0 < L → L ≤ N → n * (L * P) ≡ t * N → n ≤ 2 ^ 30 → t ≤ 2 ^ 30 * P
small_over t n L P N L_some least same small =
    let fewer : t * L ≤ t * N = mul-le-mul_left t least in
    let whole : n * (L * P) ≡ (n * P) * L = ap (λ (k : ℕ). n * k) (mul_comm L P) ∙ sym (mul_assoc n P L) in
    let scaled : t * L ≤ (n * P) * L = omega (arith, fewer, same, whole) in
    let most : t ≤ n * P = le_of_mul-le-mul_right scaled L_some in
    let more : n * P ≤ 2 ^ 30 * P = mul-le-mul_right P small in
    omega (arith, most, more)

module _ (turn : Turn) (column : ℕ) (entering line : Line) (lowest : Lowest) (new : Line)
    (low : IsLowestAfter turn column entering line lowest) (turned : IsTurnedLine turn column entering line new) where
  abbrev D : ℕ
  D = nat_abs line.denominator * nat_abs turn.multiplier

  abbrev N : ℕ
  N = nat_abs new.denominator

  parts : nat_abs lowest.denominator * nat_abs lowest.part ≡ D
  parts =
      sym (unsigned_abs-mul lowest.denominator lowest.part) ∙ ap nat_abs low.denominator
      ∙ unsigned_abs-mul line.denominator turn.multiplier

  D_some : 0 < D
  D_some =
      subst (λ (k : ℕ). 0 < k) parts
      (product_positive (nat_abs lowest.denominator) (nat_abs lowest.part)
      (size_positive lowest.denominator low.positive) (size_positive lowest.part low.part.positive))

  N_some : 0 < N
  N_some = size_positive new.denominator turned.positive

  -- sizes on both sides of an equation of two forms
  sizes : (z t : ℤ) → (z *ℤ (line.denominator *ℤ turn.multiplier)) ≡ (t *ℤ new.denominator) → nat_abs z * D ≡ nat_abs t * N
  sizes z t same =
      ap (λ (k : ℕ). nat_abs z * k) (sym (unsigned_abs-mul line.denominator turn.multiplier))
      ∙ sym (unsigned_abs-mul z (line.denominator *ℤ turn.multiplier)) ∙ ap nat_abs same ∙ unsigned_abs-mul t new.denominator

  stands : (c : ℕ) → c < length line.numbers →
      (number_at new.numbers c *ℤ (line.denominator *ℤ turn.multiplier)) ≡ (turned_entry turn column entering line c *ℤ new.denominator)
  stands c c_in =
      elim (cases_eq c column) [
        | inl same ↦
            ap (λ (k : ℕ). number_at new.numbers k *ℤ (line.denominator *ℤ turn.multiplier)) same ∙ turned.own
            ∙ ap (λ (z : ℤ). z *ℤ new.denominator) (sym (after_own turn column entering line c same))
        | inr apart ↦ turned.others c c_in apart ∙ ap (λ (z : ℤ). z *ℤ new.denominator) (sym (after_other turn column entering line c apart))
      ]

  share : D / gcd D N ∣ nat_abs lowest.part
  share =
      let both = gcd_is D N in
      low.part.greatest (D / gcd D N)
      (subst (λ (k : ℕ). D / gcd D N ∣ k) (div-mul_cancel (gcd D N) both.0) (dvd-mul_right (D / gcd D N) (gcd D N)))
      (share_divides D N (nat_abs (turned_number turn line.constant entering.constant)) (nat_abs new.constant) N_some
      (sizes new.constant (turned_number turn line.constant entering.constant) turned.constant))
      (λ c c_in. share_divides D N (nat_abs (turned_entry turn column entering line c)) (nat_abs (number_at new.numbers c)) N_some
      (sizes (number_at new.numbers c) (turned_entry turn column entering line c) (stands c c_in)))

  goes : nat_abs lowest.denominator ∣ N
  goes = lowest_goes D (nat_abs lowest.denominator) (nat_abs lowest.part) N parts D_some share

  small_number : IsLine new → (c : ℕ) → c < length line.numbers →
      nat_abs (turned_entry turn column entering line c) ≤ 2 ^ 30 * nat_abs lowest.part
  small_number small c c_in =
      small_over (nat_abs (turned_entry turn column entering line c)) (nat_abs (number_at new.numbers c))
      (nat_abs lowest.denominator) (nat_abs lowest.part) N (size_positive lowest.denominator low.positive) (le_of_dvd N_some goes)
      (ap (λ (k : ℕ). nat_abs (number_at new.numbers c) * k) parts
      ∙ sizes (number_at new.numbers c) (turned_entry turn column entering line c) (stands c c_in))
      (number_small new small c)

  small_denominator : IsLine new → lowest.denominator ≤ℤ pos (2 ^ 30)
  small_denominator small =
      let most = le_of_dvd N_some goes in
      let size = line_denominator new small in
      omega (arith, ints, most, size, positive_is lowest.denominator low.positive)

-- its denominator goes into that of whatever the line has turned to
pub lowest_divides : (turn : Turn) (column : ℕ) (entering line : Line) (lowest : Lowest) (new : Line) →
    IsLowestAfter turn column entering line lowest → IsTurnedLine turn column entering line new →
    nat_abs lowest.denominator ∣ nat_abs new.denominator
lowest_divides turn column entering line lowest new low turned = goes turn column entering line lowest new low turned

-- so where that is small, its numbers and its denominator are
pub small_of_line : (turn : Turn) (column : ℕ) (entering line : Line) (lowest : Lowest) (new : Line) →
    IsLowestAfter turn column entering line lowest → IsTurnedLine turn column entering line new → IsLine new →
    AreSmallAfter turn column entering line lowest.part × (lowest.denominator ≤ℤ pos (2 ^ 30))
small_of_line turn column entering line lowest new low turned small = (
  small_number turn column entering line lowest new low turned small,
  small_denominator turn column entering line lowest new low turned small,
)

-- a constant over a part of a denominator stands for the same as one over another
constant_stands : (l n p k d E t : ℤ) → (l *ℤ p) ≡ t → (k *ℤ E) ≡ (t *ℤ n) → (d *ℤ p) ≡ E → ((l *ℤ n) *ℤ p) ≡ ((k *ℤ d) *ℤ p)
constant_stands l n p k d E t low turned parts =
    ring_by (l ∷ n ∷ p ∷ k ∷ d ∷ E ∷ t ∷ []) ((var 0 ⊗ var 1) ⊗ var 2) ((var 3 ⊗ var 4) ⊗ var 2)
    (using (var 1) (var 0 ⊗ var 2) (var 6) low
    (using (num (negsuc 0)) (var 3 ⊗ var 5) (var 6 ⊗ var 1) turned
    (using (num (negsuc 0) ⊗ var 3) (var 4 ⊗ var 2) (var 5) parts nothing))) refl

-- and its constant stands for the same
pub constant_of_line : (turn : Turn) (column : ℕ) (entering line : Line) (lowest : Lowest) (new : Line) →
    IsLowestAfter turn column entering line lowest → IsTurnedLine turn column entering line new →
    (lowest.constant *ℤ new.denominator) ≡ (new.constant *ℤ lowest.denominator)
constant_of_line turn column entering line lowest new low turned =
    factor_out (lowest.constant *ℤ new.denominator) (new.constant *ℤ lowest.denominator) lowest.part low.part.positive
    (constant_stands lowest.constant new.denominator lowest.part new.constant lowest.denominator
    (line.denominator *ℤ turn.multiplier) (turned_number turn line.constant entering.constant) low.constant turned.constant low.denominator)
