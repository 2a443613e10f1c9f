-- Numbers that turn one after the other, each over what it has in common with those before it and with a divisor.
use Rattle.std.proofs.Common.{◌≡◌, ℕ, zero, suc, ◌+◌, ◌*◌, ◌^◌, ◌<◌, ◌≤◌, refl, sym, ◌∙◌, ap, subst, List, [], ◌∷◌, length, arith, FitsSigned, w64, inl, inr, get_or-set_same, get_or-set_other}
use Rattle.std.specs.Prelude.{ℤ, pos, negsuc, ◌-ℤ◌, ◌*ℤ◌, nat_abs, slice_set}
use Prim.Native.Nat.{◌∣◌}
use Rattle.std.proofs.lemmas.Bool.{cases_eq, cases_lt}
use Rattle.std.proofs.lemmas.Int.{fits_signed_from_abs, ints, unsigned_abs-mul}
use Rattle.std.proofs.lemmas.List.{length-set}
use Rattle.std.proofs.lemmas.Nat.Gcd.{dvd_trans}
use Rattle.std.proofs.Math.Nat.{dvd_refl, mul-le-mul_left, mul-le-mul_right}
use mathlib.Core.Path.{ap₂}
use Rattle.whole_numbers.specs.Fractions.{gcd}
use Rattle.whole_numbers.specs.Lists.{number_at}
use Rattle.whole_numbers.proofs.Divisors.{gcd_is}
use Rattle.whole_numbers.proofs.Ring.{var, num, ◌⊗◌, ring, ring_by, using, nothing}
use Rattle.integer_pivots.specs.declared.reciprocal.Divisor.{Divisor}
use Rattle.integer_pivots.specs.declared.turned_line.Turn.{Turn}
use Rattle.integer_pivots.specs.Reciprocals.{ArePutOver, IsReciprocal}
use Rattle.integer_pivots.specs.Turns.{turned_number}
use Rattle.integer_pivots.proofs.Sizes.{difference_small, product_size, read, read_number}
use Rattle.integer_pivots.proofs.WrittenPlaces.{all_more}

times_none : (z : ℤ) → (z *ℤ pos 0) ≡ pos 0
times_none z = ring (z ∷ []) (var 0 ⊗ num (pos 0)) (num (pos 0)) refl

-- a product of at most 2^30 in size is computed as it is
some_product : (a b : ℤ) → read b ≡ b → 0 < nat_abs b → nat_abs a * nat_abs b ≤ 2 ^ 30 → read (read a *ℤ read b) ≡ (a *ℤ b)
some_product a b b_is some small =
    let more : nat_abs a * 1 ≤ nat_abs a * nat_abs b = mul-le-mul_left (nat_abs a) some in
    ap₂ (λ (x y : ℤ). read (x *ℤ y)) (read_number a (omega (arith, more, small))) b_is
    ∙ read_number (a *ℤ b) (omega (arith, unsigned_abs-mul a b, small))

small_product : (a b : ℤ) → read b ≡ b → nat_abs a * nat_abs b ≤ 2 ^ 30 → read (read a *ℤ read b) ≡ (a *ℤ b)
small_product a (pos zero) b_is small =
    ap (λ (y : ℤ). read (read a *ℤ y)) b_is ∙ ap read (times_none (read a)) ∙ b_is ∙ sym (times_none a)
small_product a (pos (suc n)) b_is small = some_product a (pos (suc n)) b_is (omega arith) small
small_product a (negsuc n) b_is small = some_product a (negsuc n) b_is (omega (arith, ints)) small

-- a small number turns into a small one
pub turned_size : (t : Turn) (n e : ℤ) → nat_abs t.multiplier * nat_abs n + nat_abs t.factor * nat_abs e ≤ 2 ^ 30 →
    nat_abs (turned_number t n e) ≤ 2 ^ 30
turned_size t n e small =
    let most = difference_small (nat_abs t.multiplier * nat_abs n) (nat_abs t.factor * nat_abs e) (t.multiplier *ℤ n) (t.factor *ℤ e)
    (product_size t.multiplier n (nat_abs n) (omega arith)) (product_size t.factor e (nat_abs e) (omega arith)) in
    omega (arith, most, small)

-- and is computed as it is
module _ (t : Turn) (n e : ℤ) (n_is : read n ≡ n) (e_is : read e ≡ e)
    (small : nat_abs t.multiplier * nat_abs n + nat_abs t.factor * nat_abs e ≤ 2 ^ 30) where
  computed : (read (read t.multiplier *ℤ read n) -ℤ read (read t.factor *ℤ read e)) ≡ turned_number t n e
  computed =
      ap₂ (λ (x y : ℤ). x -ℤ y)
      (small_product t.multiplier n n_is (omega (arith, small))) (small_product t.factor e e_is (omega (arith, small)))

  pub small_fits : FitsSigned w64 (read (read t.multiplier *ℤ read n) -ℤ read (read t.factor *ℤ read e))
  small_fits =
      subst (FitsSigned w64) (sym computed)
      (fits_signed_from_abs w64 (turned_number t n e) (let most = turned_size t n e small in omega (arith, most)))

  pub small_turned : read (read (read t.multiplier *ℤ read n) -ℤ read (read t.factor *ℤ read e)) ≡ turned_number t n e
  small_turned = ap read computed ∙ read_number (turned_number t n e) (let most = turned_size t n e small in omega (arith, most))

-- a factor of a small product is read as it is, unless the other one is 0
scaled_read : (m n : ℤ) → nat_abs m * nat_abs n ≤ 2 ^ 30 → (m *ℤ read n) ≡ (m *ℤ n)
scaled_read m n small =
    elim (cases_eq (nat_abs m) 0) [
      | inl none ↦ zero_times m (read n) none ∙ sym (zero_times m n none)
      | inr some ↦
          let more : 1 * nat_abs n ≤ nat_abs m * nat_abs n = mul-le-mul_right (nat_abs n) (omega (arith, some)) in
          ap (λ (z : ℤ). m *ℤ z) (read_number n (omega (arith, more, small)))
    ]
  where
    zero_times : (x y : ℤ) → nat_abs x ≡ 0 → (x *ℤ y) ≡ pos 0
    zero_times x y none =
        ring_by (x ∷ y ∷ []) (var 0 ⊗ var 1) (num (pos 0)) (using (var 1) (var 0) (num (pos 0)) (omega (arith, ints, none)) nothing) refl

pub turned_read : (t : Turn) (n e : ℤ) → nat_abs t.multiplier * nat_abs n + nat_abs t.factor * nat_abs e ≤ 2 ^ 30 →
    turned_number t (read n) (read e) ≡ turned_number t n e
turned_read t n e small =
    ap₂ (λ (x y : ℤ). x -ℤ y) (scaled_read t.multiplier n (omega (arith, small))) (scaled_read t.factor e (omega (arith, small)))

-- and it stays as small as it is read
pub small_as_read : (t : Turn) (n e : ℤ) → nat_abs t.multiplier * nat_abs n + nat_abs t.factor * nat_abs e ≤ 2 ^ 30 →
    nat_abs t.multiplier * nat_abs (read n) + nat_abs t.factor * nat_abs (read e) ≤ 2 ^ 30
small_as_read t n e small =
    omega (arith, small, same t.multiplier n (omega (arith, small)), same t.factor e (omega (arith, small)))
  where
    same : (k z : ℤ) → nat_abs k * nat_abs z ≤ 2 ^ 30 → nat_abs k * nat_abs (read z) ≡ nat_abs k * nat_abs z
    same k z less = sym (unsigned_abs-mul k (read z)) ∙ ap nat_abs (scaled_read k z less) ∙ unsigned_abs-mul k z

-- what goes so often into a number isn't more often in it than the number's size
pub multiplied_small : (o k new old : ℤ) → (k *ℤ new) ≡ old → 0 < nat_abs new → nat_abs o * nat_abs old ≤ 2 ^ 30 → nat_abs o * nat_abs k ≤ 2 ^ 30
multiplied_small o k new old is some small =
    let more : nat_abs k * 1 ≤ nat_abs k * nat_abs new = mul-le-mul_left (nat_abs k) some in
    let less : nat_abs k ≤ nat_abs old = omega (arith, more, ap nat_abs is, unsigned_abs-mul k new) in
    omega (arith, mul-le-mul_left (nat_abs o) less, small)

moved : (k o new old : ℤ) → (k *ℤ new) ≡ old → ((k *ℤ o) *ℤ new) ≡ (o *ℤ old)
moved k o new old is =
    ring_by (k ∷ o ∷ new ∷ old ∷ []) ((var 0 ⊗ var 1) ⊗ var 2) (var 1 ⊗ var 3) (using (var 1) (var 0 ⊗ var 2) (var 3) is nothing) refl

-- the first numbers are multiplied, and the next one is written
pub put_numbers : (column : ℕ) (number : ℤ) (olds mids news : List ℤ) (old new k q : ℤ) → column < length olds →
    length mids ≡ length olds → ((c : ℕ) → c < column → number_at mids c ≡ (k *ℤ number_at olds c)) →
    ((c : ℕ) → column ≤ c → number_at mids c ≡ number_at olds c) → news ≡ slice_set mids column q →
    (k *ℤ new) ≡ old → (q *ℤ new) ≡ number → ArePutOver column number olds old news new
put_numbers column number olds mids news old new k q inside counted first others written k_is q_is =
    subst (λ (zs : List ℤ). ArePutOver column number olds old zs new) (sym written) record {
      count = length-set mids column q ∙ counted;
      before = λ c c_in.
          ap (λ (z : ℤ). z *ℤ new) (get_or-set_other mids column c q (pos 0) (λ same. omega (arith, c_in, same)) ∙ first c c_in)
          ∙ moved k (number_at olds c) new old k_is;
      own = ap (λ (z : ℤ). z *ℤ new) (get_or-set_same mids column q (pos 0) (omega (arith, inside, counted))) ∙ q_is;
      behind = λ c c_from.
          get_or-set_other mids column c q (pos 0) (λ same. omega (arith, c_from, same)) ∙ others c (omega (arith, c_from));
    }

-- or the next one alone, where the divisor goes into it
pub put_alone : (column : ℕ) (number : ℤ) (olds news : List ℤ) (part q : ℤ) → column < length olds →
    news ≡ slice_set olds column q → (q *ℤ part) ≡ number → ArePutOver column number olds part news part
put_alone column number olds news part q inside written q_is =
    subst (λ (zs : List ℤ). ArePutOver column number olds part zs part) (sym written) record {
      count = length-set olds column q;
      before = λ c c_in. ap (λ (z : ℤ). z *ℤ part) (get_or-set_other olds column c q (pos 0) (λ same. omega (arith, c_in, same)));
      own = ap (λ (z : ℤ). z *ℤ part) (get_or-set_same olds column q (pos 0) inside) ∙ q_is;
      behind = λ c c_from. get_or-set_other olds column c q (pos 0) (λ same. omega (arith, c_from, same));
    }

-- the numbers before a column have turned, and stand over what they have in common with a divisor
pub record AreTurnedFirst (turn : Turn) (olds line : List ℤ) (first : Divisor) (i : ℕ) (news : List ℤ) (part : Divisor) : Type 0 where
  pub reciprocal : IsReciprocal part
  pub count : length news ≡ length olds
  pub done : (c : ℕ) → c < i → (number_at news c *ℤ part.number) ≡ turned_number turn (number_at olds c) (number_at line c)
  pub rest : (c : ℕ) → i ≤ c → number_at news c ≡ number_at olds c
  pub divides : nat_abs part.number ∣ nat_abs first.number
  pub greatest : (d : ℕ) → d ∣ nat_abs first.number →
      ((c : ℕ) → c < i → d ∣ nat_abs (turned_number turn (number_at olds c) (number_at line c))) → d ∣ nat_abs part.number

pub none_turned : (turn : Turn) (olds line : List ℤ) (first : Divisor) → IsReciprocal first → AreTurnedFirst turn olds line first 0 olds first
none_turned turn olds line first reciprocal = record {
  reciprocal = reciprocal;
  count = refl;
  done = λ c c_in. absurd (omega (arith, c_in));
  rest = λ c c_from. refl;
  divides = dvd_refl (nat_abs first.number);
  greatest = λ d below all. below;
}

-- one more has
pub one_turned : (turn : Turn) (olds line : List ℤ) (first : Divisor) (i : ℕ) (news : List ℤ) (part : Divisor) (number : ℤ)
    (nexts : List ℤ) (next : Divisor) → AreTurnedFirst turn olds line first i news part →
    number ≡ turned_number turn (number_at olds i) (number_at line i) → IsReciprocal next →
    next.number ≡ pos (gcd (nat_abs number) (nat_abs part.number)) → ArePutOver i number news part.number nexts next.number →
    AreTurnedFirst turn olds line first (i + 1) nexts next
one_turned turn olds line first i news part number nexts next are number_is reciprocal is put =
    let g = gcd_is (nat_abs number) (nat_abs part.number) in
    record {
      reciprocal = reciprocal;
      count = put.count ∙ are.count;
      done = all_more (λ c. (number_at nexts c *ℤ next.number) ≡ turned_number turn (number_at olds c) (number_at line c)) i
          (λ c c_in. put.before c c_in ∙ are.done c c_in) (put.own ∙ number_is);
      rest = λ c c_from. put.behind c (omega (arith, c_from)) ∙ are.rest c (omega (arith, c_from));
      divides = subst (λ (z : ℤ). nat_abs z ∣ nat_abs first.number) (sym is) (dvd_trans _ g.1 are.divides);
      greatest = λ d below all. subst (λ (z : ℤ). d ∣ nat_abs z) (sym is)
          (g.2 d (subst (λ (z : ℤ). d ∣ nat_abs z) (sym number_is) (all i (omega arith)))
          (are.greatest d below (λ c c_in. all c (omega (arith, c_in)))));
    }

-- where both lists are 0 up to a column, the numbers there have turned as they stand
pub passed_turned : (turn : Turn) (olds line : List ℤ) (first : Divisor) (i j : ℕ) (news : List ℤ) (part : Divisor) →
    AreTurnedFirst turn olds line first i news part → i ≤ j →
    ((c : ℕ) → i ≤ c → c < j → (number_at news c ≡ pos 0) × (number_at line c ≡ pos 0)) →
    AreTurnedFirst turn olds line first j news part
passed_turned turn olds line first i j news part are behind passed = record {
  reciprocal = are.reciprocal;
  count = are.count;
  done =
      λ c c_in. elim (cases_lt c i) [
        | inl before ↦ are.done c before
        | inr here ↦
            let none = passed c here c_in in
            let old : number_at olds c ≡ pos 0 = sym (are.rest c here) ∙ none.0 in
            ap (λ (z : ℤ). z *ℤ part.number) none.0 ∙ lib.IntN.zero-*ℤ part.number
            ∙ sym (ap (λ (z : ℤ). turned_number turn z (number_at line c)) old
            ∙ ap (turned_number turn (pos 0)) none.1 ∙ zero_turned turn)
      ];
  rest = λ c c_from. are.rest c (omega (arith, behind, c_from));
  divides = are.divides;
  greatest = λ d below all. are.greatest d below (λ c c_in. all c (omega (arith, c_in, behind)));
} where
  zero_turned : (turn : Turn) → turned_number turn (pos 0) (pos 0) ≡ pos 0
  zero_turned turn =
      ap (λ (z : ℤ). z -ℤ (turn.factor *ℤ pos 0)) (lib.IntN.*ℤ-zero turn.multiplier)
      ∙ ap (λ (z : ℤ). pos 0 -ℤ z) (lib.IntN.*ℤ-zero turn.factor)

-- the numbers before the next one, each times the divisor, are small
pub first_small : (turn : Turn) (olds line : List ℤ) (first : Divisor) (i : ℕ) (news : List ℤ) (part : Divisor) →
    AreTurnedFirst turn olds line first i news part → i ≤ length olds →
    ((c : ℕ) → c < length olds → nat_abs turn.multiplier * nat_abs (number_at olds c) + nat_abs turn.factor * nat_abs (number_at line c) ≤ 2 ^ 30) →
    (c : ℕ) → c < i → nat_abs (number_at news c) * nat_abs part.number ≤ 2 ^ 30
first_small turn olds line first i news part are until small c c_in =
    omega (
      arith,
      unsigned_abs-mul (number_at news c) part.number,
      ap nat_abs (are.done c c_in),
      turned_size turn (number_at olds c) (number_at line c) (small c (omega (arith, c_in, until))),
    )
