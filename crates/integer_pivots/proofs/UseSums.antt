-- Sums of rows to which the uses of a variable put its number, use by use.
use Rattle.std.proofs.Common.{◌≡◌, ℕ, ◌+◌, ◌*◌, ◌^◌, ◌<◌, ◌≤◌, refl, sym, ◌∙◌, ap, subst, List, [], ◌∷◌, length, get_or, set, drop, arith, add-one, zero-add, drop-cons, inl, inr, FitsSigned, w64}
use Rattle.std.specs.Prelude.{ℤ, pos, ◌+ℤ◌, ◌*ℤ◌, nat_abs, All, ◌≢◌}
use Rattle.std.proofs.lemmas.Bool.{cases_eq}
use Rattle.std.proofs.lemmas.Int.{fits_signed_from_abs}
use Rattle.std.proofs.lemmas.List.{at_drop_all, get_or-set_other, get_or-set_same}
use Rattle.whole_numbers.proofs.Ring.{var, num, ◌⊕◌, ◌⊗◌, ring}
use Rattle.whole_numbers.specs.Lists.{number_at}
use Rattle.whole_numbers.proofs.Sizes.{sum_size}
use Rattle.design_problem.specs.declared.form.Form.{Form}
use Rattle.design_problem.specs.Forms.{no_form}
use Rattle.integer_pivots.specs.declared.uses.Use.{Use}
use Rattle.integer_pivots.specs.Uses.{coefficient_in, size_in, uses_from}
use Rattle.integer_pivots.proofs.Sizes.{product_size, read, read_number}
use Rattle.integer_pivots.proofs.UseLaws.{other_rest, own_rest, row_told, uses_within}

abbrev pub no_use : Use
no_use = record { row = 0; coefficient = pos 0 }

-- the row has one of the uses
abbrev pub HasUse : List Use → ℕ → Type 0
HasUse us row = (k : ℕ) × ((k < length us) × ((get_or us k no_use).row ≡ row))

-- with the rest of the uses a row's sum is the whole one, and there is room for the rest
pub record IsAdded (us : List Use) (index : ℕ) (number start : ℤ) (row : ℕ) (sum : ℤ) : Type 0 where
  pub so_far : (sum +ℤ (number *ℤ coefficient_in (drop index us) row)) ≡ (start +ℤ (number *ℤ coefficient_in us row))
  pub size : HasUse us row → nat_abs sum + size_in (drop index us) row * 2 ^ 45 ≤ 2 ^ 62

-- what is added by the number as it is read is added by the number
pub added_read : (us : List Use) (index : ℕ) (number : ℤ) (first : ℕ) (olds sums : List ℤ) → nat_abs number ≤ 2 ^ 45 →
    ((row : ℕ) → IsAdded us index (read number) (number_at olds (first + row)) row (number_at sums (first + row))) →
    (row : ℕ) → IsAdded us index number (number_at olds (first + row)) row (number_at sums (first + row))
added_read us index number first olds sums small added =
    subst (λ (z : ℤ). (row : ℕ) → IsAdded us index z (number_at olds (first + row)) row (number_at sums (first + row)))
    (read_number number (omega (arith, small))) added

rest_is : (us : List Use) (index : ℕ) → index < length us → drop index us ≡ get_or us index no_use ∷ drop (index + 1) us
rest_is us index index_in = rw (add-one, drop-cons us index no_use) refl

pub others_added : (us : List Use) (index : ℕ) (number start : ℤ) (row : ℕ) (sum : ℤ) → index < length us →
    row ≢ (get_or us index no_use).row → IsAdded us index number start row sum →
    IsAdded us (index + 1) number start row sum
others_added us index number start row sum index_in apart s =
    let rest = other_rest (get_or us index no_use) (drop (index + 1) us) row apart in
    let list = rest_is us index index_in in
    let coefficient : coefficient_in (drop index us) row ≡ coefficient_in (drop (index + 1) us) row =
    ap (λ (vs : List Use). coefficient_in vs row) list ∙ rest.0 in
    let size : size_in (drop index us) row ≡ size_in (drop (index + 1) us) row = ap (λ (vs : List Use). size_in vs row) list ∙ rest.1 in
    record {
      so_far = ap (λ (z : ℤ). sum +ℤ (number *ℤ z)) (sym coefficient) ∙ s.so_far;
      size = λ has. subst (λ (n : ℕ). nat_abs sum + n * 2 ^ 45 ≤ 2 ^ 62) size (s.size has);
    }

-- what the next use puts
next_added : (us : List Use) (index : ℕ) (number start sum : ℤ) → index < length us → nat_abs number ≤ 2 ^ 45 →
    IsAdded us index number start (get_or us index no_use).row sum →
    (nat_abs (get_or us index no_use).coefficient ≤ 2 ^ 17)
    × (nat_abs ((get_or us index no_use).coefficient *ℤ number) ≤ 2 ^ 62)
    × (nat_abs (sum +ℤ ((get_or us index no_use).coefficient *ℤ number)) ≤ 2 ^ 62) × (nat_abs sum ≤ 2 ^ 62)
    × IsAdded us (index + 1) number start (get_or us index no_use).row
    (sum +ℤ ((get_or us index no_use).coefficient *ℤ number))
next_added us index number start sum index_in small s =
    let u = get_or us index no_use in
    let rest = own_rest u (drop (index + 1) us) in
    let list = rest_is us index index_in in
    let c = u.coefficient in
    let later = coefficient_in (drop (index + 1) us) u.row in
    let coefficient : coefficient_in (drop index us) u.row ≡ (c +ℤ later) = ap (λ (vs : List Use). coefficient_in vs u.row) list ∙ rest.0 in
    let size : size_in (drop index us) u.row ≡ nat_abs c + size_in (drop (index + 1) us) u.row = ap (λ (vs : List Use). size_in vs u.row) list ∙ rest.1 in
    let before : nat_abs sum + size_in (drop index us) u.row * 2 ^ 45 ≤ 2 ^ 62 = s.size (index, (index_in, refl)) in
    let product = product_size c number (2 ^ 45) small in
    let both = sum_size sum (c *ℤ number) in
    let after : nat_abs (sum +ℤ (c *ℤ number)) + size_in (drop (index + 1) us) u.row * 2 ^ 45 ≤ 2 ^ 62 = omega (arith, before, size, product, both) in (
      omega (arith, before, size),
      omega (arith, before, size, product),
      omega (arith, after),
      omega (arith, before),
      record {
        so_far = ring (sum ∷ c ∷ number ∷ later ∷ []) ((var 0 ⊕ (var 1 ⊗ var 2)) ⊕ (var 2 ⊗ var 3)) (var 0 ⊕ (var 2 ⊗ (var 1 ⊕ var 3))) refl
            ∙ ap (λ (z : ℤ). sum +ℤ (number *ℤ z)) (sym coefficient)
            ∙ s.so_far;
        size = λ has. after;
      },
    )

-- what code computes at a use
pub use_step : (us : List Use) (index : ℕ) (number start sum : ℤ) → index < length us → nat_abs number ≤ 2 ^ 45 →
    IsAdded us index number start (get_or us index no_use).row sum →
    FitsSigned w64 (read (get_or us index no_use).coefficient *ℤ read number)
    × FitsSigned w64 (read sum +ℤ read (read (get_or us index no_use).coefficient *ℤ read number))
    × IsAdded us (index + 1) number start (get_or us index no_use).row
    (read (read sum +ℤ read (read (get_or us index no_use).coefficient *ℤ read number)))
use_step us index number start sum index_in small s =
    let u = get_or us index no_use in
    let c = u.coefficient in
    let next = next_added us index number start sum index_in small s in
    let factors : (read c *ℤ read number) ≡ (c *ℤ number) =
    ap (λ (y : ℤ). y *ℤ read number) (read_number c (let e : nat_abs c < 2 ^ 63 = omega (arith, next.0) in e))
    ∙ ap (λ (y : ℤ). c *ℤ y) (read_number number (let e : nat_abs number < 2 ^ 63 = omega (arith, small) in e)) in
    let product : nat_abs (read c *ℤ read number) < 2 ^ 63 =
    subst (λ (y : ℤ). nat_abs y < 2 ^ 63) (sym factors) (let e : nat_abs (c *ℤ number) < 2 ^ 63 =
    omega (arith, next.1) in e) in
    let whole : (read sum +ℤ read (read c *ℤ read number)) ≡ (sum +ℤ (c *ℤ number)) =
    ap (λ (y : ℤ). y +ℤ read (read c *ℤ read number)) (read_number sum (let e : nat_abs sum < 2 ^ 63 = omega (arith, next.3) in e))
    ∙ ap (λ (y : ℤ). sum +ℤ y) (read_number (read c *ℤ read number) product ∙ factors) in
    let fits : nat_abs (read sum +ℤ read (read c *ℤ read number)) < 2 ^ 63 =
    subst (λ (y : ℤ). nat_abs y < 2 ^ 63) (sym whole) (let e : nat_abs (sum +ℤ (c *ℤ number)) < 2 ^ 63 =
    omega (arith, next.2) in e) in (
      fits_signed_from_abs w64 (read c *ℤ read number) product,
      fits_signed_from_abs w64 (read sum +ℤ read (read c *ℤ read number)) fits,
      subst (IsAdded us (index + 1) number start u.row) (sym (read_number (read sum +ℤ read (read c *ℤ read number)) fits ∙ whole)) next.4,
    )

-- the sums of all rows, one use further
pub sums_added : (us : List Use) (index : ℕ) (number : ℤ) (first : ℕ) (olds sums : List ℤ) → index < length us →
    nat_abs number ≤ 2 ^ 45 → first + (get_or us index no_use).row < length sums →
    ((row : ℕ) → IsAdded us index number (number_at olds (first + row)) row (number_at sums (first + row))) →
    (row : ℕ) → IsAdded us (index + 1) number (number_at olds (first + row)) row
    (number_at (set sums (first + (get_or us index no_use).row)
    (read (read (number_at sums (first + (get_or us index no_use).row))
    +ℤ read (read (get_or us index no_use).coefficient *ℤ read number)))) (first + row))
sums_added us index number first olds sums index_in small place_in so_far row =
    let u = get_or us index no_use in
    let new = read (read (number_at sums (first + u.row)) +ℤ read (read u.coefficient *ℤ read number)) in
    elim (cases_eq row u.row) [
      | inl same ↦
          subst (λ (r : ℕ). IsAdded us (index + 1) number (number_at olds (first + r)) r (number_at (set sums (first + u.row) new) (first + r))) (sym same)
          (subst (IsAdded us (index + 1) number (number_at olds (first + u.row)) u.row)
          (sym (get_or-set_same sums (first + u.row) new (pos 0) place_in))
          (use_step us index number (number_at olds (first + u.row)) (number_at sums (first + u.row)) index_in
          small (so_far u.row)).2)
      | inr apart ↦
          subst (IsAdded us (index + 1) number (number_at olds (first + row)) row)
          (sym (get_or-set_other sums (first + u.row) (first + row) new (pos 0)
          (λ (same : first + row ≡ first + u.row). apart (omega (arith, same)))))
          (others_added us index number (number_at olds (first + row)) row (number_at sums (first + row)) index_in apart (so_far row))
    ]

pub all_added : (us : List Use) (index : ℕ) (number start : ℤ) (row : ℕ) (sum : ℤ) → length us ≤ index →
    IsAdded us index number start row sum → sum ≡ (start +ℤ (number *ℤ coefficient_in us row))
all_added us index number start row sum past s =
    let none : coefficient_in (drop index us) row ≡ pos 0 = at_drop_all (λ (vs : List Use). coefficient_in vs row) us index past in
    ring (sum ∷ number ∷ []) (var 0) (var 0 ⊕ (var 1 ⊗ num (pos 0))) refl ∙ ap (λ (z : ℤ). sum +ℤ (number *ℤ z)) (sym none) ∙ s.so_far

-- a row's sum goes on by its coefficient times the variable's number
pub row_added : (rows : List Form) (us : List Use) (v row : ℕ) (number old new : ℤ) → us ≡ uses_from 0 rows v →
    new ≡ (old +ℤ (number *ℤ coefficient_in us row)) → new ≡ (old +ℤ (number *ℤ number_at (get_or rows row no_form).coefficients v))
row_added rows us v row number old new us_are new_is =
    let told : coefficient_in us row ≡ number_at (get_or rows row no_form).coefficients v =
    ap (λ (vs : List Use). coefficient_in vs row) us_are ∙ ap (coefficient_in (uses_from 0 rows v)) (sym (zero-add row)) ∙ (row_told 0 rows v row).0 in
    new_is ∙ ap (λ (z : ℤ). old +ℤ (number *ℤ z)) told

-- where each row's sum has room for its coefficient's product, each use has
pub uses_room : (rows : List Form) (us : List Use) (sums : List ℤ) (v first : ℕ) → us ≡ uses_from 0 rows v →
    ((row : ℕ) → row < length rows →
    nat_abs (number_at sums (first + row)) + nat_abs (number_at (get_or rows row no_form).coefficients v) * 2 ^ 45 ≤ 2 ^ 62) →
    All (λ u. nat_abs (number_at sums (first + u.row)) + size_in us u.row * 2 ^ 45 ≤ 2 ^ 62) us
uses_room rows us sums v first us_are room k d k_in =
    let row = (get_or us k d).row in
    let inside = subst (All (λ (u : Use). (0 ≤ u.row) × (u.row < 0 + length rows))) (sym us_are) (uses_within 0 rows v) k d k_in in
    let within : row < length rows = omega (arith, inside.1) in
    let told : size_in us row ≡ nat_abs (number_at (get_or rows row no_form).coefficients v) =
    ap (λ (vs : List Use). size_in vs row) us_are ∙ ap (size_in (uses_from 0 rows v)) (sym (zero-add row)) ∙ (row_told 0 rows v row).1 in
    subst (λ (n : ℕ). nat_abs (number_at sums (first + row)) + n * 2 ^ 45 ≤ 2 ^ 62) (sym told) (room row within)

-- the uses are by rows
pub uses_known : (rows : List Form) (us : List Use) (v first many : ℕ) → us ≡ uses_from 0 rows v →
    first + length rows ≤ many → All (λ u. first + u.row < many) us
uses_known rows us v first many us_are room k d k_in =
    let within = subst (All (λ (u : Use). (0 ≤ u.row) × (u.row < 0 + length rows))) (sym us_are) (uses_within 0 rows v) k d k_in in
    omega (arith, within.1, room)
