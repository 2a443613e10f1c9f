-- The constants of a kernel's forms where the line of one variable has changed.
use Rattle.std.specs.declared.alloc.Global.{Global}
use Rattle.std.proofs.Common.{Vec, ◌≡◌, ◌≢◌, ℕ, zero, suc, ◌+◌, ◌*◌, ◌^◌, ◌<◌, ◌≤◌, refl, sym, ◌∙◌, ap, subst, List, [], ◌∷◌, length, arith, inl, inr, get_or-set_same, get_or-set_other, zero-add, w64, to_z, of_z}
use Rattle.std.specs.Prelude.{ℤ, pos, ◌+ℤ◌, ◌-ℤ◌, ◌*ℤ◌, nat_abs, slice_index, slice_index_or, slice_set, sum_by, All}
use Rattle.std.proofs.Math.Nat.{mul-le-mul_right}
use Rattle.std.proofs.lemmas.Bool.{cases_eq}
use Rattle.std.proofs.lemmas.Int.{ints}
use Rattle.std.proofs.lemmas.List.{get_or-map, get_or_default, length-set}
use Rattle.std.proofs.lemmas.List.Sums.{sum_by-cons}
use Rattle.whole_numbers.proofs.Ring.{var, ◌⊕◌, ◌⊗◌, ring}
use Rattle.whole_numbers.proofs.Sizes.{sum_size}
use Rattle.whole_numbers.specs.Lists.{number_at}
use Rattle.design_problem.specs.Forms.{no_form, value_for_costs}
use Rattle.fraction_table.specs.Tableaus.{FitsBox}
use Rattle.fraction_table.proofs.Pivots.{members_long}
use Rattle.integer_pivots.specs.declared.line.Line.{Line}
use Rattle.integer_pivots.specs.declared.uses.Use.{Use}
use Rattle.integer_pivots.specs.Lines.{no_line}
use Rattle.integer_pivots.specs.Numbers.{AllWithin, product_sum, weight_of}
use Rattle.integer_pivots.specs.Uses.{coefficient_in, size_in, uses_from}
use Rattle.integer_pivots.proofs.Sizes.{difference_small, product_size, product_small, read_number}
use Rattle.integer_pivots.proofs.UseLaws.{list_at, lists_many, row_told, uses_within}
use Rattle.table_kernel.specs.declared.kernel.Kernel.{Kernel}
use Rattle.table_kernel.specs.Constants.{AreByFirst, AreFirstSmall, high_constant}
use Rattle.table_kernel.specs.Kernels.{IsBounded, IsShaped, width_of}
use Rattle.table_kernel.specs.Rows.{row_constant_of}
use Rattle.table_kernel.proofs.Columns.{common_small}
use Rattle.table_kernel.proofs.ConstantSums.{sums_alike}
use Rattle.table_kernel.proofs.Places.{place_cases}

-- a sum of products where one number has changed
pub moved_sum : (cs zs ys : List ℤ) (v : ℕ) (d : ℤ) → length cs ≤ length zs → length cs ≤ length ys → v < length cs →
    ((k : ℕ) → k < length cs → k ≢ v → number_at ys k ≡ number_at zs k) → number_at ys v ≡ (number_at zs v +ℤ d) →
    product_sum cs ys ≡ (product_sum cs zs +ℤ (d *ℤ number_at cs v))
moved_sum [] zs ys v d zs_long ys_long v_in others own = absurd (omega (arith, v_in))
moved_sum (c ∷ cs) [] ys v d zs_long ys_long v_in others own = absurd (omega (arith, zs_long))
moved_sum (c ∷ cs) (z ∷ zs) [] v d zs_long ys_long v_in others own = absurd (omega (arith, ys_long))
moved_sum (c ∷ cs) (z ∷ zs) (y ∷ ys) zero d zs_long ys_long v_in others own =
    ap (λ (s : ℤ). (c *ℤ y) +ℤ s) (sums_alike cs ys zs (omega (arith, ys_long)) (omega (arith, zs_long))
    (λ k k_in. others (suc k) (omega (arith, k_in)) (λ (same : suc k ≡ 0). absurd (omega (arith, same)))))
    ∙ ap (λ (x : ℤ). (c *ℤ x) +ℤ product_sum cs zs) own
    ∙ ring (c ∷ z ∷ d ∷ product_sum cs zs ∷ []) ((var 0 ⊗ (var 1 ⊕ var 2)) ⊕ var 3) (((var 0 ⊗ var 1) ⊕ var 3) ⊕ (var 2 ⊗ var 0)) refl
moved_sum (c ∷ cs) (z ∷ zs) (y ∷ ys) (suc v) d zs_long ys_long v_in others own =
    ap (λ (x : ℤ). (c *ℤ x) +ℤ product_sum cs ys) (others 0 (omega arith) (λ (same : 0 ≡ suc v). absurd (omega (arith, same))))
    ∙ ap (λ (s : ℤ). (c *ℤ z) +ℤ s) (moved_sum cs zs ys v d (omega (arith, zs_long)) (omega (arith, ys_long)) (omega (arith, v_in))
    (λ k k_in apart. others (suc k) (omega (arith, k_in)) (λ (same : suc k ≡ suc v). apart (omega (arith, same)))) own)
    ∙ ring (c ∷ z ∷ product_sum cs zs ∷ (d *ℤ number_at cs v) ∷ []) ((var 0 ⊗ var 1) ⊕ (var 2 ⊕ var 3)) (((var 0 ⊗ var 1) ⊕ var 2) ⊕ var 3) refl

-- how large a sum of products can be where the numbers at the places of coefficients are small
pub first_sum_size : (most : ℕ) (cs zs : List ℤ) → ((k : ℕ) → k < length cs → nat_abs (number_at zs k) ≤ most) →
    nat_abs (product_sum cs zs) ≤ sum_by nat_abs cs * most
first_sum_size most [] zs small = omega arith
first_sum_size most (c ∷ cs) [] small = omega arith
first_sum_size most (c ∷ cs) (z ∷ zs) small =
    let term = product_size c z most (small 0 (omega arith)) in
    let rest = first_sum_size most cs zs (λ k k_in. small (suc k) (omega (arith, k_in))) in
    rw (sum_by-cons nat_abs c cs) (omega (arith, term, rest, sum_size (c *ℤ z) (product_sum cs zs)))

-- a coefficient is no larger than all of them together
pub coefficient_light : (cs : List ℤ) (v : ℕ) → nat_abs (number_at cs v) ≤ sum_by nat_abs cs
coefficient_light [] v = omega arith
coefficient_light (c ∷ cs) zero = rw (sum_by-cons nat_abs c cs) (omega arith)
coefficient_light (c ∷ cs) (suc v) = rw (sum_by-cons nat_abs c cs) (omega (arith, coefficient_light cs v))

-- a row's constant is at most 2^61, by constants of x - low of at most 2^44
pub row_small : (k : Kernel) → IsBounded k → All (FitsBox k.table.costs) k.table.rows.items → (zs : List ℤ) → AreFirstSmall k zs →
    (row : ℕ) → row < length k.table.rows.items →
    nat_abs (row_constant_of k.common k.table.costs.low zs (slice_index_or k.table.rows.items row no_form)) ≤ 2 ^ 61
row_small k b fit zs small row row_in =
    let f = slice_index_or k.table.rows.items row no_form in
    let fits = fit row no_form row_in in
    let value = product_small (2 ^ 30) (2 ^ 27) k.common (value_for_costs f k.table.costs.low) (common_small k b) (omega (arith, fits.corner)) in
    let sum = first_sum_size (2 ^ 44) f.coefficients zs (λ v v_in. small v (omega (arith, v_in, fits.count))) in
    let light : weight_of f ≤ 2 ^ 16 = b.rows row no_form row_in in
    let most = mul-le-mul_right (2 ^ 44) light in
    omega (arith, value, sum, most, sum_size (k.common *ℤ value_for_costs f k.table.costs.low) (product_sum f.coefficients zs))

-- the uses are by rows
pub uses_known : (k : Kernel) (v : ℕ) (us : List Use) → us ≡ uses_from 0 k.table.rows.items v → All (λ u. u.row < length k.table.rows.items) us
uses_known k v us are i d i_in =
    let within = subst (All (λ (u : Use). (0 ≤ u.row) × (u.row < 0 + length k.table.rows.items))) (sym are) (uses_within 0 k.table.rows.items v) i d i_in in
    omega (arith, within.1)

-- what a row has in the uses of a variable
pub use_told : (k : Kernel) (v row : ℕ) (us : List Use) → us ≡ uses_from 0 k.table.rows.items v →
    (coefficient_in us row ≡ number_at (slice_index_or k.table.rows.items row no_form).coefficients v)
    × (size_in us row ≡ nat_abs (number_at (slice_index_or k.table.rows.items row no_form).coefficients v))
use_told k v row us are =
    let told = row_told 0 k.table.rows.items v row in (
      ap (λ (vs : List Use). coefficient_in vs row) are ∙ ap (coefficient_in (uses_from 0 k.table.rows.items v)) (sym (zero-add row)) ∙ told.0,
      ap (λ (vs : List Use). size_in vs row) are ∙ ap (size_in (uses_from 0 k.table.rows.items v)) (sym (zero-add row)) ∙ told.1,
    )

-- the list that is read holds the variable's uses
pub uses_read : (k : Kernel) → IsShaped k → (v : ℕ) (list : Vec Use Global) → v < width_of k → list ≡ slice_index_or k.uses.items v list →
    list.items ≡ uses_from 0 k.table.rows.items v
uses_read k s v list v_in is =
    let many = lists_many k.uses.items k.table.rows.items (width_of k) s.uses in
    ap (λ (l : Vec Use Global). l.items) is
    ∙ sym (get_or-map (λ (l : Vec Use Global). l.items) k.uses.items v list [] (omega (arith, v_in, many)))
    ∙ list_at k.uses.items k.table.rows.items (width_of k) v s.uses v_in

-- there is a constant for each form
pub constants_many : (k : Kernel) → IsShaped k → length k.constants.items ≡ width_of k + width_of k + length k.table.rows.items
constants_many k s = s.constants ∙ members_long k.table.costs (length k.table.rows.items)

-- What code computes as a variable's new constant less its old one: it is that, and at most 2^45.
pub record IsChange (k : Kernel) (v : ℕ) (x old : ℤ) : Type 0 where
  pub size : nat_abs (to_z w64 (of_z w64 x) -ℤ to_z w64 (of_z w64 old)) ≤ 2 ^ 45
  pub read_size : nat_abs (to_z w64 (of_z w64 (to_z w64 (of_z w64 x) -ℤ to_z w64 (of_z w64 old)))) ≤ 2 ^ 45
  pub is : to_z w64 (of_z w64 (to_z w64 (of_z w64 x) -ℤ to_z w64 (of_z w64 old))) ≡ (x -ℤ number_at k.constants.items v)

change_read : (k : Kernel) (v : ℕ) (x old : ℤ) → nat_abs x ≤ 2 ^ 44 → nat_abs (number_at k.constants.items v) ≤ 2 ^ 44 →
    old ≡ number_at k.constants.items v → IsChange k v x old
change_read k v x old x_small there_small old_is =
    let there = number_at k.constants.items v in
    let both : (to_z w64 (of_z w64 x) -ℤ to_z w64 (of_z w64 old)) ≡ (x -ℤ there) =
    ap (λ (z : ℤ). z -ℤ to_z w64 (of_z w64 old)) (read_number x (omega (arith, x_small)))
    ∙ ap (λ (z : ℤ). x -ℤ z) (ap (λ (z : ℤ). to_z w64 (of_z w64 z)) old_is ∙ read_number there (omega (arith, there_small))) in
    let size : nat_abs (x -ℤ there) ≤ 2 ^ 45 = omega (arith, difference_small (2 ^ 44) (2 ^ 44) x there x_small there_small) in
    let all = ap (λ (z : ℤ). to_z w64 (of_z w64 z)) both ∙ read_number (x -ℤ there) (omega (arith, size)) in
    record {
      size = subst (λ (z : ℤ). nat_abs z ≤ 2 ^ 45) (sym both) size;
      read_size = subst (λ (z : ℤ). nat_abs z ≤ 2 ^ 45) (sym all) size;
      is = all;
    }

-- what code reads of a kernel with two constants put
pub line_read : (k : Kernel) → IsShaped k → (v : ℕ) (line : Line) → v < width_of k → line ≡ slice_index_or k.lows.items v line →
    line ≡ slice_index_or k.lows.items v no_line
line_read k s v line v_in is = is ∙ get_or_default k.lows.items v line no_line (omega (arith, v_in, s.lows))

pub common_read : (k : Kernel) → IsBounded k → to_z w64 (of_z w64 k.common) ≡ k.common
common_read k b = read_number k.common (omega (arith, common_small k b))

old_read : (k : Kernel) → IsShaped k → (v : ℕ) (old : ℤ) → v < width_of k → old ≡ slice_index_or k.constants.items v old →
    old ≡ number_at k.constants.items v
old_read k s v old v_in is = is ∙ get_or_default k.constants.items v old (pos 0) (omega (arith, v_in, constants_many k s))

-- the change of a variable's constant, by the kernel's old one, which is small
pub change_of : (k : Kernel) → IsShaped k → AreFirstSmall k k.constants.items → (v : ℕ) (x old : ℤ) → v < width_of k → nat_abs x ≤ 2 ^ 44 →
    old ≡ slice_index_or k.constants.items v old → IsChange k v x old
change_of k s first v x old v_in x_small is = change_read k v x old x_small (first v v_in) (old_read k s v old v_in is)

-- a variable's two constants are put
abbrev pub AreTwoPut : Kernel → ℕ → ℤ → ℤ → List ℤ → Type 0
AreTwoPut k v x y puts = puts ≡ slice_set (slice_set k.constants.items v x) (width_of k + v) y

pub puts_read : (k : Kernel) (v n : ℕ) (x y : ℤ) (puts : List ℤ) → nat_abs x ≤ 2 ^ 44 → nat_abs y ≤ 2 ^ 62 → n ≡ width_of k →
    puts ≡ slice_set (slice_set k.constants.items v (to_z w64 (of_z w64 x))) (n + v) (to_z w64 (of_z w64 y)) → AreTwoPut k v x y puts
puts_read k v n x y puts x_small y_small n_is is =
    is
    ∙ ap (λ (z : ℤ). slice_set (slice_set k.constants.items v z) (n + v) (to_z w64 (of_z w64 y))) (read_number x (omega (arith, x_small)))
    ∙ ap (slice_set (slice_set k.constants.items v x) (n + v)) (read_number y (omega (arith, y_small)))
    ∙ ap (λ (m : ℕ). slice_set (slice_set k.constants.items v x) (m + v) y) n_is

pub puts_long : (k : Kernel) (v : ℕ) (x y : ℤ) (puts : List ℤ) → AreTwoPut k v x y puts → length puts ≡ length k.constants.items
puts_long k v x y puts is =
    ap length is ∙ length-set (slice_set k.constants.items v x) (width_of k + v) y ∙ length-set k.constants.items v x

-- The constants once a variable's own two were put, and its uses by the rows.
pub record AreFollowed (k : Kernel) (at : ℕ) (x y : ℤ) (news : List ℤ) : Type 0 where
  pub count : length news ≡ length k.constants.items
  pub own : number_at news at ≡ x
  pub others : (v : ℕ) → v < width_of k → v ≢ at → number_at news v ≡ number_at k.constants.items v
  pub high_own : number_at news (width_of k + at) ≡ y
  pub high_others : (v : ℕ) → v < width_of k → v ≢ at → number_at news (width_of k + v) ≡ number_at k.constants.items (width_of k + v)
  pub rows : (row : ℕ) → row < length k.table.rows.items → number_at news (width_of k + width_of k + row)
      ≡ (number_at k.constants.items (width_of k + width_of k + row)
      +ℤ ((x -ℤ number_at k.constants.items at) *ℤ number_at (slice_index_or k.table.rows.items row no_form).coefficients at))

-- what was put at the variable's two places leaves those of the rows
pub rows_stay : (k : Kernel) (at : ℕ) (x y : ℤ) (puts : List ℤ) → at < width_of k → AreTwoPut k at x y puts → (row : ℕ) →
    number_at puts (width_of k + width_of k + row) ≡ number_at k.constants.items (width_of k + width_of k + row)
rows_stay k at x y puts at_in puts_are row =
    let w = width_of k in
    ap (λ (zs : List ℤ). number_at zs (w + w + row)) puts_are
    ∙ get_or-set_other (slice_set k.constants.items at x) (w + at) (w + w + row) y (pos 0)
    (λ (same : w + w + row ≡ w + at). absurd (omega (arith, same, at_in)))
    ∙ get_or-set_other k.constants.items at (w + w + row) x (pos 0) (λ (same : w + w + row ≡ at). absurd (omega (arith, same, at_in)))

-- what code puts are these
pub are_followed : (k : Kernel) → IsShaped k → (at : ℕ) (x y change : ℤ) (us : List Use) (puts news : List ℤ) → at < width_of k →
    us ≡ uses_from 0 k.table.rows.items at → change ≡ (x -ℤ number_at k.constants.items at) → length news ≡ length puts →
    AreTwoPut k at x y puts →
    ((v : ℕ) → v < width_of k + width_of k → number_at news v ≡ number_at puts v) →
    ((row : ℕ) → number_at news (width_of k + width_of k + row)
    ≡ (number_at puts (width_of k + width_of k + row) +ℤ (change *ℤ coefficient_in us row))) →
    AreFollowed k at x y news
are_followed k s at x y change us puts news at_in us_are change_is long puts_are before rows = record {
  count = long ∙ puts_long k at x y puts puts_are;
  own = first at (omega (arith, at_in))
      ∙ get_or-set_other put (w + at) at y (pos 0) (λ (same : at ≡ w + at). absurd (omega (arith, same, at_in)))
      ∙ get_or-set_same olds at x (pos 0) (omega (arith, at_in, constants_many k s));
  others = λ v low apart. first v (omega (arith, low))
      ∙ get_or-set_other put (w + at) v y (pos 0) (λ (same : v ≡ w + at). absurd (omega (arith, same, low)))
      ∙ get_or-set_other olds at v x (pos 0) apart;
  high_own = first (w + at) (omega (arith, at_in))
      ∙ get_or-set_same put (w + at) y (pos 0) (omega (arith, at_in, length-set olds at x, constants_many k s));
  high_others = λ v high apart. first (w + v) (omega (arith, high))
      ∙ get_or-set_other put (w + at) (w + v) y (pos 0) (λ (same : w + v ≡ w + at). apart (omega (arith, same)))
      ∙ get_or-set_other olds at (w + v) x (pos 0) (λ (same : w + v ≡ at). absurd (omega (arith, same, at_in)));
  rows = λ row row_in. rows row
      ∙ ap (λ (z : ℤ). z +ℤ (change *ℤ coefficient_in us row)) (rows_stay k at x y puts at_in puts_are row)
      ∙ ap (λ (z : ℤ). number_at olds (w + w + row) +ℤ (z *ℤ coefficient_in us row)) change_is
      ∙ ap (λ (z : ℤ). number_at olds (w + w + row) +ℤ ((x -ℤ number_at olds at) *ℤ z)) (use_told k at row us us_are).0;
}
  where
    olds : List ℤ
    olds = k.constants.items

    w : ℕ
    w = width_of k

    put : List ℤ
    put = slice_set olds at x

    first : (v : ℕ) → v < w + w → number_at news v ≡ number_at (slice_set put (w + at) y) v
    first v v_in = before v v_in ∙ ap (λ (zs : List ℤ). number_at zs v) puts_are

-- they are by those of x - low, which stand first
pub followed_by_first : (k : Kernel) → IsShaped k → All (FitsBox k.table.costs) k.table.rows.items → (at : ℕ) (x y : ℤ) (news : List ℤ) →
    at < width_of k → y ≡ high_constant (slice_index k.table.costs.low at) (slice_index k.table.costs.high at) k.common x →
    AreByFirst k k.constants.items → AreFollowed k at x y news → AreByFirst k news
followed_by_first k s fit at x y news v_in y_is by_first f = record {
  count = f.count;
  high = λ v high.
      let made : ℕ → ℤ → ℤ = λ u z. high_constant (slice_index k.table.costs.low u) (slice_index k.table.costs.high u) k.common z in
      elim (cases_eq v at) [
        | inl same ↦
            ap (λ (u : ℕ). number_at news (width_of k + u)) same ∙ f.high_own ∙ y_is
            ∙ ap (made at) (sym f.own)
            ∙ ap (λ (u : ℕ). made u (number_at news u)) (sym same)
        | inr apart ↦ f.high_others v high apart ∙ by_first.high v high ∙ ap (made v) (sym (f.others v high apart))
      ];
  rows = λ row row_in.
      let form = slice_index_or k.table.rows.items row no_form in
      let cs = form.coefficients in
      let olds = k.constants.items in
      let value = k.common *ℤ value_for_costs form k.table.costs.low in
      let d = x -ℤ number_at olds at in
      let few : length cs ≡ width_of k = (fit row no_form row_in).count in
      let many = constants_many k s in
      let changed : number_at news at ≡ (number_at olds at +ℤ d) = omega (arith, ints, f.own) in
      let sum : product_sum cs news ≡ (product_sum cs olds +ℤ (d *ℤ number_at cs at)) =
      moved_sum cs olds news at d (omega (arith, few, many)) (omega (arith, few, many, f.count)) (omega (arith, few, v_in))
      (λ u u_in apart. f.others u (omega (arith, u_in, few)) apart) changed in
      f.rows row row_in
      ∙ ap (λ (z : ℤ). z +ℤ (d *ℤ number_at cs at)) (by_first.rows row row_in)
      ∙ ring (value ∷ product_sum cs olds ∷ (d *ℤ number_at cs at) ∷ []) ((var 0 ⊕ var 1) ⊕ var 2) (var 0 ⊕ (var 1 ⊕ var 2)) refl
      ∙ ap (λ (z : ℤ). value +ℤ z) (sym sum);
}

-- those of x - low are small, too
pub followed_first : (k : Kernel) (at : ℕ) (x y : ℤ) (news : List ℤ) → nat_abs x ≤ 2 ^ 44 → AreFirstSmall k k.constants.items →
    AreFollowed k at x y news → AreFirstSmall k news
followed_first k at x y news x_small first f v v_in =
    elim (cases_eq v at) [
      | inl same ↦
          subst (λ (z : ℤ). nat_abs z ≤ 2 ^ 44) (sym (ap (number_at news) same ∙ f.own)) x_small
      | inr apart ↦ subst (λ (z : ℤ). nat_abs z ≤ 2 ^ 44) (sym (f.others v v_in apart)) (first v v_in)
    ]

-- and all are at most 2^62
pub followed_small : (k : Kernel) → IsShaped k → IsBounded k → All (FitsBox k.table.costs) k.table.rows.items → (at : ℕ) (x y : ℤ) (news : List ℤ) →
    nat_abs x ≤ 2 ^ 44 → nat_abs y ≤ 2 ^ 62 → AreFirstSmall k k.constants.items → AreFollowed k at x y news → AreByFirst k news →
    AllWithin (2 ^ 62) news
followed_small k s b fit at x y news x_small y_small first f by_first i d i_in =
    let w = width_of k in
    let Small : ℤ → Type 0 = λ z. nat_abs z ≤ 2 ^ 62 in
    let low = followed_first k at x y news x_small first f in
    let here : Small (number_at news i) = elim (place_cases w (length k.table.rows.items) i (omega (arith, i_in, f.count, constants_many k s))) [
      | inl early ↦ omega (arith, low i early)
      | inr (inl high) ↦ subst (λ (p : ℕ). Small (number_at news p)) high.2 (high_small high.0 high.1)
      | inr (inr late) ↦
          subst (λ (p : ℕ). Small (number_at news p)) late.2
          (subst Small (sym (by_first.rows late.0 late.1)) (omega (arith, row_small k b fit news low late.0 late.1)))
    ] in
    subst Small (get_or_default news i (pos 0) d i_in) here
  where
    high_small : (v : ℕ) → v < width_of k → nat_abs (number_at news (width_of k + v)) ≤ 2 ^ 62
    high_small v v_in =
        elim (cases_eq v at) [
          | inl same ↦ subst (λ (z : ℤ). nat_abs z ≤ 2 ^ 62) (sym (ap (λ (u : ℕ). number_at news (width_of k + u)) same ∙ f.high_own)) y_small
          | inr apart ↦
              subst (λ (z : ℤ). nat_abs z ≤ 2 ^ 62) (sym (f.high_others v v_in apart))
              (b.constants (width_of k + v) (pos 0) (omega (arith, v_in, constants_many k s)))
        ]

-- there is room for what each use adds
pub uses_fit : (k : Kernel) → IsShaped k → IsBounded k → All (FitsBox k.table.costs) k.table.rows.items →
    (v : ℕ) (us : List Use) (puts : List ℤ) →
    us ≡ uses_from 0 k.table.rows.items v → AreFirstSmall k k.constants.items → AreByFirst k k.constants.items →
    ((row : ℕ) → number_at puts (width_of k + width_of k + row) ≡ number_at k.constants.items (width_of k + width_of k + row)) →
    All (λ u. nat_abs (number_at puts (width_of k + width_of k + u.row)) + size_in us u.row * 2 ^ 45 ≤ 2 ^ 62) us
uses_fit k s b fit v us puts us_are first by_first stay i d i_in =
    let row = (slice_index_or us i d).row in
    let row_in : row < length k.table.rows.items = uses_known k v us us_are i d i_in in
    let cs = (slice_index_or k.table.rows.items row no_form).coefficients in
    let there : number_at puts (width_of k + width_of k + row)
    ≡ row_constant_of k.common k.table.costs.low k.constants.items (slice_index_or k.table.rows.items row no_form) =
    stay row ∙ by_first.rows row row_in in
    let sum : nat_abs (number_at puts (width_of k + width_of k + row)) ≤ 2 ^ 61 =
    subst (λ (z : ℤ). nat_abs z ≤ 2 ^ 61) (sym there) (row_small k b fit k.constants.items first row row_in) in
    let size : size_in us row ≡ nat_abs (number_at cs v) = (use_told k v row us us_are).1 in
    let light : sum_by nat_abs cs ≤ 2 ^ 16 = b.rows row no_form row_in in
    omega (arith, sum, size, coefficient_light cs v, light)
