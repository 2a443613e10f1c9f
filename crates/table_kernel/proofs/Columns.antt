-- A form's numbers at the columns and its constant, as sums over the numbers that a kernel holds; and their sizes.
use Rattle.std.proofs.Common.{◌≡◌, ℕ, zero, suc, ◌*◌, ◌^◌, ◌<◌, ◌≤◌, refl, sym, subst, ◌∙◌, ap, List, [], ◌∷◌, map, length, arith}
use Rattle.std.specs.Prelude.{ℤ, pos, negsuc, ◌+ℤ◌, ◌*ℤ◌, neg_ℤ, nat_abs, slice_index_or, sum_by}
use Rattle.std.proofs.Math.Nat.{div-le_self, mul-le-mul_left, mul-le-mul_right}
use Rattle.std.proofs.lemmas.Int.{ints, unsigned_abs-mul}
use Rattle.std.proofs.lemmas.List.{get_or-map, length-map}
use Rattle.std.proofs.lemmas.List.Elements.{All-tail, All-map, All-weaker}
use Rattle.std.proofs.lemmas.List.Sums.{sum_by-cons}
use Rattle.whole_numbers.proofs.Ring.{var, num, neg, ◌⊗◌, ring}
use Rattle.whole_numbers.specs.Lists.{number_at}
use Rattle.whole_numbers.proofs.Sizes.{sum_size}
use Rattle.design_problem.specs.declared.form.Form.{Form}
use Rattle.design_problem.specs.declared.tree.Member.{Member}
use Rattle.design_problem.specs.declared.tree.Member.TheVariants.{Low, High, Row}
use Rattle.design_problem.specs.Forms.{no_form, value_for_costs}
use Rattle.design_problem.specs.Basis.{IsFormOf, member_form, unit}
use Rattle.fraction_table.specs.Pivots.{member_at}
use Rattle.fraction_table.specs.ValidTables.{from_lows, number_of_form}
use Rattle.fraction_table.proofs.StartingTables.{members_are}
use Rattle.fraction_table.proofs.theory.Units.{unit_from_lows}
use Rattle.integer_pivots.specs.Numbers.{AllWithin, product_sum, weight_of}
use Rattle.integer_pivots.proofs.LineReads.{number_small}
use Rattle.integer_pivots.proofs.Sizes.{number_within, size_most}
use Rattle.table_kernel.specs.declared.kernel.Kernel.{Kernel}
use Rattle.integer_pivots.specs.declared.line.Line.{Line}
use Rattle.integer_pivots.specs.Lines.{IsLine, no_line}
use Rattle.table_kernel.specs.Kernels.{IsBounded, IsShaped, lows_of, width_of}
use Rattle.table_kernel.specs.Numbers.{number_at_column, scaled_line, share_of}
use Rattle.table_kernel.specs.Constants.{constant_of_line}
use Rattle.table_kernel.specs.Lines.{column_of, form_of_place}
use Rattle.table_kernel.specs.Turns.{line_of}

-- at a place, a sum over the numbers of x - low is one over a number for each variable
pub from_lows_at : (cs : List ℤ) (lows : List (List ℤ)) (place : ℕ) → from_lows cs lows place ≡ product_sum cs (map (λ ts. number_at ts place) lows)
from_lows_at [] lows place = refl
from_lows_at (x ∷ cs) [] place = refl
from_lows_at (x ∷ cs) (ts ∷ lows) place = ap (λ s. (x *ℤ number_at ts place) +ℤ s) (from_lows_at cs lows place)

-- the constants of x - low over the common denominator
abbrev pub low_constants : Kernel → List ℤ
low_constants k = map (λ ts. number_at ts 0) (lows_of k)

-- the numbers of a form, by those of x - low
pub column_number : (k : Kernel) (D : ℕ) (low : List ℕ) (f : Form) (c : ℕ) → number_of_form D low (lows_of k) f (suc c) ≡ number_at_column f (column_of k c)
column_number k D low f c = from_lows_at f.coefficients (lows_of k) (suc c)

pub constant_number : (k : Kernel) (D : ℕ) (low : List ℕ) (f : Form) →
    number_of_form D low (lows_of k) f 0 ≡ ((pos D *ℤ value_for_costs f low) +ℤ product_sum f.coefficients (low_constants k))
constant_number k D low f = ap (λ z. (pos D *ℤ value_for_costs f low) +ℤ z) (from_lows_at f.coefficients (lows_of k) 0)

-- a number for each variable
at_place_long : (k : Kernel) → IsShaped k → (place : ℕ) → length (map (λ ts. number_at ts place) (lows_of k)) ≡ width_of k
at_place_long k s place = length-map (lows_of k) (λ (ts : List ℤ). number_at ts place) ∙ length-map k.lows.items (scaled_line (nat_abs k.common)) ∙ s.lows

pub column_long : (k : Kernel) → IsShaped k → (c : ℕ) → length (column_of k c) ≡ width_of k
column_long k s c = at_place_long k s (suc c)

pub constants_long : (k : Kernel) → IsShaped k → length (low_constants k) ≡ width_of k
constants_long k s = at_place_long k s 0

-- a number of a line at a place, the constant first
abbrev pub line_number : Line → ℕ → ℤ
line_number line place = number_at (line.constant ∷ line.numbers) place

pub scaled_at : (n : ℤ) (zs : List ℤ) (place : ℕ) → number_at (map (λ z. z *ℤ n) zs) place ≡ (number_at zs place *ℤ n)
scaled_at n [] place = ring (n ∷ []) (num (pos 0)) (num (pos 0) ⊗ var 0) refl
scaled_at n (z ∷ zs) zero = refl
scaled_at n (z ∷ zs) (suc place) = scaled_at n zs place

-- that of the scaled one
pub scaled_number : (D : ℕ) (line : Line) (place : ℕ) → number_at (scaled_line D line) place ≡ (line_number line place *ℤ pos (share_of D line))
scaled_number D line place = scaled_at (pos (share_of D line)) (line.constant ∷ line.numbers) place

at_place_at : (k : Kernel) → IsShaped k → (place v : ℕ) → v < width_of k →
    number_at (map (λ ts. number_at ts place) (lows_of k)) v ≡ (line_number (line_of k v) place *ℤ pos (share_of (nat_abs k.common) (line_of k v)))
at_place_at k s place v v_in =
    let lows_long : length (lows_of k) ≡ length k.lows.items = length-map k.lows.items (scaled_line (nat_abs k.common)) in
    get_or-map (λ (ts : List ℤ). number_at ts place) (lows_of k) v (scaled_line (nat_abs k.common) no_line) (pos 0) (omega (arith, s.lows, v_in, lows_long))
    ∙ ap (λ (ts : List ℤ). number_at ts place) (get_or-map (scaled_line (nat_abs k.common)) k.lows.items v no_line (scaled_line (nat_abs k.common) no_line)
    (omega (arith, s.lows, v_in)))
    ∙ scaled_number (nat_abs k.common) (line_of k v) place

-- a variable's number at a column
pub column_at : (k : Kernel) → IsShaped k → (c v : ℕ) → v < width_of k →
    number_at (column_of k c) v ≡ (number_at (line_of k v).numbers c *ℤ pos (share_of (nat_abs k.common) (line_of k v)))
column_at k s c v v_in = at_place_at k s (suc c) v v_in

-- and its constant
pub low_constant_at : (k : Kernel) → IsShaped k → (v : ℕ) → v < width_of k → number_at (low_constants k) v ≡ constant_of_line k v
low_constant_at k s v v_in = at_place_at k s 0 v v_in

-- a form with one coefficient has that many times the number at its place
as_rows : (cs zs : List ℤ) → product_sum cs zs ≡ from_lows cs (map (λ z. z ∷ []) zs) 0
as_rows [] zs = refl
as_rows (c ∷ cs) [] = refl
as_rows (c ∷ cs) (z ∷ zs) = ap (λ s. (c *ℤ z) +ℤ s) (as_rows cs zs)

pub unit_sum : (n v : ℕ) (c : ℤ) (zs : List ℤ) → v < n → n ≡ length zs → product_sum (unit n v c) zs ≡ (c *ℤ number_at zs v)
unit_sum n v c zs v_in counted =
    as_rows (unit n v c) zs
    ∙ unit_from_lows n v 0 c (map (λ z. z ∷ []) zs) v_in (counted ∙ sym (length-map zs (λ (z : ℤ). z ∷ [])))
    ∙ ap (λ (ts : List ℤ). c *ℤ number_at ts 0) (get_or-map (λ (z : ℤ). z ∷ []) zs v (pos 0) [] (omega (arith, v_in, counted)))

pub low_number_in : (n : ℕ) (rows : List Form) (v bound : ℕ) (zs : List ℤ) → v < n → n ≡ length zs →
    number_at_column (member_form n rows (Low v bound)) zs ≡ number_at zs v
low_number_in n rows v bound zs v_in counted =
    unit_sum n v (pos 1) zs v_in counted ∙ ring (number_at zs v ∷ []) (num (pos 1) ⊗ var 0) (var 0) refl

pub high_number_in : (n : ℕ) (rows : List Form) (v bound : ℕ) (zs : List ℤ) → v < n → n ≡ length zs →
    number_at_column (member_form n rows (High v bound)) zs ≡ neg_ℤ (number_at zs v)
high_number_in n rows v bound zs v_in counted =
    unit_sum n v (negsuc 0) zs v_in counted ∙ ring (number_at zs v ∷ []) (num (negsuc 0) ⊗ var 0) (neg (var 0)) refl

-- how large a sum of products can be
pub product_sum_size : (most : ℕ) (cs zs : List ℤ) → AllWithin most zs → nat_abs (product_sum cs zs) ≤ sum_by nat_abs cs * most
product_sum_size most [] zs within = omega arith
product_sum_size most (c ∷ cs) [] within = omega arith
product_sum_size most (c ∷ cs) (z ∷ zs) within =
    let here : nat_abs z ≤ most = within 0 (pos 0) (omega arith) in
    let rest = product_sum_size most cs zs (All-tail (λ (y : ℤ). nat_abs y ≤ most) z zs within) in
    let both = sum_size (c *ℤ z) (product_sum cs zs) in
    let times : nat_abs (c *ℤ z) ≡ nat_abs c * nat_abs z = unsigned_abs-mul c z in
    let term : nat_abs c * nat_abs z ≤ nat_abs c * most = mul-le-mul_left (nat_abs c) here in
    rw (sum_by-cons nat_abs c cs) (omega (arith, rest, both, times, term))

-- a line of the kernel
pub line_small : (k : Kernel) → IsBounded k → (v : ℕ) → v < length k.lows.items → IsLine (line_of k v)
line_small k b v v_in = b.lines v no_line v_in

pub share_small : (D : ℕ) (line : Line) → D ≤ 2 ^ 30 → share_of D line ≤ 2 ^ 30
share_small D line small = omega (arith, small, div-le_self D (nat_abs line.denominator))

pub common_small : (k : Kernel) → IsBounded k → nat_abs k.common ≤ 2 ^ 30
common_small k b = size_most k.common (2 ^ 30) b.positive b.common

-- the number of a small line over the common denominator
pub scaled_within : (D : ℕ) (line : Line) (c : ℕ) → IsLine line → D ≤ 2 ^ 30 → nat_abs (number_at (scaled_line D line) (suc c)) ≤ 2 ^ 60
scaled_within D line c l small =
    let is = scaled_number D line (suc c) in
    let number = number_small line l c in
    let times : nat_abs (number_at line.numbers c *ℤ pos (share_of D line)) ≡ nat_abs (number_at line.numbers c) * share_of D line =
    unsigned_abs-mul (number_at line.numbers c) (pos (share_of D line)) in
    let share = share_small D line small in
    let product : nat_abs (number_at line.numbers c) * share_of D line ≤ nat_abs (number_at line.numbers c) * 2 ^ 30 =
    mul-le-mul_left (nat_abs (number_at line.numbers c)) share in
    omega (arith, ap nat_abs is, times, product, number)

-- the numbers at a column are within 2^60
pub column_within : (k : Kernel) → IsBounded k → (c : ℕ) → AllWithin (2 ^ 60) (column_of k c)
column_within k b c =
    All-map (λ (z : ℤ). nat_abs z ≤ 2 ^ 60) (λ (row : List ℤ). number_at row (suc c)) (lows_of k)
    (All-map (λ (row : List ℤ). nat_abs (number_at row (suc c)) ≤ 2 ^ 60) (scaled_line (nat_abs k.common)) k.lows.items
    (All-weaker IsLine (λ (line : Line). nat_abs (number_at (scaled_line (nat_abs k.common) line) (suc c)) ≤ 2 ^ 60)
    (λ line l. scaled_within (nat_abs k.common) line c l (common_small k b)) k.lows.items b.lines))

-- the constants of x - low are within 2^44
pub constants_within : (k : Kernel) → IsBounded k → AllWithin (2 ^ 44) (low_constants k)
constants_within k b =
    All-map (λ (z : ℤ). nat_abs z ≤ 2 ^ 44) (λ (row : List ℤ). number_at row 0) (lows_of k)
    (All-map (λ (row : List ℤ). nat_abs (number_at row 0) ≤ 2 ^ 44) (scaled_line (nat_abs k.common)) k.lows.items
    (All-weaker (λ (line : Line). nat_abs line.constant * share_of (nat_abs k.common) line ≤ 2 ^ 44)
    (λ (line : Line). nat_abs (number_at (scaled_line (nat_abs k.common) line) 0) ≤ 2 ^ 44)
    (λ line small. omega (arith, small, unsigned_abs-mul line.constant (pos (share_of (nat_abs k.common) line)))) k.lows.items b.low))

-- those of a form of the box or of the rows are within 2^76
pub form_number_within : (k : Kernel) → IsShaped k → IsBounded k → (member : Member) →
    IsFormOf k.table.costs k.table.rows.items member → (c : ℕ) →
    nat_abs (number_at_column (member_form (width_of k) k.table.rows.items member) (column_of k c)) ≤ 2 ^ 76
form_number_within k s b (Low v bound) of c =
    subst (λ (z : ℤ). nat_abs z ≤ 2 ^ 76)
    (sym (low_number_in (width_of k) k.table.rows.items v bound (column_of k c) of.0 (sym (column_long k s c))))
    (omega (arith, number_within (2 ^ 60) (column_of k c) v (column_within k b c)))
form_number_within k s b (High v bound) of c =
    subst (λ (z : ℤ). nat_abs z ≤ 2 ^ 76)
    (sym (high_number_in (width_of k) k.table.rows.items v bound (column_of k c) of.0 (sym (column_long k s c))))
    (omega (arith, ints, number_within (2 ^ 60) (column_of k c) v (column_within k b c)))
form_number_within k s b (Row row) of c =
    let f = slice_index_or k.table.rows.items row no_form in
    let size = product_sum_size (2 ^ 60) f.coefficients (column_of k c) (column_within k b c) in
    let light : weight_of f ≤ 2 ^ 16 = b.rows row no_form of in
    omega (arith, size, mul-le-mul_right (2 ^ 60) light)

pub place_is : (k : Kernel) → IsShaped k → (place : ℕ) → place < length k.constants.items → IsFormOf k.table.costs k.table.rows.items (member_at k.table place)
place_is k s place place_in = members_are k.table.costs k.table.rows.items place (Low 0 0) (omega (arith, s.constants, place_in))

pub place_number_within : (k : Kernel) → IsShaped k → IsBounded k → (place : ℕ) → place < length k.constants.items →
    (c : ℕ) → nat_abs (number_at_column (form_of_place k place) (column_of k c)) ≤ 2 ^ 76
place_number_within k s b place place_in c = form_number_within k s b (member_at k.table place) (place_is k s place place_in) c
