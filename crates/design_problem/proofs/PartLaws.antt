-- Weighted sums of forms, a part at a time.
use Rattle.std.proofs.Common.{◌≡◌, ℕ, zero, suc, ◌+◌, ◌*◌, ◌^◌, ◌<◌, ◌≤◌, refl, sym, ◌∙◌, ap, subst, List, [], ◌∷◌, length, get_or, drop, take, map, arith, add-one, drop-cons}
use Rattle.std.specs.Prelude.{ℤ, pos, ◌+ℤ◌, ◌*ℤ◌, nat_abs, sum_by, All}
use Rattle.std.proofs.Math.Nat.{mul-le-mul_left}
use Rattle.std.proofs.lemmas.Int.{ints}
use Rattle.std.proofs.lemmas.List.{get_or_default, length-map}
use Rattle.std.proofs.lemmas.List.Sums.{sum_by_more, sum_by_more_le, sum_by-cons}
use Rattle.design_problem.specs.Boxes.{upper_term, upper_sum}
use Rattle.design_problem.specs.Forms.{Form, IsSmallForm, added, weighted, form_at, no_form, size_of_form}
use Rattle.design_problem.proofs.FormSizes.{weighted_fits}
use Rattle.whole_numbers.proofs.Sizes.{scaled_size, sum_size}

pub get_or-added : (cs ds : List ℤ) (i : ℕ) → get_or (added cs ds) i (pos 0) ≡ (get_or cs i (pos 0) +ℤ get_or ds i (pos 0))
get_or-added [] ds i = omega (arith, ints)
get_or-added (c ∷ cs) [] i = omega (arith, ints)
get_or-added (c ∷ cs) (d ∷ ds) zero = refl
get_or-added (c ∷ cs) (d ∷ ds) (suc i) = get_or-added cs ds i

pub get_or-scaled : (m : ℤ) (cs : List ℤ) (i : ℕ) → get_or (map (λ c. m *ℤ c) cs) i (pos 0) ≡ (m *ℤ get_or cs i (pos 0))
get_or-scaled m [] i = sym (lib.IntN.*ℤ-zero m)
get_or-scaled m (c ∷ cs) zero = refl
get_or-scaled m (c ∷ cs) (suc i) = get_or-scaled m cs i

-- a part that hasn't been added yet, and those after it
part_at : (forms : List Form) (parts : List (ℕ × ℕ)) (k : ℕ) (d : ℕ × ℕ) → k < length parts →
    weighted forms (drop k parts) ≡ weighted forms (get_or parts k d ∷ drop (k + 1) parts)
part_at forms parts k d k_in =
    let e : drop k parts ≡ get_or parts k d ∷ drop (k + 1) parts = rw (add-one, drop-cons parts k d) refl in
    ap (weighted forms) e

moved : (x a p r whole : ℤ) → x ≡ (a +ℤ p) → whole ≡ (p +ℤ r) → (x +ℤ r) ≡ (a +ℤ whole)
moved x a p r whole e q = omega (arith, ints)

pub constant_more : (forms : List Form) (parts : List (ℕ × ℕ)) (k : ℕ) (d : ℕ × ℕ) (a x : ℤ) → k < length parts →
    x ≡ (a +ℤ (pos (get_or parts k d).1 *ℤ (form_at forms (get_or parts k d).0).constant)) →
    (x +ℤ (weighted forms (drop (k + 1) parts)).constant) ≡ (a +ℤ (weighted forms (drop k parts)).constant)
constant_more forms parts k d a x k_in e =
    moved x a _ (weighted forms (drop (k + 1) parts)).constant _ e (ap (λ (f : Form). f.constant) (part_at forms parts k d k_in))

pub coefficient_more : (forms : List Form) (parts : List (ℕ × ℕ)) (k i : ℕ) (d : ℕ × ℕ) (a x : ℤ) → k < length parts →
    x ≡ (a +ℤ (pos (get_or parts k d).1 *ℤ get_or (form_at forms (get_or parts k d).0).coefficients i (pos 0))) →
    (x +ℤ get_or (weighted forms (drop (k + 1) parts)).coefficients i (pos 0))
    ≡ (a +ℤ get_or (weighted forms (drop k parts)).coefficients i (pos 0))
coefficient_more forms parts k i d a x k_in e =
    let f = form_at forms (get_or parts k d).0 in
    let m = pos (get_or parts k d).1 in
    let rest = weighted forms (drop (k + 1) parts) in
    moved x a _ (get_or rest.coefficients i (pos 0)) _ e
    (ap (λ (g : Form). get_or g.coefficients i (pos 0)) (part_at forms parts k d k_in)
    ∙ get_or-added (map (λ c. m *ℤ c) f.coefficients) rest.coefficients i
    ∙ ap (λ (z : ℤ). z +ℤ get_or rest.coefficients i (pos 0)) (get_or-scaled m f.coefficients i))

-- what one part more adds is within its multiplier times 2^27
pub size_of_part : (parts : List (ℕ × ℕ)) (k : ℕ) (d : ℕ × ℕ) (a x c : ℤ) → k < length parts →
    nat_abs a ≤ sum_by (λ p. p.1) (take k parts) * 2 ^ 27 → nat_abs c ≤ 2 ^ 27 →
    x ≡ (a +ℤ (pos (get_or parts k d).1 *ℤ c)) → nat_abs x ≤ sum_by (λ p. p.1) (take (k + 1) parts) * 2 ^ 27
size_of_part parts k d a x c k_in before small e =
    let m = (get_or parts k d).1 in
    let more = sum_by_more (λ (p : ℕ × ℕ). p.1) parts k d k_in in
    let both = sum_size a (pos m *ℤ c) in
    let product = scaled_size m c in
    let most = mul-le-mul_left m small in
    let sized = ap nat_abs e in
    omega arith

-- one part more fits
pub room_for : (parts : List (ℕ × ℕ)) (k : ℕ) (d : ℕ × ℕ) (a size : ℕ) → k < length parts →
    sum_by (λ p. p.1) parts < 2 ^ 100 → a ≤ sum_by (λ p. p.1) (take k parts) * 2 ^ 27 → size < 2 ^ 27 →
    a + (get_or parts k d).1 * size < 2 ^ 127
room_for parts k d a size k_in sum before small =
    let m = (get_or parts k d).1 in
    let more = sum_by_more_le (λ (p : ℕ × ℕ). p.1) parts k d k_in in
    let most : m * size ≤ m * 2 ^ 27 = mul-le-mul_left m (let e : size ≤ 2 ^ 27 = omega arith in e) in
    omega arith

-- a form's constant and coefficients are within 2^27
pub constant_small : (n : ℕ) (f : Form) → IsSmallForm n f → nat_abs f.constant < 2 ^ 27
constant_small n f small = let size = small.size in omega arith

pub sizes_small : (n : ℕ) (f : Form) → IsSmallForm n f → sum_by nat_abs f.coefficients < 2 ^ 27
sizes_small n f small = let size = small.size in omega arith

pub coefficient_small : (n : ℕ) (f : Form) (i : ℕ) → i < n → IsSmallForm n f → nat_abs (get_or f.coefficients i (pos 0)) ≤ 2 ^ 27
coefficient_small n f i i_in small =
    let counted = small.count in
    let size = small.sizes i (pos 0) (omega arith) in
    omega arith

pub small_at : (n : ℕ) (forms : List Form) (row : ℕ) (r : Form) → All (IsSmallForm n) forms → row < length forms → r ≡ get_or forms row r → IsSmallForm n r
small_at n forms row r small row_in e = subst (λ (f : Form). IsSmallForm n f) (sym e) (small row r row_in)

-- the form of the row is the one that was read
pub form_read : (forms : List Form) (row : ℕ) (r : Form) → row < length forms → r ≡ get_or forms row r → form_at forms row ≡ r
form_read forms row r row_in e = get_or_default forms row no_form r row_in ∙ sym e

-- a list that has the same numbers, and zeros behind them
zero_terms : (ds : List ℤ) (ls hs : List ℕ) → ((i : ℕ) → i < length ds → get_or ds i (pos 0) ≡ pos 0) → upper_sum ds ls hs ≡ pos 0
zero_terms [] ls hs zeros = refl
zero_terms (d ∷ ds) [] hs zeros = refl
zero_terms (d ∷ ds) (l ∷ ls) [] zeros = refl
zero_terms (d ∷ ds) (l ∷ ls) (h ∷ hs) zeros =
    let here = ap (λ (z : ℤ). upper_term z l h) (zeros 0 (omega arith)) in
    let rest = zero_terms ds ls hs (λ i i_in. zeros (suc i) (omega arith)) in
    omega (arith, ints, here, rest)

pub padded_upper : (cs ds : List ℤ) (ls hs : List ℕ) → length cs ≤ length ds →
    ((i : ℕ) → i < length ds → get_or ds i (pos 0) ≡ get_or cs i (pos 0)) → upper_sum ds ls hs ≡ upper_sum cs ls hs
padded_upper [] ds ls hs short same = zero_terms ds ls hs same
padded_upper (c ∷ cs) [] ls hs short same = absurd (omega arith)
padded_upper (c ∷ cs) (d ∷ ds) [] hs short same = refl
padded_upper (c ∷ cs) (d ∷ ds) (l ∷ ls) [] short same = refl
padded_upper (c ∷ cs) (d ∷ ds) (l ∷ ls) (h ∷ hs) short same =
    let here = ap (λ (z : ℤ). upper_term z l h) (same 0 (omega arith)) in
    let rest = padded_upper cs ds ls hs (omega arith) (λ i i_in. same (suc i) (omega arith)) in
    omega (arith, ints, here, rest)

zero_sizes : (ds : List ℤ) → ((i : ℕ) → i < length ds → get_or ds i (pos 0) ≡ pos 0) → sum_by nat_abs ds ≡ 0
zero_sizes [] zeros = refl
zero_sizes (d ∷ ds) zeros =
    let here = ap nat_abs (zeros 0 (omega arith)) in
    let rest = zero_sizes ds (λ i i_in. zeros (suc i) (omega arith)) in
    rw (sum_by-cons nat_abs d ds) (omega arith)

pub padded_size : (cs ds : List ℤ) → length cs ≤ length ds →
    ((i : ℕ) → i < length ds → get_or ds i (pos 0) ≡ get_or cs i (pos 0)) → sum_by nat_abs ds ≡ sum_by nat_abs cs
padded_size [] ds short same = zero_sizes ds same
padded_size (c ∷ cs) [] short same = absurd (omega arith)
padded_size (c ∷ cs) (d ∷ ds) short same =
    let here = ap nat_abs (same 0 (omega arith)) in
    let rest = padded_size cs ds (omega arith) (λ i i_in. same (suc i) (omega arith)) in
    rw (sum_by-cons nat_abs d ds, sum_by-cons nat_abs c cs) (omega arith)

length-added : (n : ℕ) (cs ds : List ℤ) → length cs ≤ n → length ds ≤ n → length (added cs ds) ≤ n
length-added n [] ds first second = second
length-added n (c ∷ cs) [] first second = first
length-added zero (c ∷ cs) (d ∷ ds) first second = absurd (omega arith)
length-added (suc n) (c ∷ cs) (d ∷ ds) first second = let rest = length-added n cs ds (omega arith) (omega arith) in omega arith

form_length : (n : ℕ) (forms : List Form) (row : ℕ) → All (IsSmallForm n) forms → length (form_at forms row).coefficients ≤ n
form_length n [] row small = omega arith
form_length n (f ∷ fs) zero small = let e = (small 0 f (omega arith)).count in omega arith
form_length n (f ∷ fs) (suc row) small = form_length n fs row (λ k d k_in. small (suc k) d (omega arith))

pub weighted_length : (n : ℕ) (forms : List Form) (parts : List (ℕ × ℕ)) → All (IsSmallForm n) forms → length (weighted forms parts).coefficients ≤ n
weighted_length n forms [] small = omega arith
weighted_length n forms (part ∷ parts) small =
    let f = form_at forms part.0 in
    let e = length-map f.coefficients (λ c. pos part.1 *ℤ c) in
    let here = form_length n forms part.0 small in
    length-added n (map (λ c. pos part.1 *ℤ c) f.coefficients) (weighted forms parts).coefficients (omega arith) (weighted_length n forms parts small)

-- what each form of the list keeps
smalls : (n : ℕ) (forms : List Form) → All (IsSmallForm n) forms → All (λ f. size_of_form f < 2 ^ 27) forms
smalls n forms small row d row_in = (small row d row_in).size

-- the sums that were made fit 127 bits, times the most that an end can be
pub made_fits : (n : ℕ) (forms : List Form) (parts : List (ℕ × ℕ)) (constant : ℤ) (sums : List ℤ) →
    All (IsSmallForm n) forms → sum_by (λ p. p.1) parts < 2 ^ 100 → length sums ≡ n →
    constant ≡ (weighted forms parts).constant →
    ((i : ℕ) → i < n → get_or sums i (pos 0) ≡ get_or (weighted forms parts).coefficients i (pos 0)) →
    nat_abs constant + 65535 * sum_by nat_abs sums < 2 ^ 127
made_fits n forms parts constant sums small sum count constants each =
    let whole = weighted forms parts in
    let fits = weighted_fits forms parts (smalls n forms small) sum in
    let short = weighted_length n forms parts small in
    let sizes = padded_size whole.coefficients sums (omega arith) (λ i i_in. each i (omega arith)) in
    let constant_is = ap nat_abs constants in
    omega arith

-- and their greatest value over a box is that of the weighted sum
pub made_greatest : (n : ℕ) (forms : List Form) (parts : List (ℕ × ℕ)) (constant : ℤ) (sums : List ℤ) (ls hs : List ℕ) →
    All (IsSmallForm n) forms → length sums ≡ n → constant ≡ (weighted forms parts).constant →
    ((i : ℕ) → i < n → get_or sums i (pos 0) ≡ get_or (weighted forms parts).coefficients i (pos 0)) →
    (constant +ℤ upper_sum sums ls hs)
    ≡ ((weighted forms parts).constant +ℤ upper_sum (weighted forms parts).coefficients ls hs)
made_greatest n forms parts constant sums ls hs small count constants each =
    let whole = weighted forms parts in
    let short = weighted_length n forms parts small in
    ap (λ (z : ℤ). z +ℤ upper_sum sums ls hs) constants
    ∙ ap (λ (z : ℤ). whole.constant +ℤ z) (padded_upper whole.coefficients sums ls hs (omega arith) (λ i i_in. each i (omega arith)))
