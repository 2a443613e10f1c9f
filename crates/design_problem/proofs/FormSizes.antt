-- The size of a form bounds its values and those of weighted sums.
use Rattle.std.proofs.Common.{◌≡◌, ℕ, suc, ◌+◌, ◌-◌, ◌*◌, ◌^◌, ◌<◌, ◌≤◌, refl, sym, subst, List, [], ◌∷◌, map, length, arith, inl, inr}
use Rattle.std.specs.Prelude.{ℤ, pos, ◌+ℤ◌, ◌*ℤ◌, nat_abs, All, sum_by}
use Rattle.std.proofs.Math.Nat.{mul-le-mul_left}
use Rattle.std.proofs.lemmas.Bool.{cases_lt}
use Rattle.std.proofs.lemmas.List.{get_or_past}
use Rattle.std.proofs.lemmas.List.Sums.{sum_by-cons}
use Rattle.whole_numbers.proofs.Sizes.{product_size, scaled_size, sum_size}
use Rattle.design_problem.specs.declared.form.Form.{Form}
use Rattle.design_problem.specs.Forms.{dot, value_for_costs, added, weighted, form_at, no_form, size_of_form}

dot_size : (cs : List ℤ) (ws : List ℕ) → All (λ x. x < 2 ^ 16) ws → nat_abs (dot cs ws) ≤ 65535 * sum_by nat_abs cs
dot_size [] ws small = omega arith
dot_size (c ∷ cs) [] small = omega arith
dot_size (c ∷ cs) (w ∷ ws) small =
    let here = small 0 0 (omega arith) in
    let rest = dot_size cs ws (λ k d k_in. small (suc k) d (omega arith)) in
    let both = sum_size (c *ℤ pos w) (dot cs ws) in
    let product = product_size c w in
    let most : nat_abs c * w ≤ nat_abs c * 65535 = mul-le-mul_left (nat_abs c) (let e : w ≤ 65535 = omega arith in e) in
    rw (sum_by-cons nat_abs c cs) (omega arith)

-- a value at costs of at most 65,535 is within the form's size
pub value_size : (f : Form) (w : List ℕ) → All (λ x. x < 2 ^ 16) w → nat_abs (value_for_costs f w) ≤ size_of_form f
value_size f w small =
    let both = sum_size f.constant (dot f.coefficients w) in
    let terms = dot_size f.coefficients w small in
    omega arith

sizes_scaled : (m : ℕ) (cs : List ℤ) → sum_by nat_abs (map (λ c. pos m *ℤ c) cs) ≡ m * sum_by nat_abs cs
sizes_scaled m [] = omega arith
sizes_scaled m (c ∷ cs) =
    let here = scaled_size m c in
    let rest = sizes_scaled m cs in
    rw (sum_by-cons nat_abs (pos m *ℤ c) (map (λ d. pos m *ℤ d) cs), sum_by-cons nat_abs c cs) (omega arith)

sizes_added : (cs ds : List ℤ) → sum_by nat_abs (added cs ds) ≤ sum_by nat_abs cs + sum_by nat_abs ds
sizes_added [] ds = omega arith
sizes_added (c ∷ cs) [] = omega arith
sizes_added (c ∷ cs) (d ∷ ds) =
    let here = sum_size c d in
    let rest = sizes_added cs ds in
    rw (sum_by-cons nat_abs (c +ℤ d) (added cs ds), sum_by-cons nat_abs c cs, sum_by-cons nat_abs d ds) (omega arith)

combined : (m c r u v a b k rest : ℕ) → a ≤ m * c + r → b ≤ m * u + v → k ≡ c + 65535 * u → rest ≡ r + 65535 * v → a + 65535 * b ≤ m * k + rest
combined m c r u v a b k rest first second whole more = rw (whole, more) (omega arith)

-- a weighted sum is within the weighted sum of the sizes
weighted_size : (forms : List Form) (part : ℕ × ℕ) (parts : List (ℕ × ℕ)) →
    size_of_form (weighted forms (part ∷ parts)) ≤ part.1 * size_of_form (form_at forms part.0) + size_of_form (weighted forms parts)
weighted_size forms part parts =
    let f = form_at forms part.0 in
    let rest = weighted forms parts in
    let constants = sum_size (pos part.1 *ℤ f.constant) rest.constant in
    let scaled = scaled_size part.1 f.constant in
    let terms = sizes_added (map (λ c. pos part.1 *ℤ c) f.coefficients) rest.coefficients in
    let scaled_terms = sizes_scaled part.1 f.coefficients in
    combined part.1 (nat_abs f.constant) (nat_abs rest.constant) (sum_by nat_abs f.coefficients)
    (sum_by nat_abs rest.coefficients) _ _ (size_of_form f) (size_of_form rest)
    (let e : nat_abs ((pos part.1 *ℤ f.constant) +ℤ rest.constant) ≤ part.1 * nat_abs f.constant + nat_abs rest.constant = omega arith in e)
    (let e : sum_by nat_abs (added (map (λ c. pos part.1 *ℤ c) f.coefficients) rest.coefficients)
    ≤ part.1 * sum_by nat_abs f.coefficients + sum_by nat_abs rest.coefficients = omega arith in e)
    refl refl

form_size : (forms : List Form) (row : ℕ) → All (λ f. size_of_form f < 2 ^ 27) forms → size_of_form (form_at forms row) < 2 ^ 27
form_size forms row small =
    elim (cases_lt row (length forms)) [
      | inl row_in ↦ small row no_form row_in
      | inr past ↦ subst (λ (f : Form). size_of_form f < 2 ^ 27) (sym (get_or_past forms row no_form past)) (let e : 0 < 2 ^ 27 = omega arith in e)
    ]

-- a weighted sum of small forms is at most the sum of the multipliers, times 2^27 - 1
pub weighted_small : (forms : List Form) (parts : List (ℕ × ℕ)) → All (λ f. size_of_form f < 2 ^ 27) forms →
    size_of_form (weighted forms parts) ≤ sum_by (λ part. part.1) parts * (2 ^ 27 - 1)
weighted_small forms [] small = omega arith
weighted_small forms (part ∷ parts) small =
    let here = form_size forms part.0 small in
    let rest = weighted_small forms parts small in
    let both = weighted_size forms part parts in
    let most : part.1 * size_of_form (form_at forms part.0) ≤ part.1 * (2 ^ 27 - 1) =
    mul-le-mul_left part.1 (let e : size_of_form (form_at forms part.0) ≤ 2 ^ 27 - 1 = omega arith in e) in
    rw (sum_by-cons (λ p. p.1) part parts) (omega arith)

-- of multipliers of sum below 2^100 it fits 127 bits
pub weighted_fits : (forms : List Form) (parts : List (ℕ × ℕ)) → All (λ f. size_of_form f < 2 ^ 27) forms →
    sum_by (λ part. part.1) parts < 2 ^ 100 → size_of_form (weighted forms parts) < 2 ^ 127
weighted_fits forms parts small sum =
    let most = weighted_small forms parts small in
    omega arith
