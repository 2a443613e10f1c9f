-- A weighted sum of forms has the weighted sum of their values.
use Rattle.std.proofs.Common.{◌≡◌, ℕ, refl, sym, ◌∙◌, ap, List, [], ◌∷◌, map, arith}
use Rattle.std.specs.Prelude.{ℤ, pos, negsuc, ◌+ℤ◌, ◌*ℤ◌, ◌≤ℤ◌}
use Rattle.std.proofs.lemmas.Int.{ints}
use Rattle.whole_numbers.proofs.Laws.{mul-add, add-mul, mul_assoc}
use Rattle.whole_numbers.proofs.Ring.{var, ◌⊕◌, ◌⊗◌, ring}
use Rattle.design_problem.specs.declared.form.Form.{Form}
use Rattle.design_problem.specs.Forms.{dot, value_for_costs, added, weighted, form_at, Meets}

regroup : (a b c d e : ℤ) → e ≡ (c +ℤ d) → ((a +ℤ b) +ℤ e) ≡ ((a +ℤ c) +ℤ (b +ℤ d))
regroup a b c d e split = omega (arith, ints)

pub dot-added : (cs ds : List ℤ) (ws : List ℕ) → dot (added cs ds) ws ≡ (dot cs ws +ℤ dot ds ws)
dot-added [] ds ws = omega (arith, ints)
dot-added (c ∷ cs) [] ws = omega (arith, ints)
dot-added (c ∷ cs) (d ∷ ds) [] = refl
dot-added (c ∷ cs) (d ∷ ds) (w ∷ ws) =
    ap (λ z. z +ℤ dot (added cs ds) ws) (add-mul c d (pos w))
    ∙ regroup (c *ℤ pos w) (d *ℤ pos w) (dot cs ws) (dot ds ws) (dot (added cs ds) ws) (dot-added cs ds ws)

pub dot-scaled : (m : ℤ) (cs : List ℤ) (ws : List ℕ) → dot (map (λ c. m *ℤ c) cs) ws ≡ (m *ℤ dot cs ws)
dot-scaled m [] ws = sym (lib.IntN.*ℤ-zero m)
dot-scaled m (c ∷ cs) [] = sym (lib.IntN.*ℤ-zero m)
dot-scaled m (c ∷ cs) (w ∷ ws) = cc (mul_assoc m c (pos w), dot-scaled m cs ws, mul-add m (c *ℤ pos w) (dot cs ws))

combine : (m a b c d t : ℤ) → t ≡ ((m *ℤ b) +ℤ d) → (((m *ℤ a) +ℤ c) +ℤ t) ≡ ((m *ℤ (a +ℤ b)) +ℤ (c +ℤ d))
combine m a b c d t e =
    ap (λ z. ((m *ℤ a) +ℤ c) +ℤ z) e
    ∙ ring (m ∷ a ∷ b ∷ c ∷ d ∷ []) ((var 0 ⊗ var 1 ⊕ var 3) ⊕ (var 0 ⊗ var 2 ⊕ var 4)) (var 0 ⊗ (var 1 ⊕ var 2) ⊕ (var 3 ⊕ var 4)) refl

pub value-weighted : (forms : List Form) (part : ℕ × ℕ) (parts : List (ℕ × ℕ)) (w : List ℕ) →
    value_for_costs (weighted forms (part ∷ parts)) w
    ≡ ((pos part.1 *ℤ value_for_costs (form_at forms part.0) w) +ℤ value_for_costs (weighted forms parts) w)
value-weighted forms part parts w =
    let f = form_at forms part.0 in
    let rest = weighted forms parts in
    combine (pos part.1) f.constant (dot f.coefficients w) rest.constant (dot rest.coefficients w) _
    (dot-added (map (λ c. pos part.1 *ℤ c) f.coefficients) rest.coefficients w
    ∙ ap (λ z. z +ℤ dot rest.coefficients w) (dot-scaled (pos part.1) f.coefficients w))

times-not_negative : (m : ℕ) (z : ℤ) → pos 0 ≤ℤ z → pos 0 ≤ℤ (pos m *ℤ z)
times-not_negative m (pos n) h = omega (arith, ints)
times-not_negative m (negsuc n) h = absurd (omega (arith, ints))

not_negative-sum : (a b : ℤ) → pos 0 ≤ℤ a → pos 0 ≤ℤ b → pos 0 ≤ℤ (a +ℤ b)
not_negative-sum a b first second = omega (arith, ints)

-- costs that meet the forms meet their weighted sums
pub weighted_meets : (forms : List Form) (parts : List (ℕ × ℕ)) (w : List ℕ) → Meets forms w → pos 0 ≤ℤ value_for_costs (weighted forms parts) w
weighted_meets forms [] w meets = omega (arith, ints)
weighted_meets forms (part ∷ parts) w meets =
    rw (value-weighted forms part parts w)
    (not_negative-sum _ _ (times-not_negative part.1 _ (meets part.0)) (weighted_meets forms parts w meets))
