-- A value at costs is the value at their point; a sum over costs times a scale.
use Rattle.std.proofs.Common.{◌≡◌, ℕ, ◌*◌, ap, List, [], ◌∷◌, map, refl}
use Rattle.std.specs.Prelude.{ℤ, pos, ◌+ℤ◌, ◌*ℤ◌}
use Rattle.whole_numbers.proofs.Laws.{times_one}
use Rattle.whole_numbers.proofs.Ring.{var, num, ◌⊕◌, ◌⊗◌, ring, ring_by, nothing, using}
use Rattle.area_graph.specs.Costs.{at_costs}
use Rattle.design_problem.specs.declared.form.Form.{Form}
use Rattle.design_problem.specs.Forms.{dot, value_for_costs, value_at}

pub value_at_costs : (f : Form) (w : List ℕ) → value_at f (at_costs w) ≡ value_for_costs f w
value_at_costs f w = ap (λ z. z +ℤ dot f.coefficients w) (times_one f.constant)

pub dot_scaled : (cs : List ℤ) (w : List ℕ) (scale : ℕ) → dot cs (map (λ x. x * scale) w) ≡ (dot cs w *ℤ pos scale)
dot_scaled [] w scale = ring (pos scale ∷ []) (num (pos 0)) (num (pos 0) ⊗ var 0) refl
dot_scaled (c ∷ cs) [] scale = ring (pos scale ∷ []) (num (pos 0)) (num (pos 0) ⊗ var 0) refl
dot_scaled (c ∷ cs) (x ∷ w) scale =
    ring_by (c ∷ pos x ∷ pos scale ∷ dot cs (map (λ y. y * scale) w) ∷ dot cs w ∷ [])
    (var 0 ⊗ (var 1 ⊗ var 2) ⊕ var 3) ((var 0 ⊗ var 1 ⊕ var 4) ⊗ var 2)
    (using (num (pos 1)) (var 3) (var 4 ⊗ var 2) (dot_scaled cs w scale) nothing) refl
