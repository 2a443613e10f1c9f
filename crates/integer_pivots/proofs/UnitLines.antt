-- The numbers of the lines at the basis of the forms x - low.
use Rattle.std.proofs.Common.{◌≡◌, ℕ, ◌<◌, cond, sym, ◌∙◌, ap, List, map, length, arith, inl, inr, zero-add, get_or-set_same, get_or-set_other}
use Rattle.std.specs.Prelude.{ℤ, pos, ◌==◌, slice_index_or, slice_set}
use Rattle.std.proofs.lemmas.Bool.{cases_eq, eq-eqb, ne_eqb}
use Rattle.std.proofs.lemmas.List.{ext_get_or, length-set}
use Rattle.cost_base.specs.Lists.{numbers_from}
use Rattle.cost_base.proofs.ListLemmas.{get_or-map-numbers_from, length-map-numbers_from}
use Rattle.design_problem.specs.Basis.{unit}

-- zeros with a 1 at one place
module _ (width v : ℕ) (v_in : v < width) where
  abbrev blank : List ℤ
  blank = map (λ place. pos 0) (numbers_from 0 width)

  abbrev one_at : ℕ → ℤ
  one_at k = cond (k == v) (pos 1) (pos 0)

  zeros_are_long : length blank ≡ width
  zeros_are_long = length-map-numbers_from (λ place. pos 0) 0 width

  set_long : length (slice_set blank v (pos 1)) ≡ width
  set_long = length-set blank v (pos 1) ∙ zeros_are_long

  -- what the list of the unit has at a place
  unit_at : (k : ℕ) → k < width → slice_index_or (unit width v (pos 1)) k (pos 0) ≡ one_at k
  unit_at k k_in = get_or-map-numbers_from one_at 0 width k (pos 0) k_in ∙ ap one_at (zero-add k)

  zero_at : (k : ℕ) → k < width → slice_index_or blank k (pos 0) ≡ pos 0
  zero_at k k_in = get_or-map-numbers_from (λ place. pos 0) 0 width k (pos 0) k_in

  set_at : (k : ℕ) → k < width → slice_index_or (slice_set blank v (pos 1)) k (pos 0) ≡ one_at k
  set_at k k_in =
      elim (cases_eq k v) [
        | inl same ↦
            ap (λ (j : ℕ). slice_index_or (slice_set blank v (pos 1)) j (pos 0)) same
            ∙ get_or-set_same blank v (pos 1) (pos 0) (omega (arith, zeros_are_long, v_in))
            ∙ sym (ap (λ b. cond b (pos 1) (pos 0)) (eq-eqb k v same))
        | inr other ↦
            get_or-set_other blank v k (pos 1) (pos 0) other
            ∙ zero_at k k_in
            ∙ sym (ap (λ b. cond b (pos 1) (pos 0)) (ne_eqb k v other))
      ]

  unit_set : slice_set blank v (pos 1) ≡ unit width v (pos 1)
  unit_set =
      ext_get_or (pos 0) (slice_set blank v (pos 1)) (unit width v (pos 1)) (set_long ∙ sym (length-map-numbers_from one_at 0 width))
      (λ k k_in. (
      let inside : k < width = omega (arith, k_in, set_long) in
      set_at k inside ∙ sym (unit_at k inside)))

pub unit_written : (zeros new : List ℤ) (width v : ℕ) → v < width →
    zeros ≡ map (λ place. pos 0) (numbers_from 0 width) → new ≡ slice_set zeros v (pos 1) → new ≡ unit width v (pos 1)
unit_written zeros new width v v_in zeros_are new_is =
    new_is ∙ ap (λ zs. slice_set zs v (pos 1)) zeros_are ∙ unit_set width v v_in

pub zeros_long : (zeros : List ℤ) (count : ℕ) → zeros ≡ map (λ place. pos 0) (numbers_from 0 count) → length zeros ≡ count
zeros_long zeros count are = ap length are ∙ length-map-numbers_from (λ place. pos 0) 0 count
