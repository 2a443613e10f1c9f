-- A closed sound tree over a box leaves no fit costs in it.
use Rattle.std.proofs.Common.{◌≡◌, ℕ, ◌+◌, ◌-◌, ◌<◌, ◌≤◌, ◌∙◌, subst, List, [], ◌∷◌, ◌⊎◌, inl, inr, length, arith, length-set, get_or-set_other}
use Rattle.std.specs.Prelude.{pos, ◌<ℤ◌, slice_index, slice_set, true, false}
use Rattle.std.specs.List.{AllByRecursion}
use Rattle.std.proofs.lemmas.Int.{ints}
use Rattle.std.proofs.lemmas.Bool.{cases_lt}
use native.Mathlib.Decide.{ℕ_discrete}
use Rattle.std.proofs.lemmas.Grind.{get_or-set_at}
use Rattle.design_problem.specs.declared.form.Form.{Form}
use Rattle.design_problem.specs.declared.boxes.CostBox.{CostBox}
use Rattle.design_problem.specs.declared.tree.Side.{Side}
use Rattle.design_problem.specs.declared.tree.Side.TheVariants.{Low, High}
use Rattle.design_problem.specs.declared.tree.Entry.{Entry}
use Rattle.design_problem.specs.declared.tree.Entry.TheVariants.{Tighten, Split, Halve, Refute, Undone}
use Rattle.design_problem.specs.Forms.{weighted, form_at}
use Rattle.design_problem.specs.Boxes.{IsInBox, greatest, Refutes, with_low, with_high}
use Rattle.design_problem.specs.Trees.{Sound, IsClosed, IsSoundTree, TightensAt, tightened}
use Rattle.design_problem.specs.Laws.{HasNone}
use Rattle.design_problem.proofs.GreatestLaws.{greatest_bounds}
use Rattle.design_problem.proofs.Weighted.{weighted_meets}

abbrev pub EachHasNone : List Form → List CostBox → Type 0
EachHasNone forms boxes = AllByRecursion (HasNone forms) boxes

-- what stands at a place after a write
pub set_cases : (xs : List ℕ) (i k v : ℕ) → k < length xs → ((k ≡ i) × (slice_index (slice_set xs i v) k ≡ v))
    ⊎ (slice_index (slice_set xs i v) k ≡ slice_index xs k)
set_cases xs i k v k_in =
    elim (ℕ_discrete k i) [
      | yes same ↦ inl (same, get_or-set_at xs i k v 0 same (subst (λ (n : ℕ). n < length xs) same k_in))
      | no other ↦ inr (get_or-set_other xs i k v 0 other)
    ]

pub in_high : (box : CostBox) (w : List ℕ) (i v : ℕ) → IsInBox box w → slice_index w i ≤ v → IsInBox (with_high box i v) w
in_high box w i v inside small = record {
  low_count = inside.low_count;
  high_count = length-set box.high i v ∙ inside.high_count;
  above = inside.above;
  below = λ k k_in.
      elim (set_cases box.high i k v (omega (arith, inside.high_count))) [
        | inl same ↦ rw same.1 (rw same.0 small)
        | inr other ↦ rw other (inside.below k k_in)
      ];
}

pub in_low : (box : CostBox) (w : List ℕ) (i v : ℕ) → IsInBox box w → v ≤ slice_index w i → IsInBox (with_low box i v) w
in_low box w i v inside large = record {
  low_count = length-set box.low i v ∙ inside.low_count;
  high_count = inside.high_count;
  above = λ k k_in.
      elim (set_cases box.low i k v (omega (arith, inside.low_count))) [
        | inl same ↦ rw same.1 (rw same.0 large)
        | inr other ↦ rw other (inside.above k k_in)
      ];
  below = inside.below;
}

refuted_none : (forms : List Form) (parts : List (ℕ × ℕ)) (box : CostBox) → Refutes forms parts box → HasNone forms box
refuted_none forms parts box refutes w inside meets =
    let bound = greatest_bounds (weighted forms parts) box w inside in
    let least = weighted_meets forms parts w meets in
    let negative = refutes.negative in
    absurd (omega (arith, ints))

row_none : (forms : List Form) (row : ℕ) (box : CostBox) → greatest (form_at forms row) box <ℤ pos 0 → HasNone forms box
row_none forms row box negative w inside meets =
    let bound = greatest_bounds (form_at forms row) box w inside in
    let least = meets row in
    absurd (omega (arith, ints))

cut_none : (forms : List Form) (box : CostBox) (var v : ℕ) → HasNone forms (with_high box var v) → HasNone forms (with_low box var (v + 1)) → HasNone forms box
cut_none forms box var v lower upper w inside meets =
    elim (cases_lt v (slice_index w var)) [
      | inl above ↦ upper w (in_low box w var (v + 1) inside (omega arith)) meets
      | inr below ↦ lower w (in_high box w var v inside below) meets
    ]

tighten_none : (forms : List Form) (box : CostBox) (side : Side) (var v row : ℕ) → TightensAt forms box side var v row →
    HasNone forms (tightened box side var v) → HasNone forms box
tighten_none forms box Low var v row tightens rest w inside meets =
    elim (cases_lt (slice_index w var) v) [
      | inl below ↦ row_none forms row (with_high box var (v - 1)) tightens.refuted w (in_high box w var (v - 1) inside (omega arith)) meets
      | inr above ↦ rest w (in_low box w var v inside above) meets
    ]
tighten_none forms box High var v row tightens rest w inside meets =
    elim (cases_lt v (slice_index w var)) [
      | inl above ↦ row_none forms row (with_low box var (v + 1)) tightens.refuted w (in_low box w var (v + 1) inside (omega arith)) meets
      | inr below ↦ rest w (in_high box w var v inside below) meets
    ]

true_false : true ≡ false → ⊥
true_false e = cc

pub closed_none : (forms : List Form) (boxes : List CostBox) (entries : List Entry) → Sound forms boxes entries → IsClosed entries → EachHasNone forms boxes
closed_none forms [] [] sound closed = tt
closed_none forms (box ∷ boxes) [] sound closed = absurd sound
closed_none forms [] (entry ∷ entries) sound closed = tt
closed_none forms (box ∷ boxes) (Tighten var side v row ∷ entries) sound closed =
    let rest = closed_none forms (tightened box side var v ∷ boxes) entries sound.1 closed.1 in
    (tighten_none forms box side var v row sound.0 rest.0, rest.1)
closed_none forms (box ∷ boxes) (Split var v ∷ entries) sound closed =
    let rest = closed_none forms (with_high box var v ∷ with_low box var (v + 1) ∷ boxes) entries sound.1 closed.1 in
    (cut_none forms box var v rest.0 rest.1.0, rest.1.1)
closed_none forms (box ∷ boxes) (Halve var v wide ∷ entries) sound closed =
    let rest = closed_none forms (with_high box var v ∷ with_low box var (v + 1) ∷ boxes) entries sound.1 closed.1 in
    (cut_none forms box var v rest.0 rest.1.0, rest.1.1)
closed_none forms (box ∷ boxes) (Refute parts ∷ entries) sound closed =
    (refuted_none forms parts box sound.0, closed_none forms boxes entries sound.1 closed.1)
closed_none forms (box ∷ boxes) (Undone ∷ entries) sound closed = absurd (true_false closed.0)

-- a closed sound tree over a box: no costs of the box meet the forms
pub closed_tree_none : (forms : List Form) (box : CostBox) (tree : List Entry) → IsSoundTree forms box tree → IsClosed tree → HasNone forms box
closed_tree_none forms box tree sound closed =
    let each = closed_none forms (box ∷ []) tree sound closed in
    each.0
