-- The boxes of a sound entry stay boxes, within the one that they began with.
use Rattle.std.proofs.Common.{ℕ, ◌+◌, ◌<◌, ◌≤◌, refl, sym, ◌∙◌, subst, inl, inr, List, [], ◌∷◌, length, length-set, arith}
use Rattle.std.specs.Prelude.{slice_index}
use Rattle.std.specs.List.{AllByRecursion}
use Rattle.area_graph.specs.declared.Point.{Point}
use Rattle.design_problem.specs.declared.form.Form.{Form}
use Rattle.design_problem.specs.declared.boxes.CostBox.{CostBox}
use Rattle.design_problem.specs.declared.tree.Side.TheVariants.{Low, High}
use Rattle.design_problem.specs.declared.tree.Entry.{Entry}
use Rattle.design_problem.specs.declared.tree.Entry.TheVariants.{Tighten, Split, Halve, Refute, Undone}
use Rattle.design_problem.specs.Boxes.{IsBox, IsInBox, with_low, with_high}
use Rattle.design_problem.specs.Trees.{SoundAt, subboxes}
use Rattle.design_problem.specs.Earnest.{OpenPlace}
use Rattle.design_problem.specs.OpenPlaces.{IsSubbox, LeavesPlacesOpen, fresh}
use Rattle.design_problem.proofs.TreeLaws.{set_cases}
use Rattle.design_problem.proofs.TreeCounts.{box_high, box_low}
use Rattle.design_problem.proofs.OpenPlaces.{boxes_of, opens_all}

pub part_whole : (box : CostBox) → IsSubbox box box
part_whole box = record { low_count = refl; high_count = refl; low = λ k k_in. omega arith; high = λ k k_in. omega arith }

part_low : (outer box : CostBox) (var v : ℕ) → IsSubbox outer box → slice_index box.low var ≤ v → IsSubbox outer (with_low box var v)
part_low outer box var v part above = record {
  low_count = length-set box.low var v ∙ part.low_count;
  high_count = part.high_count;
  low = λ k k_in.
      let known : k < length box.low = omega (arith, length-set box.low var v) in
      let here = part.low k known in
      elim (set_cases box.low var k v known) [
        | inl same ↦ rw same.1 (let moved = subst (λ (j : ℕ). slice_index outer.low k ≤ slice_index box.low j) same.0 here in omega arith)
        | inr other ↦ rw other here
      ];
  high = part.high;
}

part_high : (outer box : CostBox) (var v : ℕ) → IsSubbox outer box → v ≤ slice_index box.high var → IsSubbox outer (with_high box var v)
part_high outer box var v part below = record {
  low_count = part.low_count;
  high_count = length-set box.high var v ∙ part.high_count;
  low = part.low;
  high = λ k k_in.
      let known : k < length box.high = omega (arith, length-set box.high var v) in
      let here = part.high k known in
      elim (set_cases box.high var k v known) [
        | inl same ↦ rw same.1 (let moved = subst (λ (j : ℕ). slice_index box.high j ≤ slice_index outer.high k) same.0 here in omega arith)
        | inr other ↦ rw other here
      ];
}

-- a box in n variables within an outer one
pub record IsBoxIn (n : ℕ) (outer box : CostBox) : Type 0 where
  pub is_box : IsBox n box
  pub is_part : IsSubbox outer box

cut_boxes : (n : ℕ) (outer box : CostBox) (var v : ℕ) → IsBoxIn n outer box → slice_index box.low var ≤ v →
    v < slice_index box.high var → IsBoxIn n outer (with_high box var v) × IsBoxIn n outer (with_low box var (v + 1))
cut_boxes n outer box var v kept above below = (
  record { is_box = box_high n box var v kept.is_box above; is_part = part_high outer box var v kept.is_part (omega arith) },
  record { is_box = box_low n box var (v + 1) kept.is_box (omega arith); is_part = part_low outer box var (v + 1) kept.is_part (omega arith) },
)

-- a sound entry's boxes
pub subboxes_in : (n : ℕ) (outer : CostBox) (forms : List Form) (box : CostBox) (entry : Entry) → IsBoxIn n outer box →
    SoundAt forms box entry → AllByRecursion (IsBoxIn n outer) (subboxes box entry)
subboxes_in n outer forms box (Tighten var Low v row) kept sound =
    (record { is_box = box_low n box var v kept.is_box sound.smaller.1; is_part = part_low outer box var v kept.is_part (omega (arith, sound.smaller.0)) }, tt)
subboxes_in n outer forms box (Tighten var High v row) kept sound = (
  record {
    is_box = box_high n box var v kept.is_box sound.smaller.0;
    is_part = part_high outer box var v kept.is_part (omega (arith, sound.smaller.1));
  },
  tt,
)
subboxes_in n outer forms box (Split var v) kept sound = let both = cut_boxes n outer box var v kept sound.above sound.below in (both.0, (both.1, tt))
subboxes_in n outer forms box (Halve var v wide) kept sound = let both = cut_boxes n outer box var v kept sound.above sound.below in (both.0, (both.1, tt))
subboxes_in n outer forms box (Refute parts) kept sound = tt
subboxes_in n outer forms box Undone kept sound = tt

-- the open boxes of a tree over a box
pub open_boxes_in : (accepts : Point → Type 0) (top n : ℕ) (forms : List Form) (start : CostBox) (entries : List Entry)
    (left : List OpenPlace) → IsBox n start → LeavesPlacesOpen accepts top forms (fresh start ∷ []) entries left →
    AllByRecursion (IsBoxIn n start) (boxes_of left)
open_boxes_in accepts top n forms start entries left kept opens =
    opens_all accepts top forms (IsBoxIn n start) (subboxes_in n start forms) (fresh start ∷ []) entries left
    (record { is_box = kept; is_part = part_whole start }, tt) opens

-- costs of the part are costs of the whole
pub in_part : (outer box : CostBox) (w : List ℕ) → IsSubbox outer box → IsInBox box w → IsInBox outer w
in_part outer box w part inside = record {
  low_count = sym part.low_count ∙ inside.low_count;
  high_count = sym part.high_count ∙ inside.high_count;
  above = λ k k_in. let first = part.low k (omega (arith, inside.low_count)) in let second = inside.above k k_in in omega arith;
  below = λ k k_in. let first = part.high k (omega (arith, inside.high_count)) in let second = inside.below k k_in in omega arith;
}
