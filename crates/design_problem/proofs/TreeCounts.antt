-- A sound tree has at most twice as many entries as its box has points, less one.
use Rattle.std.proofs.Common.{◌≡◌, ℕ, zero, suc, ◌+◌, ◌-◌, ◌*◌, ◌<◌, ◌≤◌, sym, ◌∙◌, ap, List, [], ◌∷◌, inl, inr, length, arith, length-set}
use Rattle.std.specs.Prelude.{slice_index, slice_set}
use Rattle.std.specs.List.{AllByRecursion}
use Rattle.whole_numbers.proofs.FractionLaws.{product_positive}
use Rattle.design_problem.specs.declared.form.Form.{Form}
use Rattle.design_problem.specs.declared.boxes.CostBox.{CostBox}
use Rattle.design_problem.specs.declared.tree.Side.TheVariants.{Low, High}
use Rattle.design_problem.specs.declared.tree.Entry.{Entry}
use Rattle.design_problem.specs.declared.tree.Entry.TheVariants.{Tighten, Split, Halve, Refute, Undone}
use Rattle.design_problem.specs.Boxes.{IsBox, points, points_of, with_low, with_high}
use Rattle.design_problem.specs.Trees.{Sound, entry_count, CutsAt}
use Rattle.design_problem.proofs.TreeLaws.{set_cases}

-- a cut shares out the points
pub points-cut : (ls hs : List ℕ) (i v : ℕ) → length ls ≡ length hs → i < length ls → slice_index ls i ≤ v →
    v < slice_index hs i → points_of ls (slice_set hs i v) + points_of (slice_set ls i (v + 1)) hs ≡ points_of ls hs
points-cut [] hs i v same i_in above below = absurd (omega arith)
points-cut (l ∷ ls) [] i v same i_in above below = absurd (omega arith)
points-cut (l ∷ ls) (h ∷ hs) zero v same i_in above below =
    let parts : (v + 1 - l) + (h + 1 - (v + 1)) ≡ h + 1 - l = omega arith in
    let scaled = ap (λ n. n * points_of ls hs) parts in
    omega arith
points-cut (l ∷ ls) (h ∷ hs) (suc i) v same i_in above below =
    let rest = ap (λ n. (h + 1 - l) * n) (points-cut ls hs i v (omega arith) (omega arith) above below) in
    omega arith

pub points_positive : (ls hs : List ℕ) → length ls ≡ length hs → ((k : ℕ) → k < length ls → slice_index ls k ≤ slice_index hs k) → 0 < points_of ls hs
points_positive [] hs same ordered = omega arith
points_positive (l ∷ ls) [] same ordered = absurd (omega arith)
points_positive (l ∷ ls) (h ∷ hs) same ordered =
    product_positive (h + 1 - l) (points_of ls hs) (positive_range l h (ordered 0 (omega arith)))
    (points_positive ls hs (omega arith) (λ k k_in. ordered (suc k) (omega arith)))
  where
    positive_range : (a b : ℕ) → a ≤ b → 0 < b + 1 - a
    positive_range a b h = omega arith

abbrev pub AllBoxes : ℕ → List CostBox → Type 0
AllBoxes n boxes = AllByRecursion (IsBox n) boxes

abbrev pub all_points : List CostBox → ℕ
all_points [] = 0
all_points (box ∷ boxes) = points box + all_points boxes

pub box_high : (n : ℕ) (box : CostBox) (i v : ℕ) → IsBox n box → slice_index box.low i ≤ v → IsBox n (with_high box i v)
box_high n box i v kept above = record {
  low_count = kept.low_count;
  high_count = length-set box.high i v ∙ kept.high_count;
  ordered = λ k k_in. elim (set_cases box.high i k v (omega (arith, kept.high_count))) [
    | inl same ↦ rw same.1 (rw same.0 above)
    | inr other ↦ rw other (kept.ordered k k_in)
  ];
}

pub box_low : (n : ℕ) (box : CostBox) (i v : ℕ) → IsBox n box → v ≤ slice_index box.high i → IsBox n (with_low box i v)
box_low n box i v kept below = record {
  low_count = length-set box.low i v ∙ kept.low_count;
  high_count = kept.high_count;
  ordered = λ k k_in. elim (set_cases box.low i k v (omega (arith, kept.low_count))) [
    | inl same ↦ rw same.1 (rw same.0 below)
    | inr other ↦ rw other (kept.ordered k k_in)
  ];
}

box_positive : (n : ℕ) (box : CostBox) → IsBox n box → 0 < points box
box_positive n box kept = points_positive box.low box.high (kept.low_count ∙ sym kept.high_count) (λ k k_in. kept.ordered k (omega (arith, kept.low_count)))

box_cut : (n : ℕ) (box : CostBox) (i v : ℕ) → IsBox n box → i < length box.low → slice_index box.low i ≤ v →
    v < slice_index box.high i → points (with_high box i v) + points (with_low box i (v + 1)) ≡ points box
box_cut n box i v kept i_in above below = points-cut box.low box.high i v (kept.low_count ∙ sym kept.high_count) i_in above below

-- whether a list of entries has an Undone, as a number
abbrev pub undone_mark : List Entry → ℕ
undone_mark [] = 0
undone_mark (Undone ∷ entries) = 1
undone_mark (Tighten var side v row ∷ entries) = undone_mark entries
undone_mark (Split var v ∷ entries) = undone_mark entries
undone_mark (Halve var v wide ∷ entries) = undone_mark entries
undone_mark (Refute parts ∷ entries) = undone_mark entries

cut_count : (n : ℕ) (box : CostBox) (i v : ℕ) (m k rest mark : ℕ) → IsBox n box → CutsAt box i v →
    rest + suc (suc k) + mark ≤ 2 * (points (with_high box i v) + (points (with_low box i (v + 1)) + m)) →
    (1 + rest) + suc k + mark ≤ 2 * (points box + m)
cut_count n box i v m k rest mark kept cuts below =
    let shared = box_cut n box i v kept cuts.var_known cuts.above cuts.below in
    omega arith

pub entries-le : (n : ℕ) (forms : List Form) (boxes : List CostBox) (entries : List Entry) → AllBoxes n boxes →
    Sound forms boxes entries → entry_count entries + length boxes + undone_mark entries ≤ 2 * all_points boxes
entries-le n forms [] [] kept sound = omega arith
entries-le n forms (box ∷ boxes) [] kept sound = absurd sound
entries-le n forms [] (entry ∷ entries) kept sound = absurd sound
entries-le n forms (box ∷ boxes) (Refute parts ∷ entries) kept sound =
    let rest = entries-le n forms boxes entries kept.1 sound.1 in
    let some = box_positive n box kept.0 in
    omega arith
entries-le n forms (box ∷ boxes) (Undone ∷ entries) kept sound =
    let rest = entries-le n forms boxes entries kept.1 sound.1 in
    let some = box_positive n box kept.0 in
    omega arith
entries-le n forms (box ∷ boxes) (Split i v ∷ entries) kept sound =
    let cuts = sound.0 in
    let lower = box_high n box i v kept.0 cuts.above in
    let higher = box_low n box i (v + 1) kept.0 (omega (arith, cuts.below)) in
    cut_count n box i v (all_points boxes) (length boxes) (entry_count entries) (undone_mark entries) kept.0 cuts
    (entries-le n forms (with_high box i v ∷ with_low box i (v + 1) ∷ boxes) entries (lower, (higher, kept.1)) sound.1)
entries-le n forms (box ∷ boxes) (Halve i v wide ∷ entries) kept sound =
    let cuts = sound.0 in
    let lower = box_high n box i v kept.0 cuts.above in
    let higher = box_low n box i (v + 1) kept.0 (omega (arith, cuts.below)) in
    cut_count n box i v (all_points boxes) (length boxes) (entry_count entries) (undone_mark entries) kept.0 cuts
    (entries-le n forms (with_high box i v ∷ with_low box i (v + 1) ∷ boxes) entries (lower, (higher, kept.1)) sound.1)
entries-le n forms (box ∷ boxes) (Tighten i Low v row ∷ entries) kept sound =
    let tightens = sound.0 in
    let smaller = box_low n box i v kept.0 tightens.smaller.1 in
    let rest = entries-le n forms (with_low box i v ∷ boxes) entries (smaller, kept.1) sound.1 in
    let next : v - 1 + 1 ≡ v = omega (arith, tightens.smaller.0) in
    let shared = rw next at (box_cut n box i (v - 1) kept.0 tightens.var_known (omega (arith, tightens.smaller.0))
    (omega (arith, tightens.smaller.0, tightens.smaller.1))) in
    let other = box_positive n (with_high box i (v - 1)) (box_high n box i (v - 1) kept.0 (omega (arith, tightens.smaller.0))) in
    omega arith
entries-le n forms (box ∷ boxes) (Tighten i High v row ∷ entries) kept sound =
    let tightens = sound.0 in
    let smaller = box_high n box i v kept.0 tightens.smaller.0 in
    let rest = entries-le n forms (with_high box i v ∷ boxes) entries (smaller, kept.1) sound.1 in
    let shared = box_cut n box i v kept.0 tightens.var_known tightens.smaller.0 tightens.smaller.1 in
    let other = box_positive n (with_low box i (v + 1)) (box_low n box i (v + 1) kept.0 (omega (arith, tightens.smaller.1))) in
    omega arith

-- a sound tree over a box: at most twice its points less one entries, and one fewer with an Undone
pub tree_entries-le : (n : ℕ) (forms : List Form) (box : CostBox) (tree : List Entry) → IsBox n box →
    Sound forms (box ∷ []) tree → entry_count tree + 1 + undone_mark tree ≤ 2 * points box
tree_entries-le n forms box tree kept sound = let h = entries-le n forms (box ∷ []) tree (kept, tt) sound in omega arith
