-- In an earnest tree a run of Tightens has at most two for each variable, so many of its entries have two subtrees.
use Rattle.std.proofs.Common.{◌≡◌, ℕ, suc, ◌+◌, ◌*◌, ◌<◌, ◌≤◌, refl, sym, ◌∙◌, List, [], ◌∷◌, map, length, length-set, arith}
use Rattle.std.specs.Prelude.{Contains}
use Rattle.std.specs.List.{AllByRecursion}
use Rattle.std.proofs.lemmas.List.{length-map}
use Rattle.cost_base.specs.Lists.{Lacks, NoneTwice}
use Rattle.area_graph.specs.declared.Point.{Point}
use Rattle.design_problem.specs.declared.form.Form.{Form}
use Rattle.design_problem.specs.declared.boxes.CostBox.{CostBox}
use Rattle.design_problem.specs.declared.tree.Side.{Side}
use Rattle.design_problem.specs.declared.tree.Side.TheVariants.{Low, High}
use Rattle.design_problem.specs.declared.tree.Entry.{Entry}
use Rattle.design_problem.specs.declared.tree.Entry.TheVariants.{Tighten, Split, Halve, Refute, Undone}
use Rattle.design_problem.specs.Boxes.{with_low, with_high}
use Rattle.design_problem.specs.Trees.{entry_count, tightened}
use Rattle.design_problem.specs.Earnest.{OpenPlace, Earnest, IsEarnestTree}
use Rattle.design_problem.specs.ProblemLaws.{cut_count, HasManyCuts}
use Rattle.design_problem.proofs.PathBounds.{none_twice-le}
use Rattle.design_problem.proofs.TreeCounts.{undone_mark}
use Rattle.design_problem.proofs.TreeShapes.{has_mark}

-- a number for each variable and side
abbrev pub code : ℕ × Side → ℕ
code p = code_of p.1 p.0
  where
    code_of : Side → ℕ → ℕ
    code_of Low v = 2 * v
    code_of High v = 2 * v + 1

same_side : (v w : ℕ) (s t : Side) → code (v, s) ≡ code (w, t) → (let p : ℕ × Side = (v, s) in p) ≡ (let q : ℕ × Side = (w, t) in q)
same_side v w Low Low e = let same : v ≡ w = omega arith in λ i. (same i, Low)
same_side v w Low High e = absurd (omega arith)
same_side v w High Low e = absurd (omega arith)
same_side v w High High e = let same : v ≡ w = omega arith in λ i. (same i, High)

-- a variable and side that isn't in the list has another number than each that is
lacks_code : (since : List (ℕ × Side)) (v : ℕ) (s : Side) → (Contains since (v, s) → ⊥) → Lacks (map code since) (code (v, s))
lacks_code [] v s absent = tt
lacks_code (p ∷ since) v s absent = (
  λ e. absent (0, omega arith, sym (same_side v p.0 s p.1 e)),
  lacks_code since v s (λ has. absent (suc has.0, omega (arith, has.1), has.2)),
)

code_below : (n v : ℕ) (s : Side) → v < n → code (v, s) < 2 * n
code_below n v Low v_in = omega arith
code_below n v High v_in = omega arith

-- what each open place keeps: a range for each of n variables, and no variable and side twice since the last cut
pub record Kept (n : ℕ) (place : OpenPlace) : Type 0 where
  pub count : length place.box.low ≡ n
  pub once : NoneTwice (map code place.since)
  pub below : AllByRecursion (λ v. v < 2 * n) (map code place.since)

-- each open place keeps it
abbrev pub AllKept : ℕ → List OpenPlace → Type 0
AllKept n places = AllByRecursion (Kept n) places

-- how many Tightens stand above the open places since their last cuts
abbrev pub all_since : List OpenPlace → ℕ
all_since [] = 0
all_since (place ∷ places) = length place.since + all_since places

since-le : (n : ℕ) (place : OpenPlace) → Kept n place → length place.since ≤ 2 * n
since-le n place kept =
    let few = none_twice-le (2 * n) (map code place.since) kept.once kept.below in
    let same = length-map place.since code in
    omega arith

cut_step : (n s places cuts count mark since : ℕ) → s ≤ 2 * n →
    count + mark + (0 + (0 + since)) ≤ (2 * n + 1) * suc (suc places) + (4 * n + 2) * cuts →
    (1 + count) + mark + (s + since) ≤ (2 * n + 1) * suc places + (4 * n + 2) * (1 + cuts)
cut_step n s places cuts count mark since few below = omega arith

leaf_step : (n s places cuts count mark since : ℕ) → s ≤ 2 * n →
    count + mark + since ≤ (2 * n + 1) * places + (4 * n + 2) * cuts →
    (1 + count) + mark + (s + since) ≤ (2 * n + 1) * suc places + (4 * n + 2) * cuts
leaf_step n s places cuts count mark since few below = omega arith

undone_step : (n s places cuts count mark since : ℕ) → s ≤ 2 * n →
    count + mark + since ≤ (2 * n + 1) * places + (4 * n + 2) * cuts →
    (0 + count) + 1 + (s + since) ≤ (2 * n + 1) * suc places + (4 * n + 2) * cuts
undone_step n s places cuts count mark since few below = omega arith

fresh : (n : ℕ) (box : CostBox) → length box.low ≡ n → Kept n (record { box = box; since = [] })
fresh n box count = record { count = count; once = tt; below = tt }

tightened_count : (box : CostBox) (side : Side) (v bound : ℕ) → length (tightened box side v bound).low ≡ length box.low
tightened_count box Low v bound = length-set box.low v bound
tightened_count box High v bound = refl

longer : (n : ℕ) (place : OpenPlace) (v : ℕ) (side : Side) (bound : ℕ) → Kept n place → v < length place.box.low →
    (Contains place.since (v, side) → ⊥) →
    Kept n (record { box = tightened place.box side v bound; since = (v, side) ∷ place.since })
longer n place v side bound kept v_in absent = record {
  count = tightened_count place.box side v bound ∙ kept.count;
  once = (lacks_code place.since v side absent, kept.once);
  below = (code_below n v side (omega (arith, kept.count)), kept.below);
}

-- the open places once the first has been cut in two
abbrev cut_places : OpenPlace → ℕ → ℕ → List OpenPlace → List OpenPlace
cut_places place v bound places =
    record { box = with_high place.box v bound; since = [] } ∷ record { box = with_low place.box v (bound + 1); since = [] } ∷ places

cut_counts : (n : ℕ) (place : OpenPlace) (places : List OpenPlace) (v bound cuts count mark : ℕ) → Kept n place → AllKept n places →
    (AllKept n (cut_places place v bound places) → count + mark + all_since (cut_places place v bound places)
    ≤ (2 * n + 1) * length (cut_places place v bound places) + (4 * n + 2) * cuts) →
    (1 + count) + mark + (length place.since + all_since places) ≤ (2 * n + 1) * suc (length places) + (4 * n + 2) * (1 + cuts)
cut_counts n place places v bound cuts count mark kept all rest =
    let lower = fresh n (with_high place.box v bound) kept.count in
    let upper = fresh n (with_low place.box v (bound + 1)) (length-set place.box.low v (bound + 1) ∙ kept.count) in
    cut_step n (length place.since) (length places) cuts count mark (all_since places) (since-le n place kept) (rest (lower, (upper, all)))

pub earnest_counts : (accepts : Point → Type 0) (top n : ℕ) (rows : List Form) (places : List OpenPlace)
    (entries : List Entry) → AllKept n places → Earnest accepts top rows places entries →
    entry_count entries + undone_mark entries + all_since places ≤ (2 * n + 1) * length places
    + (4 * n + 2) * cut_count entries
earnest_counts accepts top n rows [] [] kept earnest = omega arith
earnest_counts accepts top n rows (place ∷ places) [] kept earnest = absurd earnest
earnest_counts accepts top n rows [] (e ∷ entries) kept earnest = absurd earnest
earnest_counts accepts top n rows (place ∷ places) (Tighten v side bound row ∷ entries) kept earnest =
    let next = longer n place v side bound kept.0 earnest.0.var_known earnest.1.1 in
    let rest = earnest_counts accepts top n rows
    (record { box = tightened place.box side v bound; since = (v, side) ∷ place.since } ∷ places) entries
    (next, kept.1) earnest.2 in
    omega arith
earnest_counts accepts top n rows (place ∷ places) (Split v bound ∷ entries) kept earnest =
    cut_counts n place places v bound (cut_count entries) (entry_count entries) (undone_mark entries) kept.0 kept.1
    (λ all. earnest_counts accepts top n rows (cut_places place v bound places) entries all earnest.2)
earnest_counts accepts top n rows (place ∷ places) (Halve v bound wide ∷ entries) kept earnest =
    cut_counts n place places v bound (cut_count entries) (entry_count entries) (undone_mark entries) kept.0 kept.1
    (λ all. earnest_counts accepts top n rows (cut_places place v bound places) entries all earnest.2)
earnest_counts accepts top n rows (place ∷ places) (Refute parts ∷ entries) kept earnest =
    leaf_step n (length place.since) (length places) (cut_count entries) (entry_count entries) (undone_mark entries)
    (all_since places) (since-le n place kept.0)
    (earnest_counts accepts top n rows places entries kept.1 earnest.2)
earnest_counts accepts top n rows (place ∷ places) (Undone ∷ entries) kept earnest =
    undone_step n (length place.since) (length places) (cut_count entries) (entry_count entries) (undone_mark entries)
    (all_since places) (since-le n place kept.0)
    (earnest_counts accepts top n rows places entries kept.1 earnest.2)

-- of the entries of an earnest tree many have two subtrees
pub many_cuts : (accepts : Point → Type 0) (top : ℕ) (rows : List Form) (box : CostBox) (tree : List Entry) →
    IsEarnestTree accepts top rows box tree → HasManyCuts (length box.low) tree
many_cuts accepts top rows box tree earnest =
    let n = length box.low in
    let most = earnest_counts accepts top (length box.low) rows (record { box = box; since = [] } ∷ []) tree (fresh (length box.low) box refl, tt) earnest in
    record {
      count = omega arith;
      undecided = λ has. let mark = has_mark tree has in omega arith;
    }
