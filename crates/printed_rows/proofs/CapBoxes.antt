-- The box of a problem at a cap.
use Rattle.std.proofs.Common.{ℕ, ◌≤◌, refl, sym, ◌∙◌, List, length, min, arith, ◌<◌}
use Rattle.std.specs.Prelude.{All}
use Rattle.std.proofs.lemmas.List.{length-map, get_or-map, get_or_default}
use Rattle.design_problem.specs.Problems.{DesignProblem, IsProblem}
use Rattle.design_problem.specs.Boxes.{IsBox, capped, IsInBox}
use Rattle.design_problem.specs.Rows.{box_of, greatest_cost}
use Rattle.design_problem.specs.Answers.{greatest_bound}
use Rattle.design_problem.proofs.ProblemTrees.{le_greatest}
use Rattle.design_problem.specs.declared.boxes.CostBox.{CostBox}
use Rattle.printed_rows.proofs.CostLaws.{greatest-le}
use Rattle.printed_rows.proofs.TreeLines.{IsCostBounds}

-- a cap from the greatest lower bound on is below no lower bound
pub no_low_above : (low : List ℕ) (cap : ℕ) → greatest_cost low ≤ cap → All (λ l. l ≤ cap) low
no_low_above low cap from k d k_in =
    let most = le_greatest low k k_in in
    let same = get_or_default low k 0 d k_in in
    omega arith

-- the greatest bound is below no lower bound
pub low_below_greatest_bound : (p : DesignProblem) → IsProblem p → greatest_cost p.low ≤ greatest_bound p
low_below_greatest_bound p kept = greatest-le p.low (greatest_bound p) (λ k k_in.
    let ordered = (kept.ordered k k_in).1 in
    let most = le_greatest p.high k (omega (arith, kept.low_count)) in
    omega arith)

-- the box at a cap that is below no lower bound
pub capped_box : (p : DesignProblem) (cap : ℕ) → IsProblem p → All (λ low. low ≤ cap) p.low → IsBox (length p.low) (capped (box_of p) cap)
capped_box p cap kept most = record {
  low_count = refl;
  high_count = length-map p.high (λ h. min h cap) ∙ sym kept.low_count;
  ordered = λ k k_in.
      let cut = get_or-map (λ h. min h cap) p.high k 0 0 (omega (arith, kept.low_count)) in
      let low = most k 0 k_in in
      let ordered = (kept.ordered k k_in).1 in
      omega arith;
}

-- the box at the greatest bound
pub bounds_box : (p : DesignProblem) → IsProblem p → IsBox (length p.low) (capped (box_of p) (greatest_bound p))
bounds_box p kept = capped_box p (greatest_bound p) kept (no_low_above p.low (greatest_bound p) (low_below_greatest_bound p kept))

-- the box at a cap has bounds of costs
pub cost_bounds : (p : DesignProblem) (cap : ℕ) → IsProblem p → greatest_cost p.low ≤ cap → cap ≤ 65535 → IsCostBounds (length p.low) (capped (box_of p) cap)
cost_bounds p cap kept from small = record {
  few = kept.var_count;
  is_box = capped_box p cap kept (no_low_above p.low cap from);
  most = λ k k_in.
      let cut = get_or-map (λ h. min h cap) p.high k 0 0 (omega (arith, length-map p.high (λ h. min h cap))) in
      omega arith;
}

-- costs of the box at a cap have a greatest cost within it
pub within_cap : (box : CostBox) (cap : ℕ) (w : List ℕ) → IsInBox (capped box cap) w → greatest_cost w ≤ cap
within_cap box cap w inside = greatest-le w cap (λ k k_in.
    let known : k < length box.high = omega (arith, inside.high_count, length-map box.high (λ h. min h cap)) in
    let cut = get_or-map (λ h. min h cap) box.high k 0 0 known in
    let below = inside.below k k_in in
    omega arith)
