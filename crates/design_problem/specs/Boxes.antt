-- Boxes of costs, and the greatest value of a form over a box.
use Rattle.std.specs.Prelude.{◌≡◌, ℕ, ◌+◌, ◌-◌, ◌*◌, ◌^◌, ◌<◌, ◌≤◌, min, List, [], ◌∷◌, ℤ, pos, negsuc, ◌+ℤ◌, ◌*ℤ◌, ◌<ℤ◌, map, length, slice_index, slice_set, All, sum_by}
use Rattle.area_graph.specs.declared.Point.{Point}
use Rattle.design_problem.specs.declared.form.Form.{Form}
use Rattle.design_problem.specs.declared.boxes.CostBox.{CostBox}
use Rattle.design_problem.specs.Forms.{weighted}

-- a range for each of n variables, none empty
pub record IsBox (n : ℕ) (box : CostBox) : Type 0 where
  pub low_count : length box.low ≡ n
  pub high_count : length box.high ≡ n
  pub ordered : (k : ℕ) → k < n → slice_index box.low k ≤ slice_index box.high k

-- the costs lie between the box's bounds
pub record IsInBox (box : CostBox) (w : List ℕ) : Type 0 where
  pub low_count : length box.low ≡ length w
  pub high_count : length box.high ≡ length w
  pub above : (k : ℕ) → k < length w → slice_index box.low k ≤ slice_index w k
  pub below : (k : ℕ) → k < length w → slice_index w k ≤ slice_index box.high k

-- the point lies between the box's bounds, times its scale
pub record IsPointOf (box : CostBox) (point : Point) : Type 0 where
  pub scale : 0 < point.scale
  pub low_count : length box.low ≡ length point.values
  pub high_count : length box.high ≡ length point.values
  pub above : (k : ℕ) → k < length point.values → slice_index box.low k * point.scale ≤ slice_index point.values k
  pub below : (k : ℕ) → k < length point.values → slice_index point.values k ≤ slice_index box.high k * point.scale

-- the box with each upper bound cut to the cap
abbrev pub capped : CostBox → ℕ → CostBox
capped box cap = record { low = box.low; high = map (λ h. min h cap) box.high }

-- how many whole points lie between these lower ends and these upper ends
abbrev pub points_of : List ℕ → List ℕ → ℕ
points_of [] hs = 1
points_of (l ∷ ls) [] = 1
points_of (l ∷ ls) (h ∷ hs) = (h + 1 - l) * points_of ls hs

-- how many whole points the box has
abbrev pub points : CostBox → ℕ
points box = points_of box.low box.high

-- a coefficient times the end of the range at which that is greatest
abbrev pub upper_term : ℤ → ℕ → ℕ → ℤ
upper_term (pos c) l h = pos c *ℤ pos h
upper_term (negsuc c) l h = negsuc c *ℤ pos l

-- the greatest sum of coefficients times values of their ranges
abbrev pub upper_sum : List ℤ → List ℕ → List ℕ → ℤ
upper_sum [] ls hs = pos 0
upper_sum (c ∷ cs) [] hs = pos 0
upper_sum (c ∷ cs) (l ∷ ls) [] = pos 0
upper_sum (c ∷ cs) (l ∷ ls) (h ∷ hs) = upper_term c l h +ℤ upper_sum cs ls hs

-- the greatest value of a form over a box
abbrev pub greatest : Form → CostBox → ℤ
greatest f box = f.constant +ℤ upper_sum f.coefficients box.low box.high

-- positive multipliers of forms, of sum below 2^100, refute a box where the weighted sum is negative over it
pub record Refutes (forms : List Form) (parts : List (ℕ × ℕ)) (box : CostBox) : Type 0 where
  pub rows : All (λ part. part.0 < length forms) parts
  pub positive : All (λ part. 0 < part.1) parts
  pub sum : sum_by (λ part. part.1) parts < 2 ^ 100
  pub negative : greatest (weighted forms parts) box <ℤ pos 0

-- the box with another lower bound of one variable
abbrev pub with_low : CostBox → ℕ → ℕ → CostBox
with_low box var value = record { low = slice_set box.low var value; high = box.high }

-- the box with another upper bound of one variable
abbrev pub with_high : CostBox → ℕ → ℕ → CostBox
with_high box var value = record { low = box.low; high = slice_set box.high var value }
