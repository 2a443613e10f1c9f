-- The greatest value of a form over a box bounds its value at each point of the box.
use Rattle.std.proofs.Common.{◌≡◌, ℕ, zero, suc, ◌<◌, ◌≤◌, refl, sym, ◌∙◌, ap, List, [], ◌∷◌, length, arith}
use Rattle.std.specs.Prelude.{ℤ, pos, negsuc, ◌+ℤ◌, ◌*ℤ◌, ◌≤ℤ◌, slice_index}
use Rattle.std.proofs.lemmas.Int.{ints}
use Rattle.std.proofs.Math.Nat.{mul-le-mul_left}
use Rattle.design_problem.specs.declared.form.Form.{Form}
use Rattle.design_problem.specs.declared.boxes.CostBox.{CostBox}
use Rattle.design_problem.specs.Forms.{dot, value_for_costs}
use Rattle.design_problem.specs.Boxes.{IsBox, IsInBox, upper_term, upper_sum, greatest}

-- a term is at most its greatest
pub term-le : (c : ℤ) (l x h : ℕ) → l ≤ x → x ≤ h → (c *ℤ pos x) ≤ℤ upper_term c l h
term-le (pos c) l x h above below = omega (arith, ints, mul-le-mul_left c below)
term-le (negsuc c) l x h above below = omega (arith, ints, mul-le-mul_left (suc c) above)

sum-le : (a b c d : ℤ) → a ≤ℤ b → c ≤ℤ d → (a +ℤ c) ≤ℤ (b +ℤ d)
sum-le a b c d first rest = omega (arith, ints)

pub dot-le : (cs : List ℤ) (ls ws hs : List ℕ) → length ls ≡ length ws → length hs ≡ length ws →
    ((k : ℕ) → k < length ws → slice_index ls k ≤ slice_index ws k) →
    ((k : ℕ) → k < length ws → slice_index ws k ≤ slice_index hs k) → dot cs ws ≤ℤ upper_sum cs ls hs
dot-le [] ls ws hs same_low same_high above below = omega (arith, ints)
dot-le (c ∷ cs) [] [] hs same_low same_high above below = omega (arith, ints)
dot-le (c ∷ cs) [] (w ∷ ws) hs same_low same_high above below = absurd (omega arith)
dot-le (c ∷ cs) (l ∷ ls) [] hs same_low same_high above below = absurd (omega arith)
dot-le (c ∷ cs) (l ∷ ls) (w ∷ ws) [] same_low same_high above below = absurd (omega arith)
dot-le (c ∷ cs) (l ∷ ls) (w ∷ ws) (h ∷ hs) same_low same_high above below =
    sum-le (c *ℤ pos w) (upper_term c l h) (dot cs ws) (upper_sum cs ls hs)
    (term-le c l w h (above 0 (omega arith)) (below 0 (omega arith)))
    (dot-le cs ls ws hs (omega arith) (omega arith) (λ k k_in. above (suc k) (omega arith)) (λ k k_in. below (suc k) (omega arith)))

pub greatest_bounds : (f : Form) (box : CostBox) (w : List ℕ) → IsInBox box w → value_for_costs f w ≤ℤ greatest f box
greatest_bounds f box w inside =
    sum-le f.constant f.constant (dot f.coefficients w) (upper_sum f.coefficients box.low box.high) (omega (arith, ints))
    (dot-le f.coefficients box.low w box.high inside.low_count inside.high_count inside.above inside.below)

-- the ends at which the terms are greatest
abbrev pub ends : List ℤ → List ℕ → List ℕ → List ℕ
ends [] ls hs = ls
ends (c ∷ cs) [] hs = []
ends (c ∷ cs) (l ∷ ls) [] = l ∷ ls
ends (pos c ∷ cs) (l ∷ ls) (h ∷ hs) = h ∷ ends cs ls hs
ends (negsuc c ∷ cs) (l ∷ ls) (h ∷ hs) = l ∷ ends cs ls hs

dot-ends : (cs : List ℤ) (ls hs : List ℕ) → length ls ≡ length hs → dot cs (ends cs ls hs) ≡ upper_sum cs ls hs
dot-ends [] ls hs same = refl
dot-ends (c ∷ cs) [] hs same = refl
dot-ends (c ∷ cs) (l ∷ ls) [] same = absurd (omega arith)
dot-ends (pos c ∷ cs) (l ∷ ls) (h ∷ hs) same = ap (λ z. (pos c *ℤ pos h) +ℤ z) (dot-ends cs ls hs (omega arith))
dot-ends (negsuc c ∷ cs) (l ∷ ls) (h ∷ hs) same = ap (λ z. (negsuc c *ℤ pos l) +ℤ z) (dot-ends cs ls hs (omega arith))

length-ends : (cs : List ℤ) (ls hs : List ℕ) → length ls ≡ length hs → length (ends cs ls hs) ≡ length ls
length-ends [] ls hs same = refl
length-ends (c ∷ cs) [] hs same = refl
length-ends (c ∷ cs) (l ∷ ls) [] same = refl
length-ends (pos c ∷ cs) (l ∷ ls) (h ∷ hs) same = ap suc (length-ends cs ls hs (omega arith))
length-ends (negsuc c ∷ cs) (l ∷ ls) (h ∷ hs) same = ap suc (length-ends cs ls hs (omega arith))

ends-within : (cs : List ℤ) (ls hs : List ℕ) (k : ℕ) → length ls ≡ length hs →
    ((i : ℕ) → i < length ls → slice_index ls i ≤ slice_index hs i) → k < length ls →
    (slice_index ls k ≤ slice_index (ends cs ls hs) k) × (slice_index (ends cs ls hs) k ≤ slice_index hs k)
ends-within [] ls hs k same ordered k_in = (omega arith, ordered k k_in)
ends-within (c ∷ cs) [] hs k same ordered k_in = absurd (omega arith)
ends-within (c ∷ cs) (l ∷ ls) [] k same ordered k_in = absurd (omega arith)
ends-within (pos c ∷ cs) (l ∷ ls) (h ∷ hs) zero same ordered k_in = (ordered 0 (omega arith), omega arith)
ends-within (pos c ∷ cs) (l ∷ ls) (h ∷ hs) (suc k) same ordered k_in =
    ends-within cs ls hs k (omega arith) (λ i i_in. ordered (suc i) (omega arith)) (omega arith)
ends-within (negsuc c ∷ cs) (l ∷ ls) (h ∷ hs) zero same ordered k_in = (omega arith, ordered 0 (omega arith))
ends-within (negsuc c ∷ cs) (l ∷ ls) (h ∷ hs) (suc k) same ordered k_in =
    ends-within cs ls hs k (omega arith) (λ i i_in. ordered (suc i) (omega arith)) (omega arith)

-- the greatest value is reached: a form that is negative at each point of a box has a negative greatest value
pub greatest_reached : (n : ℕ) (f : Form) (box : CostBox) → IsBox n box → (w : List ℕ) × IsInBox box w × (value_for_costs f w ≡ greatest f box)
greatest_reached n f box kept =
    let same : length box.low ≡ length box.high = kept.low_count ∙ sym kept.high_count in
    let counted = length-ends f.coefficients box.low box.high same in
    let within = λ (k : ℕ) (k_in : k < length box.low).
    ends-within f.coefficients box.low box.high k same
    (λ i i_in. kept.ordered i (omega (arith, kept.low_count))) k_in in (
      ends f.coefficients box.low box.high,
      record {
        low_count = sym counted;
        high_count = sym same ∙ sym counted;
        above = λ k k_in. (within k (omega arith)).0;
        below = λ k k_in. (within k (omega arith)).1;
      },
      ap (λ z. f.constant +ℤ z) (dot-ends f.coefficients box.low box.high same),
    )
