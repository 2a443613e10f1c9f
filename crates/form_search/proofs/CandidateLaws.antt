-- The candidates of a point.
use Rattle.std.proofs.Common.{◌≡◌, ℕ, zero, suc, ◌+◌, ◌*◌, ◌%◌, ◌<◌, ◌≤◌, refl, ap, List, [], ◌∷◌, ◌++◌, length, get_or, Bool, true, false, ◌==◌, if◌then◌else◌, arith}
use Rattle.std.specs.Prelude.{All, slice_index}
use Rattle.std.proofs.lemmas.Bool.{eq-eqb, eqb-true}
use Rattle.std.proofs.lemmas.List.{length-append}
use Rattle.area_graph.specs.declared.Point.{Point}
use Rattle.design_problem.specs.declared.boxes.CostBox.{CostBox}
use Rattle.cut_advisors.specs.declared.candidate.Candidate.{Candidate}
use Rattle.form_search.specs.Points.{IsFractional, candidate_at, candidate_of}
use Rattle.form_search.proofs.CostPoints.{each_at}
use Rattle.form_search.proofs.Quotients.{quotient_below, quotient_next}

-- none where the value is whole
pub candidate_none : (box : CostBox) (point : Point) (var : ℕ) → slice_index point.values var % point.scale ≡ 0 → candidate_of box point var ≡ []
candidate_none box point var whole =
    ap (λ (b : Bool). if b then [] else candidate_at box point var ∷ []) (eq-eqb (slice_index point.values var % point.scale) 0 whole)

-- and else one
pub candidate_one : (box : CostBox) (point : Point) (var : ℕ) → (slice_index point.values var % point.scale ≡ 0 → ⊥) →
    candidate_of box point var ≡ candidate_at box point var ∷ []
candidate_one box point var part =
    ap (λ (b : Bool). if b then [] else candidate_at box point var ∷ []) (by (slice_index point.values var % point.scale == 0) refl)
  where
    by : (b : Bool) → (slice_index point.values var % point.scale == 0) ≡ b → b ≡ false
    by true same = absurd (part (eqb-true (slice_index point.values var % point.scale) 0 same))
    by false same = refl

-- whose variable is fractional at the point
pub candidate_fractional : (box : CostBox) (point : Point) (var : ℕ) → 0 < point.scale → var < length point.values →
    (slice_index point.values var % point.scale ≡ 0 → ⊥) → IsFractional box point (candidate_at box point var)
candidate_fractional box point var some known part = record {
  known = known;
  above = quotient_below (slice_index point.values var) point.scale some part;
  below = quotient_next (slice_index point.values var) point.scale some;
  low = refl;
  high = refl;
}

-- with one more a list is longer
pub pushed_more : (old new : List Candidate) (candidate : Candidate) → new ≡ old ++ candidate ∷ [] →
    (length old ≤ length new) × (0 < length new)
pushed_more old new candidate is =
    let longer = length-append old (candidate ∷ []) in
    let same = ap length is in
    (omega (arith, longer, same), omega (arith, longer, same))

-- a point that isn't whole has one
pub some_fractional : (values : List ℕ) (scale n : ℕ) →
    ((k : ℕ) → k < length values → (get_or values k 0 % scale ≡ 0 → ⊥) → 0 < n) → (All (λ x. x % scale ≡ 0) values → ⊥) → 0 < n
some_fractional values scale (suc n) each part = omega arith
some_fractional values scale zero each part =
    absurd (part (each_at (λ x. x % scale ≡ 0) values (λ k k_in. decided (slice_index values k % scale) (each k k_in))))
  where
    decided : (a : ℕ) → ((a ≡ 0 → ⊥) → 0 < 0) → a ≡ 0
    decided zero none = refl
    decided (suc a) none = let less = none (λ e. absurd (omega (arith, e))) in absurd (omega (arith, less))
