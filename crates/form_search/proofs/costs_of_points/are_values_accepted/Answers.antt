-- The values are tried as costs at a scale of 1.
use Rattle.std.proofs.Common.{ℕ, ◌≤◌, refl, sym, ◌∙◌, ap, subst, arith, List, length}
use Rattle.std.specs.Prelude.{slice_index}
use Rattle.std.proofs.lemmas.Bool.{false≢true}
use Rattle.design_problem.specs.Boxes.{IsInBox}
use Rattle.form_search.proofs.CostPoints.{values_inside, values_point}
use Rattle.form_search.proofs.SourceLaws.{same_alike}
use Rattle.form_search.proofs.costs_of_points.are_values_accepted.Goals.{Else-not-is_within}
use Rattle.form_search.proofs.costs_of_points.are_values_accepted.Goals as goal

within : (g : _) (c : Else-not-is_within g) → IsInBox c.args.costs.now c.args.point.now.values
within g c = values_inside (g.S.FormSource.count c.args.source.now) c.args.costs.now c.args.point.now c.requires.inside (λ k k_in.
    subst (λ (xs : List ℕ). slice_index xs k ≤ slice_index c.args.costs.now.high k) c.as_slice.ensures
    (subst (λ (hs : List ℕ). slice_index c.as_slice.result.now k ≤ slice_index hs k) c.as_slice-2.ensures
    (c.if-not-is_within.ensures refl k (omega (arith, k_in, ap length c.as_slice-2.ensures)))))

pub is_within-requires : goal.is_within-requires
is_within-requires g c =
    ap length c.as_slice.ensures ∙ sym c.requires.inside.high_count ∙ sym (ap length c.as_slice-2.ensures)

pub returns-then-not-is_within-clause-within : goal.returns-then-not-is_within-clause-within
returns-then-not-is_within-clause-within g c = λ is. absurd (false≢true is)

pub returns-then-not-is_within-clause-accepted : goal.returns-then-not-is_within-clause-accepted
returns-then-not-is_within-clause-accepted g c = λ is. absurd (false≢true is)

pub returns-then-not-is_within-clause-point : goal.returns-then-not-is_within-clause-point
returns-then-not-is_within-clause-point g c = refl

pub returns-then-not-is_within-clause-in_step : goal.returns-then-not-is_within-clause-in_step
returns-then-not-is_within-clause-in_step g c = λ forms. (λ is. is, λ is. is)

pub returns-then-not-is_within-clause-same : goal.returns-then-not-is_within-clause-same
returns-then-not-is_within-clause-same g c = same_alike g.S.FormSource.count g.S.FormSource.accepted g.S.FormSource.true_form g.S.FormSource.possible_forms
    c.args.source.now

pub accepts-accepted-requires : goal.accepts-accepted-requires
accepts-accepted-requires g c = record {
  point = values_point (g.S.FormSource.count c.args.source.now) c.args.costs.now c.args.point.now.values c.requires.ranges
      (within g (goal.at.accepts-accepted-requires g c).Else-not-is_within);
}

pub returns-clause-within : goal.returns-clause-within
returns-clause-within g c = λ is. within g (goal.at.returns-clause-within g c).Else-not-is_within

pub returns-clause-accepted : goal.returns-clause-accepted
returns-clause-accepted g c = λ is. c.accepts-accepted.ensures.answer.0 is

pub returns-clause-point : goal.returns-clause-point
returns-clause-point g c = refl

pub returns-clause-in_step : goal.returns-clause-in_step
returns-clause-in_step g c = c.accepts-accepted.ensures.in_step

pub returns-clause-same : goal.returns-clause-same
returns-clause-same g c = c.accepts-accepted.ensures.same
