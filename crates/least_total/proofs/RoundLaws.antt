-- What a round's search comes to, and what is known after a round.
use Rattle.std.proofs.Common.{◌≡◌, ℕ, ◌^◌, ◌<◌, ◌≤◌, refl, sym, ◌∙◌, ap, subst, List, [], length, arith}
use Rattle.std.specs.Prelude.{All, AllPairs, Option, None}
use Rattle.std.proofs.lemmas.List.Elements.{All-nil, All-from_get_or}
use Rattle.area_graph.specs.Costs.{at_costs}
use Rattle.design_problem.specs.declared.boxes.CostBox.{CostBox}
use Rattle.design_problem.specs.declared.form.Row.{Row}
use Rattle.design_problem.specs.Problems.{DesignProblem, IsProblem}
use Rattle.design_problem.specs.Forms.{Form, form_at}
use Rattle.design_problem.specs.Boxes.{IsInBox, capped}
use Rattle.design_problem.specs.Rows.{IsFit, IsRow, box_of, greatest_cost}
use Rattle.design_problem.proofs.ProblemTrees.{le_greatest}
use Rattle.printed_rows.proofs.CapBoxes.{within_cap}
use Rattle.form_search.specs.declared.found.Found.TheVariants.{Costs}
use Rattle.form_search.specs.Finds.{IsSearchResult}
use Rattle.cost_branching.specs.Pools.{Differ, IsRowPool}
use Rattle.cost_branching.specs.Decisions.{IsDecided}
use Rattle.cost_branching.proofs.Caps.{decided}
use Rattle.least_total.specs.declared.rounds.Sought.{Sought}
use Rattle.least_total.specs.declared.so_far.SoFar.{SoFar}
use Rattle.least_total.specs.Totals.{LeadsWithin, form_of_total, total}
use Rattle.least_total.specs.Bounded.{IsPoolWithTotal, BoundedRows, IsPlaceIn, possible_forms_within, forms_with_total}
use Rattle.least_total.specs.Rounds.{IsFitWithin, IsTotalSought, IsTotalSoFar}
use Rattle.least_total.proofs.LeastTotals.{from_lows, kept_bounds, total_small}

-- costs that a search accepts are fit, and have such a total
pub costs_found : (p : DesignProblem) (cap most : ℕ) (w : List ℕ) → IsProblem p → IsInBox (capped (box_of p) cap) w →
    LeadsWithin p most (at_costs w) → IsFitWithin p cap w × (total w ≤ most)
costs_found p cap most w kept inside within =
    let none : IsRowPool p (record { rows = []; forms = [] }) =
    record { rows = All-nil (IsRow p); once = λ i j d before j_in. absurd (omega (arith, j_in)); forms = refl } in
    let fit : IsDecided p 0 0 cap (record { rows = []; forms = [] }) (Costs w) =
    decided p 0 0 cap (record { rows = []; forms = [] }) (Costs w) kept none (inside, within.leads) in
    ((fit.0, within_cap (box_of p) cap w inside), total_small p most w inside.low_count within.within)

-- The forms that a source knows after a search.

same_forms : (p q : DesignProblem) (most bound : ℕ) (rows others : List Row) (before place : Option ℕ) → q ≡ p →
    form_of_total q bound ≡ form_of_total p most → rows ≡ others → before ≡ place →
    forms_with_total q bound others place ≡ forms_with_total p most rows before
same_forms p q most bound rows others before place same_problem same_form same_rows same_place = cc

pub sought_is : (p : DesignProblem) (top nodes most : ℕ) (box : CostBox) (source : BoundedRows) (pool : List Form)
    (sought : Sought) → source.known.problem ≡ p →
    possible_forms_within source.known.problem source.most ≡ possible_forms_within p most → IsPoolWithTotal source pool →
    IsSearchResult (LeadsWithin p most) top nodes pool box sought.found → sought.rows.items ≡ source.known.rows →
    sought.before ≡ source.before → IsTotalSought p top nodes most box sought
sought_is p top nodes most box source pool sought same_problem same_possible_forms in_step found same_rows same_place =
    let q = source.known.problem in
    let same_form : form_of_total q source.most ≡ form_of_total p most = ap (λ (fs : List Form). form_at fs 0) same_possible_forms in
    record {
      placed = record {
        are_rows = subst (λ (r : DesignProblem). All (IsRow r) sought.rows.items) same_problem (subst (All (IsRow q)) (sym same_rows) in_step.are_rows.0);
        once = subst (AllPairs Differ) (sym same_rows) in_step.are_rows.1;
        place = subst (λ (rs : List Row). IsPlaceIn (length rs) sought.before) (sym same_rows)
            (subst (IsPlaceIn (length source.known.rows)) (sym same_place) in_step.place);
      };
      found =
          subst (λ (fs : List Form). IsSearchResult (LeadsWithin p most) top nodes fs box sought.found)
          (in_step.forms ∙ same_forms p q most source.most sought.rows.items source.known.rows sought.before
          source.before same_problem same_form same_rows same_place) found;
    }

-- What is known of the least total.

pub so_far_starts : (p : DesignProblem) (top nodes cap : ℕ) (w : List ℕ) (sum least : ℕ) → IsFitWithin p cap w →
    sum ≡ total w → sum < 2 ^ 26 → least ≡ total p.low →
    IsTotalSoFar p top nodes cap (record { costs = w; total = sum; least = least; kept = None })
so_far_starts p top nodes cap w sum least fit sum_is small least_is =
    let low = from_lows p w fit.0 in
    record {
      fit = fit;
      total_is = sum_is;
      small = small;
      from_lows = omega (arith, least_is);
      ordered = omega (arith, sum_is, least_is);
      kept = least_is;
    }

pub so_far_costs : (p : DesignProblem) (top nodes cap : ℕ) (s : SoFar) (w : List ℕ) (sum : ℕ) → IsProblem p →
    IsTotalSoFar p top nodes cap s → IsFitWithin p cap w → sum ≡ total w → sum < 2 ^ 26 →
    IsTotalSoFar p top nodes cap (record { costs = w; total = sum; least = s.least; kept = s.kept })
so_far_costs p top nodes cap s w sum problem holds fit sum_is small =
    let above = kept_bounds p top nodes cap s.least s.kept problem holds.kept w fit in
    record {
      fit = fit;
      total_is = sum_is;
      small = small;
      from_lows = holds.from_lows;
      ordered = omega (arith, sum_is);
      kept = holds.kept;
    }

-- no lower bound is above the greatest of fit costs
pub lows_below : (p : DesignProblem) (w : List ℕ) → IsFit p w → All (λ low. low ≤ greatest_cost w) p.low
lows_below p w fit =
    All-from_get_or (λ low. low ≤ greatest_cost w) p.low 0
    (λ k k_in.
    let above = fit.within.above k (omega (arith, fit.within.low_count)) in
    let most = le_greatest w k (omega (arith, fit.within.low_count)) in
    omega arith)
