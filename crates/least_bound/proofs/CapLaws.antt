-- What each decided cap tells of the least greatest cost.
use Rattle.std.proofs.Common.{◌≡◌, ℕ, ◌+◌, ◌<◌, ◌≤◌, refl, sym, ◌∙◌, ap, subst, List, [], ◌∷◌, ◌++◌, arith}
use Rattle.std.specs.Prelude.{Option, None, Some}
use Rattle.std.proofs.lemmas.List.{map-append}
use Rattle.design_problem.specs.declared.form.Form.{Form}
use Rattle.design_problem.specs.declared.tree.Entry.{Entry}
use Rattle.design_problem.specs.declared.answer.CapTree.{CapTree}
use Rattle.design_problem.specs.Problems.{DesignProblem, IsProblem}
use Rattle.design_problem.specs.Boxes.{capped}
use Rattle.design_problem.specs.Rows.{IsFit, LeadsEach, box_of, form_of_row, forms_of_rows, greatest_cost}
use Rattle.design_problem.specs.Earnest.{OpenPlace, IsEarnestTree}
use Rattle.design_problem.proofs.OpenPlaces.{earnest_tree_sound, opens_ends, earnest_opens}
use Rattle.design_problem.proofs.ProblemTrees.{le_greatest, tree_bounds}
use Rattle.design_problem.proofs.Renumbering.{opens_kept}
use Rattle.cost_branching.specs.Pools.{Pooled, IsRowPool, MoreRows}
use Rattle.cost_branching.specs.Decisions.{IsDecided, IsTreeAt}
use Rattle.form_search.specs.declared.found.Found.TheVariants.{Costs as FoundCosts, Refuted}
use Rattle.least_bound.specs.declared.so_far.Best.{Best}
use Rattle.least_bound.specs.declared.so_far.Best.TheVariants.{NoCosts, Costs, Between}
use Rattle.least_bound.specs.declared.so_far.SoFar.{SoFar}
use Rattle.printed_rows.proofs.CostLaws.{greatest-le}
use Rattle.printed_rows.proofs.CapBoxes.{within_cap}
use Rattle.least_bound.specs.Caps.{BestHolds, IsKeptAt, IsBoundSoFar, IsRefuted, IsUndecidedAt}

-- fit costs have a greatest cost from the greatest lower bound on
pub lowest_cap_below : (p : DesignProblem) (w : List ℕ) → IsFit p w → greatest_cost p.low ≤ greatest_cost w
lowest_cap_below p w fit = greatest-le p.low (greatest_cost w) (λ k k_in.
    let low = fit.within.above k (omega (arith, fit.within.low_count)) in
    let most = le_greatest w k (omega (arith, fit.within.low_count)) in
    omega arith)

-- more rows leave a tree as it is
pub tree_grown : (p : DesignProblem) (top cap : ℕ) (old new : Pooled) (tree : List Entry) → MoreRows old new →
    IsTreeAt p top cap old tree → IsTreeAt p top cap new tree
tree_grown p top cap old new tree grows holds =
    let start : List OpenPlace = record { box = capped (box_of p) cap; since = [] } ∷ [] in
    let forms = forms_of_rows p old.rows in
    let others = forms_of_rows p grows.more in
    let both : forms ++ others ≡ forms_of_rows p new.rows = sym (map-append (form_of_row p) old.rows grows.more) ∙ ap (forms_of_rows p) (sym grows.same) in
    let opens = opens_kept (LeadsEach p) top forms others start tree [] (earnest_opens (LeadsEach p) top forms start tree holds.earnest) in
    let earnest = opens_ends (LeadsEach p) top (forms ++ others) start tree opens in
    record {
      earnest = subst (λ (fs : List Form). IsEarnestTree (LeadsEach p) top fs (capped (box_of p) cap) tree) both earnest;
      last = holds.last;
      short = holds.short;
    }

pub refuted_grown : (p : DesignProblem) (top nodes : ℕ) (old new : Pooled) (t : CapTree) → MoreRows old new →
    IsRefuted p top nodes old t → IsRefuted p top nodes new t
refuted_grown p top nodes old new t grows is = record { tree = tree_grown p top t.cap old new t.tree grows is.tree; closed = is.closed; few = is.few }

pub used_up_grown : (p : DesignProblem) (top nodes : ℕ) (old new : Pooled) (t : CapTree) → MoreRows old new →
    IsUndecidedAt p top nodes old t → IsUndecidedAt p top nodes new t
used_up_grown p top nodes old new t grows is = record { tree = tree_grown p top t.cap old new t.tree grows is.tree; undone = is.undone; used_up = is.used_up }

kept_grown : (p : DesignProblem) (top nodes : ℕ) (old new : Pooled) (least : ℕ) (kept : Option CapTree) →
    MoreRows old new → IsKeptAt p top nodes old least kept → IsKeptAt p top nodes new least kept
kept_grown p top nodes old new least None grows holds = holds
kept_grown p top nodes old new least (Some t) grows holds = (holds.0, holds.1, refuted_grown p top nodes old new t grows holds.2)

best_grown : (p : DesignProblem) (top nodes : ℕ) (old new : Pooled) (most : ℕ) (best : Best) → MoreRows old new →
    BestHolds p top nodes old most best → BestHolds p top nodes new most best
best_grown p top nodes old new most (NoCosts t) grows holds = (holds.0, holds.1, used_up_grown p top nodes old new t grows holds.2)
best_grown p top nodes old new most (Costs w) grows holds = holds
best_grown p top nodes old new most (Between w t) grows holds = (holds.0, holds.1, holds.2, used_up_grown p top nodes old new t grows holds.3)

-- at the greatest bound
pub so_far_starts : (p : DesignProblem) (top nodes : ℕ) (pool : Pooled) (lowest_cap most : ℕ) (best : Best) →
    lowest_cap ≡ greatest_cost p.low → greatest_cost p.low ≤ most → BestHolds p top nodes pool most best →
    IsBoundSoFar p top nodes pool (record { lowest_cap = lowest_cap; least = lowest_cap; most = most; kept = None; best = best })
so_far_starts p top nodes pool lowest_cap most best is ordered holds = record {
  lowest_cap = is;
  from_lowest_cap = omega arith;
  ordered = omega arith;
  none_lower = λ w fit. let lowest = lowest_cap_below p w fit in omega arith;
  kept = is;
  best = holds;
}

-- costs take the place of earlier ones
pub after_costs : (p : DesignProblem) (top nodes : ℕ) (old new : Pooled) (so_far : SoFar) (w : List ℕ) (most : ℕ) →
    MoreRows old new → IsBoundSoFar p top nodes old so_far → IsFit p w → most ≡ greatest_cost w →
    IsBoundSoFar p top nodes new (record { lowest_cap = so_far.lowest_cap; least = so_far.least; most = most; kept = so_far.kept; best = Costs w })
after_costs p top nodes old new so_far w most grows holds fit is = record {
  lowest_cap = holds.lowest_cap;
  from_lowest_cap = holds.from_lowest_cap;
  ordered = let lowest = holds.none_lower w fit in omega arith;
  none_lower = holds.none_lower;
  kept = kept_grown p top nodes old new so_far.least so_far.kept grows holds.kept;
  best = (fit, sym is);
}

-- a refuted cap
pub after_refuted : (p : DesignProblem) (top nodes : ℕ) (old new : Pooled) (so_far : SoFar) (cap : ℕ)
    (tree : List Entry) → IsProblem p → IsRowPool p new → MoreRows old new → so_far.least ≤ cap → cap < so_far.most →
    IsBoundSoFar p top nodes old so_far →
    IsDecided p top nodes cap new (Refuted tree) →
    IsBoundSoFar p top nodes new (record {
      lowest_cap = so_far.lowest_cap;
      least = cap + 1;
      most = so_far.most;
      kept = Some (record { cap = cap; tree = tree });
      best = so_far.best;
    })
after_refuted p top nodes old new so_far cap tree problem pool grows from below holds decided = record {
  lowest_cap = holds.lowest_cap;
  from_lowest_cap = omega (arith, holds.from_lowest_cap);
  ordered = omega arith;
  none_lower = λ w fit.
      let above = tree_bounds p new.rows cap tree problem pool.rows
      (earnest_tree_sound (LeadsEach p) top (forms_of_rows p new.rows) (capped (box_of p) cap) tree
      decided.0.earnest) decided.1 w fit in
      omega arith;
  kept = (refl, omega (arith, holds.lowest_cap, holds.from_lowest_cap), record { tree = decided.0; closed = decided.1; few = decided.2 });
  best = best_grown p top nodes old new so_far.most so_far.best grows holds.best;
}

-- a cap at which the budget was used up
pub after_used_up : (p : DesignProblem) (top nodes : ℕ) (old new : Pooled) (so_far : SoFar) (cap : ℕ) (best : Best) →
    MoreRows old new → so_far.least ≤ cap → IsBoundSoFar p top nodes old so_far → BestHolds p top nodes new cap best →
    IsBoundSoFar p top nodes new (record { lowest_cap = so_far.lowest_cap; least = so_far.least; most = cap; kept = so_far.kept; best = best })
after_used_up p top nodes old new so_far cap best grows from holds there = record {
  lowest_cap = holds.lowest_cap;
  from_lowest_cap = holds.from_lowest_cap;
  ordered = from;
  none_lower = holds.none_lower;
  kept = kept_grown p top nodes old new so_far.least so_far.kept grows holds.kept;
  best = there;
}

-- without costs the tree at the greatest bound stays
pub still_none : (p : DesignProblem) (top nodes : ℕ) (old new : Pooled) (most cap : ℕ) (t : CapTree) →
    MoreRows old new → cap < most → BestHolds p top nodes old most (NoCosts t) →
    BestHolds p top nodes new cap (NoCosts t)
still_none p top nodes old new most cap t grows below holds = (holds.0, omega (arith, holds.1), used_up_grown p top nodes old new t grows holds.2)

-- costs, a refutation, or a budget that was used up at a cap between
pub costs_nearer : (p : DesignProblem) (top nodes cap : ℕ) (pool : Pooled) (w : List ℕ) (least most greatest : ℕ) →
    cap < most → greatest ≡ greatest_cost w → IsDecided p top nodes cap pool (FoundCosts w) →
    greatest + least < most + least
costs_nearer p top nodes cap pool w least most greatest below is decided = let within = within_cap (box_of p) cap w decided.1 in omega arith
