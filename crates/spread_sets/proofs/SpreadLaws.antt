-- Spread-fit costs meet the forms of all rows, and under them the cheapest paths are the members.
use Rattle.std.proofs.Common.{◌≡◌, ◌≢◌, ℕ, ◌+◌, ◌≤◌, refl, sym, subst, inl, inr, get_or, List, [], ◌∷◌, length, arith, Bool, true, false}
use Rattle.std.specs.Prelude.{ℤ, pos, ◌-ℤ◌, ◌≤ℤ◌, ◌⊎◌, All, Contains}
use Rattle.std.proofs.lemmas.Int.{ints}
use Rattle.std.proofs.lemmas.List.Elements.{All-contains, All-cons, All-map, All-nil}
use Rattle.cost_base.specs.Lists.{same_bytes}
use Rattle.cost_base.proofs.ByteLemmas.{same_bytes-true, same_bytes-same}
use Rattle.cost_base.proofs.ListLemmas.{contains_later}
use Rattle.area_graph.specs.Paths.{IsPathOf}
use Rattle.area_graph.specs.Costs.{at_costs, cost}
use Rattle.design_problem.specs.Problems.{DesignProblem, IsProblem}
use Rattle.design_problem.proofs.AtCosts.{value_at_costs}
use Rattle.spread_sets.specs.declared.spread.SetRow.TheVariants.{Outsider, Same}
use Rattle.spread_sets.specs.Spreads.{IsNamed, IsSpreadFit, Shares, all_sets, cost_of_set, edges_of, ends_in, name_of_set, form_of_set_row, paths_of}
use Rattle.spread_sets.specs.MemberSets.{IsMemberSet}
use Rattle.spread_sets.specs.Laws.{CheapestAreMembers, MeetsSetRows, SpreadMeansMet}
use Rattle.spread_sets.specs.SourceLaws.{between_at, first_listed, member_path, set_row_met, tie_at}
use Rattle.spread_sets.proofs.SetLaws.{all_sets_are, listed_at}
use Rattle.spread_sets.proofs.Ties.{same_cost}

-- spread-fit costs meet the rows
pub fit_met : (p : DesignProblem) (sets : List (List ℕ)) (w : List ℕ) → IsProblem p → IsSpreadFit p sets w → MeetsSetRows p sets w
fit_met p sets w kept fit row is =
    subst (λ (z : ℤ). pos 0 ≤ℤ z) (value_at_costs (form_of_set_row p row) w)
    (set_row_met p sets row (at_costs w) kept (sym fit.within.low_count) is fit.shares)

dearer : (a b : ℕ) → pos 0 ≤ℤ ((pos a -ℤ pos b) -ℤ pos 1) → b + 1 ≤ a
dearer a b met = omega (arith, ints)

-- where the rows are met a set shares
set_shares : (p : DesignProblem) (sets : List (List ℕ)) (w set : List ℕ) → IsProblem p → length w ≡ length p.low →
    MeetsSetRows p sets w → Contains sets set → Shares p (at_costs w) set
set_shares p sets w set kept count meets has =
    let first = name_of_set set in
    let named : IsNamed sets first set = record { listed = has; first = refl } in
    let cost_of : List ℕ → ℕ = cost p.graph (at_costs w) in
    record {
      tied =
          All-map (λ es. cost_of es ≡ cost_of_set p (at_costs w) set) (edges_of p) set
          (λ k d k_in.
          let i = get_or set k d in
          let has_i = listed_at set k d k_in in
          let has_first = first_listed set (omega arith) in
          let there = subst (λ (z : ℤ). pos 0 ≤ℤ z) (tie_at p w (edges_of p first) (edges_of p i) kept count)
          (meets (Same first first i) (set, named, has_first, has_i)) in
          let back = subst (λ (z : ℤ). pos 0 ≤ℤ z) (tie_at p w (edges_of p i) (edges_of p first) kept count)
          (meets (Same first i first) (set, named, has_i, has_first)) in
          same_cost (cost_of (edges_of p i)) (cost_of (edges_of p first)) there back);
      dearer = λ es outsider.
          dearer (cost_of es) (cost_of (edges_of p first))
          (subst (λ (z : ℤ). pos 0 ≤ℤ z) (between_at p w (edges_of p first) es kept count)
          (meets (Outsider first es) (set, named, outsider)));
    }

pub spread_is_met : SpreadMeansMet
spread_is_met p lines w kept are inside = (
  λ fit. fit_met p (all_sets p lines) w kept fit,
  λ meets. record {
    within = inside;
    shares = λ k d k_in. set_shares p (all_sets p lines) w (get_or (all_sets p lines) k d) kept
        (sym inside.low_count) meets (listed_at (all_sets p lines) k d k_in);
  },
)

-- The cheapest paths.

-- a path is one of the members' or none of them
listed_or : (paths : List (List ℕ)) (es : List ℕ) → Contains paths es ⊎ All (λ w. es ≢ w) paths
listed_or [] es = inr (All-nil (λ w. es ≢ w))
listed_or (path ∷ paths) es = by_first (same_bytes es path) refl (listed_or paths es)
  where
    by_first : (same : Bool) → same_bytes es path ≡ same → Contains paths es ⊎ All (λ w. es ≢ w) paths →
        Contains (path ∷ paths) es ⊎ All (λ w. es ≢ w) (path ∷ paths)
    by_first true is rest = inl (0, omega arith, sym (same_bytes-true es path is))
    by_first false is (inl has) = inl (contains_later path paths es has)
    by_first false is (inr none) = inr (All-cons (λ w. es ≢ w) path paths (λ same. cc (is, same_bytes-same es path same)) none)

above_all : (p : DesignProblem) (w set es others : List ℕ) → Shares p (at_costs w) set →
    cost p.graph (at_costs w) es ≡ cost_of_set p (at_costs w) set → IsPathOf p.graph (ends_in p set) others →
    cost p.graph (at_costs w) es ≤ cost p.graph (at_costs w) others
above_all p w set es others shares same path =
    elim (listed_or (paths_of p set) others) [
      | inl has ↦ (let tied = All-contains (λ xs. cost p.graph (at_costs w) xs ≡ cost_of_set p (at_costs w) set)
          (paths_of p set) others shares.tied has in omega (arith, same, tied))
      | inr none ↦ (let more = shares.dearer others (record { path = path; other = none }) in omega (arith, same, more))
    ]

pub cheapest_listed : CheapestAreMembers
cheapest_listed p lines w set es kept are fit has =
    let is : IsMemberSet p set = All-contains (IsMemberSet p) (all_sets p lines) set (all_sets_are p lines are) has in
    let shares : Shares p (at_costs w) set = All-contains (Shares p (at_costs w)) (all_sets p lines) set fit.shares has in
    let first_path = member_path p set (name_of_set set) kept is (first_listed set is.some) in (
      λ cheapest.
          elim (listed_or (paths_of p set) es) [
            | inl found ↦ found
            | inr none ↦ (
                let more = shares.dearer es (record { path = cheapest.path; other = none }) in
                let less = cheapest.none_less (edges_of p (name_of_set set)) first_path in
                absurd (omega (arith, more, less)))
          ],
      λ found.
          let paths : All (IsPathOf p.graph (ends_in p set)) (paths_of p set) =
          All-map (IsPathOf p.graph (ends_in p set)) (edges_of p) set
          (λ k d k_in. member_path p set (get_or set k d) kept is (listed_at set k d k_in)) in
          let same = All-contains (λ xs. cost p.graph (at_costs w) xs ≡ cost_of_set p (at_costs w) set) (paths_of p set) es shares.tied found in
          record {
            path = All-contains (IsPathOf p.graph (ends_in p set)) (paths_of p set) es paths found;
            none_less = λ others path. above_all p w set es others shares same path;
          },
    )
