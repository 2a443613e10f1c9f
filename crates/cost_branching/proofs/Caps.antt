-- What a search over the box at a cap decides.
use Rattle.std.proofs.Common.{◌≡◌, ℕ, ◌<◌, refl, sym, ◌∙◌, ap, subst, get_or, List, [], ◌++◌, length, take, arith}
use Rattle.std.specs.Prelude.{All, min}
use Rattle.std.proofs.lemmas.List.{append-nil, get_or-map, length-map, take_at}
use Rattle.std.proofs.lemmas.List.Elements.{All-map}
use Rattle.design_problem.specs.declared.boxes.CostBox.{CostBox}
use Rattle.design_problem.specs.declared.form.Row.{Row}
use Rattle.design_problem.specs.Forms.{Form}
use Rattle.design_problem.specs.Problems.{DesignProblem, IsProblem, IsProblemOnGraph}
use Rattle.design_problem.specs.Boxes.{IsInBox, capped}
use Rattle.design_problem.specs.Rows.{IsFit, LeadsEach, box_of, form_of_row}
use Rattle.form_search.specs.Finds.{IsSearchResult}
use Rattle.design_problem.specs.SearchTrees.{IsSearchTree}
use Rattle.form_search.specs.Sources.{Grows}
use Rattle.form_search.specs.declared.found.Found.{Found}
use Rattle.form_search.specs.declared.found.Found.TheVariants.{Costs, Refuted, Undecided}
use Rattle.cost_branching.specs.Pools.{IsRowPool, MoreRows, Pooled}
use Rattle.cost_branching.specs.Decisions.{IsDecided}
use Rattle.cost_branching.specs.Rivals.{IsTrueRowForm}

-- costs of the box at a cap are costs of the box
pub uncapped : (box : CostBox) (cap : ℕ) (w : List ℕ) → IsInBox (capped box cap) w → IsInBox box w
uncapped box cap w inside =
    let count = length-map box.high (λ h. min h cap) in
    record {
      low_count = inside.low_count;
      high_count = sym count ∙ inside.high_count;
      above = inside.above;
      below = λ k k_in.
          let within : k < length box.high = omega (arith, inside.high_count) in
          let cut = get_or-map (λ h. min h cap) box.high k 0 0 within in
          let most = inside.below k k_in in
          omega (arith, cut, most);
    }

-- costs that are found are fit
costs_fit : (p : DesignProblem) (cap : ℕ) (w : List ℕ) → IsProblem p → IsInBox (capped (box_of p) cap) w →
    LeadsEach p (record { scale = 1; values = w }) → IsFit p w
costs_fit p cap w kept inside leads = record {
  within = uncapped (box_of p) cap w inside;
  only = λ k d k_in. record {
    path = kept.requests k d k_in;
    others = λ other is_path differs. let more = leads k d k_in other is_path differs in omega arith;
  };
}

-- what is found by the pool's forms is what is decided
pub decided : (p : DesignProblem) (top nodes cap : ℕ) (pool : Pooled) (found : Found) → IsProblem p → IsRowPool p pool →
    IsSearchResult (LeadsEach p) top nodes pool.forms (capped (box_of p) cap) found → IsDecided p top nodes cap pool found
decided p top nodes cap pool (Costs w) kept is_pool found = (costs_fit p cap w kept found.0 found.1, found.0)
decided p top nodes cap pool (Refuted tree) kept is_pool found =
    (subst (λ (fs : List Form). IsSearchTree (LeadsEach p) top fs (capped (box_of p) cap) tree) is_pool.forms found.0, found.1, found.2)
decided p top nodes cap pool (Undecided tree) kept is_pool found =
    (subst (λ (fs : List Form). IsSearchTree (LeadsEach p) top fs (capped (box_of p) cap) tree) is_pool.forms found.0, found.1, found.2)

-- What is left where memory was wanting: the pool as it was.

-- the first of a longer list
first_of_more : {X : Type 0} (old new more : List X) (n : ℕ) → n ≡ length old → new ≡ old ++ more → take n new ≡ old
first_of_more old new more n count same = ap (take n) same ∙ take_at old more n (sym count)

pub rows_back : (old new : Pooled) (n : ℕ) → n ≡ length old.rows → MoreRows old new → take n new.rows ≡ old.rows
rows_back old new n count more = first_of_more old.rows new.rows more.more n count more.same

pub forms_back : (p : DesignProblem) (old new : Pooled) (n : ℕ) → n ≡ length old.rows → IsRowPool p old →
    Grows (IsTrueRowForm p) old.forms new.forms → take n new.forms ≡ old.forms
forms_back p old new n count pool grows =
    first_of_more old.forms new.forms grows.more n (count ∙ sym (ap length pool.forms ∙ length-map old.rows (form_of_row p))) grows.same

-- the same rows and forms are the same pool
pub same_pool : (p : DesignProblem) (old new : Pooled) → new.rows ≡ old.rows → new.forms ≡ old.forms → IsRowPool p old → IsRowPool p new
same_pool p old new rows forms pool =
    let same : new ≡ old = λ i. record { rows = rows i; forms = forms i } in
    subst (IsRowPool p) (sym same) pool

pub no_more : (old new : Pooled) → new.rows ≡ old.rows → MoreRows old new
no_more old new same = record { more = []; same = same ∙ sym (append-nil old.rows) }

-- the forms of a pool are true
pub pool_true : (p : DesignProblem) (pool : Pooled) → IsProblemOnGraph p → IsRowPool p pool → All (IsTrueRowForm p) pool.forms
pool_true p pool kept is_pool =
    subst (λ (fs : List Form). All (IsTrueRowForm p) fs) (sym is_pool.forms)
    (All-map (IsTrueRowForm p) (form_of_row p) pool.rows
    (λ k d k_in. record {
      kept = kept;
      of_row = record { row = get_or pool.rows k d; is_row = is_pool.rows k d k_in; same = refl };
    }))

-- a pool of the same problem, with the same rows
pub pool_as : (p q : DesignProblem) (rows others : List Row) (forms : List Form) → q ≡ p → others ≡ rows →
    IsRowPool q (record { rows = rows; forms = forms }) → IsRowPool p (record { rows = others; forms = forms })
pool_as p q rows others forms same_problem same_rows pool =
    subst (λ (r : DesignProblem). IsRowPool r (record { rows = others; forms = forms })) same_problem
    (subst (λ (rs : List Row). IsRowPool q (record { rows = rs; forms = forms })) (sym same_rows) pool)
