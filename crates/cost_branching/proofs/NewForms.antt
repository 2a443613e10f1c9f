-- Forms of rivals that are too cheap, which come into a pool.
use Rattle.std.proofs.Common.{◌≡◌, ℕ, ◌+◌, ◌<◌, sym, ◌∙◌, ap, subst, List, [], ◌∷◌, ◌++◌, length, arith, append_assoc}
use Rattle.std.specs.Prelude.{ℤ, pos, ◌-ℤ◌, ◌<ℤ◌, ◌≤ℤ◌}
use Rattle.std.specs.Int.Signed.{clash_ℤ}
use Rattle.std.proofs.lemmas.Int.{ints}
use Rattle.std.proofs.lemmas.List.Elements.{All-contains, All-push, Contains-push}
use Rattle.area_graph.specs.declared.Point.{Point}
use Rattle.area_graph.specs.Costs.{cost}
use Rattle.design_problem.specs.Forms.{AreMet, Form, value_at}
use Rattle.design_problem.specs.Problems.{DesignProblem, IsProblem}
use Rattle.design_problem.specs.Rows.{form_between}
use Rattle.form_search.specs.Sources.{Grows, HasNewForm}
use Rattle.cost_branching.specs.SourceLaws.{value_between}

below_zero : (rival wanted scale : ℕ) → rival < wanted + scale → ((pos rival -ℤ pos wanted) -ℤ pos scale) <ℤ pos 0
below_zero rival wanted scale cheap = omega (arith, ints)

-- the form of a path that costs less than the wanted one and the scale is negative
pub between_negative : (p : DesignProblem) (point : Point) (wanted rival : List ℕ) → IsProblem p →
    length point.values ≡ length p.low → cost p.graph point rival < cost p.graph point wanted + point.scale →
    value_at (form_between p.graph (length p.low) wanted rival) point <ℤ pos 0
between_negative p point wanted rival kept count cheap =
    subst (λ (z : ℤ). z <ℤ pos 0) (sym (value_between p point wanted rival kept count))
    (below_zero (cost p.graph point rival) (cost p.graph point wanted) point.scale cheap)

-- a pool with one true form more
pub grows_more : (IsTrue : Form → Type 0) (old_forms forms : List Form) (form : Form) → Grows IsTrue old_forms forms →
    IsTrue form → Grows IsTrue old_forms (forms ++ form ∷ [])
grows_more IsTrue old_forms forms form grows is = record {
  more = grows.more ++ form ∷ [];
  same = ap (λ (fs : List Form). fs ++ form ∷ []) grows.same ∙ append_assoc old_forms grows.more (form ∷ []);
  more_true = All-push IsTrue grows.more form grows.more_true is;
}

-- a negative form stands in no pool whose forms are met
pub new_form : (point : Point) (old_forms forms : List Form) (form : Form) → AreMet old_forms point →
    value_at form point <ℤ pos 0 → HasNewForm point old_forms (forms ++ form ∷ [])
new_form point old_forms forms form met negative = record {
  form = form;
  is_new = Contains-push forms form;
  not_old = λ has. clash_ℤ negative (All-contains (λ f. pos 0 ≤ℤ value_at f point) old_forms form met has);
  negative = negative;
}
