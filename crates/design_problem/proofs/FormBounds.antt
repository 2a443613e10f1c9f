-- The form of two paths that cost less than 2^26 each has a size below 2^27.
use Rattle.std.proofs.Common.{◌≡◌, ℕ, zero, suc, ◌+◌, ◌*◌, ◌^◌, ◌<◌, ◌≤◌, sym, ◌∙◌, subst, get_or, List, [], ◌∷◌, map, length, replicate, arith, lit<}
use Rattle.std.specs.Prelude.{ℤ, pos, ◌-ℤ◌, nat_abs, All, sum_by}
use Rattle.std.proofs.lemmas.Int.{ints}
use Rattle.std.proofs.lemmas.List.Sums.{sum_by-cons}
use Rattle.std.proofs.lemmas.List.{length-map, length-replicate, get_or-replicate}
use Rattle.cost_base.specs.Lists.{numbers_from}
use Rattle.cost_base.proofs.ListLemmas.{length-numbers_from}
use Rattle.area_graph.specs.Area.{Area, FitsGraph, HasMetrics}
use Rattle.area_graph.specs.Paths.{Ends, IsPathOf}
use Rattle.area_graph.specs.Costs.{cost, at_costs, IsPriced, FitsPoint}
use Rattle.area_graph.proofs.Bounds.{cost_below}
use Rattle.design_problem.specs.Forms.{IsSmallForm, size_of_form}
use Rattle.design_problem.specs.Rows.{uses, fixed_cost, form_between}
use Rattle.design_problem.proofs.FormLaws.{weigh, cost-split}

-- the greatest cost for each of n variables
abbrev pub dearest : ℕ → List ℕ
dearest n = replicate n 65535

difference_size : (a b : ℕ) → nat_abs (pos a -ℤ pos b) ≤ a + b
difference_size a b = omega (arith, ints)

-- the sizes of differences, each times 65,535, are at most both sums at costs of 65,535
differences_size : (a b : ℕ → ℕ) (k n : ℕ) →
    65535 * sum_by nat_abs (map (λ v. pos (a v) -ℤ pos (b v)) (numbers_from k n)) ≤ weigh a k (dearest n)
    + weigh b k (dearest n)
differences_size a b k zero = omega arith
differences_size a b k (suc n) =
    let here = difference_size (a k) (b k) in
    let rest = differences_size a b (k + 1) n in
    rw (sum_by-cons nat_abs (pos (a k) -ℤ pos (b k)) (map (λ v. pos (a v) -ℤ pos (b v)) (numbers_from (k + 1) n))) (omega arith)

constant_size : (r w : ℕ) → nat_abs ((pos r -ℤ pos w) -ℤ pos 1) ≤ r + w + 1
constant_size r w = omega (arith, ints)

-- the sum of sizes bounds each
size_within : (zs : List ℤ) (k : ℕ) (d : ℤ) → k < length zs → nat_abs (get_or zs k d) ≤ sum_by nat_abs zs
size_within [] k d k_in = absurd (omega arith)
size_within (z ∷ zs) zero d k_in = rw (sum_by-cons nat_abs z zs) (omega arith)
size_within (z ∷ zs) (suc k) d k_in = rw (sum_by-cons nat_abs z zs) (let rest = size_within zs k d (omega arith) in omega arith)

-- where both paths cost less than 2^26 at costs of 65,535, the form is small
pub form_small : (g : Area) (n : ℕ) (wanted rival : List ℕ) → All (λ edge. IsPriced n edge.price) g.edges →
    cost g (at_costs (dearest n)) wanted < 2 ^ 26 → cost g (at_costs (dearest n)) rival < 2 ^ 26 →
    IsSmallForm n (form_between g n wanted rival)
form_small g n wanted rival priced cheap_wanted cheap_rival =
    let priced_here : All (λ edge. IsPriced (length (dearest n)) edge.price) g.edges =
    subst (λ (m : ℕ). All (λ edge. IsPriced m edge.price) g.edges)
    (sym (length-replicate {A = ℕ} n 65535)) priced in
    let split_wanted = cost-split g (at_costs (dearest n)) wanted priced_here in
    let split_rival = cost-split g (at_costs (dearest n)) rival priced_here in
    let constants = constant_size (fixed_cost g rival) (fixed_cost g wanted) in
    let terms = differences_size (uses g rival) (uses g wanted) 0 n in
    let size : size_of_form (form_between g n wanted rival) < 2 ^ 27 = omega arith in
    record {
      count = length-map (numbers_from 0 n) (λ v. pos (uses g rival v) -ℤ pos (uses g wanted v)) ∙ length-numbers_from 0 n;
      sizes = λ k d k_in. let one = size_within (form_between g n wanted rival).coefficients k d k_in in omega arith;
      size = size;
    }

dearest_each : (n k d : ℕ) → k < length (dearest n) → get_or (dearest n) k d ≡ 65535
dearest_each n k d k_in = get_or-replicate n k 65535 d (omega (arith, length-replicate {A = ℕ} n 65535))

-- costs of 65,535 are a point that fits
dearest_fits : (g : Area) (n : ℕ) → All (λ edge. IsPriced n edge.price) g.edges → FitsPoint g (at_costs (dearest n))
dearest_fits g n priced = record {
  scale = omega arith;
  scale_below = lit< tt;
  priced = subst (λ (m : ℕ). All (λ edge. IsPriced m edge.price) g.edges) (sym (length-replicate {A = ℕ} n 65535)) priced;
  least = λ k d k_in. let e = dearest_each n k d k_in in omega arith;
  most = λ k d k_in. let e = dearest_each n k d k_in in omega arith;
}

-- the form of two simple paths is small
pub simple_form_small : (g : Area) (n : ℕ) (wanted_ends rival_ends : Ends) (wanted rival : List ℕ) → FitsGraph g →
    HasMetrics g → All (λ edge. IsPriced n edge.price) g.edges → IsPathOf g wanted_ends wanted →
    IsPathOf g rival_ends rival → IsSmallForm n (form_between g n wanted rival)
simple_form_small g n wanted_ends rival_ends wanted rival fits metrics priced wanted_path rival_path =
    let point = dearest_fits g n priced in
    form_small g n wanted rival priced
    (cost_below g (at_costs (dearest n)) wanted_ends.start wanted wanted_ends.end fits metrics point wanted_path.simple.joins wanted_path.simple.none_twice)
    (cost_below g (at_costs (dearest n)) rival_ends.start rival rival_ends.end fits metrics point rival_path.simple.joins rival_path.simple.none_twice)
