-- Laws of the source of rivals: its true forms hold where each path leads, they stand in one list, and a path that
-- leads at multiples of costs leads at the costs.
use Rattle.std.proofs.Common.{◌≡◌, ℕ, zero, suc, ◌+◌, ◌*◌, ◌^◌, ◌<◌, ◌≤◌, refl, sym, ◌∙◌, subst, ap, inl, inr, get_or, List, [], ◌∷◌, map, length, arith}
use Rattle.std.specs.Prelude.{ℤ, pos, ◌-ℤ◌, ◌≤ℤ◌, nat_abs, All, Contains, slice_get}
use Rattle.std.proofs.lemmas.Int.{ints}
use Rattle.std.proofs.lemmas.List.{length-map, get_or-map}
use Rattle.std.proofs.lemmas.List.Elements.{Contains-append_left, Contains-append_right}
use Rattle.std.proofs.lemmas.List.Sums.{sum_by-cons}
use Rattle.std.proofs.Math.Nat.{mul-le-mul_left}
use Rattle.std.proofs.lemmas.Bool.{cases_lt}
use Rattle.cost_base.specs.Lists.{numbers_from}
use Rattle.cost_base.proofs.ListLemmas.{length-numbers_from, get_or-numbers_from}
use Rattle.area_graph.specs.declared.Point.{Point}
use Rattle.area_graph.specs.declared.Price.{Price}
use Rattle.area_graph.specs.declared.Price.TheVariants.{Fixed, Var, Zero}
use Rattle.area_graph.specs.Area.{Area, FitsGraph, edge_at}
use Rattle.area_graph.specs.Paths.{Ends, IsPathOf}
use Rattle.area_graph.specs.Costs.{IsPriced, LeadsBy, at_costs, cost, price_at}
use Rattle.design_problem.specs.declared.problem.Request.{Request}
use Rattle.design_problem.specs.declared.form.Row.{Row}
use Rattle.design_problem.specs.Forms.{Form}
use Rattle.design_problem.specs.Forms.{IsSmallForm, value_for_costs, value_at}
use Rattle.design_problem.specs.Problems.{DesignProblem, IsProblem, request_ends, no_request}
use Rattle.design_problem.specs.Rows.{IsRivalOf, LeadsEach, form_between, form_of_row, path_edges}
use Rattle.design_problem.proofs.FormBounds.{simple_form_small}
use Rattle.design_problem.proofs.FormLaws.{value-form_between}
use Rattle.design_problem.proofs.FormSizes.{value_size}
use Rattle.design_problem.proofs.PathBounds.{path-known, simple-short}
use Rattle.design_problem.proofs.RowForms.{RowPaths, route_of_rival, row_paths}
use Rattle.form_search.specs.Sources.{IsTrueForm, scaled}
use Rattle.form_search.proofs.CostPoints.{scaled_at}
use Rattle.cost_branching.specs.PossibleForms.{begun_by, possible_forms_of_problem, edge_lists, forms_of_requests, lists_within}
use Rattle.cost_branching.specs.Rivals.{IsTrueRowForm}

-- The value of a form of two paths at a point.

-- the value of a form of two paths at a point: cost(rival) - cost(wanted) - scale
pub value_between : (p : DesignProblem) (point : Point) (wanted rival : List ℕ) → IsProblem p →
    length point.values ≡ length p.low → value_at (form_between p.graph (length p.low) wanted rival) point
    ≡ ((pos (cost p.graph point rival) -ℤ pos (cost p.graph point wanted)) -ℤ pos point.scale)
value_between p point wanted rival kept count =
    let priced = subst (λ (n : ℕ). All (λ edge. IsPriced n edge.price) p.graph.edges) (sym count) kept.priced in
    subst (λ (n : ℕ). value_at (form_between p.graph n wanted rival) point
    ≡ ((pos (cost p.graph point rival) -ℤ pos (cost p.graph point wanted)) -ℤ pos point.scale)) count
    (value-form_between p.graph point wanted rival priced)

-- where each wanted path leads, a rival costs at least the scale more
pub rival_dearer : (g : Area) (point : Point) (requests : List Request) (k : ℕ) (es : List ℕ) →
    All (λ r. LeadsBy point.scale g point (request_ends r) r.path.edges) requests → IsRivalOf g (slice_get requests k) es →
    cost g point (path_edges (slice_get requests k)) + point.scale ≤ cost g point es
rival_dearer g point [] k es leads rival = absurd rival
rival_dearer g point (r ∷ rs) zero es leads rival = leads 0 no_request (omega arith) es rival.0 rival.1
rival_dearer g point (r ∷ rs) (suc k) es leads rival = rival_dearer g point rs k es (λ i d i_in. leads (suc i) d (omega arith)) rival

-- The paths of a row.

-- the wanted path of a row
abbrev path_at : DesignProblem → Row → List ℕ
path_at p row = (get_or p.requests row.request no_request).path.edges

-- the paths of a row are the wanted one of its request and its rival
pub paths_of_row : (p : DesignProblem) (row : Row) → IsProblem p →
    IsRivalOf p.graph (slice_get p.requests row.request) row.rival →
    RowPaths p row no_request (path_at p row) row.rival
paths_of_row p row kept rival =
    row_paths p row no_request (path_at p row) row.rival kept (route_of_rival p.graph (slice_get p.requests row.request) row.rival rival) refl refl

-- a rival that costs at least the scale more has a value of at least 0
pub at_least : (rival wanted scale : ℕ) → wanted + scale ≤ rival → pos 0 ≤ℤ ((pos rival -ℤ pos wanted) -ℤ pos scale)
at_least rival wanted scale dearer = omega (arith, ints)

-- a row's form is at least 0 where each wanted path leads
pub rival_row_met : (p : DesignProblem) (point : Point) (row : Row) → IsProblem p → length point.values ≡ length p.low →
    IsRivalOf p.graph (slice_get p.requests row.request) row.rival → LeadsEach p point →
    pos 0 ≤ℤ value_at (form_of_row p row) point
rival_row_met p point row kept count rival leads =
    subst (λ (z : ℤ). pos 0 ≤ℤ z) (sym (value_between p point (path_edges (slice_get p.requests row.request)) row.rival kept count))
    (at_least (cost p.graph point row.rival) (cost p.graph point (path_edges (slice_get p.requests row.request)))
    point.scale (rival_dearer p.graph point p.requests row.request row.rival leads rival))

-- a number below one that is at most another is below it
below : (a b c : ℕ) → a ≤ b → b < c → a < c
below a b c first later = omega arith

-- what a form that is small for so many variables comes to at costs
pub small_value : (n : ℕ) (form : Form) (w : List ℕ) → IsSmallForm n form → All (λ x. (1 ≤ x) × (x ≤ 65535)) w → nat_abs (value_for_costs form w) < 2 ^ 27
small_value n form w small each =
    below (nat_abs (value_for_costs form w)) _ (2 ^ 27)
    (value_size form w (λ k d k_in. let within = each k d k_in in omega arith)) small.size

-- a true form is small, and at least 0 at each point where each wanted path leads
pub rival_forms_hold : (p : DesignProblem) (form : Form) → IsTrueRowForm p form → IsTrueForm (length p.low) (LeadsEach p) form
rival_forms_hold p form is =
    let row = is.of_row.row in
    let pair = paths_of_row p row is.kept.problem is.of_row.is_row in
    let small = subst (λ (f : Form). IsSmallForm (length p.low) f) (pair.form ∙ is.of_row.same)
    (simple_form_small p.graph (length p.low) _ _ (path_at p row) row.rival is.kept.graph is.kept.metrics
    is.kept.problem.priced pair.wanted_path pair.rival_path) in
    record {
      count = small.count;
      sizes = small.sizes;
      values = λ w count each. small_value (length p.low) form w small each;
      met = λ point count leads. subst (λ (f : Form). pos 0 ≤ℤ value_at f point) is.of_row.same
          (rival_row_met p point row is.kept.problem count is.of_row.is_row leads);
    }

-- Every true form stands in the list of the possible forms.

-- a mapped list holds what the function makes of its elements
pub contains-map : {X Y : Type 0} (f : X → Y) (xs : List X) (x : X) → Contains xs x → Contains (map f xs) (f x)
contains-map f xs x has = (has.0, omega (arith, length-map xs f, has.1), get_or-map f xs has.0 x (f x) has.1 ∙ ap f has.2)

-- a list whose head is one of the numbers and whose rest is listed is listed behind that number
begun-at : (xs : List ℕ) (lists : List (List ℕ)) (y : ℕ) (ys : List ℕ) (k : ℕ) → k < length xs → get_or xs k y ≡ y →
    Contains lists ys → Contains (begun_by xs lists) (y ∷ ys)
begun-at [] lists y ys k k_in same has = absurd (omega arith)
begun-at (x ∷ xs) lists y ys zero k_in same has =
    Contains-append_left (map (λ zs. x ∷ zs) lists) (begun_by xs lists) (y ∷ ys)
    (subst (λ (z : ℕ). Contains (map (λ zs. x ∷ zs) lists) (z ∷ ys)) same (contains-map (λ zs. x ∷ zs) lists ys has))
begun-at (x ∷ xs) lists y ys (suc k) k_in same has =
    Contains-append_right (map (λ zs. x ∷ zs) lists) (begun_by xs lists) (y ∷ ys) (begun-at xs lists y ys k (omega arith) same has)

-- each list of few enough members is among the lists of at most so many members
within-listed : (xs : List ℕ) (most : ℕ) (ys : List ℕ) → All (Contains xs) ys → length ys ≤ most → Contains (lists_within xs most) ys
within-listed xs zero [] known short = (0, omega arith, refl)
within-listed xs zero (y ∷ ys) known short = absurd (omega arith)
within-listed xs (suc most) [] known short = (0, omega arith, refl)
within-listed xs (suc most) (y ∷ ys) known short =
    let here = known 0 y (omega arith) in
    Contains-append_right ([] ∷ []) (begun_by xs (lists_within xs most)) (y ∷ ys)
    (begun-at xs (lists_within xs most) y ys here.0 here.1 here.2 (within-listed xs most ys (λ k d k_in. known (suc k) d (omega arith)) (omega arith)))

-- each number below n is among the numbers from 0 on, n of them
number-listed : (n e : ℕ) → e < n → Contains (numbers_from 0 n) e
number-listed n e known = (e, omega (arith, length-numbers_from 0 n), get_or-numbers_from 0 n e e known ∙ omega arith)

-- the form of a rival is among the forms of the requests, where its edges are among the short lists
form-listed : (p : DesignProblem) (requests : List Request) (k : ℕ) (es : List ℕ) →
    IsRivalOf p.graph (slice_get requests k) es → Contains (edge_lists p) es →
    Contains (forms_of_requests p requests) (form_between p.graph (length p.low) (path_edges (slice_get requests k)) es)
form-listed p [] k es rival has = absurd rival
form-listed p (r ∷ rs) zero es rival has =
    Contains-append_left (map (form_between p.graph (length p.low) r.path.edges) (edge_lists p))
    (forms_of_requests p rs) (form_between p.graph (length p.low) r.path.edges es)
    (contains-map (form_between p.graph (length p.low) r.path.edges) (edge_lists p) es has)
form-listed p (r ∷ rs) (suc k) es rival has =
    Contains-append_right (map (form_between p.graph (length p.low) r.path.edges) (edge_lists p))
    (forms_of_requests p rs) (form_between p.graph (length p.low) (path_edges (slice_get rs k)) es)
    (form-listed p rs k es rival has)

-- the edges of a simple path are one of the short lists
pub path_listed : (p : DesignProblem) (ends : Ends) (es : List ℕ) → FitsGraph p.graph → IsPathOf p.graph ends es → Contains (edge_lists p) es
path_listed p ends es fits path =
    let known = path-known p.graph ends es path in
    let short = simple-short p.graph ends.start es ends.end fits path.simple in
    within-listed (numbers_from 0 (length p.graph.edges)) (length p.graph.vertices) es
    (λ k d k_in. number-listed (length p.graph.edges) (get_or es k d) (known k d k_in)) (omega (arith, short))

-- each true form is among the possible forms
pub rival_forms_listed : (p : DesignProblem) (form : Form) → IsTrueRowForm p form → Contains (possible_forms_of_problem p) form
rival_forms_listed p form is =
    let row = is.of_row.row in
    let path = (paths_of_row p row is.kept.problem is.of_row.is_row).rival_path in
    let has = path_listed p _ row.rival is.kept.graph path in
    subst (λ (f : Form). Contains (possible_forms_of_problem p) f) is.of_row.same (form-listed p p.requests row.request row.rival is.of_row.is_row has)

-- A path that leads at multiples of costs leads at the costs.

-- a price at multiples of costs is that multiple of the price at the costs
scaled_price : (w : List ℕ) (scale : ℕ) (price : Price) → price_at (scaled w scale) price ≡ price_at (at_costs w) price * scale
scaled_price w scale (Fixed c) = omega arith
scaled_price w scale (Var v) = scaled_at w scale v
scaled_price w scale Zero = omega arith

-- a path's cost at multiples of costs is that multiple of its cost at the costs
pub scaled_cost : (g : Area) (w : List ℕ) (scale : ℕ) (es : List ℕ) → cost g (scaled w scale) es ≡ cost g (at_costs w) es * scale
scaled_cost g w scale [] = omega arith
scaled_cost g w scale (e ∷ es) =
    let here = scaled_price w scale (edge_at g e).price in
    let rest = scaled_cost g w scale es in
    rw (sum_by-cons (λ x. price_at (scaled w scale) (edge_at g x).price) e es, sum_by-cons (λ x. price_at (at_costs w) (edge_at g x).price) e es)
    (omega arith)

-- where b·scale is at least a·scale and the scale, b is above a
pub multiple_divided : (a b scale : ℕ) → 0 < scale → a * scale + scale ≤ b * scale → a + 1 ≤ b
multiple_divided a b scale some more =
    elim (cases_lt a b) [
      | inl less ↦ omega arith
      | inr not ↦ (let most : scale * b ≤ scale * a = mul-le-mul_left scale not in absurd (omega arith))
    ]

-- where each wanted path leads at multiples of costs, each leads at the costs
pub rival_scale_is_free : (p : DesignProblem) (w : List ℕ) (scale : ℕ) → 0 < scale → LeadsEach p (scaled w scale) → LeadsEach p (at_costs w)
rival_scale_is_free p w scale some leads k d k_in other path differs =
    let wanted = (get_or p.requests k d).path.edges in
    let more = leads k d k_in other path differs in
    multiple_divided (cost p.graph (at_costs w) wanted) (cost p.graph (at_costs w) other) scale some
    (subst (λ (n : ℕ). n + scale ≤ cost p.graph (at_costs w) other * scale) (scaled_cost p.graph w scale wanted)
    (subst (λ (n : ℕ). cost p.graph (scaled w scale) wanted + scale ≤ n) (scaled_cost p.graph w scale other) more))
