-- The costs of an answer's lines, set in a database: each free link then has the cost of its variable, each fixed link
-- its own.
use Rattle.std.proofs.Common.{inl, inr, ◌≡◌, ◌≢◌, ℕ, zero, suc, ◌+◌, ◌<◌, refl, sym, ◌∙◌, ap, subst, List, [], ◌∷◌, ◌++◌, length, map, get_or, arith, Bool, true, false, cond, Option, Some}
use Rattle.std.specs.Prelude.{slice_get, slice_index, slice_index_or, unwrap_or, ◌&&◌, if◌then◌else◌}
use Rattle.std.specs.List.{AllZip}
use Rattle.std.proofs.lemmas.List.{map-append}
use Rattle.std.proofs.lemmas.Option.{slice_get_within, get_or_from_slice_get}
use Rattle.std.proofs.lemmas.Bool.{cases_order, and_parts, and_from, false_from_ne_true}
use Rattle.cost_base.specs.Lists.{same_bytes}
use Rattle.area_graph.specs.declared.Price.{Price}
use Rattle.area_graph.specs.declared.Price.TheVariants.{Fixed, Var, Zero}
use Rattle.lsdb_build.specs.declared.Linked.{Linked}
use Rattle.lsdb_build.specs.Graphs.{Database, IsAreaDatabase, graph_at}
use Rattle.lsdb_build.proofs.Recosted.{recosted_link, recosted, recosted_graph}
use Rattle.design_problem.specs.declared.problem.VarName.{VarName}
use Rattle.design_problem.specs.declared.answer.CostLine.{CostLine}
use Rattle.path_requests.specs.declared.ranges.Range.{Range}
use Rattle.path_requests.specs.declared.ranges.Range.TheVariants.{Within, AsItIs}
use Rattle.request_reader.specs.Asked.{Asked}
use Rattle.path_requests.specs.Meaning.{range_of, is_free, variable_of, present_cost, price_of, prices_from}
use Rattle.wanted_paths.specs.Paths.{is_link_named}
use Rattle.cost_base.proofs.ByteLemmas.{same_bytes-true, same_bytes-same}
use Rattle.wanted_paths.proofs.RouteLaws.{router_number_is}
use Rattle.printed_rows.specs.PrintedCosts.{named_cost}
use Rattle.read_back_laws.specs.ReadBack.{is_chosen, names_where, StandElse}
use Rattle.present_costs.specs.AtCosts.{fixed_at, graph_with}
use Rattle.present_costs.proofs.ByLinks.{graph_with_prices}

-- the last cost that lines give an interface of a router, or the one of before
abbrev pub cost_in : List CostLine → List ℕ → List ℕ → Option ℕ → Option ℕ
cost_in [] router interface before = before
cost_in (line ∷ lines) router interface before =
    cost_in lines router interface (if same_bytes line.router router && same_bytes line.interface interface then Some line.cost else before)

same_line : (r s i j : List ℕ) (c k : ℕ) → r ≡ s → i ≡ j → c ≡ k →
    ◌≡◌ {A = CostLine} (record { router = r; interface = i; cost = c }) (record { router = s; interface = j; cost = k })
same_line r s i j c k routers interfaces costs = cc

-- lines that name variables are the names' lines
pub named_lines : (w : List ℕ) (names : List VarName) (lines : List CostLine) →
    AllZip (λ name line. (line.router ≡ name.router) × (line.interface ≡ name.interface)
    × (line.cost ≡ slice_index w name.var)) names lines → lines ≡ map (named_cost w) names
named_lines w [] [] zip = refl
named_lines w [] (line ∷ lines) zip = absurd zip
named_lines w (name ∷ names) [] zip = absurd zip
named_lines w (name ∷ names) (line ∷ lines) zip =
    let head : line ≡ named_cost w name =
    same_line line.router name.router line.interface name.interface line.cost (slice_index w name.var) zip.0.0
    zip.0.1 zip.0.2 in
    let tail = named_lines w names lines zip.1 in
    cc

-- the cost that a link of a price has after the lines, at costs
abbrev pub cost_given : List ℕ → Price → Option ℕ → Option ℕ
cost_given w (Var v) before = Some (slice_index w v)
cost_given w (Fixed cost) before = before
cost_given w Zero before = before

cost_in-append : (xs ys : List CostLine) (r x : List ℕ) (before : Option ℕ) → cost_in (xs ++ ys) r x before ≡ cost_in ys r x (cost_in xs r x before)
cost_in-append [] ys r x before = refl
cost_in-append (line ∷ xs) ys r x before = cost_in-append xs ys r x (if same_bytes line.router r && same_bytes line.interface x then Some line.cost else before)

cond_same : (b : Bool) (o : Option ℕ) → o ≡ cond b o o
cond_same true o = refl
cond_same false o = refl

-- the cost that a link of a price has after the lines, if it is a chosen one
abbrev pub cost_where : Bool → List ℕ → Price → Option ℕ → Option ℕ
cost_where true w price before = cost_given w price before
cost_where false w price before = before

-- what the line of one link does, if it has one
one_cost : (chose : Bool) (a : Asked) (d : Database) (w : List ℕ) (l : ℕ) (link : Linked) (range : Range) (r x : List ℕ) (before : Option ℕ) →
    cost_in (map (named_cost w) (if is_free range && chose then
    record {
      router = slice_index_or d.routers link.router [];
      interface = link.interface;
      var = variable_of a d l;
    } ∷ [] else [])) r x before
    ≡ cond (is_link_named d r x link) (cost_where chose w (price_of a d l link range) before) before
one_cost true a d w l link (Within lo hi) r x before = refl
one_cost true a d w l link AsItIs r x before = cond_same (is_link_named d r x link) before
one_cost false a d w l link (Within lo hi) r x before = cond_same (is_link_named d r x link) before
one_cost false a d w l link AsItIs r x before = cond_same (is_link_named d r x link) before

cost_step : (chosen : ℕ → Linked → Bool) (a : Asked) (d : Database) (w : List ℕ) (l : ℕ) (link : Linked) (links : List Linked) (r x : List ℕ)
    (before : Option ℕ) →
    cost_in (map (named_cost w) (names_where chosen a d l (link ∷ links))) r x before
    ≡ cost_in (map (named_cost w) (names_where chosen a d (l + 1) links)) r x
    (cond (is_link_named d r x link) (cost_where (chosen l link) w (price_of a d l link (range_of a d link)) before) before)
cost_step chosen a d w l link links r x before =
    let first : List VarName = if is_chosen chosen a d l link then
    record { router = slice_index_or d.routers link.router []; interface = link.interface; var = variable_of a d l }
    ∷ [] else [] in
    ap (λ (lines : List CostLine). cost_in lines r x before) (map-append (named_cost w) first (names_where chosen a d (l + 1) links))
    ∙ cost_in-append (map (named_cost w) first) (map (named_cost w) (names_where chosen a d (l + 1) links)) r x before
    ∙ ap (cost_in (map (named_cost w) (names_where chosen a d (l + 1) links)) r x)
    (one_cost (chosen l link) a d w l link (range_of a d link) r x before)

-- lines of other links leave the cost
none_named : (chosen : ℕ → Linked → Bool) (a : Asked) (d : Database) (w : List ℕ) (l : ℕ) (links : List Linked) (r x : List ℕ) (before : Option ℕ) →
    ((k : ℕ) (other : Linked) → slice_get links k ≡ Some other → is_link_named d r x other ≡ false) →
    cost_in (map (named_cost w) (names_where chosen a d l links)) r x before ≡ before
none_named chosen a d w l [] r x before others = refl
none_named chosen a d w l (link ∷ links) r x before others =
    cost_step chosen a d w l link links r x before
    ∙ rw (others 0 link refl) (none_named chosen a d w (l + 1) links r x before (λ k other there. others (suc k) other there))

-- the line of the link at a place gives its cost, where no other link has its name
pub link_cost : (chosen : ℕ → Linked → Bool) (a : Asked) (d : Database) (w : List ℕ) (l : ℕ) (links : List Linked) (r x : List ℕ)
    (before : Option ℕ) (k : ℕ) (link : Linked) → slice_get links k ≡ Some link → is_link_named d r x link ≡ true →
    ((j : ℕ) (other : Linked) → j ≢ k → slice_get links j ≡ Some other → is_link_named d r x other ≡ false) →
    cost_in (map (named_cost w) (names_where chosen a d l links)) r x before ≡
    cost_where (chosen (l + k) link) w (price_of a d (l + k) link (range_of a d link)) before
link_cost chosen a d w l [] r x before k link there named others = absurd (cc)
link_cost chosen a d w l (first ∷ links) r x before zero link there named others =
    let same : first ≡ link = cc in
    let here : is_link_named d r x first ≡ true = ap (is_link_named d r x) same ∙ named in
    let place : l ≡ l + 0 = omega arith in
    cost_step chosen a d w l first links r x before
    ∙ rw here (none_named chosen a d w (l + 1) links r x (cost_where (chosen l first) w (price_of a d l first (range_of a d first)) before)
    (λ j other stands. others (suc j) other (λ e. absurd (omega arith)) stands))
    ∙ ap (λ (i : Linked). cost_where (chosen l i) w (price_of a d l i (range_of a d i)) before) same
    ∙ ap (λ (n : ℕ). cost_where (chosen n link) w (price_of a d n link (range_of a d link)) before) place
link_cost chosen a d w l (first ∷ links) r x before (suc k) link there named others =
    let place : l + 1 + k ≡ l + suc k = omega arith in
    cost_step chosen a d w l first links r x before
    ∙ rw (others 0 first (λ e. absurd (omega arith)) refl)
    (link_cost chosen a d w (l + 1) links r x before k link there named (λ j other apart stands. others (suc j) other (λ e. apart (omega arith)) stands))
    ∙ ap (λ (n : ℕ). cost_where (chosen n link) w (price_of a d n link (range_of a d link)) before) place

-- no two links of a database have the same names
pub named_once : (d : Database) (k j : ℕ) (link other : Linked) → IsAreaDatabase d → slice_get d.links k ≡ Some link →
    slice_get d.links j ≡ Some other → j ≢ k →
    is_link_named d (slice_index_or d.routers link.router []) link.interface other ≡ false
named_once d k j link other base there stands apart =
    false_from_ne_true (is_link_named d (slice_index_or d.routers link.router []) link.interface other) (λ named. clash named)
  where
    at_link : get_or d.links k link ≡ link
    at_link = get_or_from_slice_get d.links k link link there

    at_other : get_or d.links j link ≡ other
    at_other = get_or_from_slice_get d.links j other link stands

    link_in : k < length d.links
    link_in = slice_get_within d.links k link there

    other_in : j < length d.links
    other_in = slice_get_within d.links j other stands

    link_router : link.router < length d.routers
    link_router = subst (λ (i : Linked). i.router < length d.routers) at_link (base.each_link k link link_in).router

    other_router : other.router < length d.routers
    other_router = subst (λ (i : Linked). i.router < length d.routers) at_other (base.each_link j link other_in).router

    clash : is_link_named d (slice_index_or d.routers link.router []) link.interface other ≡ true → ⊥
    clash named =
        let parts = and_parts (same_bytes (slice_index_or d.routers other.router [])
        (slice_index_or d.routers link.router [])) (same_bytes other.interface link.interface) named in
        let names : slice_index_or d.routers other.router [] ≡ slice_index_or d.routers link.router [] =
        same_bytes-true (slice_index_or d.routers other.router [])
        (slice_index_or d.routers link.router []) parts.0 in
        let interfaces : other.interface ≡ link.interface = same_bytes-true other.interface link.interface parts.1 in
        let routers : other.router ≡ link.router
        = sym (router_number_is d other.router (slice_index_or d.routers link.router []) base.different other_router
        names) ∙ router_number_is d link.router (slice_index_or d.routers link.router []) base.different
        link_router refl in
        elim (cases_order j k) [
          | inl same ↦ apart same
          | inr unequal ↦ elim unequal [
            | inl before ↦ base.names j k link before link_in (ap (λ (i : Linked). i.router) at_other ∙ routers
                ∙ sym (ap (λ (i : Linked). i.router) at_link)) (ap (λ (i : Linked). i.interface) at_other ∙ interfaces
                ∙ sym (ap (λ (i : Linked). i.interface) at_link))
            | inr after ↦ base.names k j link after other_in (ap (λ (i : Linked). i.router) at_link ∙ sym routers
                ∙ sym (ap (λ (i : Linked). i.router) at_other)) (ap (λ (i : Linked). i.interface) at_link
                ∙ sym interfaces ∙ sym (ap (λ (i : Linked). i.interface) at_other))
          ]
        ]

-- new costs of a database, by the names of its routers
abbrev pub costs_by_lines : List CostLine → List (List ℕ) → ℕ → List ℕ → Option ℕ → Option ℕ
costs_by_lines lines routers n interface before = cost_in lines (slice_index_or routers n []) interface before

given_price : (chose : Bool) (a : Asked) (d : Database) (w : List ℕ) (l : ℕ) (link : Linked) (range : Range) (cost : Option ℕ) →
    cost ≡ cost_where chose w (price_of a d l link range) link.cost →
    (is_free range ≡ true → chose ≡ false → present_cost a link ≡ slice_index w (variable_of a d l)) →
    Fixed (unwrap_or cost (unwrap_or a.default_cost 0)) ≡ fixed_at w (price_of a d l link range)
given_price true a d w l link (Within lo hi) cost is stands = ap (λ (o : Option ℕ). Fixed (unwrap_or o (unwrap_or a.default_cost 0))) is
given_price false a d w l link (Within lo hi) cost is stands =
    ap (λ (o : Option ℕ). Fixed (unwrap_or o (unwrap_or a.default_cost 0))) is ∙ ap (λ (n : ℕ). Fixed n) (stands refl refl)
given_price true a d w l link AsItIs cost is stands = ap (λ (o : Option ℕ). Fixed (unwrap_or o (unwrap_or a.default_cost 0))) is
given_price false a d w l link AsItIs cost is stands = ap (λ (o : Option ℕ). Fixed (unwrap_or o (unwrap_or a.default_cost 0))) is

-- the price of each link with the costs of the lines is its price at costs
price_back : (chosen : ℕ → Linked → Bool) (a : Asked) (d : Database) (w : List ℕ) (k : ℕ) (link : Linked) → IsAreaDatabase d →
    StandElse chosen a d w → slice_get d.links k ≡ Some link →
    Fixed (present_cost a (recosted_link (costs_by_lines (map (named_cost w) (names_where chosen a d 0 d.links)) d.routers) link))
    ≡ fixed_at w (price_of a d k link (range_of a d link))
price_back chosen a d w k link base stand there =
    let r : List ℕ = slice_index_or d.routers link.router [] in
    let named : is_link_named d r link.interface link ≡ true =
    and_from (same_bytes r r) (same_bytes link.interface link.interface) (same_bytes-same r r refl)
    (same_bytes-same link.interface link.interface refl) in
    let place : 0 + k ≡ k = omega arith in
    let cost = link_cost chosen a d w 0 d.links r link.interface link.cost k link there named
    (λ j other apart stands. named_once d k j link other base there stands apart) in
    given_price (chosen k link) a d w k link (range_of a d link) (cost_in (map (named_cost w) (names_where chosen a d 0 d.links)) r link.interface link.cost)
    (cost ∙ ap (λ (n : ℕ). cost_where (chosen n link) w (price_of a d n link (range_of a d link)) link.cost) place)
    (stand k link there)

prices_back : (a : Asked) (d : Database) (w : List ℕ) (c : ℕ → List ℕ → Option ℕ → Option ℕ) (l : ℕ) (links : List Linked) →
    ((k : ℕ) (link : Linked) → slice_get links k ≡ Some link →
    Fixed (present_cost a (recosted_link c link)) ≡ fixed_at w (price_of a d (l + k) link (range_of a d link))) →
    map (λ link. Fixed (present_cost a link)) (map (recosted_link c) links) ≡ map (fixed_at w) (prices_from a d l links)
prices_back a d w c l [] each = refl
prices_back a d w c l (link ∷ links) each =
    let place : l + 0 ≡ l = omega arith in
    let first : Fixed (present_cost a (recosted_link c link)) ≡ fixed_at w (price_of a d l link (range_of a d link))
    = each 0 link refl ∙ ap (λ (n : ℕ). fixed_at w (price_of a d n link (range_of a d link))) place in
    let rest = prices_back a d w c (l + 1) links
    (λ k other there. let next : l + suc k ≡ l + 1 + k = omega arith in each (suc k) other there
    ∙ ap (λ (n : ℕ). fixed_at w (price_of a d n other (range_of a d other))) next) in
    cc

-- The graph of a database with the costs of the chosen lines is the problem's graph at the costs, where the other links
-- stand at them: free links have the values of their variables, fixed links the cost that they have, or the default.
pub recosted_graph_is : (chosen : ℕ → Linked → Bool) (a : Asked) (d : Database) (w : List ℕ) (lines : List CostLine) → IsAreaDatabase d →
    StandElse chosen a d w → lines ≡ map (named_cost w) (names_where chosen a d 0 d.links) →
    graph_at (recosted (costs_by_lines lines d.routers) d)
    (map (λ link. Fixed (present_cost a link)) (recosted (costs_by_lines lines d.routers) d).links)
    ≡ graph_with w (graph_at d (prices_from a d 0 d.links))
recosted_graph_is chosen a d w lines base stand are =
    let c : ℕ → List ℕ → Option ℕ → Option ℕ = costs_by_lines (map (named_cost w) (names_where chosen a d 0 d.links)) d.routers in
    ap (λ (ls : List CostLine). graph_at (recosted (costs_by_lines ls d.routers) d)
    (map (λ link. Fixed (present_cost a link)) (recosted (costs_by_lines ls d.routers) d).links)) are
    ∙ recosted_graph c d (map (λ link. Fixed (present_cost a link)) (map (recosted_link c) d.links))
    ∙ ap (graph_at d) (prices_back a d w c 0 d.links
    (λ k link there. let place : k ≡ 0 + k = omega arith in price_back chosen a d w k link base stand there
    ∙ ap (λ (n : ℕ). fixed_at w (price_of a d n link (range_of a d link))) place))
    ∙ sym (graph_with_prices w d (prices_from a d 0 d.links))
