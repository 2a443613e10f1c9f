use Rattle.std.proofs.Common.{◌≡◌, ◌∙◌, ap, sym, subst, arith, List, ℕ, length, map}
use Rattle.std.specs.Prelude.{All, slice_get}
use Rattle.std.specs.List.{filter_map}
use Rattle.area_graph.specs.declared.Price.{Price}
use Rattle.lsdb_build.specs.Graphs.{IsLinkPrice}
use Rattle.design_problem.specs.Problems.{DesignProblem, IsProblem}
use Rattle.path_requests.specs.Meaning.{low_of, high_of, range_at}
use Rattle.wanted_paths.specs.Paths.{outline}
use Rattle.path_requests.specs.Resolving.{present_asked, present_problem_of}
use Rattle.path_requests.proofs.Assembled.{prices_link, assembled}
use Rattle.path_requests.proofs.PresentLaws.{none_owned, present_prices_are, none_named, present_paths, present_lines, present_ends, present_is_asked}
use Rattle.path_requests.proofs.WholeProblems.{prices_count, whole_is_problem}
use Rattle.path_requests.proofs.present.assemble_present.Goals.{After-from_items-4}
use Rattle.path_requests.proofs.present.assemble_present.Goals as goal

pub graph-requires-clause-one_each : goal.graph-requires-clause-one_each
graph-requires-clause-one_each c =
    let a = c.args.request_file.now in
    let d = c.args.names.now in
    ap length (c.as_slice.ensures.value ∙ c.in_ok-prices.ensures ∙ sym (present_prices_are a d 0 d.links)) ∙ prices_count (present_asked a) d 0 d.links

pub graph-requires-clause-priced : goal.graph-requires-clause-priced
graph-requires-clause-priced c =
    let a = c.args.request_file.now in
    let d = c.args.names.now in
    subst (λ (prices : List Price). All IsLinkPrice prices) (sym (c.as_slice.ensures.value ∙ c.in_ok-prices.ensures ∙ sym (present_prices_are a d 0 d.links)))
    (prices_link (present_asked a) d 0 d.links (present_is_asked a c.items-lines.ensures.asked) c.links-links.ensures.base.each_link c.requires.costs)

-- the problem that is made is that of the present network
made : (c : After-from_items-4) → ◌≡◌ {A = DesignProblem}
    (record {
      graph = c.in_ok-graph.graph;
      vars = c.from_items.result;
      low = c.from_items-2.result;
      high = c.from_items-3.result;
      requests = c.from_items-4.result;
    })
    (present_problem_of c.args.request_file.now c.args.names.now)
made c =
    let a = c.args.request_file.now in
    let d = c.args.names.now in
    assembled (present_asked a) d c.as_slice.result.now c.in_ok-graph.graph c.from_items.result c.from_items-2.result
    c.from_items-3.result c.from_items-4.result
    (c.as_slice.ensures.value ∙ c.in_ok-prices.ensures ∙ sym (present_prices_are a d 0 d.links)) c.in_ok-graph.ensures
    (c.from_items.ensures ∙ c.new.ensures.items ∙ sym (none_named a d 0 d.links))
    (c.from_items-2.ensures ∙ c.new-2.ensures.items
    ∙ sym (ap (λ (os : List ℕ).
    map low_of (filter_map (λ l. range_at (present_asked a) d (slice_get d.links l)) os)) (none_owned a d)))
    (c.from_items-3.ensures ∙ c.new-3.ensures.items
    ∙ sym (ap (λ (os : List ℕ).
    map high_of (filter_map (λ l. range_at (present_asked a) d (slice_get d.links l)) os)) (none_owned a d)))
    (c.from_items-4.ensures ∙ c.requires.requests ∙ present_paths d (outline d) a.items)

pub invariant_of-result : goal.invariant_of-result
invariant_of-result c =
    let a = c.args.request_file.now in
    let d = c.args.names.now in
    subst (λ (p : DesignProblem). IsProblem p) (sym (made (goal.at.invariant_of-result c).After-from_items-4))
    (whole_is_problem (present_asked a) d (present_is_asked a c.items-lines.ensures.asked) c.links-links.ensures.base
    (present_lines d a.items c.requires.lines) (present_ends a d (present_asked a).items)
    (omega (arith, ap length (none_owned a d))))

pub returns : goal.returns
returns c = made (goal.at.returns c).After-from_items-4
