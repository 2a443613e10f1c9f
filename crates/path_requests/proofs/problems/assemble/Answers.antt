use Rattle.std.proofs.Common.{◌≡◌, ◌∙◌, refl, ap, sym, subst, arith, List, ℕ, length, map}
use Rattle.std.specs.Prelude.{slice_get}
use Rattle.std.specs.List.{filter_map}
use Rattle.design_problem.specs.Problems.{DesignProblem, IsProblem}
use Rattle.path_requests.specs.Meaning.{low_of, high_of, range_at, prices_from, problem_of}
use Rattle.path_requests.proofs.Assembled.{assembled}
use Rattle.path_requests.proofs.WholeProblems.{whole_is_problem}
use Rattle.path_requests.proofs.problems.assemble.Goals.{After-from_items-4}
use Rattle.path_requests.proofs.problems.assemble.Goals as goal

-- the problem that is made is the request file's
made : (c : After-from_items-4) → ◌≡◌ {A = DesignProblem}
    (record {
      graph = c.in_ok-graph.graph;
      vars = c.from_items.result;
      low = c.from_items-2.result;
      high = c.from_items-3.result;
      requests = c.from_items-4.result;
    })
    (problem_of c.args.choices.now.asked c.args.choices.now.database)
made c =
    let a = c.args.choices.now.asked in
    let d = c.args.choices.now.database in
    assembled a d (prices_from a d 0 d.links) c.in_ok-graph.graph c.from_items.result c.from_items-2.result c.from_items-3.result c.from_items-4.result
    refl c.in_ok-graph.ensures (c.from_items.ensures ∙ c.in_ok-vars.ensures)
    (c.from_items-2.ensures ∙ c.in_ok-low.ensures ∙ ap (λ (own : List ℕ). map low_of (filter_map (λ l. range_at a d (slice_get d.links l)) own)) c.requires.own)
    (c.from_items-3.ensures ∙ c.in_ok-high.ensures
    ∙ ap (λ (own : List ℕ). map high_of (filter_map (λ l. range_at a d (slice_get d.links l)) own))
    c.requires.own)
    (c.from_items-4.ensures ∙ c.requires.requests)

pub invariant_of-result : goal.invariant_of-result
invariant_of-result c =
    let a = c.args.choices.now.asked in
    let d = c.args.choices.now.database in
    subst (λ (p : DesignProblem). IsProblem p) (sym (made (goal.at.invariant_of-result c).After-from_items-4))
    (whole_is_problem a d c.request_file-request_file.ensures.asked c.links-links.ensures.base c.requires.lines c.requires.ends
    (omega (arith, ap length c.requires.own, c.requires.few)))

pub returns : goal.returns
returns c = made (goal.at.returns c).After-from_items-4
