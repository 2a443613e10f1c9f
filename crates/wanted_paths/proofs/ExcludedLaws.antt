-- The edges that a request excludes rise, and are edges of the graph.
use Rattle.std.proofs.Common.{ℕ, ◌+◌, ◌<◌, List, length, arith, Bool}
use Rattle.std.specs.List.{list_any}
use Rattle.std.specs.List.Sorted.{IsStrictlyIncreasing}
use Rattle.std.proofs.lemmas.List.Kept.{IsStrictlyIncreasing-filter}
use Rattle.cost_base.specs.Lists.{numbers_from}
use Rattle.cost_base.proofs.ListLemmas.{length-numbers_from, get_or-numbers_from, all_kept}
use Rattle.area_graph.specs.Area.{Area}
use Rattle.lsdb_build.specs.Graphs.{Database}
use Rattle.design_problem.specs.Problems.{MayBeExcluded}
use Rattle.request_reader.specs.declared.Excluded.{Excluded}
use Rattle.wanted_paths.specs.Paths.{excludes, excluded_edges}

numbers_rise : (a n : ℕ) → IsStrictlyIncreasing (numbers_from a n)
numbers_rise a n = λ k within.
    (let count = length-numbers_from a n in
    let here = get_or-numbers_from a n k 0 (omega arith) in
    let next = get_or-numbers_from a n (k + 1) 0 (omega arith) in
    omega (arith, here, next))

-- the edges of a request's `without` are edges of the graph, and rise
pub excluded_may_be : (d : Database) (g : Area) (parts : List Excluded) → MayBeExcluded g (excluded_edges d g parts)
excluded_may_be d g parts =
    let test : ℕ → Bool = λ e. list_any (excludes d g e) parts in (
      IsStrictlyIncreasing-filter test (numbers_from 0 (length g.edges)) (numbers_rise 0 (length g.edges)),
      all_kept (λ e. e < length g.edges) test 0 (length g.edges) (λ e above below passes. omega (arith, below)),
    )
