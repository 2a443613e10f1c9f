-- Costs within the bounds, as lines with the names of the interfaces that have them.
use Rattle.std.proofs.Common.{ℕ, ◌≤◌, List, arith}
use Rattle.std.specs.Prelude.{All, slice_index_or}
use Rattle.design_problem.specs.Answers.{greatest_bound}
use Rattle.design_problem.specs.Boxes.{IsInBox}
use Rattle.design_problem.specs.Problems.{DesignProblem, IsProblem}
use Rattle.design_problem.specs.Rows.{box_of}
use Rattle.design_problem.proofs.ProblemTrees.{le_greatest}
use Rattle.printed_rows.specs.PrintedCosts.{IsNamedCost, named_cost}

-- a name with the cost of its variable, of costs within the bounds
pub name_fits : (p : DesignProblem) (w : List ℕ) → IsProblem p → greatest_bound p ≤ 65535 → IsInBox (box_of p) w →
    All (λ name. IsNamedCost (named_cost w name)) p.vars
name_fits p w problem small within k d k_in =
    let name = slice_index_or p.vars k d in
    let known = problem.named k d k_in in
    let words = problem.words k d k_in in
    let low = (problem.ordered name.var known).0 in
    let above = within.above name.var (omega (arith, known, within.low_count)) in
    let below = within.below name.var (omega (arith, known, within.low_count)) in
    let most = le_greatest p.high name.var (omega (arith, known, problem.low_count)) in
    (words.0, words.1, omega (arith, low, above), omega (arith, below, most, small))
