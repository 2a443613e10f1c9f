use Rattle.std.proofs.Common.{◌<◌, ◌≤◌, ℕ, refl, sym, ◌∙◌, ap, subst, List, length, take, arith}
use Rattle.design_problem.specs.Problems.{DesignProblem}
use Rattle.spread_sets.specs.Spreads.{forms_of_set_rows}
use Rattle.spread_sets.specs.Sources.{KnownSets, set_at, tie_rows, ties_in}
use Rattle.spread_sets.proofs.Ties.{begun_forms, begun_in_step, begun_rows}
use Rattle.spread_sets.proofs.source.Spreads.begin.Goals as goal

pub loop-place-preserved : goal.loop-place-preserved
loop-place-preserved g c =
    let old = c.args.self.now in
    let now = c.loop-place.self in
    let new = c.push_ties.new.self in
    let place = c.loop-place.place in
    let is = c.loop-place.invariant in
    let came = c.in_ok-push_ties.ensures.rows in
    let rows = ap (λ (s : KnownSets). s.rows) came in
    let inside : place < length old.sets = omega (arith, c.count-place-end.ensures, c.loop-place-test.true) in
    record {
      problem = ap (λ (s : KnownSets). s.problem) came ∙ is.problem;
      sets = ap (λ (s : KnownSets). s.sets) came ∙ is.sets;
      rows = begun_rows old.sets now.sets place now.rows new.rows is.sets inside is.rows rows;
      forms = begun_forms old.problem now.problem now.rows (ties_in (set_at now.sets place)) new.rows c.loop-place.pool
          c.push_ties.new.pool is.problem is.forms rows c.in_ok-push_ties.ensures.forms;
    }

pub returns-clause-in_step : goal.returns-clause-in_step
returns-clause-in_step g c =
    let now = c.loop-place.self in
    let place = c.loop-place.place in
    let is = c.loop-place.invariant in
    let ended : length c.args.self.now.sets ≤ place = omega (arith, c.count-place-end.ensures, c.loop-place-test.false) in
    begun_in_step now c.loop-place.pool place now.rows refl
    (is.rows ∙ ap (λ (sets : List (List ℕ)). tie_rows (take place sets)) (sym is.sets))
    (subst (λ (sets : List (List ℕ)). length sets ≤ place) (sym is.sets) ended)
    (is.forms ∙ ap (λ (p : DesignProblem). forms_of_set_rows p now.rows) (sym is.problem))
