-- The forms with which a search begins are true ones of the sets.
use Rattle.std.proofs.Common.{◌≡◌, ℕ, sym, ap, subst, length}
use Rattle.std.proofs.lemmas.Result.{IfOk-weaker}
use Rattle.design_problem.specs.Boxes.{IsBox}
use Rattle.form_search.specs.Finds.{IsSearchResult}
use Rattle.form_search.specs.declared.found.Found.{Found}
use Rattle.spread_sets.specs.Spreads.{SharesEach}
use Rattle.spread_sets.specs.Sources.{KnownSets}
use Rattle.spread_sets.proofs.Findings.{found_as, pool_true_as}
use Rattle.spread_sets.proofs.finding.search_in.Goals as goal

pub search-requires-clause-in_step : goal.search-requires-clause-in_step
search-requires-clause-in_step g c =
    let old = c.args.source.now in
    let same = c.in_ok-begin.ensures.same in
    record {
      lists = c.in_ok-begin.ensures.in_step;
      true_forms =
          pool_true_as c.begin.new.self old.problem old.sets c.begin.new.pool (ap (λ (s : KnownSets). s.problem) same) (ap (λ (s : KnownSets). s.sets) same)
          c.requires.kept c.requires.sets c.in_ok-begin.ensures.in_step;
    }

pub search-requires-clause-ranges : goal.search-requires-clause-ranges
search-requires-clause-ranges g c =
    subst (λ (s : KnownSets). IsBox (length s.problem.low) c.args.costs.now) (sym c.in_ok-begin.ensures.same) c.requires.ranges

pub returns-clause-lists : goal.returns-clause-lists
returns-clause-lists g c = c.search.ensures.left.lists

pub returns-clause-found : goal.returns-clause-found
returns-clause-found g c =
    let old = c.args.source.now in
    let begun = c.begin.new.self in
    let same = c.in_ok-begin.ensures.same in
    let limits = c.args.limits.now in
    let pool = c.search.new.pool in
    let costs = c.args.costs.now in
    IfOk-weaker c.search.result (IsSearchResult (SharesEach begun.problem begun.sets) limits.top limits.nodes pool costs)
    (IsSearchResult (SharesEach old.problem old.sets) limits.top limits.nodes pool costs)
    (λ (found : Found) is. found_as old.problem begun.problem old.sets begun.sets limits.top limits.nodes pool costs found
    (ap (λ (s : KnownSets). s.problem) same) (ap (λ (s : KnownSets). s.sets) same) is) c.search.ensures.found
