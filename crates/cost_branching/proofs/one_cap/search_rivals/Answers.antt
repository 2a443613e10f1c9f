use Rattle.std.proofs.Common.{◌∙◌, sym, subst, rules}
use Rattle.std.specs.Prelude.{All, IfOk}
use Rattle.std.proofs.lemmas.Result.{IfOk-weaker, err_from_is_err_and}
use Rattle.design_problem.specs.Earnest.{IsLeastPoint}
use Rattle.design_problem.specs.Rows.{LeadsEach}
use Rattle.form_search.specs.AdvisorsAsked.{IsTreeOf}
use Rattle.form_search.proofs.AdvisorLaws.{calls_begun, calls_there, start}
use Rattle.cost_branching.specs.Pools.{IsRowPool, Pooled}
use Rattle.cost_branching.specs.Rivals.{IsTrueRowForm, KnownRows}
use Rattle.cost_branching.proofs.Caps.{pool_as, pool_true}
use Rattle.cost_branching.proofs.one_cap.search_rivals.Goals as goal

pub returns-in_err-asker-clause-advisors : goal.returns-in_err-asker-clause-advisors
returns-in_err-asker-clause-advisors g c =
    let p = err_from_is_err_and c.from_residual.result c.from_residual.ensures.1 in
    rw (p.1, p.2) (record { tree = start c.args.costs.now; is_tree = tt; calls = calls_begun _ _ _ _ _ })

pub search-found-requires-clause-in_step : goal.search-found-requires-clause-in_step
search-found-requires-clause-in_step g c =
    let pool : Pooled = record { rows = c.pool.inside.rows.items; forms = c.pool.inside.forms } in
    let is_pool = subst (IsRowPool c.args.problem.now) (sym c.pool.view_is) c.requires.pool in
    record {
      lists = search rules;
      true_forms =
          subst (λ (s : KnownRows). All (IsTrueRowForm s.problem) pool.forms) (sym c.new-source.ensures)
          (pool_true c.args.problem.now pool c.keeps_problem_on_graph.ensures is_pool);
    }

pub returns-clause-pool : goal.returns-clause-pool
returns-clause-pool g c =
    let source = c.search-found.new.source in
    let forms = c.search-found.new.pool in
    IfOk-weaker c.search-found.result (λ found. IsRowPool source.problem (record { rows = source.rows; forms = forms }))
    (λ found. IsRowPool c.args.problem.now (record { rows = c.into_rows.result.items; forms = forms }))
    (λ found in_step. pool_as c.args.problem.now source.problem source.rows c.into_rows.result.items forms
    (c.into_rows.ensures.problem ∙ sym c.requires.begun.problem) c.into_rows.ensures.rows in_step)
    c.search-found.ensures.left.lists

pub returns-clause-advisors : goal.returns-clause-advisors
returns-clause-advisors g c =
    let called = c.search-found.ensures.advisors in
    record {
      tree = called.tree;
      is_tree = subst (λ (s : KnownRows). IfOk c.search-found.result (IsTreeOf (IsLeastPoint (LeadsEach s.problem)) called.tree))
          c.new-source.ensures called.is_tree;
      calls =
          calls_there _ (IsLeastPoint (LeadsEach c.args.problem.now)) _ _ _ called.tree _ _
          (λ b point least. subst (λ (s : KnownRows). IsLeastPoint (LeadsEach s.problem) b point) c.new-source.ensures least)
          called.calls;
    }
