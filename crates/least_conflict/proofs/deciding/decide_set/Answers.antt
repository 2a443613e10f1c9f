-- The set was searched by its members, with a pool that had no rows.
use Rattle.std.proofs.Common.{◌≡◌, ℕ, List, refl, sym, ap, subst, arith}
use Rattle.design_problem.specs.Problems.{restricted}
use Rattle.form_search.specs.declared.found.Found.TheVariants as finds
use Rattle.cost_branching.specs.Pools.{IsRowPool}
use Rattle.least_conflict.specs.Conflicts.{IsRequestSet}
use Rattle.least_conflict.proofs.Asking.{asked_by, decided_by}
use Rattle.least_conflict.proofs.deciding.decide_set.Goals as goal

pub search_set-requires-clause-set : goal.search_set-requires-clause-set
search_set-requires-clause-set g c = subst (IsRequestSet c.args.problem.now) (sym c.as_slice.ensures.value) c.requires

pub returns-in-Costs-clause-asked : goal.returns-in-Costs-clause-asked
returns-in-Costs-clause-asked g c = (
  c.search_set.new.pool,
  tt,
  asked_by _ _ _ _ _ c.args.problem.now c.args.members.items c.as_slice.result.now c.args.limits.now.top c.args.limits.now.nodes c.search_set.new.pool
      c.in_ok-costs.field-0 (finds.Costs c.in-Costs.costs) _ _ c.as_slice.ensures.value c.in-Costs.is c.in_ok-costs.ensures.asked,
)

pub returns-in-Refuted-clause-asked : goal.returns-in-Refuted-clause-asked
returns-in-Refuted-clause-asked g c = (
  c.search_set.new.pool,
  refl,
  asked_by _ _ _ _ _ c.args.problem.now c.args.members.items c.as_slice.result.now c.args.limits.now.top c.args.limits.now.nodes c.search_set.new.pool
      c.in_ok-costs.field-0 (finds.Refuted c.in-Refuted.tree) _ _ c.as_slice.ensures.value c.in-Refuted.is c.in_ok-costs.ensures.asked,
)

pub returns-in-Undecided-clause-asked : goal.returns-in-Undecided-clause-asked
returns-in-Undecided-clause-asked g c = (
  c.search_set.new.pool,
  refl,
  asked_by _ _ _ _ _ c.args.problem.now c.args.members.items c.as_slice.result.now c.args.limits.now.top c.args.limits.now.nodes c.search_set.new.pool
      c.in_ok-costs.field-0 (finds.Undecided c.in-Undecided.tree) _ _ c.as_slice.ensures.value c.in-Undecided.is c.in_ok-costs.ensures.asked,
)

pub returns-in-Costs-clause-decided : goal.returns-in-Costs-clause-decided
returns-in-Costs-clause-decided g c =
    let decided = decided_by c.args.problem.now c.args.members.items c.as_slice.result.now c.args.limits.now.top c.args.limits.now.nodes c.search_set.new.pool
    c.in_ok-costs.field-0 (finds.Costs c.in-Costs.costs) c.as_slice.ensures.value c.in-Costs.is c.in_ok-costs.ensures.decided in
    decided.0

pub returns-in-Refuted-clause-decided : goal.returns-in-Refuted-clause-decided
returns-in-Refuted-clause-decided g c =
    let p = c.args.problem.now in
    let decided = decided_by p c.args.members.items c.as_slice.result.now c.args.limits.now.top c.args.limits.now.nodes c.search_set.new.pool
    c.in_ok-costs.field-0 (finds.Refuted c.in-Refuted.tree) c.as_slice.ensures.value c.in-Refuted.is c.in_ok-costs.ensures.decided in (
      refl {A = List ℕ},
      record {
        tree = record {
          set = c.requires;
          is_pool = subst (λ (ms : List ℕ). IsRowPool (restricted p ms) c.search_set.new.pool) c.as_slice.ensures.value c.in_ok-costs.ensures.pool;
          tree = decided.0;
          few = decided.2;
        };
        closed = decided.1;
      },
    )

pub returns-in-Undecided-clause-decided : goal.returns-in-Undecided-clause-decided
returns-in-Undecided-clause-decided g c =
    let p = c.args.problem.now in
    let decided = decided_by p c.args.members.items c.as_slice.result.now c.args.limits.now.top c.args.limits.now.nodes c.search_set.new.pool
    c.in_ok-costs.field-0 (finds.Undecided c.in-Undecided.tree) c.as_slice.ensures.value c.in-Undecided.is c.in_ok-costs.ensures.decided in (
      refl {A = List ℕ},
      record {
        tree = record {
          set = c.requires;
          is_pool = subst (λ (ms : List ℕ). IsRowPool (restricted p ms) c.search_set.new.pool) c.as_slice.ensures.value c.in_ok-costs.ensures.pool;
          tree = decided.0;
          few = omega (arith, decided.2);
        };
        undone = decided.1;
        used_up = decided.2;
      },
    )
