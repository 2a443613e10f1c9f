use Rattle.std.proofs.Common.{refl, sym}
use Rattle.std.proofs.lemmas.Result.{err_from_is_err_and}
use Rattle.design_problem.specs.Boxes.{capped}
use Rattle.design_problem.specs.Rows.{box_of}
use Rattle.form_search.proofs.AdvisorLaws.{calls_begun, left_advised, left_alike, start}
use Rattle.cost_branching.proofs.one_cap.decide.Goals as goal

pub returns-in_err-costs-clause-asked : goal.returns-in_err-costs-clause-asked
returns-in_err-costs-clause-asked g c =
    let p = err_from_is_err_and c.from_residual.result c.from_residual.ensures.1 in
    rw (p.1, p.2) (record {
      tree = start (capped (box_of c.args.problem.now) c.args.cap);
      is_tree = tt;
      calls = calls_begun _ _ _ _ _;
    })

pub returns-in_err-costs-clause-advisors : goal.returns-in_err-costs-clause-advisors
returns-in_err-costs-clause-advisors g c = left_alike _ _ _ refl

pub returns-clause-asked : goal.returns-clause-asked
returns-clause-asked g c = rw (sym c.in_ok-costs.ensures.cut) c.decide_within.ensures.advisors

pub returns-clause-advisors : goal.returns-clause-advisors
returns-clause-advisors g c =
    let called = c.decide_within.ensures.advisors in
    left_advised _ _ (λ b. (goal.Advisor-dyn g (b.vtable, b.value)).would) (λ b. (goal.Advisor-dyn g (b.vtable, b.value)).left)
    (λ b. (goal.Advisor-dyn g (b.vtable, b.value)).after) _ _ called.tree _ _ called.calls (λ b point least. least.inside)
