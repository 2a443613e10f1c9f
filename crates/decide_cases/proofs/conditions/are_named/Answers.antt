use Rattle.std.proofs.Common.{◌≡◌, ℕ, Any, arith, rules, subst, inl, inr}
use Rattle.std.proofs.lemmas.Bool.{cases_lt}
use Rattle.design_problem.specs.declared.problem.VarName.{VarName}
use Rattle.decide_cases.proofs.conditions.are_named.Goals as goal

pub loop-var-preserved : goal.loop-var-preserved
loop-var-preserved c = λ k k_in.
    let here : Any (λ (name : VarName). name.var ≡ c.loop-var.var) c.args.vars.now = search rules in
    elim (cases_lt k c.loop-var.var) [
      | inl less ↦ c.loop-var.invariant k less
      | inr not ↦ subst (λ (v : ℕ). Any (λ (name : VarName). name.var ≡ v) c.args.vars.now) (let e : c.loop-var.var ≡ k = omega (arith, k_in, not) in e) here
    ]
