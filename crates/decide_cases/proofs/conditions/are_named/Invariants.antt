use Rattle.std.proofs.Common.{◌≡◌, ℕ, ◌<◌, Any}
use Rattle.decide_cases.proofs.conditions.are_named.Given as goal

abbrev pub invariant-loop-var : goal.invariant-loop-var
invariant-loop-var l = (k : ℕ) → k < l.var → Any (λ name. name.var ≡ k) l.vars
