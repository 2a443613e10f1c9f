use Rattle.std.proofs.Common.{◌≡◌, ℕ, ◌+◌, ◌%◌, ◌≤◌, ◌∙◌, refl, ap, subst, sym, arith, length, get_or, inl, inr, List, ◌++◌, add-one}
use Rattle.std.proofs.lemmas.Bool.{cases_lt}
use Rattle.std.proofs.lemmas.Result.{err_from_is_err_and}
use Rattle.std.specs.Prelude.{All}
use Rattle.std.proofs.lemmas.List.Elements.{All-nil}
use Rattle.area_graph.specs.declared.Point.{Point}
use Rattle.design_problem.specs.declared.boxes.CostBox.{CostBox}
use Rattle.cut_advisors.specs.declared.candidate.Candidate.{Candidate}
use Rattle.form_search.specs.Points.{IsFractional, candidate_of, candidates_below}
use Rattle.form_search.proofs.CandidateLaws.{some_fractional}
use Rattle.form_search.proofs.candidates.fractional.Goals as goal

pub returns-clause-all : goal.returns-clause-all
returns-clause-all c =
    let point = c.args.point.now in
    let most : c.loop-var.var ≤ length point.values = c.loop-var.invariant.within in
    let least = c.loop-var-test.false in
    let end : c.loop-var.var ≡ length point.values = omega (arith, most, least, ap length c.as_slice-var-end.ensures) in
    c.loop-var.invariant.all ∙ ap (candidates_below c.args.costs.now point) end

below_next : (box : CostBox) (point : Point) (n : ℕ) → candidates_below box point (n + 1) ≡ candidates_below box point n ++ candidate_of box point n
below_next box point n = rw add-one refl

pub loop-var-preserved : goal.loop-var-preserved
loop-var-preserved c =
    let costs = c.args.costs.now in
    let point = c.args.point.now in
    let was = c.loop-var.invariant in
    let var = c.loop-var.var in
    let now = c.in_ok-push_fractional.ensures in
    record {
      within = omega (arith, c.loop-var-test.true, ap length c.as_slice-var-end.ensures);
      all = now.pushed ∙ ap (λ (found : List Candidate). found ++ candidate_of costs point var) was.all ∙ sym (below_next costs point var);
      found = now.fractional;
      some = λ k before fractional. elim (cases_lt k var) [
        | inl less ↦ (let some = was.some k less fractional in let more = now.more in omega (arith, some, more))
        | inr not ↦ (let same : k ≡ var = omega (arith, before, not) in
            now.some (subst (λ (i : ℕ). get_or point.values i 0 % point.scale ≡ 0 → ⊥) same fractional))
      ];
    }

pub push_fractional-requires-clause-known : goal.push_fractional-requires-clause-known
push_fractional-requires-clause-known c = omega (arith, c.loop-var-test.true, ap length c.as_slice-var-end.ensures)

pub push_fractional-requires-clause-so_far : goal.push_fractional-requires-clause-so_far
push_fractional-requires-clause-so_far c = c.loop-var.invariant.found

pub returns-in_err-push_fractional-clause-all : goal.returns-in_err-push_fractional-clause-all
returns-in_err-push_fractional-clause-all c = let p = err_from_is_err_and c.from_residual.result c.from_residual.ensures.1 in rw p.1 tt

pub returns-in_err-push_fractional-clause-fractional : goal.returns-in_err-push_fractional-clause-fractional
returns-in_err-push_fractional-clause-fractional c = let p = err_from_is_err_and c.from_residual.result c.from_residual.ensures.1 in rw p.1 tt

pub returns-in_err-push_fractional-clause-some : goal.returns-in_err-push_fractional-clause-some
returns-in_err-push_fractional-clause-some c = λ fractional. let p = err_from_is_err_and c.from_residual.result c.from_residual.ensures.1 in rw p.1 tt

pub returns-clause-fractional : goal.returns-clause-fractional
returns-clause-fractional c = c.loop-var.invariant.found

pub loop-var-init : goal.loop-var-init
loop-var-init c = record {
  within = omega arith;
  all = c.new-candidates.ensures.items;
  found = subst (λ (cs : List Candidate). All (IsFractional c.args.costs.now c.args.point.now) cs) (sym c.new-candidates.ensures.items)
      (All-nil (IsFractional c.args.costs.now c.args.point.now));
  some = λ k before. absurd (omega (arith, before));
}

pub returns-clause-some : goal.returns-clause-some
returns-clause-some c = λ part.
    some_fractional c.args.point.now.values c.args.point.now.scale (length c.loop-var.candidates.items)
    (λ k k_in. c.loop-var.invariant.some k (omega (arith, k_in, c.loop-var-test.false, ap length c.as_slice-var-end.ensures))) part
