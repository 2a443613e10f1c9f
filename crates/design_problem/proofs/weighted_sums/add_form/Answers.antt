use Rattle.std.proofs.Common.{◌≡◌, ℕ, ◌<◌, ◌+◌, ◌*◌, ◌^◌, refl, ◌∙◌, ap, subst, sym, get_or, rules, SFits, w64, to_z, of_z, arith, List}
use Rattle.std.specs.Int.{w128}
use Rattle.std.specs.Prelude.{ℤ, pos, nat_abs, sum_by, ◌+ℤ◌, ◌*ℤ◌}
use Rattle.std.proofs.lemmas.Int.{ints, to_z-of_z}
use Rattle.std.proofs.lemmas.List.{at_drop_all}
use Rattle.std.proofs.Math.ListN.{length-set}
use Rattle.design_problem.specs.declared.form.Term.{Term}
use Rattle.design_problem.proofs.TermLaws.{sizes_from}
use Rattle.design_problem.specs.Forms.{no_term}
use Rattle.design_problem.proofs.TermSums.{each_more, size_more, sum_at, sum_is_coefficient}
use Rattle.design_problem.proofs.weighted_sums.add_form.Goals as goal

pub loop-term-init : goal.loop-term-init
loop-term-init c =
    let sizes : sum_by (λ (t : Term). nat_abs t.coefficient) c.terms-terms.result.now ≡ sum_by nat_abs c.args.form.now.coefficients =
    ap (λ (ts : List Term). sum_by (λ (t : Term). nat_abs t.coefficient) ts) c.terms-terms.ensures.terms ∙ sizes_from 0 c.args.form.now.coefficients in
    record {
      each = λ i i_in. refl;
      size = λ i i_in. subst (λ (n : ℕ). nat_abs (get_or c.args.sums.now i (pos 0)) + c.args.multiplier * n < 2 ^ 127) (sym sizes) (c.requires.room i i_in);
    }

pub loop-term-preserved : goal.loop-term-preserved
loop-term-preserved c =
    let k = c.loop-term.term-index in
    let ts = c.terms-terms.result.now in
    let t : Term = get_or ts k no_term in
    let x : ℤ = to_z w128 (of_z w128 c.plus_product.result) in
    let result_fits : SFits w128 c.plus_product.result = search rules in
    let sum_fits : SFits w128 (get_or c.loop-term.sums t.var (pos 0)) = search rules in
    let factor_fits : SFits w64 t.coefficient = search rules in
    let e : x ≡ (get_or c.loop-term.sums t.var (pos 0) +ℤ (pos c.args.multiplier *ℤ t.coefficient)) =
    to_z-of_z w128 c.plus_product.result result_fits ∙ c.plus_product.ensures
    ∙ ap (λ (z : ℤ). z +ℤ (pos c.args.multiplier *ℤ to_z w64 (of_z w64 t.coefficient))) (to_z-of_z w128 (get_or c.loop-term.sums t.var (pos 0)) sum_fits)
    ∙ ap (λ (z : ℤ). get_or c.loop-term.sums t.var (pos 0) +ℤ (pos c.args.multiplier *ℤ z)) (to_z-of_z w64 t.coefficient factor_fits) in
    record {
      each = λ i i_in.
          let within = length-set c.loop-term.sums t.var x in
          each_more c.loop-term.sums c.args.multiplier ts k i no_term x c.loop-term-test.true (omega arith) e
          ∙ c.loop-term.invariant.each i (omega arith);
      size = λ i i_in.
          let within = length-set c.loop-term.sums t.var x in
          size_more c.loop-term.sums c.args.multiplier ts k i no_term x c.loop-term-test.true (omega arith) e c.loop-term.invariant.size;
    }

nothing_left : (x y m z : ℤ) → z ≡ pos 0 → (x +ℤ (m *ℤ z)) ≡ y → x ≡ y
nothing_left x y m z none whole = let e = ap (λ (w : ℤ). x +ℤ (m *ℤ w)) none in let zero : (m *ℤ pos 0) ≡ pos 0 =
    lib.IntN.*ℤ-zero m in omega (arith, ints, e, zero, whole)

pub returns : goal.returns
returns c i i_in =
    let ts = c.terms-terms.result.now in
    let past = at_drop_all (λ (us : List Term). sum_at us i) ts c.loop-term.term-index c.loop-term-test.false in
    nothing_left _ _ (pos c.args.multiplier) _ past (c.loop-term.invariant.each i (omega (arith, i_in, c.loop-term.auto.sums)))
    ∙ ap (λ (z : ℤ). get_or c.args.sums.now i (pos 0) +ℤ (pos c.args.multiplier *ℤ z))
    (sum_is_coefficient c.args.form.now.coefficients ts i c.terms-terms.ensures.terms)
