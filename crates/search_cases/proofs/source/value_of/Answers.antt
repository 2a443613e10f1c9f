use Rattle.std.proofs.Common.{ℕ, ◌+◌, ◌*◌, ◌^◌, ◌<◌, ◌≤◌, arith, get_or, length, rules, ap, sym, subst, ◌∙◌, SFits, to_z, of_z, List}
use Rattle.std.specs.Int.{w128}
use Rattle.std.specs.Prelude.{ℤ, pos, nat_abs, ◌+ℤ◌, ◌*ℤ◌, ◌≤ℤ◌, negsuc}
use Rattle.std.proofs.lemmas.Int.{ints, to_z-of_z}
use Rattle.std.proofs.lemmas.List.{at_drop_all}
use Rattle.std.proofs.lemmas.List.Elements.{All-same}
use Rattle.design_problem.specs.declared.form.Term.{Term}
use Rattle.design_problem.specs.Forms.{dot, terms_of, no_term}
use Rattle.design_problem.proofs.TermLaws.{product_in, small_read, total, total_more, whole_at_end, dot_by_terms}
use Rattle.search_cases.proofs.source.value_of.Goals as goal

below_four : (n : ℕ) → n ≤ 4 → n ≤ 2 ^ 26
below_four n small = omega arith

few_steps : (k n : ℕ) → k < n → n ≤ 32 → 2 ^ 120 + k * 2 ^ 118 < 2 ^ 124
few_steps k n less few = omega arith

sum_small : (sum part : ℤ) (steps : ℕ) → steps < 2 ^ 124 → sum ≤ℤ pos steps → pos 0 ≤ℤ (sum +ℤ pos steps) →
    nat_abs part ≤ 2 ^ 118 → nat_abs (sum +ℤ part) ≤ 2 ^ 125
sum_small sum part steps few most least small = omega (arith, ints)

small_fits : (z : ℤ) → nat_abs z ≤ 2 ^ 125 → SFits w128 z
small_fits (pos n) small = record { sfits = omega arith }
small_fits (negsuc n) small = record { sfits = omega arith }

pub loop-term-preserved : goal.loop-term-preserved
loop-term-preserved c =
    let ts = c.terms-terms.result.now in
    let values = c.as_slice-values.result.now in
    let t = get_or ts c.loop-term.term-index no_term in
    let size : nat_abs t.coefficient ≤ 4 =
    All-same (λ (u : Term). nat_abs u.coefficient ≤ 4) ts (terms_of c.args.form.now) c.terms-terms.ensures.terms
    c.requires.tiny.sizes c.loop-term.term-index no_term c.loop-term-test.true in
    let read = small_read t.coefficient (below_four (nat_abs t.coefficient) size) in
    let term = c.product-sum.ensures.value ∙ ap (λ (z : ℤ). z *ℤ pos (get_or values t.var 0)) read in
    let more = total_more (product_in values) ts c.loop-term.term-index no_term c.loop-term-test.true in
    let small = c.product-sum.ensures.size in
    let fits : SFits w128 c.product-sum.result = search rules in
    let added = to_z-of_z w128 c.product-sum.result fits in
    let count : length ts ≤ 32 = subst (λ (us : List Term). length us ≤ 32) (sym c.terms-terms.ensures.terms) c.requires.tiny.few in
    let steps = few_steps c.loop-term.term-index (length ts) c.loop-term-test.true count in
    let sum_fits : SFits w128 (to_z w128 c.loop-term.sum-bits +ℤ to_z w128 (of_z w128 c.product-sum.result)) =
    subst (λ (part : ℤ). SFits w128 (to_z w128 c.loop-term.sum-bits +ℤ part)) (sym added)
    (small_fits _ (sum_small (to_z w128 c.loop-term.sum-bits) c.product-sum.result
    (2 ^ 120 + c.loop-term.term-index * 2 ^ 118) steps c.loop-term.invariant.most
    c.loop-term.invariant.least small)) in
    let whole_sum = to_z-of_z w128 _ sum_fits in
    record {
      whole = omega (arith, ints, whole_sum, added, term, more, c.loop-term.invariant.whole);
      most = omega (arith, ints, whole_sum, added, small, c.loop-term.invariant.most);
      least = omega (arith, ints, whole_sum, added, small, c.loop-term.invariant.least);
    }

pub returns : goal.returns
returns c =
    let values = c.as_slice-values.result.now in
    let past = at_drop_all (total (product_in values)) c.terms-terms.result.now c.loop-term.term-index c.loop-term-test.false in
    let constant = c.args.form.now.constant *ℤ pos c.args.point.now.scale in
    let sum = whole_at_end _ _ constant (total (product_in values) c.terms-terms.result.now) past c.loop-term.invariant.whole in
    let terms = ap (total (product_in values)) c.terms-terms.ensures.terms in
    let told = dot_by_terms c.args.form.now.coefficients values (c.requires.tiny.count ∙ sym (ap length c.as_slice-values.ensures)) in
    sum ∙ ap (λ (z : ℤ). constant +ℤ z) (terms ∙ told) ∙ ap (λ (xs : List ℕ). constant +ℤ dot c.args.form.now.coefficients xs) c.as_slice-values.ensures
