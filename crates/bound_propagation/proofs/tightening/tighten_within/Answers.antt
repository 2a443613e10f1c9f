use Rattle.std.proofs.Common.{◌≡◌, ℕ, ◌<◌, ◌≤◌, ◌∙◌, rules, sym, ap, subst, get_or, length, refl, arith, inl, inr, below_more, SFits, w64, to_z, of_z, List}
use Rattle.std.specs.Int.{w128}
use Rattle.std.specs.Prelude.{ℤ, pos, negsuc, nat_abs, ◌≤ℤ◌, AllPairs}
use Rattle.std.proofs.lemmas.Bool.{cases_lt}
use Rattle.std.proofs.lemmas.Int.{ints, to_z-of_z}
use Rattle.design_problem.specs.declared.form.Term.{Term}
use Rattle.design_problem.specs.declared.tree.Side.{Side}
use Rattle.design_problem.proofs.TermLaws.{rising_from}
use Rattle.design_problem.specs.Forms.{no_term}
use Rattle.bound_propagation.proofs.Tightenings.{place_of, exact_of_range, none_of_range, none_before}
use Rattle.bound_propagation.proofs.tightening.tighten_within.Goals as goal

positive : (z : ℤ) → pos 0 ≤ℤ z → pos (nat_abs z) ≡ z
positive (pos n) least = refl
positive (negsuc n) least = absurd (omega (arith, ints))

-- what the form can lose
slack_is : (most : ℤ) (slack : ℕ) (top : ℤ) → SFits w128 most → slack ≡ nat_abs (to_z w128 (of_z w128 most)) → pos 0 ≤ℤ most → most ≡ top → pos slack ≡ top
slack_is most slack top fits is least known = ap pos (is ∙ ap nat_abs (to_z-of_z w128 most fits)) ∙ positive most least ∙ known

pub returns-in-Some-clause-exact : goal.returns-in-Some-clause-exact
returns-in-Some-clause-exact c =
    let ts = c.terms-terms.result.now in
    let k = c.loop-term.term-index in
    let fits : SFits w64 (get_or ts k no_term).coefficient = search rules in
    let place = place_of c.args.form.now c.args.costs.now ts c.as_slice-low.result.now c.as_slice-high.result.now k no_term
    _ c.terms-terms.ensures.terms c.loop-term-test.true c.requires.low c.requires.high c.as_slice-low.ensures
    c.as_slice-high.ensures (to_z-of_z w64 (get_or ts k no_term).coefficient fits) in
    exact_of_range c.args.form.now c.args.costs.now (get_or ts k no_term).var c.unsigned_abs-slack.result _ _ _
    c.in-Some.bound.side c.in-Some.bound.value place
    (slack_is c.args.most c.unsigned_abs-slack.result _ c.ranges.most c.unsigned_abs-slack.ensures.value
    c.requires.unrefuted c.requires.known) c.in-Some.ensures.exact

-- the terms behind are of no smaller variables
no_smaller : (ts : List Term) (k j : ℕ) → AllPairs (λ (t u : Term). t.var < u.var) ts → k ≤ j → j < length ts →
    (get_or ts k no_term).var ≤ (get_or ts j no_term).var
no_smaller ts k j rising past j_in =
    elim (cases_lt k j) [
      | inl before ↦ let e : (get_or ts k no_term).var < (get_or ts j no_term).var = rising k j no_term before j_in in omega arith
      | inr same ↦ let e : k ≡ j = omega arith in subst (λ (i : ℕ). (get_or ts k no_term).var ≤ (get_or ts i no_term).var) e (omega arith)
    ]

pub returns-in-Some-clause-first : goal.returns-in-Some-clause-first
returns-in-Some-clause-first c =
    let ts = c.terms-terms.result.now in
    let k = c.loop-term.term-index in
    let inside = c.terms-terms.ensures.known k no_term c.loop-term-test.true in
    let rising : AllPairs (λ (t u : Term). t.var < u.var) ts =
    subst (λ (us : List Term). AllPairs (λ (t u : Term). t.var < u.var) us) (sym c.terms-terms.ensures.terms)
    (rising_from 0 c.args.form.now.coefficients) in
    none_before c.args.form.now c.args.costs.now ts c.unsigned_abs-slack.result k (get_or ts k no_term).var no_term
    c.terms-terms.ensures.terms c.requires.low c.requires.high
    (slack_is c.args.most c.unsigned_abs-slack.result _ c.ranges.most c.unsigned_abs-slack.ensures.value
    c.requires.unrefuted c.requires.known)
    (let e : (get_or ts k no_term).var ≤ length c.args.form.now.coefficients = omega (arith, inside) in e)
    (λ j past j_in. no_smaller ts k j rising past j_in)
    c.loop-term.invariant

pub loop-term-preserved : goal.loop-term-preserved
loop-term-preserved c =
    let ts = c.terms-terms.result.now in
    let k = c.loop-term.term-index in
    let fits : SFits w64 (get_or ts k no_term).coefficient = search rules in
    let place = place_of c.args.form.now c.args.costs.now ts c.as_slice-low.result.now c.as_slice-high.result.now k no_term
    _ c.terms-terms.ensures.terms c.loop-term-test.true c.requires.low c.requires.high c.as_slice-low.ensures
    c.as_slice-high.ensures (to_z-of_z w64 (get_or ts k no_term).coefficient fits) in
    below_more _ _ c.loop-term.invariant
    (λ (side : Side) (value : ℕ). none_of_range c.args.form.now c.args.costs.now (get_or ts k no_term).var
    c.unsigned_abs-slack.result _ _ _ side value place
    (slack_is c.args.most c.unsigned_abs-slack.result _ c.ranges.most c.unsigned_abs-slack.ensures.value
    c.requires.unrefuted c.requires.known) (c.in_default.ensures.none refl))

pub returns-clause-none : goal.returns-clause-none
returns-clause-none c is_none =
    let ts = c.terms-terms.result.now in
    let k = c.loop-term.term-index in
    none_before c.args.form.now c.args.costs.now ts c.unsigned_abs-slack.result k (length c.args.costs.now.low) no_term
    c.terms-terms.ensures.terms c.requires.low c.requires.high
    (slack_is c.args.most c.unsigned_abs-slack.result _ c.ranges.most c.unsigned_abs-slack.ensures.value
    c.requires.unrefuted c.requires.known)
    (omega (arith, c.requires.low))
    (λ j past j_in. absurd (omega (arith, past, j_in, c.loop-term-test.false)))
    c.loop-term.invariant
