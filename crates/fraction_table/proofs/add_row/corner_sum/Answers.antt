-- One more term is added.
use Rattle.std.proofs.Common.{ℕ, ◌^◌, ◌≤◌, arith, get_or, length, ap, sym, subst, ◌∙◌, List}
use Rattle.std.specs.Prelude.{ℤ, pos, nat_abs, ◌+ℤ◌, ◌*ℤ◌}
use Rattle.std.proofs.lemmas.Int.{ints}
use Rattle.std.proofs.lemmas.List.{at_drop_all}
use Rattle.std.proofs.lemmas.List.Elements.{All-same}
use Rattle.design_problem.specs.declared.form.Term.{Term}
use Rattle.design_problem.specs.Forms.{dot, terms_of, no_term}
use Rattle.design_problem.proofs.TermLaws.{dot_by_terms, each_term, product_in, small_read, total, total_more, whole_at_end}
use Rattle.fraction_table.proofs.add_row.corner_sum.Goals as goal

pub corner_term-sum-requires : goal.corner_term-sum-requires
corner_term-sum-requires c =
    let z = (get_or c.terms-terms.result.now c.loop-term.term-index no_term).coefficient in
    let small : nat_abs z ≤ 2 ^ 26 =
    All-same (λ (u : Term). nat_abs u.coefficient ≤ 2 ^ 26) c.terms-terms.result.now (terms_of c.args.form.now) c.terms-terms.ensures.terms
    (each_term (λ z. nat_abs z ≤ 2 ^ 26) 0 c.args.form.now.coefficients c.requires.sizes)
    c.loop-term.term-index no_term c.loop-term-test.true in
    subst (λ (y : ℤ). nat_abs y ≤ 2 ^ 26) (sym (small_read z small)) small

pub loop-term-preserved : goal.loop-term-preserved
loop-term-preserved c =
    let t = get_or c.terms-terms.result.now c.loop-term.term-index no_term in
    let low = c.as_slice-low.result.now in
    let small : nat_abs t.coefficient ≤ 2 ^ 26 =
    All-same (λ (u : Term). nat_abs u.coefficient ≤ 2 ^ 26) c.terms-terms.result.now (terms_of c.args.form.now) c.terms-terms.ensures.terms
    (each_term (λ z. nat_abs z ≤ 2 ^ 26) 0 c.args.form.now.coefficients c.requires.sizes)
    c.loop-term.term-index no_term c.loop-term-test.true in
    let term = ap (λ (z : ℤ). z *ℤ pos (get_or low t.var 0)) (small_read t.coefficient small) in
    let more = total_more (product_in low) c.terms-terms.result.now c.loop-term.term-index no_term c.loop-term-test.true in
    record {
      so_far = omega (arith, ints, term, more, c.corner_term-sum.ensures.value, c.loop-term.invariant.so_far);
      most = omega (arith, ints, c.corner_term-sum.ensures.most, c.loop-term.invariant.most);
      least = omega (arith, ints, c.corner_term-sum.ensures.least, c.loop-term.invariant.least);
    }

pub returns : goal.returns
returns c =
    let low = c.as_slice-low.result.now in
    let f = c.args.form.now in
    let past = at_drop_all (total (product_in low)) c.terms-terms.result.now c.loop-term.term-index c.loop-term-test.false in
    let terms = ap (total (product_in low)) c.terms-terms.ensures.terms in
    let told = dot_by_terms f.coefficients low (c.requires.count ∙ sym (ap length c.as_slice-low.ensures)) in
    whole_at_end _ _ f.constant (total (product_in low) c.terms-terms.result.now) past c.loop-term.invariant.so_far
    ∙ ap (λ (z : ℤ). f.constant +ℤ z) (terms ∙ told)
    ∙ ap (λ (ls : List ℕ). f.constant +ℤ dot f.coefficients ls) c.as_slice-low.ensures
