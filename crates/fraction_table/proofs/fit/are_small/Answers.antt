-- Where each term's coefficient is small, each coefficient is.
use Rattle.std.proofs.Common.{ℕ, zero, suc, ◌≤◌, ◌^◌, List, [], ◌∷◌, arith, refl, subst, ap, SFits, w64, rules}
use Rattle.std.specs.Prelude.{ℤ, pos, negsuc, nat_abs, All}
use Rattle.std.proofs.lemmas.Int.{to_z-of_z}
use Rattle.std.proofs.lemmas.List.{get_or_default}
use Rattle.std.proofs.lemmas.List.Elements.{All-nil, All-cons, All-same, All-tail}
use borrow.Author.Count.{below_more}
use Rattle.design_problem.specs.declared.form.Term.{Term}
use Rattle.design_problem.specs.Forms.{terms_from, terms_of, no_term}
use Rattle.design_problem.proofs.TermLaws.{each_term}
use Rattle.fraction_lines.proofs.TermSums.{term_in}
use Rattle.fraction_table.proofs.fit.are_small.Goals as goal

each_coefficient : (P : ℤ → Type 0) (first : ℕ) (cs : List ℤ) → P (pos 0) → All (λ (t : Term). P t.coefficient) (terms_from first cs) → All P cs
each_coefficient P first [] none each = All-nil P
each_coefficient P first (pos zero ∷ cs) none each = All-cons P (pos zero) cs none (each_coefficient P (suc first) cs none each)
each_coefficient P first (pos (suc n) ∷ cs) none each =
    All-cons P (pos (suc n)) cs (each 0 no_term (omega arith))
    (each_coefficient P (suc first) cs none
    (All-tail (λ (t : Term). P t.coefficient) (record { var = first; coefficient = pos (suc n) })
    (terms_from (suc first) cs) each))
each_coefficient P first (negsuc n ∷ cs) none each =
    All-cons P (negsuc n) cs (each 0 no_term (omega arith))
    (each_coefficient P (suc first) cs none
    (All-tail (λ (t : Term). P t.coefficient) (record { var = first; coefficient = negsuc n })
    (terms_from (suc first) cs) each))

pub returns : goal.returns
returns c =
    let ts = c.terms-terms.result.now in
    let small : All (λ (t : Term). nat_abs t.coefficient ≤ 2 ^ 26) ts = λ k d k_in.
    subst (λ (t : Term). nat_abs t.coefficient ≤ 2 ^ 26) (get_or_default ts k no_term d k_in)
    (c.loop-term.invariant k (omega (arith, k_in, c.loop-term-test.false))) in (
      λ told. each_coefficient (λ (z : ℤ). nat_abs z ≤ 2 ^ 26) 0 c.args.form.now.coefficients (omega arith)
          (subst (All (λ (t : Term). nat_abs t.coefficient ≤ 2 ^ 26)) c.terms-terms.ensures.terms small),
      λ all. refl,
    )

pub loop-term-preserved : goal.loop-term-preserved
loop-term-preserved c =
    let ts = c.terms-terms.result.now in
    let z = (term_in ts c.loop-term.term-index).coefficient in
    let fits : SFits w64 z = search rules in
    below_more (λ (k : ℕ). nat_abs (term_in ts k).coefficient ≤ 2 ^ 26) c.loop-term.term-index c.loop-term.invariant
    (omega (arith, c.if-unsigned_abs.false, c.unsigned_abs.ensures.value, ap nat_abs (to_z-of_z w64 z fits)))

pub returns-then-unsigned_abs : goal.returns-then-unsigned_abs
returns-then-unsigned_abs c =
    let ts = c.terms-terms.result.now in
    let z = (term_in ts c.loop-term.term-index).coefficient in
    let fits : SFits w64 z = search rules in (
      λ told. absurd cc,
      λ all. absurd
          (let small : nat_abs z ≤ 2 ^ 26 =
          All-same (λ (t : Term). nat_abs t.coefficient ≤ 2 ^ 26) ts (terms_of c.args.form.now) c.terms-terms.ensures.terms
          (each_term (λ (y : ℤ). nat_abs y ≤ 2 ^ 26) 0 c.args.form.now.coefficients all) c.loop-term.term-index no_term c.loop-term-test.true in
          omega (arith, small, c.if-unsigned_abs.true, c.unsigned_abs.ensures.value, ap nat_abs (to_z-of_z w64 z fits))),
    )
