-- One more row fits.
use Rattle.std.proofs.Common.{ℕ, get_or, arith, refl, subst, ◌∙◌, rules}
use Rattle.std.proofs.lemmas.List.{get_or_default}
use borrow.Author.Count.{below_more}
use Rattle.design_problem.specs.Forms.{no_form}
use Rattle.fraction_table.specs.Tableaus.{FitsBox}
use Rattle.fraction_table.proofs.fit.fit_box.Goals as goal

pub returns : goal.returns
returns c = (
  λ told k d k_in. subst (FitsBox c.args.costs.now) (get_or_default c.args.rows.now k no_form d k_in)
      (c.loop-index.invariant k (omega (arith, k_in, c.loop-index-test.false))),
  λ all. refl,
)

pub loop-index-preserved : goal.loop-index-preserved
loop-index-preserved c =
    let rows = c.args.rows.now in
    let is = c.index-rows-index.is ∙ get_or_default rows c.loop-index.index c.index-rows-index.result no_form c.loop-index-test.true in
    below_more (λ (k : ℕ). FitsBox c.args.costs.now (get_or rows k no_form)) c.loop-index.index c.loop-index.invariant
    (subst (FitsBox c.args.costs.now) is (c.fits_box.ensures.0 (search rules)))
