-- No range is empty, and there are as many ends as starts.
use Rattle.std.proofs.Common.{ℕ, ◌≤◌, get_or, length, arith, refl, sym, subst, ap, ◌∙◌, List}
use borrow.Author.Count.{below_more}
use Rattle.fraction_table.proofs.fit.is_box.Goals as goal

pub returns : goal.returns
returns c =
    let low = c.as_slice-low.ensures in
    let high = c.as_slice-high.ensures in
    let counted = ap length low in (
      λ told. (
        record {
          low_count = refl;
          high_count = sym (ap length high) ∙ c.if-high-low.false ∙ counted;
          ordered = λ k k_in.
              subst (λ (ls : List ℕ). get_or ls k 0 ≤ get_or c.args.costs.now.high k 0) low
              (subst (λ (hs : List ℕ). get_or c.as_slice-low.result.now k 0 ≤ get_or hs k 0) high
              (c.loop-var.invariant k (omega (arith, counted, k_in, c.loop-var-test.false))));
        },
        omega (arith, counted, c.if-low.false),
      ),
      λ is. refl,
    )

pub loop-var-preserved : goal.loop-var-preserved
loop-var-preserved c =
    below_more (λ (k : ℕ). get_or c.as_slice-low.result.now k 0 ≤ get_or c.as_slice-high.result.now k 0) c.loop-var.var c.loop-var.invariant c.if-high-var.false
