-- One more use is put.
use Rattle.std.proofs.Common.{◌≡◌, ℕ, ◌+◌, ◌^◌, ◌<◌, ◌∙◌, FitsSigned, w64, arith, get_or, length, set, subst, sym, ap}
use Rattle.std.specs.Prelude.{ℤ, pos, ◌+ℤ◌, ◌*ℤ◌, nat_abs}
use Rattle.std.proofs.lemmas.List.{get_or-set_other, get_or_default}
use Rattle.whole_numbers.specs.Lists.{number_at}
use Rattle.integer_pivots.specs.declared.uses.Use.{Use}
use Rattle.integer_pivots.specs.Uses.{coefficient_in}
use Rattle.integer_pivots.proofs.Sizes.{read, read_number}
use Rattle.integer_pivots.proofs.UseSums.{IsAdded, added_read, all_added, no_use, sums_added, use_step}
use Rattle.integer_pivots.proofs.uses.put_uses.Goals as goal

pub overflow_mul-sums : goal.overflow_mul-sums
overflow_mul-sums c =
    let us = c.args.uses.now.items in
    let i = c.loop-index.index in
    let n = c.args.number in
    let index_in : i < length us = omega (arith, c.loop-index-test.true, c.len-index-end.ensures, c.args.uses.now.ok.0) in
    let here = added_read us i n c.args.first c.args.sums.now c.loop-index.sums c.requires.number c.loop-index.invariant.rows in
    let is = c.index-row_use.ensures ∙ get_or_default us i c.index-row_use.result.now no_use index_in in
    subst (λ (u : Use). FitsSigned w64 (read u.coefficient *ℤ read n)) (sym is)
    (use_step us i n _ _ index_in c.requires.number (here (get_or us i no_use).row)).0

pub overflow_add-sums-in-loop-index : goal.overflow_add-sums-in-loop-index
overflow_add-sums-in-loop-index c =
    let us = c.args.uses.now.items in
    let i = c.loop-index.index in
    let n = c.args.number in
    let index_in : i < length us = omega (arith, c.loop-index-test.true, c.len-index-end.ensures, c.args.uses.now.ok.0) in
    let here = added_read us i n c.args.first c.args.sums.now c.loop-index.sums c.requires.number c.loop-index.invariant.rows in
    let is = c.index-row_use.ensures ∙ get_or_default us i c.index-row_use.result.now no_use index_in in
    subst (λ (u : Use). FitsSigned w64 (read (number_at c.loop-index.sums (c.args.first + u.row)) +ℤ read (read u.coefficient *ℤ read n))) (sym is)
    (use_step us i n _ _ index_in c.requires.number (here (get_or us i no_use).row)).1

pub loop-index-preserved : goal.loop-index-preserved
loop-index-preserved c =
    let us = c.args.uses.now.items in
    let i = c.loop-index.index in
    let n = c.args.number in
    let first = c.args.first in
    let olds = c.args.sums.now in
    let sums = c.loop-index.sums in
    let index_in : i < length us = omega (arith, c.loop-index-test.true, c.len-index-end.ensures, c.args.uses.now.ok.0) in
    let same = read_number n (let e : nat_abs n < 2 ^ 63 = omega (arith, c.requires.number) in e) in
    let here = added_read us i n first olds sums c.requires.number c.loop-index.invariant.rows in
    let is = c.index-row_use.ensures ∙ get_or_default us i c.index-row_use.result.now no_use index_in in
    let place_in : first + (get_or us i no_use).row < length sums = omega (arith, c.requires.known i no_use index_in, c.loop-index.auto.sums) in
    record {
      before = λ v v_in. get_or-set_other sums (first + c.index-row_use.result.now.row) v _ (pos 0)
          (λ (at : v ≡ first + c.index-row_use.result.now.row). absurd (omega (arith, at, v_in)))
          ∙ c.loop-index.invariant.before v v_in;
      rows = subst (λ (u : Use). (row : ℕ) →
          IsAdded us (i + 1) (read n) (number_at olds (first + row)) row
          (number_at (set sums (first + u.row)
          (read (read (number_at sums (first + u.row)) +ℤ read (read u.coefficient *ℤ read n)))) (first + row)))
          (sym is)
          (subst (λ (z : ℤ). (row : ℕ) →
          IsAdded us (i + 1) z (number_at olds (first + row)) row
          (number_at (set sums (first + (get_or us i no_use).row)
          (read (read (number_at sums (first + (get_or us i no_use).row))
          +ℤ read (read (get_or us i no_use).coefficient *ℤ read n)))) (first + row))) (sym same)
          (sums_added us i n first olds sums index_in c.requires.number place_in here));
    }

pub returns-clause-rows : goal.returns-clause-rows
returns-clause-rows c = λ row.
    let us = c.args.uses.now.items in
    let n = c.args.number in
    let same = read_number n (let e : nat_abs n < 2 ^ 63 = omega (arith, c.requires.number) in e) in
    all_added us c.loop-index.index (read n) (number_at c.args.sums.now (c.args.first + row)) row _
    (omega (arith, c.loop-index-test.false, c.len-index-end.ensures, c.args.uses.now.ok.0))
    (c.loop-index.invariant.rows row)
    ∙ ap (λ (z : ℤ). number_at c.args.sums.now (c.args.first + row) +ℤ (z *ℤ coefficient_in us row)) same
