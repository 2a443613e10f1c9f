-- A column that is left at last comes first.
use Rattle.std.proofs.Common.{◌∙◌, ◌≡◌, sym, ap, subst, length, refl, arith}
use Rattle.std.specs.Prelude.{vec_len, ◌==◌, false, true}
use Rattle.std.proofs.lemmas.Bool.Decides.{nat_tests}
use Rattle.integer_pivots.specs.Lines.{rows_of}
use Rattle.table_kernel.specs.declared.kernel.Kernel.{Kernel}
use Rattle.table_kernel.specs.Choices.{AreColumnsLeft}
use Rattle.table_kernel.proofs.LeftColumns.{chosen_best, latest_read, left_of, none_best}
use Rattle.table_kernel.proofs.SameButRoom.{keeps_kernel, keeps_twice, left_keeps}
use Rattle.table_kernel.proofs.kernel.Kernel.choose.Goals as goal

pub look_at_all-requires-clause-kernel : goal.look_at_all-requires-clause-kernel
look_at_all-requires-clause-kernel c =
    let k = c.args.self.now in
    let n : Kernel = record k { left = c.put_latest-latest.new.left } in
    keeps_kernel k n (left_keeps k n refl (omega (arith, c.put_latest-latest.ensures.room))) c.requires.kernel

pub put_latest-latest-requires-clause-leads : goal.put_latest-latest-requires-clause-leads
put_latest-latest-requires-clause-leads c =
    let s = c.requires.kernel.shaped in
    ap length c.as_slice.ensures.value ∙ s.leads ∙ sym s.entering

pub look_at_all-requires-clause-left : goal.look_at_all-requires-clause-left
look_at_all-requires-clause-left c =
    let left = c.put_latest-latest.new.left in
    let tested : (vec_len left == 0) ≡ false = sym c.is_empty.ensures ∙ c.if-is_empty.false in
    record {
      some = grind (arith, nat_tests);
      columns = left_of c.args.self.now c.put_latest-latest.result c.put_latest-latest.new.left.items c.requires.kernel
          (latest_read c.args.self.now c.args.self.now.entering.numbers c.as_slice.result.now c.put_latest-latest.result
          c.put_latest-latest.new.left.items refl c.as_slice.ensures.value
          c.put_latest-latest.ensures.latest);
    }

pub returns-then-is_empty-clause-best : goal.returns-then-is_empty-clause-best
returns-then-is_empty-clause-best c =
    let left = c.put_latest-latest.new.left in
    let tested : (vec_len left == 0) ≡ true = sym c.is_empty.ensures ∙ c.if-is_empty.true in
    let none : vec_len left ≡ 0 = grind (arith, nat_tests) in
    none_best c.args.self.now c.put_latest-latest.result left.items c.requires.kernel.shaped
    (latest_read c.args.self.now c.args.self.now.entering.numbers c.as_slice.result.now c.put_latest-latest.result left.items
    refl c.as_slice.ensures.value c.put_latest-latest.ensures.latest)
    (omega (arith, none, left.ok.0))

pub returns-clause-best : goal.returns-clause-best
returns-clause-best c =
    let k = c.args.self.now in
    let left = c.look_at_all.new.self.left in
    chosen_best k left.items c.index.result.now c.requires.kernel.shaped c.requires.kernel.bounded
    (subst (λ (m : Kernel). AreColumnsLeft (rows_of m.lows.items) m.entering.numbers (length m.lows.items) left.items) c.look_at_all.ensures.keeps
    c.look_at_all.ensures.left.columns)
    (omega (arith, c.look_at_all.ensures.left.some, left.ok.0))
    c.index.ensures

pub returns-clause-keeps : goal.returns-clause-keeps
returns-clause-keeps c =
    let k = c.args.self.now in
    let n : Kernel = record k { left = c.put_latest-latest.new.left } in
    keeps_twice k n c.look_at_all.new.self (left_keeps k n refl (omega (arith, c.put_latest-latest.ensures.room)))
    (left_keeps n c.look_at_all.new.self c.look_at_all.ensures.keeps (omega (arith, c.look_at_all.ensures.room)))
