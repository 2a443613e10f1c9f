-- One more number is put.
use Rattle.std.proofs.Common.{suc, ◌∙◌, refl, ap, List, [], length, arith, nat_abs}
use Rattle.std.specs.Prelude.{slice_index_or, slice_set}
use Rattle.std.proofs.lemmas.List.{get_or_default}
use Rattle.whole_numbers.specs.Fractions.{Fraction}
use Rattle.design_problem.specs.Basis.{entry}
use Rattle.fraction_table.proofs.MultiplierSteps.{read_back}
use Rattle.table_kernel.proofs.Columns.{common_small}
use Rattle.table_kernel.proofs.Lines.{common_read}
use Rattle.table_kernel.proofs.OverCommon.{over_as}
use Rattle.table_kernel.proofs.kernel.Kernel.restate_entry.Goals as goal

pub fraction_over-number-requires-clause-common : goal.fraction_over-number-requires-clause-common
fraction_over-number-requires-clause-common c =
    let k = c.args.self.now in
    let b = c.requires.kernel.bounded in
    omega (arith, ap nat_abs (common_read k b), common_small k b, b.top)

pub fraction_over-number-requires-clause-number : goal.fraction_over-number-requires-clause-number
fraction_over-number-requires-clause-number c =
    let small = c.entry.ensures.size in
    omega (arith, small, ap nat_abs (read_back c.entry.result (omega (arith, small))), c.requires.kernel.bounded.top)

pub push-requires-clause-within : goal.push-requires-clause-within
push-requires-clause-within c =
    let s = c.requires.kernel.shaped in
    let wide = s.wide c.args.place c.index_mut.result.now (omega (arith, c.requires.place, s.lines)) in
    omega (arith, ap length c.index_mut.ensures.value, wide, c.requires.column)

pub push-requires-clause-last : goal.push-requires-clause-last
push-requires-clause-last c later from later_in =
    let s = c.requires.kernel.shaped in
    ap (λ (line : List Fraction). entry line (suc later))
    (c.index_mut.ensures.value ∙ get_or_default c.args.self.now.table.lines.items c.args.place _ [] (omega (arith, c.requires.place, s.lines)))
    ∙ c.requires.zeros later from

pub returns-clause-lines : goal.returns-clause-lines
returns-clause-lines c =
    let k = c.args.self.now in
    let s = c.requires.kernel.shaped in
    let lines = k.table.lines.items in
    let small = c.entry.ensures.size in
    ap (slice_set lines c.args.place) (
    c.push.ensures
    ∙ ap (λ (line : List Fraction). slice_set line (suc c.args.column) c.fraction_over-number.result)
    (c.index_mut.ensures.value ∙ get_or_default lines c.args.place _ [] (omega (arith, c.requires.place, s.lines)))
    ∙ ap (slice_set (slice_index_or lines c.args.place []) (suc c.args.column)) (c.fraction_over-number.ensures.value
    ∙ over_as _ _ _ _ (ap nat_abs (common_read k c.requires.kernel.bounded))
    (read_back c.entry.result (omega (arith, small)) ∙ c.entry.ensures.number)))

pub returns-clause-keeps : goal.returns-clause-keeps
returns-clause-keeps c = record {
  table = record { top = refl; costs = refl; rows = refl; basis = refl; quotients = refl; scratch = refl };
  common = refl;
  lows = refl;
  leads = refl;
  constants = refl;
  uses = refl;
  turns = refl;
  left = refl;
  entering = refl;
  place = λ there. record { rows = there.rows; lines = there.lines };
}
