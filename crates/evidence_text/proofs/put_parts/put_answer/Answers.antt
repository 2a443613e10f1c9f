use Rattle.std.proofs.Common.{codes, refl, subst, sym, Option, List}
use Rattle.std.specs.Option.{option_copied}
use Rattle.design_problem.specs.declared.answer.CapTree.{CapTree}
use Rattle.design_problem.specs.declared.answer.Costs.{Costs}
use Rattle.design_problem.specs.declared.form.Row.{Row}
use Rattle.design_problem.specs.Text.{costs_lines, tree_lines, rows_lines}
use Rattle.evidence_text.specs.Lines.{AreShort}
use Rattle.evidence_text.proofs.AnswerOrder.{parts_held, text-parts, short_parts}
use Rattle.evidence_text.proofs.PutChains.{put-then, put-cut, put-as}
use Rattle.evidence_text.proofs.put_parts.put_answer.Goals as goal

pub put_head-requires : goal.put_head-requires
put_head-requires g c = (short_parts (parts_held c.answer.inside) c.answer.invariant.lines).head

pub put_costs_part-requires : goal.put_costs_part-requires
put_costs_part-requires g c =
    subst (λ (costs : Option Costs). AreShort (costs_lines costs)) (sym c.as_ref.ensures.value)
    (short_parts (parts_held c.answer.inside) c.answer.invariant.lines).costs

pub put_floor-requires : goal.put_floor-requires
put_floor-requires g c = (short_parts (parts_held c.answer.inside) c.answer.invariant.lines).floor

pub put_rows_part-requires : goal.put_rows_part-requires
put_rows_part-requires g c =
    subst (λ (rows : List Row). AreShort (rows_lines rows)) (sym c.as_slice.ensures)
    (short_parts (parts_held c.answer.inside) c.answer.invariant.lines).rows

pub put_tree_part-requires : goal.put_tree_part-requires
put_tree_part-requires g c =
    subst (λ (tree : Option CapTree). AreShort (tree_lines (codes "proof") tree)) (sym c.as_ref-2.ensures.value)
    (short_parts (parts_held c.answer.inside) c.answer.invariant.lines).proof

pub put_tree_part-requires-2 : goal.put_tree_part-requires-2
put_tree_part-requires-2 g c =
    subst (λ (tree : Option CapTree). AreShort (tree_lines (codes "open") tree)) (sym c.as_ref-3.ensures.value)
    (short_parts (parts_held c.answer.inside) c.answer.invariant.lines).undecided

pub put_end-requires : goal.put_end-requires
put_end-requires g c = (short_parts (parts_held c.answer.inside) c.answer.invariant.lines).end

pub returns-in_err-put_head : goal.returns-in_err-put_head
returns-in_err-put_head g c =
    let a = parts_held c.answer.inside in
    let put = put-as (text-parts a c.args.answer.now a.costs a.rows a.proof a.undecided c.answer.view_is refl refl refl
    refl) (put-cut _ c.from_residual.result c.from_residual.ensures.0 c.in_err-put_head.ensures) in
    record { whole = put.whole; part = put.part; cause = put.cause }

pub returns-in_err-put_costs_part : goal.returns-in_err-put_costs_part
returns-in_err-put_costs_part g c =
    let a = parts_held c.answer.inside in
    let put = put-as (text-parts a c.args.answer.now (option_copied c.as_ref.result) a.rows a.proof a.undecided
    c.answer.view_is c.as_ref.ensures.value refl refl refl)
    (put-then _ c.in_ok-put_head.ensures
    (put-cut _ c.from_residual-in_err-put_costs_part.result c.from_residual-in_err-put_costs_part.ensures.0
    c.in_err-put_costs_part.ensures)) in
    record { whole = put.whole; part = put.part; cause = put.cause }

pub returns-in_err-put_floor : goal.returns-in_err-put_floor
returns-in_err-put_floor g c =
    let a = parts_held c.answer.inside in
    let put = put-as (text-parts a c.args.answer.now (option_copied c.as_ref.result) a.rows a.proof a.undecided
    c.answer.view_is c.as_ref.ensures.value refl refl refl)
    (put-then _ c.in_ok-put_head.ensures
    (put-then _ c.in_ok-put_costs_part.ensures
    (put-cut _ c.from_residual-in_err-put_floor.result c.from_residual-in_err-put_floor.ensures.0
    c.in_err-put_floor.ensures))) in
    record { whole = put.whole; part = put.part; cause = put.cause }

pub returns-in_err-put_rows_part : goal.returns-in_err-put_rows_part
returns-in_err-put_rows_part g c =
    let a = parts_held c.answer.inside in
    let put = put-as (text-parts a c.args.answer.now (option_copied c.as_ref.result) (c.as_slice.result.now) a.proof
    a.undecided c.answer.view_is c.as_ref.ensures.value c.as_slice.ensures refl refl)
    (put-then _ c.in_ok-put_head.ensures
    (put-then _ c.in_ok-put_costs_part.ensures
    (put-then _ c.in_ok-put_floor.ensures
    (put-cut _ c.from_residual-in_err-put_rows_part.result c.from_residual-in_err-put_rows_part.ensures.0
    c.in_err-put_rows_part.ensures)))) in
    record { whole = put.whole; part = put.part; cause = put.cause }

pub returns-in_err-put_tree_part : goal.returns-in_err-put_tree_part
returns-in_err-put_tree_part g c =
    let a = parts_held c.answer.inside in
    let put = put-as (text-parts a c.args.answer.now (option_copied c.as_ref.result) (c.as_slice.result.now)
    (option_copied c.as_ref-2.result) a.undecided c.answer.view_is c.as_ref.ensures.value c.as_slice.ensures
    c.as_ref-2.ensures.value refl)
    (put-then _ c.in_ok-put_head.ensures
    (put-then _ c.in_ok-put_costs_part.ensures
    (put-then _ c.in_ok-put_floor.ensures
    (put-then _ c.in_ok-put_rows_part.ensures
    (put-cut _ c.from_residual-in_err-put_tree_part.result c.from_residual-in_err-put_tree_part.ensures.0
    c.in_err-put_tree_part.ensures))))) in
    record { whole = put.whole; part = put.part; cause = put.cause }

pub returns-in_err-put_tree_part-2 : goal.returns-in_err-put_tree_part-2
returns-in_err-put_tree_part-2 g c =
    let a = parts_held c.answer.inside in
    let put = put-as (text-parts a c.args.answer.now (option_copied c.as_ref.result) (c.as_slice.result.now)
    (option_copied c.as_ref-2.result) (option_copied c.as_ref-3.result) c.answer.view_is c.as_ref.ensures.value
    c.as_slice.ensures c.as_ref-2.ensures.value c.as_ref-3.ensures.value)
    (put-then _ c.in_ok-put_head.ensures
    (put-then _ c.in_ok-put_costs_part.ensures
    (put-then _ c.in_ok-put_floor.ensures
    (put-then _ c.in_ok-put_rows_part.ensures
    (put-then _ c.in_ok-put_tree_part.ensures
    (put-cut _ c.from_residual-in_err-put_tree_part-2.result
    c.from_residual-in_err-put_tree_part-2.ensures.0 c.in_err-put_tree_part-2.ensures)))))) in
    record { whole = put.whole; part = put.part; cause = put.cause }

pub returns : goal.returns
returns g c =
    let a = parts_held c.answer.inside in
    let put = put-as (text-parts a c.args.answer.now (option_copied c.as_ref.result) (c.as_slice.result.now)
    (option_copied c.as_ref-2.result) (option_copied c.as_ref-3.result) c.answer.view_is c.as_ref.ensures.value
    c.as_slice.ensures c.as_ref-2.ensures.value c.as_ref-3.ensures.value)
    (put-then _ c.in_ok-put_head.ensures
    (put-then _ c.in_ok-put_costs_part.ensures
    (put-then _ c.in_ok-put_floor.ensures
    (put-then _ c.in_ok-put_rows_part.ensures
    (put-then _ c.in_ok-put_tree_part.ensures
    (put-then _ c.in_ok-put_tree_part-2.ensures c.put_end.ensures)))))) in
    record { whole = put.whole; part = put.part; cause = put.cause }
