use Rattle.std.proofs.Common.{codes, List, Option, subst, sym}
use Rattle.design_problem.specs.declared.answer.CapTree.{CapTree}
use Rattle.design_problem.specs.declared.answer.Costs.{Costs}
use Rattle.design_problem.specs.declared.form.Row.{Row}
use Rattle.design_problem.specs.Text.{costs_lines, tree_lines, rows_lines}
use Rattle.evidence_text.specs.Lines.{AreShort}
use Rattle.evidence_text.proofs.AnswerOrder.{parts_held, short_parts}
use Rattle.answer_cases.proofs.texts.put_parts.Goals as goal

pub put_costs-requires : goal.put_costs-requires
put_costs-requires c =
    subst (λ (costs : Option Costs). AreShort (costs_lines costs)) (sym c.as_ref.ensures.value)
    (short_parts (parts_held c.answer.inside) c.answer.invariant.lines).costs

pub put_rows-requires : goal.put_rows-requires
put_rows-requires c =
    subst (λ (rows : List Row). AreShort (rows_lines rows)) (sym c.as_slice.ensures)
    (short_parts (parts_held c.answer.inside) c.answer.invariant.lines).rows

pub put_tree-requires : goal.put_tree-requires
put_tree-requires c =
    subst (λ (tree : Option CapTree). AreShort (tree_lines (codes "proof") tree)) (sym c.as_ref-2.ensures.value)
    (short_parts (parts_held c.answer.inside) c.answer.invariant.lines).proof

pub put_tree-requires-2 : goal.put_tree-requires-2
put_tree-requires-2 c =
    subst (λ (tree : Option CapTree). AreShort (tree_lines (codes "open") tree)) (sym c.as_ref-3.ensures.value)
    (short_parts (parts_held c.answer.inside) c.answer.invariant.lines).undecided
