use Rattle.std.proofs.Common.{◌∷◌, ◌≤◌, List, [], map, length, sym, subst, ap, arith}
use Rattle.design_problem.specs.declared.answer.CapTree.{CapTree}
use Rattle.design_problem.specs.declared.tree.Entry.{Entry}
use Rattle.design_problem.specs.Text.{entry_line}
use Rattle.evidence_text.specs.Lines.{AreShort}
use Rattle.evidence_text.specs.Parts.{tree_line}
use Rattle.evidence_text.proofs.PutLines.{begin, turn, stop_at, last, tree_turn}
use Rattle.evidence_text.proofs.put_parts.put_capped_tree.Goals as goal

pub write_tree-requires : goal.write_tree-requires
write_tree-requires g c =
    subst (λ (es : List Entry). length (tree_line c.args.part c.args.cap (length es)) ≤ 65536)
    (sym c.as_slice-entries.ensures.entries) (c.requires 0 [] (omega arith))

pub returns-in_err-put : goal.returns-in_err-put
returns-in_err-put g c =
    let t : CapTree = record { cap = c.args.cap; tree = c.args.tree.now } in
    let step = tree_turn c.args.part t c.as_slice-entries.result.now c.write_tree.new.line
    c.as_slice-entries.ensures.entries c.write_tree.ensures in
    stop_at c.from_residual.result c.from_residual.ensures.0 (c.write_tree.new.line ∷ [])
    (map entry_line c.args.tree.now) step (begin _ _ _ c.requires) c.in_err-put.ensures

pub put_each-requires : goal.put_each-requires
put_each-requires g c =
    let t : CapTree = record { cap = c.args.cap; tree = c.args.tree.now } in
    let step = tree_turn c.args.part t c.as_slice-entries.result.now c.write_tree.new.line
    c.as_slice-entries.ensures.entries c.write_tree.ensures in
    let first = turn (c.write_tree.new.line ∷ []) (map entry_line c.args.tree.now) step (begin _ _ _ c.requires) c.in_ok-put.ensures in
    subst (λ (es : List Entry). AreShort (map entry_line es)) (sym c.as_slice-entries.ensures.entries) first.short

pub returns : goal.returns
returns g c =
    let same = c.as_slice-entries.ensures.entries in
    let t : CapTree = record { cap = c.args.cap; tree = c.args.tree.now } in
    let step = tree_turn c.args.part t c.as_slice-entries.result.now c.write_tree.new.line same c.write_tree.ensures in
    let first = turn (c.write_tree.new.line ∷ []) (map entry_line c.args.tree.now) step (begin _ _ _ c.requires) c.in_ok-put.ensures in
    last c.put_each.result _ (ap (λ (es : List Entry). map entry_line es) (sym same)) first c.put_each.ensures
