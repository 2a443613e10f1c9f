use Rattle.std.proofs.Common.{◌∙◌, refl, sym, ap, subst, length}
use Rattle.std.specs.Prelude.{IfOk, All}
use Rattle.design_problem.specs.Forms.{IsSmallForm}
use Rattle.design_problem.specs.Stack.{OpenBoxes}
use Rattle.design_problem.specs.Trees.{IsSoundTree, IsClosed}
use Rattle.evidence_checker.proofs.WalkLaws.{stop_moved}
use Rattle.evidence_checker.proofs.tree.check_tree.Goals as goal

pub check_lines-requires-clause-alone : goal.check_lines-requires-clause-alone
check_lines-requires-clause-alone c = ap (λ (b : OpenBoxes). b.behind) c.new-boxes.ensures

pub check_lines-requires-clause-sums : goal.check_lines-requires-clause-sums
check_lines-requires-clause-sums c =
    c.in_ok-sums.ensures ∙ ap length c.as_slice.ensures ∙ sym (ap (λ (b : OpenBoxes). length b.present.low) c.new-boxes.ensures)

pub check_lines-requires-clause-forms : goal.check_lines-requires-clause-forms
check_lines-requires-clause-forms c =
    subst (λ (b : OpenBoxes). All (IsSmallForm (length b.present.low)) c.args.forms.now) (sym c.new-boxes.ensures) c.requires.forms

pub check_lines-requires-clause-whole : goal.check_lines-requires-clause-whole
check_lines-requires-clause-whole c = c.requires.whole

pub returns-clause-sound : goal.returns-clause-sound
returns-clause-sound c =
    subst (λ (b : OpenBoxes). IfOk c.check_lines.result (λ _. IsSoundTree c.args.forms.now b.present c.args.entries.now × IsClosed c.args.entries.now))
    c.new-boxes.ensures c.check_lines.ensures.sound

pub returns-clause-first : goal.returns-clause-first
returns-clause-first c =
    stop_moved c.check_lines.result c.args.forms.now c.new-boxes.result.present c.args.costs c.args.entries.now c.args.entries.now
    (ap (λ (b : OpenBoxes). b.present) c.new-boxes.ensures) refl c.check_lines.ensures.first
