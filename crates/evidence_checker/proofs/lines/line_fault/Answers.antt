use Rattle.std.proofs.Common.{rules, sym, ◌∙◌, ap}
use Rattle.design_problem.specs.declared.tree.Entry.TheVariants.{Refute}
use Rattle.evidence_checker.proofs.LineLaws.{refute_line}
use Rattle.evidence_checker.proofs.lines.line_fault.Goals as goal

pub returns-in-Refute : goal.returns-in-Refute
returns-in-Refute c =
    refute_line c.args.forms.now c.args.costs.now c.args.entry.now c.as_slice.result.now c.refute_fault.result
    (c.in-Refute.is ∙ ap Refute (sym c.as_slice.ensures.parts)) c.refute_fault.ensures

pub returns-in-Undone : goal.returns-in-Undone
returns-in-Undone c = search rules
