use Rattle.std.proofs.Common.{rules, ◌≡◌, ◌<◌, ◌∙◌, ◌==◌, ◌||◌, ℕ, ap, length, length-set, true}
use Rattle.cost_base.specs.Marks.{is_marked}
use Rattle.change_steps.proofs.MarkedLaws.{mark_written}
use Rattle.change_steps.proofs.kinds.mark_price.Goals as goal

pub returns-in-Var-clause-count : goal.returns-in-Var-clause-count
returns-in-Var-clause-count c = ap length c.mark_within.ensures ∙ length-set c.args.marks.now.items _ true

pub returns-in-Var-clause-marks : goal.returns-in-Var-clause-marks
returns-in-Var-clause-marks c = λ v within.
    let set = mark_written c.args.marks.now.items c.mark_within.new.marks.items _ v c.mark_within.ensures within in search (rules, set)
