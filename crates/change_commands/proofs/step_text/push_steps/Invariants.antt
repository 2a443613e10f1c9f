use Rattle.std.proofs.Common.{◌≡◌, ◌++◌, drop}
use Rattle.text_lines.specs.Lines.{with_ends}
use Rattle.change_commands.specs.Steps.{step_lines_from, steps_lines}
use Rattle.change_commands.proofs.step_text.push_steps.Given as goal

-- the text so far, with the steps that are left
abbrev pub invariant-loop-number : goal.invariant-loop-number
invariant-loop-number l = l.text.items
    ++ with_ends (step_lines_from l.of.by l.of.names.now l.of.moves.now l.number (drop l.number l.order)) ≡ l.fn.text.items
    ++ with_ends (steps_lines l.of.by l.of.names.now l.of.moves.now l.order)
