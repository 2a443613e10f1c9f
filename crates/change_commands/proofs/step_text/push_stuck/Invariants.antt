use Rattle.std.proofs.Common.{◌≡◌, ◌++◌, drop, map}
use Rattle.text_lines.specs.Lines.{with_ends}
use Rattle.change_commands.specs.Steps.{stuck_line, stuck_lines}
use Rattle.change_commands.proofs.step_text.push_stuck.Given as goal

-- the text so far, with what is left of the steps that can't follow
abbrev pub invariant-loop-blocked : goal.invariant-loop-blocked
invariant-loop-blocked l = l.text.items
    ++ with_ends (map (stuck_line l.of.by l.of.names.now l.of.moves.now) (drop l.blocked-index l.blocked-items)) ≡ l.fn.text.items
    ++ with_ends (stuck_lines l.of.by l.of.names.now l.of.moves.now l.fn.stuck)
