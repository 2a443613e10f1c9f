use Rattle.std.proofs.Common.{◌≡◌, ◌++◌, drop}
use Rattle.text_lines.specs.Lines.{with_ends}
use Rattle.path_commands.specs.Conflicts.{without_parts}
use Rattle.path_commands.proofs.conflict_text.push_without.Given as goal

-- the text so far, with the members that are left
abbrev pub invariant-loop-place : goal.invariant-loop-place
invariant-loop-place l = l.text.items
    ++ with_ends (without_parts l.problem (drop l.place l.members) (drop l.place l.without)) ≡ l.fn.text.items
    ++ with_ends (without_parts l.problem l.members l.without)
