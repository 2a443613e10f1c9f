-- The text so far, and the lines of the paths that are left, are those of all paths.
use Rattle.std.proofs.Common.{◌≡◌, ◌++◌, drop}
use Rattle.path_commands.specs.LiveAudits.{live_lines}
use Rattle.path_commands.proofs.audit_live.live_text.Given as goal

abbrev pub invariant-loop-number : goal.invariant-loop-number
invariant-loop-number l = l.text.items ++ live_lines l.number (drop l.number l.paths) ≡ live_lines 0 l.paths
