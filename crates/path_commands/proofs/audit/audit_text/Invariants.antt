-- The text so far, and the lines of the paths that are left, are those of all paths.
use Rattle.std.proofs.Common.{◌≡◌, ◌++◌, drop}
use Rattle.path_commands.specs.Audits.{audit_lines}
use Rattle.path_commands.proofs.audit.audit_text.Given as goal

abbrev pub invariant-loop-number : goal.invariant-loop-number
invariant-loop-number l = l.text.items ++ audit_lines l.number (drop l.number l.paths) ≡ audit_lines 0 l.paths
