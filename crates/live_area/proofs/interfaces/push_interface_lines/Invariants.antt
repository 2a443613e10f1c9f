use Rattle.std.proofs.Common.{◌≡◌, ◌++◌, drop}
use Rattle.live_area.specs.Differences.{compared_lines}
use Rattle.std.specs.Prelude.{None}
use Rattle.live_area.proofs.interfaces.push_interface_lines.Given as goal

-- with the lines of the interfaces that are left they are all
abbrev pub invariant-loop-interface : goal.invariant-loop-interface
invariant-loop-interface l = l.lines.items ++ compared_lines l.before (drop l.interface-index l.interfaces) ≡ l.fn.lines.items ++
    compared_lines None l.fn.interfaces
