use Rattle.std.proofs.Common.{◌≡◌, ◌++◌, map, drop}
use Rattle.printed_rows.specs.PrintedCosts.{named_cost}
use Rattle.change_commands.specs.ChangedLines.{changed_lines, changed_names_from}
use Rattle.change_commands.proofs.changed_lines.changed_lines.Given as goal

-- the lines so far, with those of the links that are left
abbrev pub invariant-loop-i : goal.invariant-loop-i
invariant-loop-i l =
    l.lines.items ++ map (named_cost l.costs) (changed_names_from l.network.request_file l.network.lsdb l.costs l.i (drop l.i l.network.lsdb.links))
    ≡ changed_lines l.network.request_file l.network.lsdb l.costs
