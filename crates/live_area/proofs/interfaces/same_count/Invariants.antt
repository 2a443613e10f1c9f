use Rattle.std.proofs.Common.{◌≡◌, take, ◌≤◌}
use Rattle.std.specs.Prelude.{count_by}
use Rattle.live_area.specs.Differences.{is_as_said}
use Rattle.live_area.proofs.interfaces.same_count.Given as goal

-- those that were counted
abbrev pub invariant-loop-interface : goal.invariant-loop-interface
invariant-loop-interface l = record {
  count : l.same ≡ count_by is_as_said (take l.interface-index l.interfaces);
  few : l.same ≤ l.interface-index;
}
