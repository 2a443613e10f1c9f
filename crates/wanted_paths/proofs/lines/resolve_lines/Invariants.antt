use Rattle.std.proofs.Common.{◌≡◌, ◌++◌, drop}
use Rattle.std.specs.List.{filter_map}
use Rattle.wanted_paths.specs.Paths.{request_of}
use Rattle.wanted_paths.specs.LineFaults.{line_faults}
use Rattle.wanted_paths.specs.Paths.{outline}
use Rattle.wanted_paths.proofs.lines.resolve_lines.Given as goal

abbrev pub invariant-loop-item : goal.invariant-loop-item
invariant-loop-item l = record {
  same : l.resolver ≡ l.fn.names;
  faults : line_faults l.fn.names (drop l.item-index l.items) ≡ line_faults l.fn.names l.items;
  made : l.made.items ++ filter_map (λ item. request_of l.fn.names (outline l.fn.names) item.what) (drop l.item-index l.items)
      ≡ filter_map (λ item. request_of l.fn.names (outline l.fn.names) item.what) l.items;
}
