use Rattle.std.proofs.Common.{◌≡◌, ◌<◌, ◌||◌, ℕ, length, get_or, take, false}
use Rattle.change_steps.specs.Kinds.{goes_over}
use Rattle.change_steps.proofs.kinds.mark_path.Given as goal

abbrev pub invariant-loop-edge : goal.invariant-loop-edge
invariant-loop-edge l = record {
  count : length l.marks.items ≡ length l.fn.marks.items;
  told : (v : ℕ) → v < length l.fn.marks.items →
      get_or l.marks.items v false ≡ (get_or l.fn.marks.items v false || goes_over l.graph (take l.edge-index l.edges) v);
}
