use Rattle.std.proofs.Common.{◌≡◌, Bool, map, take}
use Rattle.std.specs.Prelude.{◌||◌}
use Rattle.std.specs.List.{list_any}
use Rattle.lsdb_build.specs.declared.Linked.{Linked}
use Rattle.path_requests.specs.Chosen.{ties_one}
use Rattle.path_requests.proofs.symmetric.mark_lines.Given as goal

abbrev pub invariant-loop-item : goal.invariant-loop-item
invariant-loop-item l =
    (f : Linked → Bool) → l.fn.marks.items ≡ map f l.names.links
    → l.marks.items ≡ map (λ link. f link || list_any (λ item. ties_one l.names link item.what) (take l.item-index l.items)) l.names.links
