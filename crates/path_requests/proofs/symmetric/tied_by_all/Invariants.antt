use Rattle.std.proofs.Common.{◌≡◌, map, take}
use Rattle.std.specs.Prelude.{◌&&◌, is_some}
use Rattle.path_requests.proofs.symmetric.tied_by_all.Given as goal

abbrev pub invariant-loop-link : goal.invariant-loop-link
invariant-loop-link l = l.marks.items ≡ map (λ link. l.all && is_some link.link_back) (take l.link-index l.names.links)
