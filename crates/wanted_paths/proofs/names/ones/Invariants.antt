use Rattle.std.proofs.Common.{◌≡◌, map, take}
use Rattle.area_graph.specs.declared.Price.TheVariants.{Fixed}
use Rattle.wanted_paths.proofs.names.ones.Given as goal

abbrev pub invariant-loop-link : goal.invariant-loop-link
invariant-loop-link l = l.made.items ≡ map (λ link. Fixed 1) (take l.link-index l.links)
