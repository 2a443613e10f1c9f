use Rattle.std.proofs.Common.{◌≡◌, map, take}
use Rattle.area_graph.specs.declared.Price.TheVariants.{Fixed}
use Rattle.path_requests.specs.Meaning.{present_cost}
use Rattle.path_requests.proofs.present.present_prices.Given as goal

abbrev pub invariant-loop-link : goal.invariant-loop-link
invariant-loop-link l = l.made.items ≡ map (λ link. Fixed (present_cost l.request_file link)) (take l.link-index l.names.links)
