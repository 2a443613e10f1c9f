-- the costs of the links before
use Rattle.std.proofs.Common.{◌≡◌, map, take}
use Rattle.path_requests.specs.Meaning.{present_cost}
use Rattle.present_costs.proofs.links.costs_of_links.Given as goal

abbrev pub invariant-loop-link : goal.invariant-loop-link
invariant-loop-link l = l.costs.items ≡ map (present_cost l.request_file) (take l.link-index l.lsdb.links)
