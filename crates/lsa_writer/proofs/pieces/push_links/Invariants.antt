-- with the links that are left it is what all of them add
use Rattle.std.proofs.Common.{◌≡◌, ◌++◌, drop}
use Rattle.std.specs.Prelude.{flat_map}
use Rattle.lsa_bytes.specs.Written.{link_bytes}
use Rattle.lsa_writer.specs.WrittenLsas.{links_alone}
use Rattle.lsa_writer.proofs.pieces.push_links.Given as goal

abbrev pub invariant-loop-said : goal.invariant-loop-said
invariant-loop-said l = l.bytes.items ++ flat_map link_bytes (links_alone (drop l.said-index l.links)) ≡ l.fn.bytes.items ++
    flat_map link_bytes (links_alone l.links)
