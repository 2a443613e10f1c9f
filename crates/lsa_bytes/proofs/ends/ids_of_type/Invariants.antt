use Rattle.std.proofs.Common.{◌≡◌, ◌++◌, drop}
use Rattle.lsa_bytes.specs.Vertices.{ids_of_type}
use Rattle.lsa_bytes.proofs.ends.ids_of_type.Given as goal

abbrev pub invariant-loop-link : goal.invariant-loop-link
invariant-loop-link l = l.ids.items ++ ids_of_type l.kind (drop l.link-index l.links) ≡ ids_of_type l.kind l.links
