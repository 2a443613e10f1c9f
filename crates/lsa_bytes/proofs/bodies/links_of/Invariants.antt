use Rattle.std.proofs.Common.{◌≡◌, ◌-◌}
use Rattle.lsa_bytes.specs.Grammar.{links_of}
use Rattle.lsa_bytes.proofs.BodyLaws.{with_front}
use Rattle.lsa_bytes.proofs.bodies.links_of.Given as goal

abbrev pub invariant-loop : goal.invariant-loop
invariant-loop l = with_front l.links.items (links_of (l.count - l.counter) l.rest) ≡ links_of l.count l.bytes
