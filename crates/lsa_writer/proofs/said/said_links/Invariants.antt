-- with the links that are left it is what all links say
use Rattle.std.proofs.Common.{◌≡◌, ◌++◌, drop}
use Rattle.lsa_writer.specs.WrittenLsas.{said_links}
use Rattle.lsa_writer.proofs.said.said_links.Given as goal

abbrev pub invariant-loop-i : goal.invariant-loop-i
invariant-loop-i l = l.said.items ++ said_links l.configs l.designated (drop l.i l.of.links.now) (drop l.i l.of.costs.now) ≡
    said_links l.configs l.designated l.of.links.now l.of.costs.now
