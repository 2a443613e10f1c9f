use Rattle.std.proofs.Common.{take}
use Rattle.std.specs.List.{AllZip}
use Rattle.lsa_bytes.specs.Vertices.{AreEnds}
use Rattle.lsa_bytes.proofs.vertices.ends_of_all.Given as goal

abbrev pub invariant-loop-lsa : goal.invariant-loop-lsa
invariant-loop-lsa l = AllZip (λ lsa ends. AreEnds lsa.body ends) (take l.lsa-index l.lsas) l.ends.items
