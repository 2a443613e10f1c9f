use Rattle.core_covers.specs.Cores.{AreCores}
use Rattle.part_cases.proofs.covers.cores_of.Given as goal

abbrev pub invariant-loop-word : goal.invariant-loop-word
invariant-loop-word l = AreCores l.count l.cores.items
