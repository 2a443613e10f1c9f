-- What is read of bytes is small enough for a database.
use Rattle.std.proofs.Common.{ℕ, ◌-◌, ◌^◌, ◌<◌, List, length, arith}
use Rattle.cost_base.specs.declared.refusal.Refusal.{Refusal}
use Rattle.cost_base.specs.declared.refusal.Refusal.TheVariants.{Refused, OutOfMemory}
use Rattle.lsa_bytes.specs.declared.fault.LsaFault.{LsaFault}
use Rattle.lsa_bytes.specs.declared.instances.Instance.{Instance}
use Rattle.lsa_bytes.specs.Reading.{AreSmallAt, EndAt}

pub stop_small : (bytes : List ℕ) (instances : List Instance) (stop : Refusal LsaFault ℕ) → EndAt bytes instances stop →
    length bytes < 2 ^ 32 - 1 → AreSmallAt instances stop
stop_small bytes instances (Refused fault offset) read few = record {
  types = read.small.types;
  sizes = omega (arith, read.small.sizes, few);
}
stop_small bytes instances OutOfMemory read few = tt
