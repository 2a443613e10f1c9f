-- Present costs of a pair of routers: of a symmetric link, outside bounds, by default; and where they are missing.
use Rattle.std.proofs.Common.{◌≡◌, ℕ, refl, [], ◌∷◌, Option, Some, None}
use Rattle.std.specs.Prelude.{codes}
use Rattle.lsdb_build.specs.declared.Far.TheVariants.{Router}
use Rattle.lsdb_build.specs.Graphs.{Database}
use Rattle.request_reader.specs.declared.Directive.{Directive}
use Rattle.request_reader.specs.declared.Directive.TheVariants.{FreeAll, Fix, SymmetricAll}
use Rattle.request_reader.specs.Asked.{Asked}
use Rattle.wanted_paths.specs.declared.fault.ResolutionFault.TheVariants.{EndsDiffer, NoCost}
use Rattle.path_requests.specs.Resolving.{resolution_fault}
use Rattle.present_costs.specs.PresentCosts.{fault_beside_present, present_of_variables}

-- two routers, the link between them, and the costs of its two ends
abbrev pair : Option ℕ → Option ℕ → Database
pair here there = record {
  routers = codes "A" ∷ codes "B" ∷ [];
  links = record { router = 0; interface = codes "eth0"; line = 1; cost = here; to = Router 1; link_back = Some 1 }
      ∷ record { router = 1; interface = codes "eth0"; line = 1; cost = there; to = Router 0; link_back = Some 0 } ∷ [];
  subnets = [];
}

-- each interface is free from 1 to 5, and a line more
abbrev asked : Option ℕ → Directive → Asked
asked default directive = record {
  area = 0;
  default_cost = default;
  items = record { line = 3; what = FreeAll 1 5 } ∷ record { line = 4; what = directive } ∷ [];
}

equal_ends : present_of_variables (asked None SymmetricAll) (pair (Some 2) (Some 2)) ≡ Some 2 ∷ []
equal_ends = refl

different_ends : present_of_variables (asked None SymmetricAll) (pair (Some 2) (Some 3)) ≡ None ∷ []
different_ends = refl

-- an end without a cost line has the default
end_by_default : present_of_variables (asked (Some 3) SymmetricAll) (pair None (Some 3)) ≡ Some 3 ∷ []
end_by_default = refl

out_of_bounds : present_of_variables (asked None (FreeAll 1 5)) (pair (Some 7) (Some 5)) ≡ None ∷ Some 5 ∷ []
out_of_bounds = refl

-- a fixed interface has no variable
one_fixed : present_of_variables (asked None (Fix (codes "A") (codes "eth0"))) (pair (Some 7) (Some 5)) ≡ Some 5 ∷ []
one_fixed = refl

-- the first link without a cost is refused, free or not
free_first : fault_beside_present (asked None (Fix (codes "B") (codes "eth0"))) (pair None None) ≡ Some (NoCost 0)
free_first = refl

fixed_alone : resolution_fault (asked None (Fix (codes "B") (codes "eth0"))) (pair None None) ≡ Some (NoCost 1)
fixed_alone = refl

none_missing : fault_beside_present (asked (Some 1) (Fix (codes "B") (codes "eth0"))) (pair None None) ≡ None
none_missing = refl

-- after ends that differ
ends_first : fault_beside_present (record {
  area = 0;
  default_cost = None;
  items = record { line = 3; what = SymmetricAll }
      ∷ record { line = 4; what = FreeAll 1 5 } ∷ record { line = 5; what = Fix (codes "B") (codes "eth0") } ∷ [];
}) (pair None None) ≡ Some (EndsDiffer 3)
ends_first = refl
