-- The router IDs of configurations.
use Rattle.std.specs.Prelude.{ℕ, ◌+◌, ◌==◌, List, [], ◌∷◌, ◌++◌, Bool, false, Option, Some, None, if◌then◌else◌}
use Rattle.std.specs.List.{list_any}
use Rattle.std.specs.Option.{option_map, option_or}
use Rattle.interface_model.specs.Records.{Router}
use Rattle.lsa_bytes.specs.declared.ids.IdFault.{IdFault}
use Rattle.lsa_bytes.specs.declared.fault.LsaFault.{LsaFault}
use Rattle.lsa_bytes.specs.declared.fault.LsaFault.TheVariants.{NoRouterId, RouterIdTwice}

-- the configuration has this router ID
abbrev pub is_id : ℕ → Option ℕ → Bool
is_id id None = false
is_id id (Some other) = other == id

-- the fault of a router ID, behind the configurations before it: there is none, or one of them has it
abbrev pub id_fault : List Router → Option ℕ → Option LsaFault
id_fault before None = Some NoRouterId
id_fault before (Some id) = if list_any (λ other. is_id id other.router_id) before then Some RouterIdTwice else None

-- the first configuration with a fault, of those that come behind others
abbrev pub first_id_fault : List Router → ℕ → List Router → Option IdFault
first_id_fault before n [] = None
first_id_fault before n (config ∷ more) =
    option_or (option_map (λ fault. record { fault = fault; config = n }) (id_fault before config.router_id))
    (first_id_fault (before ++ config ∷ []) (n + 1) more)
