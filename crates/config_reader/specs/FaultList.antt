-- The faults of a configuration, in the order of lines and, on one line, in the order of numbers.
use Rattle.std.specs.Prelude.{◌≡◌, ℕ, ◌+◌, ◌==◌, ◌&&◌, ◌||◌, not, nat_le, if◌then◌else◌, Bool, false, List, [], ◌∷◌, ◌++◌, length, map, take, slice_index_or, Option, Some, None, is_some}
use Rattle.std.specs.List.{flat_map, filter_map, list_any}
use Rattle.cost_base.specs.Lists.{first_of, numbers_from}
use Rattle.cost_base.specs.declared.refusal.Refusal.{Refusal}
use Rattle.cost_base.specs.declared.refusal.Refusal.TheVariants.{Refused as RefusedStop, OutOfMemory}
use Rattle.text_lines.specs.Lines.{lines}
use Rattle.text_lines.specs.Numbers.{Prefix}
use Rattle.config_reader.specs.declared.fault.ConfigFault.{ConfigFault}
use Rattle.config_reader.specs.declared.fault.ConfigFault.TheVariants.{LongLine, SecondAddress, AreaTwice, BadName}
use Rattle.config_reader.specs.Statements.{Statement, AddressIs, NetworkIs, Refused, Network, Block, OfInterface, OfRouter}
use Rattle.config_reader.specs.Settings.{Said, said, said_at_place, about, setting, area_set, address_said, interface_address, networks_said, matches}
use Rattle.config_reader.specs.Configs.{first_heads}
use Rattle.config_reader.specs.RouterNames.{is_router_name, router_name_said}

-- a fault, and its line; a name that is taken from the file's name has line 0
pub record Fault : Type 0 where
  pub line : ℕ
  pub fault : ConfigFault

-- a line of at most 4,096 bytes
abbrev pub is_short : List ℕ → Bool
is_short line = nat_le (length line) 4096

-- the lines as they are read: a longer one says nothing, and is no head
abbrev pub read_line : List ℕ → List ℕ
read_line line = if is_short line then line else []

-- the lines of a file as they are read
abbrev pub read_lines : List (List ℕ) → List (List ℕ)
read_lines file = map read_line file

-- fault 1 of a line: it is too long
abbrev pub long_line : List ℕ → Option ConfigFault
long_line line = if is_short line then None else Some LongLine

-- fault 2, 3, 4 or 5 of a line: it is refused by itself
abbrev pub refused : Statement → Option ConfigFault
refused (Refused fault) = Some fault
refused _ = None

-- an interface has an area line, or some `network` line matches one of its addresses
abbrev pub is_given_area : List Said → List ℕ → Bool
is_given_area all name =
    is_some (setting area_set (about all name))
    || list_any (λ p. list_any (matches p) (networks_said all)) (filter_map address_said (about all name))

-- the address or its prefix length isn't that of the first one, where there is a first one
abbrev pub differs : Prefix → Option Prefix → Bool
differs p None = false
differs p (Some first) = not (p.address == first.address && p.length == first.length)

-- fault 6 of a line: another address than the first, of an interface that takes part
abbrev pub second_address : List Said → Block → Statement → Option ConfigFault
second_address all (OfInterface name) (AddressIs p) =
    if is_given_area all name && differs p (interface_address all name) then Some SecondAddress else None
second_address all _ _ = None

-- the address for which an interface takes its area from the `network` lines
abbrev pub address_by_networks : Option ℕ → Option Prefix → Option Prefix
address_by_networks None address = address
address_by_networks (Some area) address = None

-- a `network` line matches an address, and so does an earlier one of another area
abbrev pub is_other_area : List Network → Network → Option Prefix → Bool
is_other_area earlier n None = false
is_other_area earlier n (Some p) = matches p n && list_any (λ m. matches p m && not (m.area == n.area)) earlier

-- fault 7 of a line: a `network` line gives an interface without an area line a second area
abbrev pub area_twice : List Said → List (List ℕ × ℕ) → List Network → Block → Statement → Option ConfigFault
area_twice all heads earlier OfRouter (NetworkIs n) =
    if list_any (λ head. is_other_area earlier n (address_by_networks (setting area_set (about all head.0)) (interface_address all head.0))) heads
    then Some AreaTwice else None
area_twice all heads earlier _ _ = None

-- fault 8 of a line: the router's name is from it, and is none
abbrev pub bad_name : List ℕ × ℕ → ℕ → Option ConfigFault
bad_name name line = if name.1 == line && not (is_router_name name.0) then Some BadName else None

-- a fault, where there is one, as one of the line of number n
abbrev pub at_line : ℕ → Option ConfigFault → Option Fault
at_line n None = None
at_line n (Some fault) = Some (record { line = n; fault = fault })

-- the faults of the line at a place, from 0
abbrev pub faults_of_place : List ℕ → List (List ℕ) → ℕ → List Fault
faults_of_place file_name file i =
    let read = read_lines file in
    let all = said read in
    let s = said_at_place read i in
    filter_map (at_line (i + 1)) (
    long_line (slice_index_or file i [])
    ∷ refused s.statement
    ∷ second_address all s.block s.statement
    ∷ area_twice all (first_heads read) (networks_said (take i all)) s.block s.statement
    ∷ bad_name (router_name_said file_name read) (i + 1)
    ∷ []
    )

-- every fault of a file
abbrev pub faults : List ℕ → List (List ℕ) → List Fault
faults file_name file =
    filter_map (at_line 0) (bad_name (router_name_said file_name (read_lines file)) 0 ∷ [])
    ++ flat_map (faults_of_place file_name file) (numbers_from 0 (length file))

-- the fault for which a configuration is refused: the first
abbrev pub config_fault : List ℕ → List ℕ → Option Fault
config_fault file_name bytes = first_of (faults file_name (lines bytes))

-- a refusal tells the fault and its line; want of memory tells nothing
abbrev pub TellsConfigFault : Option Fault → Refusal ConfigFault ℕ → Type 0
TellsConfigFault found (RefusedStop fault line) = found ≡ Some (record { line = line; fault = fault })
TellsConfigFault found OutOfMemory = Unit {0}
