-- What the code gathers of each interface and of the `network` lines. No public clause cites it.
use Rattle.std.specs.Prelude.{ℕ, List, [], ◌∷◌, ◌&&◌, ◌||◌, ◌==◌, not, nat_le, nat_lt, if◌then◌else◌, Bool, true, false, Option, Some, None, map, filter, is_some, slice_get, position}
use Rattle.std.specs.List.{filter_map, list_any}
use Rattle.std.specs.Option.{option_or}
use Rattle.cost_base.specs.Lists.{first_of, same_bytes}
use Rattle.text_lines.specs.Numbers.{Prefix}
use Rattle.interface_model.specs.Addresses.{contains}
use Rattle.interface_model.specs.declared.Interface.{Interface}
use Rattle.interface_model.specs.declared.Kind.TheVariants.{Broadcast}
use Rattle.config_reader.specs.declared.fault.ConfigFault.TheVariants.{SecondAddress, AreaTwice, BadName}
use Rattle.config_reader.specs.declared.networks.NetworkLine.{NetworkLine}
use Rattle.config_reader.specs.declared.drafts.Draft.{Draft}
use Rattle.config_reader.specs.Statements.{Statement, AddressIs, AreaIs, CostIs, KindIs, PriorityIs, PassiveIs, DownIs, RouterIdIs, NetworkIs, PassiveInterfaceIs, Block, OfInterface, OfRouter, OfOther}
use Rattle.config_reader.specs.Settings.{Said}
use Rattle.config_reader.specs.RouterNames.{before_first_dot, after_last_slash, is_router_name}
use Rattle.config_reader.specs.FaultList.{Fault, differs}

-- the `network` line that a statement of a router block is, with its number
abbrev pub network_line : ℕ → Block → Statement → Option NetworkLine
network_line n OfRouter (NetworkIs w) = Some (record { line = n; address = w.prefix.address; length = w.prefix.length; area = w.area })
network_line n _ _ = None

-- the `network` lines of the router blocks with their numbers, in order
abbrev pub network_lines : List Said → List NetworkLine
network_lines all = filter_map (λ s. network_line s.number s.block s.statement) all

-- as `matches`, of a `network` line with its number
abbrev pub covers : Prefix → NetworkLine → Bool
covers p w = nat_le w.length p.length && contains w.address w.length p.address

-- the area of the first `network` line that matches an address
abbrev pub area_among : Prefix → List NetworkLine → Option ℕ
area_among p lines = first_of (map (λ w. w.area) (filter (covers p) lines))

-- the line of the first `network` line of another area than the first that matched
abbrev pub clash : Prefix → Option ℕ → List NetworkLine → Option ℕ
clash p first [] = None
clash p None (w ∷ ws) = if covers p w then clash p (Some w.area) ws else clash p None ws
clash p (Some a) (w ∷ ws) =
    if covers p w && not (w.area == a) then Some w.line else clash p (Some a) ws

-- an interface of which nothing is said
abbrev pub new_interface : List ℕ → ℕ → Interface
new_interface name line =
    record { name = name; line = line; address = None; length = 0; area = None; cost = None; kind = Broadcast; passive = false; down = false; priority = 1 }

-- the draft of an interface at its head, before any of its lines
abbrev pub new_draft : List ℕ × ℕ → Draft
new_draft head = record { interface = new_interface head.0 head.1; matched = false; listed = false }

-- the interface with an address and its prefix length, unless it has an address already
abbrev pub with_address : Prefix → Option ℕ → Interface → Interface
with_address p None i = record i { address = Some p.address; length = p.length }
with_address p (Some first) i = i

-- the interface with what one line of its block sets
abbrev pub with_setting : Statement → Interface → Interface
with_setting (AddressIs p) i = with_address p i.address i
with_setting (AreaIs a) i = record i { area = Some a }
with_setting (CostIs n) i = record i { cost = Some n }
with_setting (KindIs kind) i = record i { kind = kind }
with_setting (PriorityIs n) i = record i { priority = n }
with_setting (PassiveIs b) i = record i { passive = b }
with_setting (DownIs b) i = record i { down = b }
with_setting _ i = i

-- the line gives an address that some `network` line matches
abbrev pub is_matched : List NetworkLine → Statement → Bool
is_matched nets (AddressIs p) = list_any (covers p) nets
is_matched nets _ = false

-- the interface that a line is about
abbrev pub target : Block → Statement → Option (List ℕ)
target (OfInterface name) s = Some name
target OfRouter (PassiveInterfaceIs name) = Some name
target _ _ = None

-- a draft with what a line says that is about it: a line of its own block, or a `passive-interface` line
abbrev pub change : List NetworkLine → Block → Statement → Draft → Draft
change nets (OfInterface name) s d =
    record d { interface = with_setting s d.interface; matched = d.matched || is_matched nets s }
change nets OfRouter s d = record d { listed = true }
change nets OfOther s d = d

-- the draft changed, where a line is about its interface
abbrev pub touch : Option (List ℕ) → (Draft → Draft) → Draft → Draft
touch None f d = d
touch (Some name) f d = if same_bytes name d.interface.name then f d else d

-- a draft with one more line said
abbrev pub draft_with : List NetworkLine → Said → Draft → Draft
draft_with nets s d = touch (target s.block s.statement) (change nets s.block s.statement) d

-- a draft after all these lines
abbrev pub draft_after : List NetworkLine → List Said → Draft → Draft
draft_after nets [] d = d
draft_after nets (s ∷ ss) d = draft_after nets ss (draft_with nets s d)

-- an address and its prefix length, where there is an address
abbrev pub whole_address : Option ℕ → ℕ → Option Prefix
whole_address None long = None
whole_address (Some a) long = Some (record { address = a; length = long })

-- the area that the `network` lines give to an interface with this address
abbrev pub area_for : List NetworkLine → Option Prefix → Option ℕ
area_for nets None = None
area_for nets (Some p) = area_among p nets

-- the interface of a draft: its area may be by `network` lines, and a router block may make it passive
abbrev pub finished : List NetworkLine → Draft → Interface
finished nets d =
    record d.interface {
      area = option_or d.interface.area (area_for nets (whole_address d.interface.address d.interface.length));
      passive = d.interface.passive || d.listed;
    }

-- the element at a place, where there is a place
abbrev pub at_place : {X : Type 0} → Option ℕ → List X → Option X
at_place None xs = None
at_place (Some i) xs = slice_get xs i

-- the draft of an interface, by its name
abbrev pub find_draft : List ℕ → List Draft → Option Draft
find_draft name drafts = at_place (position (same_bytes name) (map (λ d. d.interface.name) drafts)) drafts

-- the prefix is another than that of the draft's address, and the draft has an area
abbrev pub is_second : Prefix → Option Draft → Bool
is_second p None = false
is_second p (Some d) = (is_some d.interface.area || d.matched) && differs p (whole_address d.interface.address d.interface.length)

-- a line gives an interface that takes part another address than its first
abbrev pub second_in : List Draft → Block → Statement → Bool
second_in drafts (OfInterface name) (AddressIs p) = is_second p (find_draft name drafts)
second_in drafts _ _ = false

-- fault 6 of a line, where it gives an interface that takes part another address than its first
abbrev pub second_of : List Draft → ℕ → Block → Statement → Option Fault
second_of drafts n block s =
    if second_in drafts block s then Some (record { line = n; fault = SecondAddress }) else None

-- the first line with a second address, as fault 6
abbrev pub first_second : List Draft → List Said → Option Fault
first_second drafts all = first_of (filter_map (λ s. second_of drafts s.number s.block s.statement) all)

-- fault 7 at this line, where there is one
abbrev pub twice_at : Option ℕ → Option Fault
twice_at None = None
twice_at (Some n) = Some (record { line = n; fault = AreaTwice })

-- fault 7 of an interface without an area line, where `network` lines give its address two areas
abbrev pub clash_for : List NetworkLine → Option ℕ → Option Prefix → Option Fault
clash_for nets (Some area) address = None
clash_for nets None None = None
clash_for nets None (Some p) = twice_at (clash p None nets)

-- fault 7 of a draft: `network` lines give its interface two areas
abbrev pub clash_of : List NetworkLine → Draft → Option Fault
clash_of nets d = clash_for nets d.interface.area (whole_address d.interface.address d.interface.length)

-- of two faults the one of the lesser line; the first, where both are of one line
abbrev pub earliest : Option Fault → Option Fault → Option Fault
earliest None b = b
earliest (Some a) None = Some a
earliest (Some a) (Some b) = if nat_lt b.line a.line then Some b else Some a

-- the earliest fault 7 of these drafts and of one that was found before
abbrev pub first_clash : List NetworkLine → Option Fault → List Draft → Option Fault
first_clash nets found [] = found
first_clash nets found (d ∷ ds) = first_clash nets (earliest found (clash_of nets d)) ds

-- the router ID that a line of a router block sets
abbrev pub router_id_set : Block → Statement → Option ℕ
router_id_set OfRouter (RouterIdIs id) = Some id
router_id_set _ _ = None

-- the last router ID that the lines set, or the one from before
abbrev pub id_after : Option ℕ → List Said → Option ℕ
id_after found [] = found
id_after found (s ∷ ss) = id_after (option_or (router_id_set s.block s.statement) found) ss

-- the name of the last `hostname` head, or of the file
abbrev pub name_from : List ℕ → Option (List ℕ × ℕ) → List ℕ × ℕ
name_from file_name None = (before_first_dot (after_last_slash file_name), 0)
name_from file_name (Some head) = head

-- fault 8: the router's name is none, at the line that it is from
abbrev pub name_fault : List ℕ × ℕ → Option Fault
name_fault name = if is_router_name name.0 then None else Some (record { line = name.1; fault = BadName })
