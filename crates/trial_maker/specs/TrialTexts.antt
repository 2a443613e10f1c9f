-- Trials with a number of blocks, each with two sides: their routers, configurations and requests.
use Rattle.std.specs.Prelude.{ℕ, zero, suc, ◌+◌, ◌*◌, ◌/◌, ◌%◌, ◌==◌, List, [], ◌∷◌, ◌++◌, codes, Bool, if◌then◌else◌}
use Rattle.cost_base.specs.Decimal.{decimal}
use Rattle.line_builder.specs.Words.{dotted_quad}
use Rattle.trial_maker.specs.declared.TrialTexts.{TrialTexts}

-- what blocks 0 to n - 1 have, one after another
abbrev pub over_blocks : {X : Type 0} → (ℕ → List X) → ℕ → List X
over_blocks piece zero = []
over_blocks piece (suc n) = over_blocks piece n ++ piece n

-- block i joins router j_i to router j_(i+1) over router u_i, its upper side, and over router l_i, its lower side
abbrev pub joint : ℕ → List ℕ
joint i = codes "j" ++ decimal i

-- the router of a block's upper side
abbrev pub upper_router : ℕ → List ℕ
upper_router i = codes "u" ++ decimal i

-- the router of a block's lower side
abbrev pub lower_router : ℕ → List ℕ
lower_router i = codes "l" ++ decimal i

-- the name of a router's configuration
abbrev pub file_name : List ℕ → List ℕ
file_name router = router ++ codes ".conf"

-- the names of the configurations of a block
abbrev pub block_files : ℕ → List (List ℕ)
block_files i = file_name (upper_router i) ∷ file_name (lower_router i) ∷ file_name (joint (i + 1)) ∷ []

-- the names of all configurations, in order
abbrev pub file_names : ℕ → List (List ℕ)
file_names blocks = file_name (joint 0) ∷ over_blocks block_files blocks

-- link k of all blocks has the subnet 10.0.0.0 plus 2k of length 31: its first router has the even address, its second
-- the odd one
abbrev pub first_end : ℕ → ℕ
first_end k = 167772160 + 2 * k

-- the address of the second router on link k
abbrev pub second_end : ℕ → ℕ
second_end k = 167772161 + 2 * k

-- interface number n of a router, with an address
abbrev pub interface_text : ℕ → ℕ → List ℕ
interface_text n address =
    codes "interface e" ++ decimal n
    ++ codes "\n ip address " ++ dotted_quad address
    ++ codes "/31\n ip ospf area 0\n ip ospf network point-to-point\nexit\n"

-- the router of a side, which is the second router of link k and the first of link k + 1
abbrev pub side_config : ℕ → List ℕ
side_config k = interface_text 0 (second_end k) ++ interface_text 1 (first_end (k + 1))

-- the number of the interface of j_i that leads to the upper side of block i; the next one leads to the lower side
abbrev pub onward : ℕ → ℕ
onward i = if i == 0 then 0 else 2

-- the interfaces of j_i on the links of block i
abbrev pub begins_block : ℕ → List ℕ
begins_block i =
    interface_text (onward i) (first_end (4 * i)) ++ interface_text (onward i + 1) (first_end (4 * i + 2))

-- the interfaces of j_(i+1) on the links of block i
abbrev pub ends_block : ℕ → List ℕ
ends_block i = interface_text 0 (second_end (4 * i + 1)) ++ interface_text 1 (second_end (4 * i + 3))

-- the configuration of j_(i+1)
abbrev pub joint_config : ℕ → ℕ → List ℕ
joint_config blocks i = ends_block i ++ (if i + 1 == blocks then [] else begins_block (i + 1))

-- block i has the links 4i, 4i + 1 over its upper side and 4i + 2, 4i + 3 over its lower side
abbrev pub block_configs : ℕ → ℕ → List (List ℕ)
block_configs blocks i = side_config (4 * i) ∷ side_config (4 * i + 2) ∷ joint_config blocks i ∷ []

-- the configurations of all routers, in the order of their names
abbrev pub trial_configs : ℕ → List (List ℕ)
trial_configs blocks = begins_block 0 ∷ over_blocks (block_configs blocks) blocks

-- the numbers that choose the sides
abbrev pub next_number : ℕ → ℕ
next_number s = (s * 1103515245 + 12345) % 2147483648

-- the number after so many steps from the start
abbrev pub number_after : ℕ → ℕ → ℕ
number_after start zero = start
number_after start (suc i) = next_number (number_after start i)

-- whether the number's bits from 16 on make an even number
abbrev pub is_even_high : ℕ → Bool
is_even_high s = s / 65536 % 2 == 0

-- whether the wanted path takes the upper side of block i
abbrev pub takes_upper : ℕ → ℕ → Bool
takes_upper start i = is_even_high (next_number (number_after start i))

-- a hop of a path: a router, and interface number n that the path leaves it by
abbrev pub hop : List ℕ → ℕ → List ℕ
hop router n = router ++ codes ":e" ++ decimal n

-- the two hops of a block over a side, each behind a space
abbrev pub hops_over : Bool → ℕ → List ℕ
hops_over is_upper i =
    codes " " ++ hop (joint i) (if is_upper then onward i else onward i + 1)
    ++ codes " " ++ hop (if is_upper then upper_router i else lower_router i) 1

-- the two hops of the wanted path over block i
abbrev pub hops : ℕ → ℕ → List ℕ
hops start i = hops_over (takes_upper start i) i

-- the end of a `path` line whose last router is j_i
abbrev pub path_end : ℕ → List ℕ
path_end i = codes " " ++ joint i ++ codes "\n"

-- the `path` line of block i over a side
abbrev pub path_over : Bool → ℕ → List ℕ
path_over is_upper i = codes "path" ++ hops_over is_upper i ++ path_end (i + 1)

-- the wanted path from j_i to j_(i+1)
abbrev pub block_path : ℕ → ℕ → List ℕ
block_path start i = path_over (takes_upper start i) i

-- the wanted path from j0 to the last router of the last block
abbrev pub whole_path : ℕ → ℕ → List ℕ
whole_path start blocks = codes "path" ++ over_blocks (hops start) blocks ++ path_end blocks

-- the request file: all costs free from 1 to 65535, a wanted path for each block, and one over all blocks
abbrev pub request : ℕ → ℕ → List ℕ
request start blocks =
    codes "ospfcost request 1\narea 0\nfree all 1 65535\n"
    ++ over_blocks (block_path start) blocks
    ++ whole_path start blocks

-- the trial with so many blocks, made from a start
abbrev pub made_trial : ℕ → ℕ → TrialTexts
made_trial blocks start = record { names = file_names blocks; configs = trial_configs blocks; request = request start blocks }
