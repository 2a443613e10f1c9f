-- A configuration with a printed section after it.
use Rattle.std.specs.Prelude.{◌≡◌, ℕ, ◌≤◌, List, [], ◌∷◌, ◌++◌, if◌then◌else◌, All, Contains, Option, Some, None, codes, map}
use Rattle.std.specs.List.{join_with_byte}
use Rattle.cost_base.specs.Decimal.{decimal}
use Rattle.cost_base.specs.Lists.{same_bytes}
use Rattle.cost_base.specs.Words.{IsOneWord}
use Rattle.text_lines.specs.Lines.{lines, with_ends, ended}
use Rattle.interface_model.specs.declared.Interface.{Interface}
use Rattle.interface_model.specs.Records.{Router}
use Rattle.config_reader.specs.Configs.{first_heads, config_of}
use Rattle.config_reader.specs.FaultList.{config_fault}

-- the line `interface NAME`
abbrev pub name_line : List ℕ → List ℕ
name_line name = join_with_byte 32 (codes "interface" ∷ name ∷ [])

-- the line ` ip ospf cost N`
abbrev pub section_cost_line : ℕ → List ℕ
section_cost_line n = join_with_byte 32 (codes " ip" ∷ codes "ospf" ∷ codes "cost" ∷ decimal n ∷ [])

-- for each name and cost three lines: `interface NAME`, ` ip ospf cost N` and `exit`
abbrev pub config_section_lines : List (List ℕ × ℕ) → List (List ℕ)
config_section_lines [] = []
config_section_lines (cost ∷ costs) =
    name_line cost.0 ∷ section_cost_line cost.1 ∷ codes "exit" ∷ config_section_lines costs

-- the last cost that is given to a name, or the one of before
abbrev pub cost_after : List (List ℕ × ℕ) → List ℕ → Option ℕ → Option ℕ
cost_after [] name before = before
cost_after (cost ∷ costs) name before = cost_after costs name (if same_bytes name cost.0 then Some cost.1 else before)

-- the interface with the last cost that the section gives it
abbrev pub with_cost : List (List ℕ × ℕ) → Interface → Interface
with_cost costs i = record i { cost = cost_after costs i.name i.cost }

-- the router with the cost of each named interface replaced
abbrev pub with_costs : List (List ℕ × ℕ) → Router → Router
with_costs costs r = record r { interfaces = map (with_cost costs) r.interfaces }

-- the name is one word and has a head in the file; the cost is from 1 to 65535
pub record IsSectionCost (file : List (List ℕ)) (cost : List ℕ × ℕ) : Type 0 where
  pub word : IsOneWord cost.0
  pub headed : Contains (map (λ head. head.0) (first_heads file)) cost.0
  pub from : 1 ≤ cost.1
  pub to : cost.1 ≤ 65535

-- a configuration with a section after it says the same, but for the costs of the section; and it is accepted where it
-- was
abbrev pub SectionsSetCosts : Type 0
SectionsSetCosts =
    (file_name bytes : List ℕ) (costs : List (List ℕ × ℕ)) → All (IsSectionCost (lines bytes)) costs →
    (config_of file_name (ended bytes ++ with_ends (config_section_lines costs)) ≡ with_costs costs (config_of file_name bytes))
    × (config_fault file_name bytes ≡ None → config_fault file_name (ended bytes ++ with_ends (config_section_lines costs)) ≡ None)
