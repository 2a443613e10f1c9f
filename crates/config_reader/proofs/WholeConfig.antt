-- What the code makes of a whole configuration.
use Rattle.std.proofs.Common.{◌≡◌, ℕ, List, [], map, sym, ap, ◌∙◌, subst, Option, None}
use Rattle.std.specs.Option.{option_map}
use Rattle.text_lines.specs.Lines.{lines}
use Rattle.interface_model.specs.declared.Interface.{Interface}
use Rattle.interface_model.specs.Records.{Router}
use Rattle.config_reader.specs.declared.reader.Parts.{Parts}
use Rattle.config_reader.specs.declared.reader.Said.{Said as SpokenLine}
use Rattle.config_reader.specs.declared.drafts.Drafts.{Drafts}
use Rattle.config_reader.specs.declared.networks.NetworkLine.{NetworkLine}
use Rattle.config_reader.specs.Settings.{Said}
use Rattle.config_reader.specs.Configs.{firsts}
use Rattle.config_reader.specs.FaultList.{Fault, config_fault}
use Rattle.config_reader.specs.Hearing.{heard}
use Rattle.config_reader.specs.Heards.{said_of, head_heard, fault_heard}
use Rattle.config_reader.specs.Parts.{IsParts}
use Rattle.config_reader.specs.Gathered.{IsGathered}
use Rattle.config_reader.specs.Drafting.{network_lines, new_draft, draft_after, first_second, first_clash, earliest, finished, id_after, name_from, name_fault}
use Rattle.config_reader.proofs.WholeRecords.{total_law, made_law, IsConfig}

-- what was gathered of a configuration
pub record IsRead (file_name bytes : List ℕ) (p : Parts) (nets : List NetworkLine) (d : Drafts) (name : List ℕ × ℕ) : Type 0 where
  pub parts : IsParts (heard (lines bytes)) p
  pub found : nets ≡ network_lines (map said_of p.said.items)
  pub gathered : IsGathered nets (map head_heard p.heads.items) (map said_of p.said.items) d
  pub named : name ≡ name_from file_name (option_map head_heard p.hostname)

-- the fault that is found among it
abbrev pub found_among : Parts → List NetworkLine → Drafts → List ℕ × ℕ → Option Fault
found_among p nets d name =
    earliest (earliest (earliest (option_map fault_heard p.fault) (first_second d.drafts.items (map said_of p.said.items)))
    (first_clash nets None d.drafts.items)) (name_fault name)

module _ (file_name bytes : List ℕ) (p : Parts) (nets : List NetworkLine) (d : Drafts) (name : List ℕ × ℕ) (read : IsRead file_name bytes p nets d name) where
  nets_is : nets ≡ network_lines (heard (lines bytes)).said
  nets_is = read.found ∙ ap network_lines read.parts.said

  drafts_is : d.drafts.items ≡ map (λ head. draft_after nets (heard (lines bytes)).said (new_draft head)) (firsts [] (heard (lines bytes)).heads)
  drafts_is =
      read.gathered.drafts
      ∙ ap (λ (all : List Said). map (λ head. draft_after nets all (new_draft head)) (firsts [] (map head_heard p.heads.items))) read.parts.said
      ∙ ap (λ (hs : List (List ℕ × ℕ)). map (λ head. draft_after nets (heard (lines bytes)).said (new_draft head)) (firsts [] hs)) read.parts.heads

  name_is : name ≡ name_from file_name (heard (lines bytes)).hostname
  name_is = read.named ∙ ap (name_from file_name) read.parts.hostname

  found_is : found_among p nets d name
      ≡ earliest (earliest (earliest (heard (lines bytes)).fault
      (first_second d.drafts.items (heard (lines bytes)).said)) (first_clash nets None d.drafts.items))
      (name_fault (name_from file_name (heard (lines bytes)).hostname))
  found_is =
      ap (λ (o : Option Fault). earliest
      (earliest (earliest o (first_second d.drafts.items (map said_of p.said.items)))
      (first_clash nets None d.drafts.items)) (name_fault name)) read.parts.fault
      ∙ ap (λ (all : List Said). earliest
      (earliest (earliest (heard (lines bytes)).fault (first_second d.drafts.items all))
      (first_clash nets None d.drafts.items)) (name_fault name)) read.parts.said
      ∙ ap (λ (n : List ℕ × ℕ). earliest
      (earliest (earliest (heard (lines bytes)).fault (first_second d.drafts.items (heard (lines bytes)).said))
      (first_clash nets None d.drafts.items)) (name_fault n)) name_is

  pub fault_is : found_among p nets d name ≡ config_fault file_name bytes
  fault_is = found_is ∙ total_law file_name bytes nets d.drafts.items nets_is drafts_is

  pub config_is : found_among p nets d name ≡ None →
      IsConfig file_name bytes (record {
        name = name.0;
        router_id = id_after None (map said_of p.said.items);
        interfaces = map (finished nets) d.drafts.items;
      })
  config_is none = subst (IsConfig file_name bytes) same (made_law file_name bytes nets d.drafts.items nets_is drafts_is (sym found_is ∙ none))
    where
      same : ◌≡◌ {A = Router} (record {
        name = (name_from file_name (heard (lines bytes)).hostname).0;
        router_id = id_after None (heard (lines bytes)).said;
        interfaces = map (finished nets) d.drafts.items;
      })
          (record {
            name = name.0;
            router_id = id_after None (map said_of p.said.items);
            interfaces = map (finished nets) d.drafts.items;
          })
      same =
          ap (λ (n : List ℕ × ℕ). record {
            name = n.0;
            router_id = id_after None (heard (lines bytes)).said;
            interfaces = map (finished nets) d.drafts.items;
          }) (sym name_is)
          ∙ ap (λ (all : List Said). record {
            name = name.0;
            router_id = id_after None all;
            interfaces = map (finished nets) d.drafts.items;
          }) (sym read.parts.said)

pub read_is : (file_name bytes : List ℕ) (p : Parts) (nets : List NetworkLine) (d : Drafts) (name : List ℕ × ℕ) (f : List ℕ) →
    IsParts (heard (lines bytes)) p → nets ≡ network_lines (map said_of p.said.items) →
    IsGathered nets (map head_heard p.heads.items) (map said_of p.said.items) d →
    name ≡ name_from f (option_map head_heard p.hostname) → f ≡ file_name → IsRead file_name bytes p nets d name
read_is file_name bytes p nets d name f parts found gathered named same_name = record {
  parts = parts;
  found = found;
  gathered = gathered;
  named = named ∙ ap (λ (n : List ℕ). name_from n (option_map head_heard p.hostname)) same_name;
}

-- the router of these lines and drafts, where no fault is found
pub config_as : (file_name bytes : List ℕ) (p : Parts) (nets : List NetworkLine) (d : Drafts) (name : List ℕ × ℕ) →
    IsRead file_name bytes p nets d name → (three : List SpokenLine) → three ≡ p.said.items →
    found_among p nets d name ≡ None →
    IsConfig file_name bytes (record {
      name = name.0;
      router_id = id_after None (map said_of three);
      interfaces = map (finished nets) d.drafts.items;
    })
config_as file_name bytes p nets d name read three same_three none =
    subst (λ (ls : List SpokenLine). IsConfig file_name bytes (record {
      name = name.0;
      router_id = id_after None (map said_of ls);
      interfaces = map (finished nets) d.drafts.items;
    })) (sym same_three) (config_is file_name bytes p nets d name read none)

-- routers of the same parts
pub same_router : (name : List ℕ) (id other_id : Option ℕ) (is others : List Interface) → id ≡ other_id → is ≡ others →
    ◌≡◌ {A = Router} (record { name = name; router_id = id; interfaces = is }) (record { name = name; router_id = other_id; interfaces = others })
same_router name id other_id is others id_is is_is =
    ap (λ (o : Option ℕ). record { name = name; router_id = o; interfaces = is }) id_is
    ∙ ap (λ (xs : List Interface). record { name = name; router_id = other_id; interfaces = xs }) is_is
