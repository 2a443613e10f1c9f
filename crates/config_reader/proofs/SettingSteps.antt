-- Settings with one more thing said.
use Rattle.std.proofs.Common.{◌≡◌, ℕ, List, [], ◌∷◌, ◌++◌, Bool, cond, true, false, refl, sym, ap, ◌∙◌, map, Option, Some, None, append-nil}
use Rattle.std.specs.Prelude.{unwrap_or, ◌||◌}
use Rattle.std.specs.List.{filter, filter_map, cons_option, list_any}
use Rattle.std.specs.Option.{option_or}
use Rattle.std.proofs.lemmas.List.{map-append}
use Rattle.std.proofs.lemmas.List.Elements.{filter-append, filter_map-append}
use Rattle.cost_base.specs.Lists.{last_of, first_of, same_bytes}
use Rattle.cost_base.proofs.ListLemmas.{last_of-push, option_or-none, first_of-filter_map-push}
use Rattle.text_lines.specs.Numbers.{Prefix}
use Rattle.interface_model.specs.declared.Interface.{Interface}
use Rattle.interface_model.specs.declared.Kind.{Kind}
use Rattle.interface_model.specs.declared.Kind.TheVariants.{Broadcast}
use Rattle.config_reader.specs.Statements.{Statement, CostIs, Network}
use Rattle.config_reader.specs.Settings.{Said, about, about_router, is_of, is_of_router, setting, interface_as_set, interface_address, networks_said, area_by_networks, address_said, area_set, cost_set, kind_said, passive_said, down_said, priority_said, network_said, passive_name_said, matches, address_part, length_part}

-- a thing that is said where a test passes
abbrev pub said_where : Bool → Statement → List Statement
said_where true statement = statement ∷ []
said_where false statement = []

-- what is said of an interface, with one more thing said
pub about-push : (all : List Said) (s : Said) (name : List ℕ) → about (all ++ s ∷ []) name ≡ about all name ++ said_where (is_of name s.block) s.statement
about-push all s name =
    ap (map (λ (t : Said). t.statement)) (filter-append (λ (t : Said). is_of name t.block) all (s ∷ []))
    ∙ map-append (λ (t : Said). t.statement) (filter (λ (t : Said). is_of name t.block) all) (filter (λ (t : Said). is_of name t.block) (s ∷ []))
    ∙ ap (λ rest. about all name ++ rest) (one (is_of name s.block) s)
  where
    one : (b : Bool) (t : Said) → map (λ (u : Said). u.statement) (cond b (t ∷ []) []) ≡ said_where b t.statement
    one true t = refl
    one false t = refl

-- what the router blocks say, with one more thing said
pub about_router-push : (all : List Said) (s : Said) → about_router (all ++ s ∷ []) ≡ about_router all ++ said_where (is_of_router s.block) s.statement
about_router-push all s =
    ap (map (λ (t : Said). t.statement)) (filter-append (λ (t : Said). is_of_router t.block) all (s ∷ []))
    ∙ map-append (λ (t : Said). t.statement) (filter (λ (t : Said). is_of_router t.block) all) (filter (λ (t : Said). is_of_router t.block) (s ∷ []))
    ∙ ap (λ rest. about_router all ++ rest) (one (is_of_router s.block) s)
  where
    one : (b : Bool) (t : Said) → map (λ (u : Said). u.statement) (cond b (t ∷ []) []) ≡ said_where b t.statement
    one true t = refl
    one false t = refl

-- a setting with one more statement: the last of its kind counts
pub setting-push : {X : Type 0} (pick : Statement → Option X) (own : List Statement) (s : Statement) →
    setting pick (own ++ s ∷ []) ≡ option_or (pick s) (setting pick own)
setting-push {X} pick own s = ap last_of (filter_map-append pick own (s ∷ [])) ∙ cases (pick s) (filter_map pick own)
  where
    cases : (o : Option X) (xs : List X) → last_of (xs ++ cons_option o []) ≡ option_or o (last_of xs)
    cases None xs = ap last_of (append-nil xs)
    cases (Some x) xs = last_of-push xs x

-- the area of an interface: of its own line, or of the `network` lines that match its address
abbrev pub area_from : Option ℕ → Option Prefix → List Network → Option ℕ
area_from own None networks = option_or own None
area_from own (Some address) networks = option_or own (first_of (map (λ n. n.area) (filter (matches address) networks)))

-- what is made of settings
abbrev pub Made : Type 0 → Type 0
Made X = Option Prefix → Option ℕ → Option ℕ → Option Kind → Option Bool → Option Bool → Option ℕ → X

-- what is made of the settings that some statements say
abbrev pub by_said : {X : Type 0} → Made X → List Statement → X
by_said {X} make own =
    make (first_of (filter_map address_said own)) (setting area_set own) (setting cost_set own) (setting kind_said own)
    (setting passive_said own) (setting down_said own) (setting priority_said own)

-- what is made of an address, and of the other settings with one more statement
abbrev pub by_one_more : {X : Type 0} → Made X → Option Prefix → List Statement → Statement → X
by_one_more {X} make address own s =
    make address (option_or (area_set s) (setting area_set own)) (option_or (cost_set s) (setting cost_set own))
    (option_or (kind_said s) (setting kind_said own)) (option_or (passive_said s) (setting passive_said own))
    (option_or (down_said s) (setting down_said own)) (option_or (priority_said s) (setting priority_said own))

pub by_said-push : {X : Type 0} (make : Made X) (own : List Statement) (s : Statement) →
    by_said make (own ++ s ∷ []) ≡ by_one_more make (option_or (first_of (filter_map address_said own)) (address_said s)) own s
by_said-push {X} make own s =
    cc (
      first_of-filter_map-push address_said own s,
      setting-push area_set own s,
      setting-push cost_set own s,
      setting-push kind_said own s,
      setting-push passive_said own s,
      setting-push down_said own s,
      setting-push priority_said own s,
    )

-- an interface by its settings and by what the router blocks say
unfoldable pub interface_by : List Statement → List ℕ → ℕ → Made Interface
interface_by router name line address area cost kind passive down priority = record {
  name = name;
  line = line;
  address = address_part address;
  length = length_part address;
  area = area_from area address (filter_map network_said router);
  cost = cost;
  kind = unwrap_or kind Broadcast;
  passive = unwrap_or passive false || list_any (same_bytes name) (filter_map passive_name_said router);
  down = unwrap_or down false;
  priority = unwrap_or priority 1;
}

-- an interface by what its blocks and the router blocks say
unfoldable pub interface_from : List Statement → List Statement → List ℕ → ℕ → Interface
interface_from own router name line = by_said (interface_by router name line) own

pub interface_of-from : (all : List Said) (name : List ℕ) (line : ℕ) →
    interface_as_set all name line ≡ interface_from (about all name) (about_router all) name line
unfolding interface_from interface_by
interface_of-from all name line =
    ap (λ (area : Option ℕ). record (interface_as_set all name line) { area = area })
    (same (setting area_set (about all name)) (interface_address all name))
  where
    same : (own : Option ℕ) (address : Option Prefix) → option_or own (area_by_networks all address) ≡ area_from own address (networks_said all)
    same own None = refl
    same own (Some p) = refl

-- an interface with one more statement in its blocks
pub interface_from-push : (own router : List Statement) (name : List ℕ) (line : ℕ) (s : Statement) →
    interface_from (own ++ s ∷ []) router name line
    ≡ by_one_more (interface_by router name line) (option_or (first_of (filter_map address_said own)) (address_said s)) own s
unfolding interface_from
interface_from-push own router name line s = by_said-push (interface_by router name line) own s

-- nothing said changes nothing
-- a cost line sets the cost, and leaves every other setting
pub interface_from-cost : (own router : List Statement) (name : List ℕ) (line n : ℕ) →
    interface_from (own ++ CostIs n ∷ []) router name line ≡ record (interface_from own router name line) { cost = Some n }
unfolding interface_from interface_by
interface_from-cost own router name line n = interface_from-push own router name line (CostIs n)
    ∙ ap by_address (option_or-none (first_of (filter_map address_said own))) ∙ set
  where
    by_address : Option Prefix → Interface
    by_address address =
        interface_by router name line address (setting area_set own) (Some n) (setting kind_said own)
        (setting passive_said own) (setting down_said own) (setting priority_said own)

    set : by_address (first_of (filter_map address_said own)) ≡ record (interface_from own router name line) { cost = Some n }
    set = refl

-- what is said in other blocks leaves an interface
pub interface_of-other : (all : List Said) (s : Said) (name : List ℕ) (line : ℕ) → is_of name s.block ≡ false →
    is_of_router s.block ≡ false → interface_as_set (all ++ s ∷ []) name line ≡ interface_as_set all name line
interface_of-other all s name line other no_router =
    let own : about (all ++ s ∷ []) name ≡ about all name = about-push all s name
    ∙ ap (λ b. about all name ++ said_where b s.statement) other ∙ append-nil (about all name) in
    let router : about_router (all ++ s ∷ []) ≡ about_router all = about_router-push all s
    ∙ ap (λ b. about_router all ++ said_where b s.statement) no_router ∙ append-nil (about_router all) in
    interface_of-from (all ++ s ∷ []) name line
    ∙ ap (λ said. interface_from said (about_router (all ++ s ∷ [])) name line) own
    ∙ ap (λ said. interface_from (about all name) said name line) router
    ∙ sym (interface_of-from all name line)

-- what is said in its own block is added to what is said of it
pub interface_of-own : (all : List Said) (s : Said) (name : List ℕ) (line : ℕ) → is_of name s.block ≡ true →
    is_of_router s.block ≡ false →
    interface_as_set (all ++ s ∷ []) name line ≡ interface_from (about all name ++ s.statement ∷ [])
    (about_router all) name line
interface_of-own all s name line here no_router =
    let own : about (all ++ s ∷ []) name ≡ about all name ++ s.statement ∷ [] = about-push all s name
    ∙ ap (λ b. about all name ++ said_where b s.statement) here in
    let router : about_router (all ++ s ∷ []) ≡ about_router all = about_router-push all s
    ∙ ap (λ b. about_router all ++ said_where b s.statement) no_router ∙ append-nil (about_router all) in
    interface_of-from (all ++ s ∷ []) name line
    ∙ ap (λ said. interface_from said (about_router (all ++ s ∷ [])) name line) own
    ∙ ap (λ said. interface_from (about all name ++ s.statement ∷ []) said name line) router

-- a cost line of an interface sets its cost alone
pub interface_of-cost : (all : List Said) (s : Said) (name : List ℕ) (line n : ℕ) → is_of name s.block ≡ true →
    is_of_router s.block ≡ false → s.statement ≡ CostIs n →
    interface_as_set (all ++ s ∷ []) name line ≡ record (interface_as_set all name line) { cost = Some n }
interface_of-cost all s name line n here no_router cost =
    interface_of-own all s name line here no_router
    ∙ ap (λ statement. interface_from (about all name ++ statement ∷ []) (about_router all) name line) cost
    ∙ interface_from-cost (about all name) (about_router all) name line n
    ∙ ap (λ (i : Interface). record i { cost = Some n }) (sym (interface_of-from all name line))
