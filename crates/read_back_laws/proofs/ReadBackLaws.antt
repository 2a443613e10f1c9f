-- Costs that are printed and read back give the network that was designed: the problem's graph at the costs.
use Rattle.std.proofs.Common.{◌≡◌, ℕ, suc, ◌+◌, ◌<◌, ◌≤◌, refl, sym, ◌∙◌, ap, subst, List, [], ◌∷◌, ◌++◌, length, map, get_or, arith, Bool, true, false, cond, ◌&&◌, Option, None, Some}
use Rattle.std.specs.Prelude.{All, Contains, slice_get, slice_index, slice_index_or, option_map, if◌then◌else◌}
use Rattle.std.proofs.lemmas.List.{length-map, get_or-map}
use Rattle.std.proofs.lemmas.List.Elements.{All-nil, All-cons, All-head, All-tail, All-map}
use Rattle.std.proofs.lemmas.Option.{slice_get-map, slice_get-get_or, slice_get_within, get_or_from_slice_get}
use Rattle.std.proofs.Math.Bool.{and-true}
use Rattle.std.proofs.lemmas.Bool.{false≢true}
use Rattle.cost_base.specs.Lists.{same_bytes}
use Rattle.text_lines.specs.Lines.{lines, ended, with_ends}
use Rattle.interface_model.specs.declared.Interface.{Interface}
use Rattle.interface_model.specs.Records.{Router}
use Rattle.config_reader.specs.Settings.{said, interface_as_set}
use Rattle.config_reader.specs.Configs.{config_of, first_heads}
use Rattle.config_reader.specs.Sections.{cost_after, config_section_lines, with_cost, IsSectionCost}
use Rattle.config_reader.specs.FaultList.{config_fault}
use Rattle.config_reader.proofs.SectionLaw.{config_of-section}
use Rattle.config_reader.proofs.SectionFaults.{section_accepted}
use Rattle.area_graph.specs.declared.Price.TheVariants.{Fixed}
use Rattle.lsdb_build.specs.declared.Linked.{Linked}
use Rattle.lsdb_build.specs.Graphs.{Database, IsAreaDatabase, graph_at}
use Rattle.lsdb_build.specs.Topology.{database_of, topology_fault}
use Rattle.lsdb_build.proofs.Recosted.{recosted_interface, recosted_router, recosted_from, recosted, recosted_database, recosted_fault}
use Rattle.lsdb_build.proofs.LinkOwners.{interface_names, IsLinkOf, links_of_routers}
use Rattle.design_problem.specs.declared.problem.VarName.{VarName}
use Rattle.design_problem.specs.declared.answer.CostLine.{CostLine}
use Rattle.design_problem.specs.Problems.{DesignProblem}
use Rattle.design_problem.specs.Answers.{CostLinesOf}
use Rattle.request_reader.specs.Asked.{Asked}
use Rattle.path_requests.specs.Meaning.{present_cost, names_from, range_of, is_free, variable_of}
use Rattle.cost_base.proofs.ListLemmas.{map-agree}
use Rattle.cost_base.proofs.ByteLemmas.{same_bytes-true, same_bytes-same, same_bytes-swap}
use Rattle.input_files.specs.Outcomes.{ConfigFile, Input, routers_of}
use Rattle.present_costs.specs.AtCosts.{graph_with}
use Rattle.read_back_laws.specs.ReadBack.{router_read_back, IsReadBack, IsReadBackFor, IsPrintable, StandElse, names_in, names_where, pairs_of, bytes_back, cost_named, router_with, routers_back, section, interface_with}
use Rattle.read_back_laws.specs.Laws.{HasSections, CostsReadBack}
use Rattle.input_files.proofs.ReadyInputs.{IsReadyInput, ready_is, ready_beside_present}
use Rattle.printed_rows.specs.PrintedCosts.{named_cost}
use Rattle.read_back_laws.proofs.PresentCosts.{cost_in, named_lines, costs_by_lines, recosted_graph_is}
use Rattle.read_back_laws.proofs.PrintedSections.{OneRun, PrintsSections}
use Rattle.read_back_laws.proofs.LineRuns.{one_run, IsNameOf, names_known, number_of}

-- a router's pairs set the costs that its lines set
pub pairs_cost : (router : List ℕ) (ls : List CostLine) (interface : List ℕ) (before : Option ℕ) →
    cost_after (pairs_of router ls) interface before ≡ cost_in ls router interface before
pairs_cost router [] interface before = refl
pairs_cost router (line ∷ ls) interface before =
    rw (same_bytes-swap line.router router, same_bytes-swap line.interface interface)
    (by_test (same_bytes router line.router) (λ cost. pairs_cost router ls interface cost))
  where
    by_test : (here : Bool) → ((cost : Option ℕ) → cost_after (pairs_of router ls) interface cost ≡ cost_in ls router interface cost) →
        cost_after (cond here ((line.interface, line.cost) ∷ pairs_of router ls) (pairs_of router ls)) interface before
        ≡ cost_in ls router interface (cond (here && same_bytes interface line.interface) (Some line.cost) before)
    by_test true more = more (cond (same_bytes interface line.interface) (Some line.cost) before)
    by_test false more = more before

-- what holds of a router's lines holds of its pairs
pairs_all : (P : List ℕ × ℕ → Type 0) (router : List ℕ) (ls : List CostLine) →
    All (λ line. same_bytes router line.router ≡ true → P (line.interface, line.cost)) ls → All P (pairs_of router ls)
pairs_all P router [] each = All-nil P
pairs_all P router (line ∷ ls) each =
    by_test (same_bytes router line.router) refl
    (pairs_all P router ls (All-tail (λ (l : CostLine). same_bytes router l.router ≡ true → P (l.interface, l.cost))
    line ls each))
  where
    by_test : (b : Bool) → same_bytes router line.router ≡ b → All P (pairs_of router ls) →
        All P (cond b ((line.interface, line.cost) ∷ pairs_of router ls) (pairs_of router ls))
    by_test true same more =
        All-cons P (line.interface, line.cost) (pairs_of router ls)
        (All-head (λ (l : CostLine). same_bytes router l.router ≡ true → P (l.interface, l.cost)) line ls
        each same) more
    by_test false other more = more

-- the interfaces of a configuration have the names of its heads
heads_named : (file_name bytes name : List ℕ) → Contains (interface_names (config_of file_name bytes)) name →
    Contains (map (λ head. head.0) (first_heads (lines bytes))) name
heads_named file_name bytes name held =
    subst (λ (names : List (List ℕ)). Contains names name) (same (first_heads (lines bytes))) held
  where
    same : (heads : List (List ℕ × ℕ)) → map (λ i. i.name) (map (λ head. interface_as_set (said (lines bytes)) head.0 head.1) heads) ≡
        map (λ head. head.0) heads
    same [] = refl
    same (head ∷ heads) = ap (λ (names : List (List ℕ)). head.0 ∷ names) (same heads)

-- routers with costs by pairs and by lines are one
interfaces_same : (costs : List (List ℕ × ℕ)) (c : List ℕ → Option ℕ → Option ℕ) (interfaces : List Interface) →
    ((name : List ℕ) (before : Option ℕ) → cost_after costs name before ≡ c name before) →
    map (with_cost costs) interfaces ≡ map (recosted_interface c) interfaces
interfaces_same costs c [] agree = refl
interfaces_same costs c (i ∷ interfaces) agree =
    let head : with_cost costs i ≡ recosted_interface c i = ap (λ (o : Option ℕ). record i { cost = o }) (agree i.name i.cost) in
    cc (head, interfaces_same costs c interfaces agree)

-- the name of the configuration at a place
pub named_at : (d : Database) (files : List ConfigFile) (k : ℕ) (router : Router) →
    d.routers ≡ map (λ r. r.name) (routers_of files) → slice_get (routers_of files) k ≡ Some router →
    slice_index_or d.routers k [] ≡ router.name
named_at d files k router names there =
    let within : k < length (routers_of files) = slice_get_within (routers_of files) k router there in
    ap (λ (ns : List (List ℕ)). slice_index_or ns k []) names
    ∙ get_or-map (λ (r : Router). r.name) (routers_of files) k router [] within
    ∙ ap (λ (r : Router). r.name) (get_or_from_slice_get (routers_of files) k router router there)

router_in : (d : Database) (files : List ConfigFile) (k : ℕ) (router : Router) →
    d.routers ≡ map (λ r. r.name) (routers_of files) → slice_get (routers_of files) k ≡ Some router →
    k < length d.routers
router_in d files k router names there =
    let within : k < length (routers_of files) = slice_get_within (routers_of files) k router there in
    let counted = length-map {B = List ℕ} (routers_of files) (λ (r : Router). r.name) in
    let same = ap (λ (ns : List (List ℕ)). length ns) names in
    omega arith

-- the routers that are read back, one after another
routers_from : (F : ConfigFile → Router) (c : ℕ → List ℕ → Option ℕ → Option ℕ) (n : ℕ) (files : List ConfigFile) →
    ((k : ℕ) (file : ConfigFile) → slice_get files k ≡ Some file →
    F file ≡ recosted_router (c (n + k)) (config_of file.name file.bytes)) →
    map F files ≡ recosted_from c n (routers_of files)
routers_from F c n [] each = refl
routers_from F c n (file ∷ files) each =
    let here : n + 0 ≡ n = omega arith in
    let head : F file ≡ recosted_router (c n) (config_of file.name file.bytes) = each 0 file refl
    ∙ ap (λ k. recosted_router (c k) (config_of file.name file.bytes)) here in
    let rest = routers_from F c (n + 1) files
    (λ k other there. let next : n + suc k ≡ n + 1 + k = omega arith in each (suc k) other there
    ∙ ap (λ m. recosted_router (c m) (config_of other.name other.bytes)) next) in
    cc

-- the line of a known name at a cost that may be printed is a line of its router's section
section_cost : (d : Database) (files : List ConfigFile) (w : List ℕ) (k : ℕ) (file : ConfigFile) (name : VarName) →
    IsAreaDatabase d → d.routers ≡ map (λ r. r.name) (routers_of files) → slice_get files k ≡ Some file →
    IsNameOf d.routers (routers_of files) name → (1 ≤ slice_index w name.var) × (slice_index w name.var ≤ 65535) →
    same_bytes (config_of file.name file.bytes).name name.router ≡ true → IsSectionCost (lines file.bytes) (name.interface, slice_index w name.var)
section_cost d files w k file name base names there known cost same =
    let config : slice_get (routers_of files) k ≡ Some (config_of file.name file.bytes) =
    slice_get-map (λ (f : ConfigFile). config_of f.name f.bytes) files k
    ∙ ap (option_map (λ (f : ConfigFile). config_of f.name f.bytes)) there in
    let stands : slice_index_or d.routers k [] ≡ (config_of file.name file.bytes).name = named_at d files k (config_of file.name file.bytes) names config in
    let number : k ≡ known.number
    = number_of d k known.number base.different (router_in d files k (config_of file.name file.bytes) names config) known.within
    (same_bytes-same (slice_index_or d.routers k []) (slice_index_or d.routers known.number [])
    (stands ∙ same_bytes-true (config_of file.name file.bytes).name name.router same ∙ sym known.stands)) in
    let router : known.router ≡ config_of file.name file.bytes = one (sym known.there ∙ ap (slice_get (routers_of files)) (sym number) ∙ config) in
    record {
      word = known.interface_word;
      headed = heads_named file.name file.bytes name.interface (subst (λ (r : Router). Contains (interface_names r) name.interface) router known.held);
      from = cost.0;
      to = cost.1;
    }
  where
    one : {x y : Router} → Some x ≡ Some y → x ≡ y
    one e = cc

-- what is known of lines of costs that name free interfaces of a database, and of a text with their sections
record PrintsCosts (chosen : ℕ → Linked → Bool) (d : Database) (asked : Asked) (files : List ConfigFile) (bytes : List ℕ) (ls : List CostLine) (w : List ℕ) :
    Type 0 where
  base : IsAreaDatabase d
  names : d.routers ≡ map (λ r. r.name) (routers_of files)
  known : All (IsNameOf d.routers (routers_of files)) (names_where chosen asked d 0 d.links)
  within : All (λ name. (1 ≤ slice_index w name.var) × (slice_index w name.var ≤ 65535)) (names_where chosen asked d 0 d.links)
  are : ls ≡ map (named_cost w) (names_where chosen asked d 0 d.links)
  prints : PrintsSections bytes ls

-- the section of a configuration
record IsSectionOf (routers : List (List ℕ)) (bytes : List ℕ) (ls : List CostLine) (k : ℕ) (file : ConfigFile) : Type 0 where
  stands : slice_index_or routers k [] ≡ (config_of file.name file.bytes).name
  section_is : section (config_of file.name file.bytes).name (lines bytes) ≡ config_section_lines (pairs_of (config_of file.name file.bytes).name ls)
  fits : All (IsSectionCost (lines file.bytes)) (pairs_of (config_of file.name file.bytes).name ls)

section_of : (chosen : ℕ → Linked → Bool) (d : Database) (asked : Asked) (files : List ConfigFile) (bytes : List ℕ) (ls : List CostLine) (w : List ℕ)
    (k : ℕ) (file : ConfigFile) → PrintsCosts chosen d asked files bytes ls w → slice_get files k ≡ Some file → IsSectionOf d.routers bytes ls k file
section_of chosen d asked files bytes ls w k file printed there =
    let config : slice_get (routers_of files) k ≡ Some (config_of file.name file.bytes) =
    slice_get-map (λ (f : ConfigFile). config_of f.name f.bytes) files k
    ∙ ap (option_map (λ (f : ConfigFile). config_of f.name f.bytes)) there in
    let stands : slice_index_or d.routers k [] ≡ (config_of file.name file.bytes).name = named_at d files k (config_of file.name file.bytes) printed.names
    config in
    let inside = router_in d files k (config_of file.name file.bytes) printed.names config in
    let run : OneRun (config_of file.name file.bytes).name ls
    = subst (λ (them : List CostLine). OneRun (config_of file.name file.bytes).name them) (sym printed.are)
    (subst (λ (r : List ℕ). OneRun r (map (named_cost w) (names_where chosen asked d 0 d.links))) stands
    (one_run chosen asked d w k 0 d.links printed.base.different inside (λ j link link_in. (printed.base.each_link j link link_in).router)
    printed.base.in_order)) in
    record {
      stands = stands;
      section_is = printed.prints (config_of file.name file.bytes).name run;
      fits = pairs_all (IsSectionCost (lines file.bytes)) (config_of file.name file.bytes).name ls
          (subst (λ (them : List CostLine). All (λ line. same_bytes (config_of file.name file.bytes).name line.router ≡ true →
          IsSectionCost (lines file.bytes) (line.interface, line.cost)) them) (sym printed.are)
          (All-map (λ (line : CostLine). same_bytes (config_of file.name file.bytes).name line.router ≡ true →
          IsSectionCost (lines file.bytes) (line.interface, line.cost)) (named_cost w) (names_where chosen asked d 0 d.links)
          (λ j name name_in same. section_cost d files w k file (get_or (names_where chosen asked d 0 d.links) j name) printed.base printed.names
          there (printed.known j name name_in) (printed.within j name name_in) same)));
    }

-- a configuration with its printed section is accepted where it was
accepted_back : (routers : List (List ℕ)) (bytes : List ℕ) (ls : List CostLine) (k : ℕ) (file : ConfigFile) →
    IsSectionOf routers bytes ls k file → config_fault file.name file.bytes ≡ None → config_fault file.name (bytes_back bytes file) ≡ None
accepted_back routers bytes ls k file of accepted =
    ap (λ (section_lines_are : List (List ℕ)). config_fault file.name (ended file.bytes ++ with_ends section_lines_are)) of.section_is
    ∙ section_accepted file.name file.bytes (pairs_of (config_of file.name file.bytes).name ls) of.fits accepted

-- a configuration with its printed section has the costs of its lines
router_back_is : (routers : List (List ℕ)) (bytes : List ℕ) (ls : List CostLine) (k : ℕ) (file : ConfigFile) →
    IsSectionOf routers bytes ls k file →
    router_read_back bytes file ≡ recosted_router (costs_by_lines ls routers k) (config_of file.name file.bytes)
router_back_is routers bytes ls k file of =
    let pairs : List (List ℕ × ℕ) = pairs_of (config_of file.name file.bytes).name ls in
    ap (λ (section_lines_are : List (List ℕ)). config_of file.name (ended file.bytes ++ with_ends section_lines_are)) of.section_is
    ∙ config_of-section file.name file.bytes pairs of.fits
    ∙ ap (λ (is : List Interface). record (config_of file.name file.bytes) { interfaces = is })
    (interfaces_same pairs (costs_by_lines ls routers k) (config_of file.name file.bytes).interfaces
    (λ name before. pairs_cost (config_of file.name file.bytes).name ls name before
    ∙ ap (λ (r : List ℕ). cost_in ls r name before) (sym of.stands)))

-- costs by lines are costs by names
cost_named_is : (w : List ℕ) (names : List VarName) (router interface : List ℕ) (before : Option ℕ) →
    cost_in (map (named_cost w) names) router interface before ≡ cost_named w names router interface before
cost_named_is w [] router interface before = refl
cost_named_is w (name ∷ names) router interface before =
    cost_named_is w names router interface
    (if same_bytes name.router router && same_bytes name.interface interface then Some (slice_index w name.var) else before)

router_with_is : (w : List ℕ) (names : List VarName) (ls : List CostLine) (routers : List (List ℕ)) (k : ℕ) (r : Router) →
    ls ≡ map (named_cost w) names → slice_index_or routers k [] ≡ r.name →
    recosted_router (costs_by_lines ls routers k) r ≡ router_with w names r
router_with_is w names ls routers k r are stands =
    ap (λ (them : List CostLine). recosted_router (costs_by_lines them routers k) r) are
    ∙ ap (λ (name : List ℕ). recosted_router (cost_in (map (named_cost w) names) name) r) stands
    ∙ ap (λ (is : List Interface). record r { interfaces = is })
    (map-agree (recosted_interface (cost_in (map (named_cost w) names) r.name)) (interface_with w names r.name)
    r.interfaces
    (λ (i : Interface). ap (λ (o : Option ℕ). record i { cost = o }) (cost_named_is w names r.name i.name i.cost)))

-- the routers that are read back
routers_back_are : (chosen : ℕ → Linked → Bool) (d : Database) (asked : Asked) (files : List ConfigFile) (bytes : List ℕ) (ls : List CostLine) (w : List ℕ) →
    PrintsCosts chosen d asked files bytes ls w → routers_back bytes files ≡ recosted_from (costs_by_lines ls d.routers) 0 (routers_of files)
routers_back_are chosen d asked files bytes ls w printed =
    let c : ℕ → List ℕ → Option ℕ → Option ℕ = costs_by_lines ls d.routers in
    routers_from (router_read_back bytes) c 0 files
    (λ k file there. let place : k ≡ 0 + k = omega arith in
    router_back_is d.routers bytes ls k file (section_of chosen d asked files bytes ls w k file printed there)
    ∙ ap (λ m. recosted_router (c m) (config_of file.name file.bytes)) place)

-- Costs whose sections are printed are read back, where all other free interfaces stand at them: no configuration with
-- its section has a fault, nor their topology, and the graph is the problem's at the costs.
pub read_back_for : (chosen : ℕ → Linked → Bool) (d : Input) (bytes : List ℕ) (ls : List CostLine) (w : List ℕ) → IsReadyInput d →
    PrintsSections bytes ls → ls ≡ map (named_cost w) (names_in chosen d) → StandElse chosen d.asked d.database w →
    All (IsPrintable w) (names_in chosen d) → IsReadBackFor d (names_in chosen d) bytes w
read_back_for chosen d bytes ls w ready prints are stand within = record {
  accepted = λ k file inside.
      let here : ConfigFile = get_or d.files k file in
      accepted_back d.database.routers bytes ls k here
      (section_of chosen d.database d.asked d.files bytes ls w k here printed (slice_get-get_or d.files k file inside)) (ready.accepted k file inside);
  routers = λ k file inside.
      let here : ConfigFile = get_or d.files k file in
      let of = section_of chosen d.database d.asked d.files bytes ls w k here printed (slice_get-get_or d.files k file inside) in
      router_back_is d.database.routers bytes ls k here of
      ∙ router_with_is w (names_in chosen d) ls d.database.routers k (config_of here.name here.bytes) are of.stands;
  faultless =
      ap (topology_fault d.asked.area) back
      ∙ recosted_fault c d.asked.area (routers_of d.files)
      ∙ ready.faultless;
  graph =
      ap (λ (b : Database). graph_at b (map (λ link. Fixed (present_cost d.asked link)) b.links))
      (ap (database_of d.asked.area) back ∙ recosted_database c d.asked.area (routers_of d.files) ∙ ap (recosted c) (sym ready.database_is))
      ∙ recosted_graph_is chosen d.asked d.database w ls ready.base stand are
      ∙ ap (λ (p : DesignProblem). graph_with w p.graph) (sym ready.problem_is);
}
  where
    c : ℕ → List ℕ → Option ℕ → Option ℕ
    c = costs_by_lines ls d.database.routers

    printed : PrintsCosts chosen d.database d.asked d.files bytes ls w
    printed = record {
      base = ready.base;
      names = ap (λ (b : Database). b.routers) ready.database_is;
      known = names_known chosen d.asked d.database (routers_of d.files) 0 d.database.links ready.base ready.base.each_link
          (subst (λ (b : Database). All (IsLinkOf (routers_of d.files)) b.links) (sym ready.database_is) (links_of_routers d.asked.area (routers_of d.files)));
      within = within;
      are = are;
      prints = prints;
    }

    back : routers_back bytes d.files ≡ recosted_from c 0 (routers_of d.files)
    back = routers_back_are chosen d.database d.asked d.files bytes ls w printed

-- all free interfaces, and no others
abbrev every : ℕ → Linked → Bool
every l link = true

every_name : (a : Asked) (d : Database) (l : ℕ) (links : List Linked) → names_where every a d l links ≡ names_from a d l links
every_name a d l [] = refl
every_name a d l (link ∷ links) =
    ap (λ (free : Bool). (if free then record { router = slice_index_or d.routers link.router []; interface = link.interface; var = variable_of a d l } ∷ []
    else []) ++ names_where every a d (l + 1) links) (and-true (is_free (range_of a d link)))
    ∙ ap (λ (names : List VarName). (if is_free (range_of a d link) then
    record { router = slice_index_or d.routers link.router []; interface = link.interface; var = variable_of a d l } ∷ [] else []) ++ names)
    (every_name a d (l + 1) links)

-- so costs of all free interfaces are
pub read_back : (d : Input) (bytes : List ℕ) (ls : List CostLine) (w : List ℕ) → IsReadyInput d → PrintsSections bytes ls →
    CostLinesOf w d.problem.vars ls → All (λ name. (1 ≤ slice_index w name.var) × (slice_index w name.var ≤ 65535)) d.problem.vars →
    IsReadBack d bytes w
read_back d bytes ls w ready prints names within =
    subst (λ (them : List VarName). IsReadBackFor d them bytes w) (sym all)
    (read_back_for every d bytes ls w ready prints
    (named_lines w d.problem.vars ls names ∙ ap (map (named_cost w)) all)
    (λ l link there free unchosen. absurd (false≢true (sym unchosen)))
    (subst (All (IsPrintable w)) all within))
  where
    all : d.problem.vars ≡ names_in every d
    all = ap (λ (p : DesignProblem). p.vars) ready.problem_is ∙ sym (every_name d.asked d.database 0 d.database.links)

-- costs whose sections are a text's are read back
reads_back : (chosen : ℕ → Linked → Bool) (d : Input) (text w : List ℕ) → IsReadyInput d → HasSections chosen d text w →
    StandElse chosen d.asked d.database w → All (IsPrintable w) (names_in chosen d) → IsReadBackFor d (names_in chosen d) text w
reads_back chosen d text w ready has stand within =
    read_back_for chosen d text (map (named_cost w) (names_in chosen d)) w ready (λ router run. has router) refl stand within

pub costs_read_back : CostsReadBack
costs_read_back = (
  λ chosen names d came text w is. reads_back chosen d text w (ready_is names d came is),
  λ chosen names d came text w is. reads_back chosen d text w (ready_beside_present names d came is),
)
