-- The records of a configuration without a fault, from what the code gathers.
use Rattle.std.proofs.Common.{◌≡◌, ℕ, ◌+◌, List, [], ◌∷◌, ◌++◌, length, map, Bool, cond, true, false, ◌&&◌, refl, sym, ap, ◌∙◌, subst, Option, Some, None}
use Rattle.std.specs.Prelude.{nat_lt}
use Rattle.std.specs.List.{filter, filter_map, list_all, cons_option}
use Rattle.std.specs.Option.{option_or}
use Rattle.std.proofs.lemmas.Bool.{false≢true, and_parts}
use Rattle.std.proofs.lemmas.List.Folds.{list_all-append}
use Rattle.std.proofs.lemmas.Simd.{map-map}
use Rattle.cost_base.specs.Lists.{first_of, last_of}
use Rattle.cost_base.proofs.ListLemmas.{map-agree, option_or-none, option_or-parts}
use Rattle.text_lines.specs.Lines.{lines}
use Rattle.text_lines.specs.Numbers.{Prefix}
use Rattle.interface_model.specs.declared.Interface.{Interface}
use Rattle.interface_model.specs.Records.{Router, IsRouter}
use Rattle.config_reader.specs.declared.fault.ConfigFault.{ConfigFault}
use Rattle.config_reader.specs.declared.fault.ConfigFault.TheVariants.{LongLine, BadName}
use Rattle.config_reader.specs.declared.drafts.Draft.{Draft}
use Rattle.config_reader.specs.declared.networks.NetworkLine.{NetworkLine}
use Rattle.config_reader.specs.Statements.{Statement, AddressIs, AreaIs, CostIs, KindIs, PriorityIs, PassiveIs, DownIs, RouterIdIs, NetworkIs, PassiveInterfaceIs, Refused, Unread, Network, Block, OfInterface, OfRouter, OfOther}
use Rattle.config_reader.specs.Settings.{Said, said, about, about_router, setting, area_set, router_id_said, interface_address, matches, interface_as_set, area_by_networks}
use Rattle.config_reader.specs.Configs.{first_heads, firsts, config_of}
use Rattle.config_reader.specs.RouterNames.{router_name_said, is_router_name}
use Rattle.config_reader.specs.FaultList.{Fault, at_line, long_line, refused, read_line, read_lines, is_short, config_fault}
use Rattle.config_reader.specs.Hearing.{heard, sets}
use Rattle.config_reader.specs.Drafting.{network_line, network_lines, covers, area_among, area_for, finished, new_draft, draft_after, first_second, first_clash, earliest, router_id_set, id_after, name_from, name_fault}
use Rattle.config_reader.proofs.FirstFaults.{first_filtered}
use Rattle.config_reader.proofs.DraftLaws.{draft_of, plain, plain_by, drafted}
use Rattle.config_reader.proofs.BlockFacts.{by_lines}
use Rattle.config_reader.proofs.HeardSteps.{fault-push}
use Rattle.config_reader.proofs.SaidSteps.{said_after}
use Rattle.config_reader.proofs.RouterFacts.{router_kept}
use Rattle.config_reader.proofs.WholeConfigs.{net_of, nets_law, whole_parts}
use Rattle.config_reader.proofs.WholeFaults.{faults_law, named_law, file_drafts}

-- areas by `network` lines
among_law : (p : Prefix) (ws : List NetworkLine) → area_among p ws ≡ first_of (map (λ n. n.area) (filter (matches p) (map net_of ws)))
among_law p ws = ap first_of (go ws)
  where
    go : (vs : List NetworkLine) → map (λ w. w.area) (filter (covers p) vs) ≡ map (λ n. n.area) (filter (matches p) (map net_of vs))
    go [] = refl
    go (v ∷ vs) = cases (covers p v) (go vs)
      where
        cases : (b : Bool) → map (λ w. w.area) (filter (covers p) vs) ≡ map (λ n. n.area) (filter (matches p) (map net_of vs)) →
            map (λ (w : NetworkLine). w.area) (cond b (v ∷ filter (covers p) vs) (filter (covers p) vs))
            ≡ map (λ (n : Network). n.area)
            (cond b (net_of v ∷ filter (matches p) (map net_of vs)) (filter (matches p) (map net_of vs)))
        cases true more = ap (λ areas. v.area ∷ areas) more
        cases false more = more

area_law : (all : List Said) (o : Option Prefix) → area_for (network_lines all) o ≡ area_by_networks all o
area_law all None = refl
area_law all (Some p) = among_law p (network_lines all) ∙ ap (λ ns. first_of (map (λ n. n.area) (filter (matches p) ns))) (sym (nets_law all))

-- the interface of a draft is that of the lines
finish_law : (all : List Said) (head : List ℕ × ℕ) → finished (network_lines all) (draft_of (network_lines all) all head) ≡ interface_as_set all head.0 head.1
unfolding plain plain_by
finish_law all head =
    ap (λ (a : Option ℕ). record (interface_as_set all head.0 head.1) { area = option_or (setting area_set (about all head.0)) a })
    (ap (area_for (network_lines all)) (whole_parts (interface_address all head.0)) ∙ area_law all (interface_address all head.0))

-- router ids
ids : List Said → List ℕ
ids all = filter_map router_id_said (about_router all)

last_some : (y : ℕ) (ys : List ℕ) (o : Option ℕ) → option_or (last_of (y ∷ ys)) o ≡ last_of (y ∷ ys)
last_some y [] o = refl
last_some y (z ∷ zs) o = last_some z zs o

last_cons : (c : Option ℕ) (xs : List ℕ) (o : Option ℕ) → option_or (last_of (cons_option c xs)) o ≡ option_or (last_of xs) (option_or c o)
last_cons None xs o = refl
last_cons (Some x) [] o = refl
last_cons (Some x) (y ∷ ys) o = last_some y ys o ∙ sym (last_some y ys (Some x))

ids_cons : (n : ℕ) (b : Block) (s : Statement) (all : List Said) →
    filter_map router_id_said (about_router (record { number = n; block = b; statement = s } ∷ all))
    ≡ cons_option (router_id_set b s) (filter_map router_id_said (about_router all))
ids_cons n OfRouter (RouterIdIs id) all = refl
ids_cons n OfRouter (AddressIs p) all = refl
ids_cons n OfRouter (AreaIs a) all = refl
ids_cons n OfRouter (CostIs c) all = refl
ids_cons n OfRouter (KindIs k) all = refl
ids_cons n OfRouter (PriorityIs c) all = refl
ids_cons n OfRouter (PassiveIs b) all = refl
ids_cons n OfRouter (DownIs b) all = refl
ids_cons n OfRouter (NetworkIs w) all = refl
ids_cons n OfRouter (PassiveInterfaceIs name) all = refl
ids_cons n OfRouter (Refused fault) all = refl
ids_cons n OfRouter Unread all = refl
ids_cons n (OfInterface name) s all = refl
ids_cons n OfOther s all = refl

unset_id : (b : Block) (s : Statement) → sets s ≡ false → router_id_set b s ≡ None
unset_id OfRouter (RouterIdIs id) quiet = absurd (false≢true (sym quiet))
unset_id _ _ quiet = refl

ids_along : (all : List Said) (o : Option ℕ) →
    id_after o (filter (λ s. sets s.statement) all)
    ≡ option_or (last_of (filter_map router_id_said (about_router all))) o
ids_along [] o = refl
ids_along (s ∷ all) o = cases (sets s.statement) refl (λ p. ids_along all p)
    ∙ sym (last_cons (router_id_set s.block s.statement) (filter_map router_id_said (about_router all)) o)
    ∙ ap (λ xs. option_or (last_of xs) o) (sym (ids_cons s.number s.block s.statement all))
  where
    cases : (b : Bool) → sets s.statement ≡ b →
        ((p : Option ℕ) → id_after p (filter (λ t. sets t.statement) all)
        ≡ option_or (last_of (filter_map router_id_said (about_router all))) p) →
        id_after o (cond b (s ∷ filter (λ t. sets t.statement) all) (filter (λ t. sets t.statement) all))
        ≡ option_or (last_of (filter_map router_id_said (about_router all)))
        (option_or (router_id_set s.block s.statement) o)
    cases true e more = more (option_or (router_id_set s.block s.statement) o)
    cases false e more = more o ∙ ap (λ c. option_or (last_of (filter_map router_id_said (about_router all)))
        (option_or c o)) (sym (unset_id s.block s.statement e))

ids_law : (all : List Said) → id_after None (filter (λ s. sets s.statement) all) ≡ setting router_id_said (about_router all)
ids_law all = ids_along all None ∙ option_or-none (setting router_id_said (about_router all))

-- no fault of its own on any line: no line is too long
earliest_parts : (o p : Option Fault) → earliest o p ≡ None → (o ≡ None) × (p ≡ None)
earliest_parts None p e = (refl, e)
earliest_parts (Some x) None e = absurd (cc)
earliest_parts (Some x) (Some y) e = absurd (cases (nat_lt y.line x.line) e)
  where
    cases : (b : Bool) → cond b (Some y) (Some x) ≡ None → ⊥
    cases true h = let g : Some y ≡ None = h in absurd (cc)
    cases false h = let g : Some x ≡ None = h in absurd (cc)

all_short : (file : List (List ℕ)) → (heard file).fault ≡ None → list_all is_short file ≡ true
all_short = by_lines (λ file. (heard file).fault ≡ None → list_all is_short file ≡ true) (λ e. refl) step
  where
    step : (file : List (List ℕ)) (line : List ℕ) → ((heard file).fault ≡ None → list_all is_short file ≡ true) →
        (heard (file ++ line ∷ [])).fault ≡ None → list_all is_short (file ++ line ∷ []) ≡ true
    step file line before none =
        list_all-append is_short file (line ∷ [])
        ∙ both (before parts.0) (short (refused (said_after (read_lines file) (read_line line)).statement)
        (is_short line) refl parts.1)
      where
        parts : ((heard file).fault ≡ None)
            × (at_line (length file + 1)
            (option_or (long_line line) (refused (said_after (read_lines file) (read_line line)).statement)) ≡ None)
        parts = option_or-parts (heard file).fault
            (at_line (length file + 1)
            (option_or (long_line line) (refused (said_after (read_lines file) (read_line line)).statement)))
            (sym (fault-push file line) ∙ none)

        both : list_all is_short file ≡ true → is_short line ≡ true → (list_all is_short file && (is_short line && true)) ≡ true
        both a b = rw (a, b)

        short : (o : Option ConfigFault) (b : Bool) → is_short line ≡ b →
            at_line (length file + 1) (option_or (cond b None (Some LongLine)) o) ≡ None → is_short line ≡ true
        short o true e h = e
        short o false e h = let g : Some (record { line = length file + 1; fault = LongLine }) ≡ None = h in absurd (cc)

read_same : (file : List (List ℕ)) → list_all is_short file ≡ true → read_lines file ≡ file
read_same [] short = refl
read_same (line ∷ file) short =
    let parts = and_parts (is_short line) (list_all is_short file) short in
    cc (ap (λ b. cond b line []) parts.0, read_same file parts.1)

named_good : (name : List ℕ × ℕ) → name_fault name ≡ None → is_router_name name.0 ≡ true
named_good name none = cases (is_router_name name.0) refl none
  where
    cases : (b : Bool) → is_router_name name.0 ≡ b →
        ◌≡◌ {A = Option Fault} (cond b None (Some (record { line = name.1; fault = BadName }))) None →
        is_router_name name.0 ≡ true
    cases true e h = e
    cases false e h = absurd (cc)

-- what the code makes of the lines
abbrev pub records_of : List ℕ → List (List ℕ) → Router
records_of file_name file = record {
  name = (router_name_said file_name file).0;
  router_id = setting router_id_said (about_router (said file));
  interfaces = map (λ head. interface_as_set (said file) head.0 head.1) (first_heads file);
}

unset_net : (n : ℕ) (b : Block) (s : Statement) → sets s ≡ false → network_line n b s ≡ None
unset_net n OfRouter (NetworkIs w) quiet = absurd (false≢true (sym quiet))
unset_net n _ _ quiet = refl

pub nets_same : (all : List Said) → network_lines (filter (λ s. sets s.statement) all) ≡ network_lines all
nets_same all = first_filtered (λ (s : Said). sets s.statement)
    (λ (s : Said). network_line s.number s.block s.statement) all
    (λ s quiet. unset_net s.number s.block s.statement quiet)

-- the drafts that are gathered are those of the file
pub drafts_same : (file : List (List ℕ)) (nets : List NetworkLine) (drafts : List Draft) →
    nets ≡ network_lines (heard file).said →
    drafts ≡ map (λ head. draft_after nets (heard file).said (new_draft head)) (firsts [] (heard file).heads) →
    (nets ≡ network_lines (said (read_lines file))) × (drafts ≡ file_drafts file)
drafts_same file nets drafts found made =
    let whole : nets ≡ network_lines (said (read_lines file)) = found ∙ nets_same (said (read_lines file)) in (
      whole,
      made ∙ ap (λ ns. map (λ head. draft_after ns (heard file).said (new_draft head)) (first_heads (read_lines file))) whole
          ∙ map-agree (λ head. draft_after (network_lines (said (read_lines file))) (heard file).said (new_draft head))
          (draft_of (network_lines (said (read_lines file))) (said (read_lines file)))
          (first_heads (read_lines file))
          (λ head. drafted (network_lines (said (read_lines file))) (said (read_lines file)) head),
    )

-- the fault that the code finds
pub total_law : (file_name bytes : List ℕ) (nets : List NetworkLine) (drafts : List Draft) →
    nets ≡ network_lines (heard (lines bytes)).said →
    drafts ≡ map (λ head. draft_after nets (heard (lines bytes)).said (new_draft head))
    (firsts [] (heard (lines bytes)).heads) →
    earliest (earliest (earliest (heard (lines bytes)).fault (first_second drafts (heard (lines bytes)).said))
    (first_clash nets None drafts)) (name_fault (name_from file_name (heard (lines bytes)).hostname))
    ≡ config_fault file_name bytes
total_law file_name bytes nets drafts found made =
    let same = drafts_same (lines bytes) nets drafts found made in
    ap (λ ns. earliest (earliest (earliest (heard (lines bytes)).fault (first_second drafts (heard (lines bytes)).said))
    (first_clash ns None drafts)) (name_fault (name_from file_name (heard (lines bytes)).hostname))) same.0
    ∙ ap (λ ds. earliest (earliest (earliest (heard (lines bytes)).fault (first_second ds (heard (lines bytes)).said))
    (first_clash (network_lines (said (read_lines (lines bytes)))) None ds))
    (name_fault (name_from file_name (heard (lines bytes)).hostname))) same.1
    ∙ faults_law file_name (lines bytes)

pub record IsConfig (file_name bytes : List ℕ) (r : Router) : Type 0 where
  pub same : r ≡ config_of file_name bytes
  pub kept : IsRouter r

-- the records that the code makes, where there is no fault
pub made_law : (file_name bytes : List ℕ) (nets : List NetworkLine) (drafts : List Draft) →
    nets ≡ network_lines (heard (lines bytes)).said →
    drafts ≡ map (λ head. draft_after nets (heard (lines bytes)).said (new_draft head))
    (firsts [] (heard (lines bytes)).heads) →
    earliest (earliest (earliest (heard (lines bytes)).fault (first_second drafts (heard (lines bytes)).said))
    (first_clash nets None drafts)) (name_fault (name_from file_name (heard (lines bytes)).hostname)) ≡ None →
    IsConfig file_name bytes (record {
      name = (name_from file_name (heard (lines bytes)).hostname).0;
      router_id = id_after None (heard (lines bytes)).said;
      interfaces = map (finished nets) drafts;
    })
made_law file_name bytes nets drafts found made none =
    record { same = made_same; kept = subst IsRouter (sym made_same) (router_kept file_name bytes short named) }
  where
    file : List (List ℕ)
    file = lines bytes

    outer : (earliest (earliest (heard file).fault (first_second drafts (heard file).said))
        (first_clash nets None drafts) ≡ None) × (name_fault (name_from file_name (heard file).hostname) ≡ None)
    outer = earliest_parts (earliest (earliest (heard file).fault (first_second drafts (heard file).said))
        (first_clash nets None drafts)) (name_fault (name_from file_name (heard file).hostname)) none

    inner : (earliest (heard file).fault (first_second drafts (heard file).said) ≡ None) × (first_clash nets None drafts ≡ None)
    inner = earliest_parts (earliest (heard file).fault (first_second drafts (heard file).said)) (first_clash nets None drafts) outer.0

    short : list_all is_short file ≡ true
    short = all_short file (earliest_parts (heard file).fault (first_second drafts (heard file).said) inner.0).0

    whole : read_lines file ≡ file
    whole = read_same file short

    named : is_router_name (router_name_said file_name file).0 ≡ true
    named = ap (λ (ls : List (List ℕ)). is_router_name (router_name_said file_name ls).0) (sym whole)
        ∙ ap (λ (n : List ℕ × ℕ). is_router_name n.0) (sym (named_law file_name file))
        ∙ named_good (name_from file_name (heard file).hostname) outer.1

    same : (nets ≡ network_lines (said (read_lines file))) × (drafts ≡ file_drafts file)
    same = drafts_same file nets drafts found made

    interfaces : map (finished nets) drafts ≡ map (λ head. interface_as_set (said (read_lines file)) head.0 head.1) (first_heads (read_lines file))
    interfaces =
        ap (λ ns. map (finished ns) drafts) same.0
        ∙ ap (map (finished (network_lines (said (read_lines file))))) same.1
        ∙ map-map (finished (network_lines (said (read_lines file))))
        (draft_of (network_lines (said (read_lines file))) (said (read_lines file))) (first_heads (read_lines file))
        ∙ map-agree (λ head. finished (network_lines (said (read_lines file)))
        (draft_of (network_lines (said (read_lines file))) (said (read_lines file)) head))
        (λ head. interface_as_set (said (read_lines file)) head.0 head.1) (first_heads (read_lines file))
        (λ head. finish_law (said (read_lines file)) head)

    made_same : (record {
      name = (name_from file_name (heard file).hostname).0;
      router_id = id_after None (heard file).said;
      interfaces = map (finished nets) drafts;
    })
        ≡ config_of file_name bytes
    made_same =
        ap (λ (n : List ℕ × ℕ). record {
          name = n.0;
          router_id = id_after None (heard file).said;
          interfaces = map (finished nets) drafts;
        }) (named_law file_name file)
        ∙ ap (λ (o : Option ℕ). record {
          name = (router_name_said file_name (read_lines file)).0;
          router_id = o;
          interfaces = map (finished nets) drafts;
        }) (ids_law (said (read_lines file)))
        ∙ ap (λ (is : List Interface). record {
          name = (router_name_said file_name (read_lines file)).0;
          router_id = setting router_id_said (about_router (said (read_lines file)));
          interfaces =
              is;
        }) interfaces
        ∙ ap (records_of file_name) whole
