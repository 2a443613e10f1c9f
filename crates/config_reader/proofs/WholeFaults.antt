-- The first fault of a configuration, from what the code gathers.
use Rattle.std.proofs.Common.{◌≡◌, ℕ, zero, suc, ◌+◌, ◌<◌, ◌≤◌, List, [], ◌∷◌, length, map, take, get_or, Bool, cond, true, false, ◌&&◌, ◌||◌, not, refl, sym, ap, ◌∙◌, arith, Option, Some, None}
use Rattle.std.specs.Prelude.{position, is_some, ◌==◌, slice_get}
use Rattle.std.proofs.Math.ListN.{get_or-map}
use Rattle.std.specs.List.{filter_map, flat_map, list_any}
use Rattle.std.specs.Option.{option_or}
use Rattle.std.proofs.lemmas.Bool.{false≢true, and_right, ne_eqb, eq-eqb}
use Rattle.std.proofs.lemmas.List.{length-map}
use Rattle.std.proofs.lemmas.List.Quantifiers.{position-Some}
use Rattle.cost_base.specs.Lists.{numbers_from, first_of, same_bytes}
use Rattle.cost_base.proofs.ListLemmas.{get_or-map-numbers_from, length-map-numbers_from}
use Rattle.cost_base.proofs.ByteLemmas.{same_bytes-true}
use Rattle.text_lines.specs.Lines.{kind_of, words, block_at}
use Rattle.text_lines.specs.Numbers.{Prefix}
use Rattle.text_lines.specs.declared.LineKind.{LineKind}
use Rattle.text_lines.specs.declared.LineKind.TheVariants.{Blank, Comment, Head, Indented}
use Rattle.config_reader.specs.declared.fault.ConfigFault.{ConfigFault}
use Rattle.config_reader.specs.declared.fault.ConfigFault.TheVariants.{SecondAddress, BadName}
use Rattle.config_reader.specs.declared.drafts.Draft.{Draft}
use Rattle.config_reader.specs.declared.networks.NetworkLine.{NetworkLine}
use Rattle.config_reader.specs.Statements.{Statement, AddressIs, Block, OfInterface}
use Rattle.config_reader.specs.Settings.{Said, said, said_at_place, said_by, block_by_head, about, setting, area_set, address_said, interface_address, networks_said, matches, address_part, length_part}
use Rattle.config_reader.specs.Configs.{first_heads}
use Rattle.config_reader.specs.RouterNames.{router_name_said, name_and_line, last_hostname, is_hostname_head, is_router_name}
use Rattle.config_reader.specs.FaultList.{Fault, at_line, long_line, refused, read_lines, is_given_area, differs, second_address, area_twice, bad_name, faults_of_place, faults}
use Rattle.config_reader.specs.Hearing.{heard, sets, named_by}
use Rattle.config_reader.specs.Drafting.{network_lines, covers, whole_address, at_place, find_draft, is_second, second_of, first_second, first_clash, earliest, name_from, name_fault}
use Rattle.config_reader.proofs.FirstFaults.{firsts_at, bound, merge, agree, never, met_at, past_all, first_flat, first_five, first_front, first_filtered, filter_map-map}
use Rattle.config_reader.proofs.DraftLaws.{draft_of, plain, plain_by, any_matched}
use Rattle.text_lines.proofs.Images.{any-map}
use Rattle.config_reader.proofs.LongerLists.{last_passing-lt}
use Rattle.config_reader.proofs.BlockFacts.{about-unheaded, head_names}
use Rattle.config_reader.proofs.HeadSteps.{is_headed}
use Rattle.config_reader.proofs.HeardSteps.{length-read_lines}
use Rattle.config_reader.proofs.WholeConfigs.{net_of, nets_law, Numbered, no_said, areas_rule, clashes_law, no_place, whole_parts}

drafts_names : (nets : List NetworkLine) (all : List Said) (heads : List (List ℕ × ℕ)) →
    map (λ d. d.interface.name) (map (draft_of nets all) heads) ≡ head_names heads
unfolding plain plain_by
drafts_names nets all [] = refl
drafts_names nets all (h ∷ hs) = ap (λ ns. h.0 ∷ ns) (drafts_names nets all hs)

slice_get_map : {X Y : Type 0} (g : X → Y) (xs : List X) (i : ℕ) (d : X) → i < length xs → slice_get (map g xs) i ≡ Some (g (get_or xs i d))
slice_get_map g [] i d within = absurd (omega arith)
slice_get_map g (x ∷ xs) zero d within = refl
slice_get_map g (x ∷ xs) (suc i) d within = slice_get_map g xs i d (omega arith)

headed_names : (name : List ℕ) (heads : List (List ℕ × ℕ)) → is_headed name heads ≡ list_any (same_bytes name) (head_names heads)
headed_names name heads = any-map (same_bytes name) (λ (h : List ℕ × ℕ). h.0) heads

-- a draft of an interface takes part exactly where the interface does
takes_law : (all : List Said) (head : List ℕ × ℕ) (p : Prefix) →
    is_second p (Some (draft_of (network_lines all) all head))
    ≡ (is_given_area all head.0 && differs p (interface_address all head.0))
unfolding plain plain_by
takes_law all head p =
    ap (λ m. (is_some (setting area_set (about all head.0)) || m)
    && differs p (whole_address (address_part (interface_address all head.0)) (length_part (interface_address all head.0))))
    matched
    ∙ ap (λ o. is_given_area all head.0 && differs p o) (whole_parts (interface_address all head.0))
  where
    one : (q : Prefix) → list_any (covers q) (network_lines all) ≡ list_any (matches q) (networks_said all)
    one q = any-map (matches q) net_of (network_lines all) ∙ ap (list_any (matches q)) (sym (nets_law all))

    matched : any_matched (network_lines all) (about all head.0) ≡ list_any (λ q. list_any (matches q) (networks_said all))
        (filter_map address_said (about all head.0))
    matched = ap (λ (f : Prefix → Bool). list_any f (filter_map address_said (about all head.0))) (λ i q. one q i)

module _ (all : List Said) (heads : List (List ℕ × ℕ)) (unheaded : (name : List ℕ) → is_headed name heads ≡ false → about all name ≡ []) where
  second_found : (name : List ℕ) (p : Prefix) →
      is_second p (find_draft name (map (draft_of (network_lines all) all) heads))
      ≡ (is_given_area all name && differs p (interface_address all name))
  second_found name p =
      ap (λ ns. is_second p (at_place (position (same_bytes name) ns) (map (draft_of (network_lines all) all) heads)))
      (drafts_names (network_lines all) all heads)
      ∙ cases (position (same_bytes name) (head_names heads)) refl
    where
      cases : (o : Option ℕ) → position (same_bytes name) (head_names heads) ≡ o →
          is_second p (at_place o (map (draft_of (network_lines all) all) heads))
          ≡ (is_given_area all name && differs p (interface_address all name))
      cases None e =
          let none : about all name ≡ [] = unheaded name (headed_names name heads ∙ no_place (same_bytes name) (head_names heads) e) in
          sym (and_right (is_given_area all name) (differs p (interface_address all name))
          (ap (λ own. differs p (first_of (filter_map address_said own))) none))
      cases (Some i) e =
          let found = position-Some (same_bytes name) (head_names heads) i [] e in
          let within : i < length heads = omega (arith, found.0, length-map heads (λ (h : List ℕ × ℕ). h.0)) in
          let named : name ≡ (get_or heads i ([], 0)).0 =
          same_bytes-true name (get_or heads i ([], 0)).0 (ap (same_bytes name) (sym (get_or-map (λ (h : List ℕ × ℕ). h.0) heads i ([], 0)))
          ∙ found.1) in
          ap (is_second p) (slice_get_map (draft_of (network_lines all) all) heads i ([], 0) within)
          ∙ takes_law all (get_or heads i ([], 0)) p
          ∙ ap (λ n. is_given_area all n && differs p (interface_address all n)) (sym named)

  second_same : (n : ℕ) (b : Block) (s : Statement) → second_of (map (draft_of (network_lines all) all) heads) n b s ≡ at_line n (second_address all b s)
  second_same n (OfInterface name) (AddressIs p) =
      ap (λ (c : Bool). cond c (Some (record { line = n; fault = SecondAddress })) None) (second_found name p)
      ∙ cases (is_given_area all name && differs p (interface_address all name))
    where
      cases : (c : Bool) → cond c (Some (record { line = n; fault = SecondAddress })) None ≡ at_line n (cond c (Some SecondAddress) None)
      cases true = refl
      cases false = refl
  second_same n _ _ = refl

unset_second : (drafts : List Draft) (n : ℕ) (b : Block) (s : Statement) → sets s ≡ false → second_of drafts n b s ≡ None
unset_second drafts n (OfInterface name) (AddressIs p) quiet = absurd (false≢true (sym quiet))
unset_second drafts n _ _ quiet = refl

-- what a line says has the line's number
number_at : (file : List (List ℕ)) (i : ℕ) → (said_at_place file i).number ≡ i + 1
number_at file i = cases (kind_of (get_or file i []))
  where
    cases : (k : LineKind) → (said_by k (i + 1) (block_by_head (block_at file i)) (words (get_or file i []))).number ≡ i + 1
    cases Blank = refl
    cases Comment = refl
    cases Head = refl
    cases Indented = refl

numbered : (file : List (List ℕ)) (a n : ℕ) → Numbered a (map (said_at_place file) (numbers_from a n))
numbered file a zero = tt
numbered file a (suc n) = (number_at file a, numbered file (a + 1) n)

pub length-said : (file : List (List ℕ)) → length (said file) ≡ length file
length-said file = length-map-numbers_from (said_at_place file) 0 (length file)

-- the name's fault, before or among the lines
name_law : (name : List ℕ × ℕ) (n : ℕ) (o : Option Fault) → name.1 ≤ n → ((x : Fault) → o ≡ Some x → 0 < x.line) →
    option_or (at_line 0 (bad_name name 0)) (earliest o (firsts_at (λ i. bad_name name (i + 1)) 0 n))
    ≡ earliest o (name_fault name)
name_law name n o within past = cases (is_router_name name.0) refl
  where
    good : (l : ℕ) → is_router_name name.0 ≡ true → bad_name name l ≡ None
    good l e = ap (λ b. cond b (Some BadName) None) (and_right (name.1 == l) (not (is_router_name name.0)) (ap not e))

    here : (l : ℕ) → is_router_name name.0 ≡ false → name.1 ≡ l → bad_name name l ≡ Some BadName
    here l e same = ap (λ b. cond (b && not (is_router_name name.0)) (Some BadName) None) (eq-eqb name.1 l same) ∙ ap (λ b. cond (not b) (Some BadName) None) e

    there : (l : ℕ) → ((name.1 ≡ l) → ⊥) → bad_name name l ≡ None
    there l other = ap (λ b. cond (b && not (is_router_name name.0)) (Some BadName) None) (ne_eqb name.1 l other)

    by_line : (l : ℕ) → name.1 ≡ l → is_router_name name.0 ≡ false →
        option_or (at_line 0 (bad_name name 0)) (earliest o (firsts_at (λ i. bad_name name (i + 1)) 0 n))
        ≡ earliest o (Some (record { line = l; fault = BadName }))
    by_line zero same e =
        ap (λ b. option_or (at_line 0 b) (earliest o (firsts_at (λ i. bad_name name (i + 1)) 0 n))) (here 0 e same)
        ∙ sym (past_all o (record { line = 0; fault = BadName }) past)
    by_line (suc l) same e =
        ap (λ b. option_or (at_line 0 b) (earliest o (firsts_at (λ i. bad_name name (i + 1)) 0 n))) (there 0 (λ z. omega (arith, same, z)))
        ∙ ap (earliest o) (met_at (λ i. bad_name name (i + 1)) 0 n l BadName (here (l + 1) e (omega (arith, same)))
        (λ i less. there (i + 1) (λ z. omega (arith, same, z, less))) (omega arith) (omega (arith, same, within)))
        ∙ ap (λ k. earliest o (Some (record { line = k; fault = BadName }))) (next l)
      where
        next : (k : ℕ) → k + 1 ≡ suc k
        next k = omega arith

    cases : (b : Bool) → is_router_name name.0 ≡ b →
        option_or (at_line 0 (bad_name name 0)) (earliest o (firsts_at (λ i. bad_name name (i + 1)) 0 n))
        ≡ earliest o (name_fault name)
    cases true e =
        ap (λ b. option_or (at_line 0 b) (earliest o (firsts_at (λ i. bad_name name (i + 1)) 0 n))) (good 0 e)
        ∙ ap (earliest o) (never (λ i. bad_name name (i + 1)) 0 n (λ i. good (i + 1) e))
        ∙ ap (λ b. earliest o (cond b None (Some (record { line = name.1; fault = BadName })))) (sym e)
    cases false e =
        by_line name.1 refl e
        ∙ ap (λ b. earliest o (cond b None (Some (record { line = name.1; fault = BadName })))) (sym e)

-- the name's line is a line, or 0
name_within : (file_name : List ℕ) (file : List (List ℕ)) → (router_name_said file_name file).1 ≤ length file
name_within file_name file = cases (last_hostname file) (λ i e. last_passing-lt (is_hostname_head file) 0 (length file) i e)
  where
    cases : (o : Option ℕ) → ((i : ℕ) → o ≡ Some i → i < 0 + length file) → (name_and_line file_name file o).1 ≤ length file
    cases None below = omega arith
    cases (Some i) below = let h = below i refl in omega (arith, h)

pub named_law : (file_name : List ℕ) (file : List (List ℕ)) → name_from file_name (heard file).hostname ≡ router_name_said file_name (read_lines file)
named_law file_name file = cases (last_hostname (read_lines file))
  where
    cases : (o : Option ℕ) → name_from file_name (named_by (read_lines file) o) ≡ name_and_line file_name (read_lines file) o
    cases None = refl
    cases (Some i) = refl

-- the drafts of a file
abbrev pub file_drafts : List (List ℕ) → List Draft
file_drafts file = map (draft_of (network_lines (said (read_lines file))) (said (read_lines file))) (first_heads (read_lines file))

pub faults_law : (file_name : List ℕ) (file : List (List ℕ)) →
    earliest (earliest (earliest (heard file).fault (first_second (file_drafts file) (heard file).said))
    (first_clash (network_lines (said (read_lines file))) None (file_drafts file)))
    (name_fault (name_from file_name (heard file).hostname))
    ≡ first_of (faults file_name file)
faults_law file_name file =
    ap (λ s. earliest (earliest (earliest (heard file).fault s)
    (first_clash (network_lines all) None (file_drafts file)))
    (name_fault (name_from file_name (heard file).hostname))) seconds
    ∙ ap (λ t. earliest (earliest (earliest (heard file).fault (firsts_at second 0 (length file))) t)
    (name_fault (name_from file_name (heard file).hostname))) twices
    ∙ ap (λ n. earliest (earliest (earliest (heard file).fault (firsts_at second 0 (length file)))
    (firsts_at twice 0 (length file))) (name_fault n)) (named_law file_name file)
    ∙ ap (λ o. earliest (earliest o (firsts_at twice 0 (length file))) (name_fault name)) (sym (merge own second 0 (length file)))
    ∙ ap (λ o. earliest o (name_fault name)) (sym (merge (λ i. option_or (own i) (second i)) twice 0 (length file)))
    ∙ sym (name_law name (length file)
    (firsts_at (λ i. option_or (option_or (own i) (second i)) (twice i)) 0 (length file))
    (omega (arith, name_within file_name read, length-read_lines file))
    (λ x e. bound (λ i. option_or (option_or (own i) (second i)) (twice i)) 0 (length file) x e))
    ∙ sym (ap (option_or (at_line 0 (bad_name name 0)))
    (merge (λ i. option_or (option_or (own i) (second i)) (twice i)) (λ i. bad_name name (i + 1)) 0
    (length file)))
    ∙ sym (ap (option_or (at_line 0 (bad_name name 0)))
    (first_flat (faults_of_place file_name file)
    (λ i. option_or (option_or (option_or (own i) (second i)) (twice i)) (bad_name name (i + 1))) 0
    (length file) (λ i. first_five (i + 1) (long_line (get_or file i [])) (refused (said_at_place read i).statement)
    (second i) (twice i) (bad_name name (i + 1)))))
    ∙ sym (first_front (bad_name name 0) (flat_map (faults_of_place file_name file) (numbers_from 0 (length file))))
  where
    read : List (List ℕ)
    read = read_lines file

    all : List Said
    all = said read

    heads : List (List ℕ × ℕ)
    heads = first_heads read

    name : List ℕ × ℕ
    name = router_name_said file_name read

    own : ℕ → Option ConfigFault
    own i = option_or (long_line (get_or file i [])) (refused (said_at_place read i).statement)

    second : ℕ → Option ConfigFault
    second i = second_address all (said_at_place read i).block (said_at_place read i).statement

    twice : ℕ → Option ConfigFault
    twice i = area_twice all heads (networks_said (take i all)) (said_at_place read i).block (said_at_place read i).statement

    seconds : first_second (file_drafts file) (heard file).said ≡ firsts_at second 0 (length file)
    seconds =
        ap first_of (first_filtered (λ (s : Said). sets s.statement)
        (λ (s : Said). second_of (file_drafts file) s.number s.block s.statement) all
        (λ s quiet. unset_second (file_drafts file) s.number s.block s.statement quiet))
        ∙ ap first_of (filter_map-map (λ (s : Said). second_of (file_drafts file) s.number s.block s.statement)
        (said_at_place read) (numbers_from 0 (length read)))
        ∙ ap (λ (f : ℕ → Option Fault). first_of (filter_map f (numbers_from 0 (length read)))) (λ j i. one i j)
        ∙ ap (firsts_at second 0) (length-read_lines file)
      where
        one : (i : ℕ) → second_of (file_drafts file) (said_at_place read i).number (said_at_place read i).block (said_at_place read i).statement
            ≡ at_line (i + 1) (second i)
        one i =
            second_same all heads (about-unheaded read) (said_at_place read i).number (said_at_place read i).block (said_at_place read i).statement
            ∙ ap (λ n. at_line n (second i)) (number_at read i)

    twices : first_clash (network_lines all) None (file_drafts file) ≡ firsts_at twice 0 (length file)
    twices =
        clashes_law all None heads (numbered read 0 (length read))
        ∙ ap (firsts_at (areas_rule all heads) 0) (length-said read ∙ length-read_lines file)
        ∙ agree (areas_rule all heads) twice 0 (length file)
        (λ i above below. ap (λ (s : Said). area_twice all heads (networks_said (take i all)) s.block s.statement)
        (at_number i (omega (arith, below, length-read_lines file))))
      where
        at_number : (i : ℕ) → i < length read → get_or all i no_said ≡ said_at_place read i
        at_number i within = get_or-map-numbers_from (said_at_place read) 0 (length read) i no_said within ∙ ap (said_at_place read) (from_zero i)
          where
            from_zero : (k : ℕ) → 0 + k ≡ k
            from_zero k = omega arith
