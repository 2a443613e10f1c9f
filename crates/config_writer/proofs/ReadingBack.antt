-- A rewritten configuration read back.
use Rattle.std.proofs.Common.{◌≡◌, ℕ, ◌≤◌, List, [], ◌∷◌, ◌++◌, map, Bool, cond, true, false, ◌&&◌, not, refl, sym, ap, ◌∙◌, subst, Option, Some, None, is_some, All, append_assoc, Result, Ok, Err, IfOk}
use Rattle.std.specs.Prelude.{◌||◌}
use Rattle.std.specs.List.{filter, filter_map, cons_option, list_any}
use Rattle.std.specs.Option.{option_or}
use Rattle.std.proofs.lemmas.Bool.{or_right}
use Rattle.std.proofs.lemmas.List.Elements.{All-nil, All-cons, All-head, All-tail}
use Rattle.std.proofs.lemmas.List.Folds.{list_any-append}
use Rattle.cost_base.specs.Lists.{first_of, last_of, same_bytes}
use Rattle.cost_base.proofs.ByteLemmas.{same_bytes-refl}
use Rattle.text_lines.specs.Lines.{lines, words, is_head}
use Rattle.interface_model.specs.declared.Interface.{Interface}
use Rattle.config_reader.specs.declared.fault.ConfigFault.{ConfigFault}
use Rattle.config_reader.specs.Statements.{Statement, CostIs, Network, Block, OfInterface, OfRouter, OfOther, block_of}
use Rattle.config_reader.specs.Settings.{Said, said, about, about_router, setting, address_said, area_set, cost_set, kind_said, passive_said, down_said, priority_said, router_id_said, interface_as_set}
use Rattle.config_reader.specs.Configs.{first_heads}
use Rattle.config_reader.specs.RouterNames.{router_name_said, is_router_name}
use Rattle.config_reader.specs.FaultList.{second_address, area_twice, config_fault, faults}
use Rattle.config_reader.specs.Sections.{cost_after, with_cost, with_costs}
use Rattle.config_reader.proofs.SettingSteps.{interface_by, interface_from, interface_of-from}
use Rattle.config_reader.proofs.FirstFaults.{first_filtered}
use Rattle.config_writer.specs.Rewriting.{new_cost, headed, is_first_block, cost_behind, rewritten, unnumbered, without_numbers, ReadsBack}
use Rattle.config_writer.proofs.NewLines.{relined, lines-rewritten}
use Rattle.config_writer.proofs.Recosted.{Alike, recosted, sets_no_cost, is_known}
use Rattle.config_writer.proofs.FaultlessLines.{Walked, walked}
use Rattle.config_reader.proofs.FaultlessFiles.{Faultless, faultless, no_faults}
use Rattle.config_reader.proofs.SameTests.{SameTests, faultless_so}
use Rattle.config_reader.proofs.WholeRecords.{records_of}

-- statements that set no cost are the same
unsaid : {X : Type 0} (pick : Statement → Option X) → ((n : ℕ) → pick (CostIs n) ≡ None) → (s : Statement) → sets_no_cost s ≡ false → pick s ≡ None
unsaid pick quiet (CostIs n) drop = quiet n
unsaid pick quiet _ drop = absurd (cc)

pick_recosted : {X : Type 0} (pick : Statement → Option X) → ((n : ℕ) → pick (CostIs n) ≡ None) →
    (cost : Option ℕ) (known : Bool) (own : List Statement) →
    filter_map pick (recosted cost known own) ≡ filter_map pick own
pick_recosted pick quiet None known own = refl
pick_recosted pick quiet (Some n) false own = refl
pick_recosted pick quiet (Some n) true own =
    ap (λ o. cons_option o (filter_map pick (filter sets_no_cost own))) (quiet n) ∙ first_filtered sets_no_cost pick own (unsaid pick quiet)

-- no cost is left
none_left : (own : List Statement) → filter_map cost_set (filter sets_no_cost own) ≡ []
none_left [] = refl
none_left (s ∷ own) = cases (cost_set s) refl (none_left own)
  where
    cases : (o : Option ℕ) → cost_set s ≡ o → filter_map cost_set (filter sets_no_cost own) ≡ [] →
        filter_map cost_set (cond (not (is_some o)) (s ∷ filter sets_no_cost own) (filter sets_no_cost own)) ≡ []
    cases None said none = ap (λ o. cons_option o (filter_map cost_set (filter sets_no_cost own))) said ∙ none
    cases (Some n) said none = none

cost_recosted : (cost : Option ℕ) (known : Bool) (own : List Statement) → known ≡ true →
    setting cost_set (recosted cost known own) ≡ option_or cost (setting cost_set own)
cost_recosted None known own is = refl
cost_recosted (Some n) false own is = absurd (cc)
cost_recosted (Some n) true own is = ap (λ (rest : List ℕ). last_of (n ∷ rest)) (none_left own)

-- costs that are given after one of before
cost_from : (costs : List (List ℕ × ℕ)) (name : List ℕ) (before : Option ℕ) → cost_after costs name before ≡ option_or (cost_after costs name None) before
cost_from [] name before = refl
cost_from (cost ∷ costs) name before = cases (same_bytes name cost.0) (cost_from costs name before) (cost_from costs name (Some cost.1))
  where
    twice : (o : Option ℕ) (v : ℕ) → option_or o (Some v) ≡ option_or (option_or o (Some v)) before
    twice None v = refl
    twice (Some x) v = refl

    cases : (b : Bool) → cost_after costs name before ≡ option_or (cost_after costs name None) before →
        cost_after costs name (Some cost.1) ≡ option_or (cost_after costs name None) (Some cost.1) →
        cost_after costs name (cond b (Some cost.1) before) ≡ option_or (cost_after costs name (cond b (Some cost.1) None)) before
    cases true old new = new ∙ twice (cost_after costs name None) cost.1 ∙ ap (λ o. option_or o before) (sym new)
    cases false old new = old

-- an interface of which this is said
interface_recosted : (cost : Option ℕ) (known : Bool) (own router : List Statement) (name : List ℕ) (line : ℕ) →
    interface_from (recosted cost known own) router name line
    ≡ record (interface_from own router name line) { cost = setting cost_set (recosted cost known own) }
unfolding interface_from interface_by
interface_recosted cost known own router name line =
    picks (ap first_of (pick_recosted address_said (λ n. refl) cost known own))
    (ap last_of (pick_recosted area_set (λ n. refl) cost known own))
    (ap last_of (pick_recosted kind_said (λ n. refl) cost known own))
    (ap last_of (pick_recosted passive_said (λ n. refl) cost known own))
    (ap last_of (pick_recosted down_said (λ n. refl) cost known own))
    (ap last_of (pick_recosted priority_said (λ n. refl) cost known own))
  where
    new : List Statement
    new = recosted cost known own

    picks : first_of (filter_map address_said new) ≡ first_of (filter_map address_said own) →
        setting area_set new ≡ setting area_set own → setting kind_said new ≡ setting kind_said own →
        setting passive_said new ≡ setting passive_said own → setting down_said new ≡ setting down_said own →
        setting priority_said new ≡ setting priority_said own →
        interface_by router name line (first_of (filter_map address_said new)) (setting area_set new) (setting cost_set new)
        (setting kind_said new) (setting passive_said new) (setting down_said new)
        (setting priority_said new)
        ≡ interface_by router name line (first_of (filter_map address_said own)) (setting area_set own)
        (setting cost_set new) (setting kind_said own) (setting passive_said own) (setting down_said own)
        (setting priority_said own)
    picks a b c d e f =
        ap (λ x. interface_by router name line x (setting area_set new) (setting cost_set new) (setting kind_said new)
        (setting passive_said new) (setting down_said new) (setting priority_said new)) a
        ∙ ap (λ x. interface_by router name line (first_of (filter_map address_said own)) x (setting cost_set new)
        (setting kind_said new) (setting passive_said new) (setting down_said new)
        (setting priority_said new)) b
        ∙ ap (λ x. interface_by router name line (first_of (filter_map address_said own)) (setting area_set own)
        (setting cost_set new) x (setting passive_said new) (setting down_said new)
        (setting priority_said new)) c
        ∙ ap (λ x. interface_by router name line (first_of (filter_map address_said own)) (setting area_set own)
        (setting cost_set new) (setting kind_said own) x (setting down_said new)
        (setting priority_said new)) d
        ∙ ap (λ x. interface_by router name line (first_of (filter_map address_said own)) (setting area_set own)
        (setting cost_set new) (setting kind_said own) (setting passive_said own) x
        (setting priority_said new)) e
        ∙ ap (λ x. interface_by router name line (first_of (filter_map address_said own)) (setting area_set own)
        (setting cost_set new) (setting kind_said own) (setting passive_said own) (setting down_said own)
        x) f

-- every name of some is among them
all_known : (front rest : List (List ℕ)) → All (λ name. list_any (same_bytes name) (front ++ rest) ≡ true) rest
all_known front [] = All-nil (λ name. list_any (same_bytes name) (front ++ []) ≡ true)
all_known front (x ∷ rest) =
    All-cons (λ name. list_any (same_bytes name) (front ++ x ∷ rest) ≡ true) x rest
    (list_any-append (same_bytes x) front (x ∷ rest)
    ∙ or_right (list_any (same_bytes x) front) (same_bytes x x || list_any (same_bytes x) rest)
    (ap (λ b. b || list_any (same_bytes x) rest) (same_bytes-refl x)))
    (subst (λ names. All (λ name. list_any (same_bytes name) names ≡ true) rest) (append_assoc front (x ∷ []) rest) (all_known (front ++ x ∷ []) rest))

map_known : (f g : List ℕ → Interface) (names xs : List (List ℕ)) →
    ((name : List ℕ) → list_any (same_bytes name) names ≡ true → f name ≡ g name) →
    All (λ name. list_any (same_bytes name) names ≡ true) xs → map f xs ≡ map g xs
map_known f g names [] same known = refl
map_known f g names (x ∷ xs) same known =
    ap (λ i. i ∷ map f xs) (same x (All-head (λ name. list_any (same_bytes name) names ≡ true) x xs known))
    ∙ ap (λ is. g x ∷ is) (map_known f g names xs same (All-tail (λ name. list_any (same_bytes name) names ≡ true) x xs known))

-- interfaces, line numbers aside
unnumbered_all : (all : List Said) (heads : List (List ℕ × ℕ)) →
    map unnumbered (map (λ head. interface_as_set all head.0 head.1) heads) ≡ map (λ name. interface_as_set all name 0)
    (map (λ head. head.0) heads)
unnumbered_all all [] = refl
unnumbered_all all (h ∷ hs) = ap (λ is. interface_as_set all h.0 0 ∷ is) (unnumbered_all all hs)

unnumbered_costs : (costs : List (List ℕ × ℕ)) (all : List Said) (heads : List (List ℕ × ℕ)) →
    map unnumbered (map (with_cost costs) (map (λ head. interface_as_set all head.0 head.1) heads))
    ≡ map (λ name. with_cost costs (interface_as_set all name 0)) (map (λ head. head.0) heads)
unnumbered_costs costs all [] = refl
unnumbered_costs costs all (h ∷ hs) = ap (λ is. with_cost costs (interface_as_set all h.0 0) ∷ is) (unnumbered_costs costs all hs)

module _ (costs : List (List ℕ × ℕ)) (file_name : List ℕ) (old new : List (List ℕ)) (alike : Alike costs file_name old new) where
  -- the records of the old lines with the new costs
  interface_same : (name : List ℕ) → is_known old name ≡ true → interface_as_set (said new) name 0 ≡ with_cost costs (interface_as_set (said old) name 0)
  interface_same name known =
      interface_of-from (said new) name 0
      ∙ ap (λ own. interface_from own (about_router (said new)) name 0) (alike.own name)
      ∙ ap (λ router. interface_from (recosted (cost_after costs name None) (is_known old name) (about (said old) name)) router name 0) alike.rest.router
      ∙ interface_recosted (cost_after costs name None) (is_known old name) (about (said old) name) (about_router (said old)) name 0
      ∙ ap (λ (i : Interface). record i {
        cost = setting cost_set
            (recosted (cost_after costs name None) (is_known old name) (about (said old) name));
      })
      (sym (interface_of-from (said old) name 0))
      ∙ ap (λ (o : Option ℕ). record (interface_as_set (said old) name 0) { cost = o })
      (cost_recosted (cost_after costs name None) (is_known old name) (about (said old) name) known
      ∙ sym (cost_from costs name (setting cost_set (about (said old) name))))

  records_same : without_numbers (records_of file_name new) ≡ without_numbers (with_costs costs (records_of file_name old))
  records_same =
      ap (λ (name : List ℕ). record (without_numbers (records_of file_name new)) { name = name }) alike.rest.name
      ∙ ap (λ router. record (without_numbers (records_of file_name new)) {
        name = (router_name_said file_name old).0;
        router_id = setting router_id_said router;
      }) alike.rest.router
      ∙ ap (λ (is : List Interface). record (without_numbers (records_of file_name old)) { interfaces = is })
      (unnumbered_all (said new) (first_heads new)
      ∙ ap (map (λ name. interface_as_set (said new) name 0)) alike.rest.heads
      ∙ map_known (λ name. interface_as_set (said new) name 0) (λ name. with_cost costs (interface_as_set (said old) name 0))
      (headed old) (headed old) interface_same (all_known [] (headed old))
      ∙ sym (unnumbered_costs costs (said old) (first_heads old)))

  -- what the tests of second addresses and of second areas ask is the same
  picked : {X : Type 0} (pick : Statement → Option X) → ((n : ℕ) → pick (CostIs n) ≡ None) → (name : List ℕ) →
      filter_map pick (about (said new) name) ≡ filter_map pick (about (said old) name)
  picked pick quiet name = ap (filter_map pick) (alike.own name)
      ∙ pick_recosted pick quiet (cost_after costs name None) (is_known old name) (about (said old) name)

  same_tests : SameTests old new
  same_tests = record {
    addresses = picked address_said (λ n. refl);
    areas = picked area_set (λ n. refl);
    router = alike.rest.router;
    heads = alike.rest.heads;
  }

-- a cost that is given is one of the costs
cost_within : (costs : List (List ℕ × ℕ)) → All (λ cost. (1 ≤ cost.1) × (cost.1 ≤ 65535)) costs → (name : List ℕ) (before : Option ℕ) (n : ℕ) →
    ((m : ℕ) → before ≡ Some m → (1 ≤ m) × (m ≤ 65535)) → cost_after costs name before ≡ Some n → (1 ≤ n) × (n ≤ 65535)
cost_within [] within name before n old is = old n is
cost_within (cost ∷ costs) within name before n old is =
    cost_within costs (All-tail (λ c. (1 ≤ c.1) × (c.1 ≤ 65535)) cost costs within) name
    (cond (same_bytes name cost.0) (Some cost.1) before) n (cases (same_bytes name cost.0)) is
  where
    cases : (b : Bool) (m : ℕ) → cond b (Some cost.1) before ≡ Some m → (1 ≤ m) × (m ≤ 65535)
    cases true m e = let same : cost.1 ≡ m = cc in subst (λ k. (1 ≤ k) × (k ≤ 65535)) same (All-head (λ c. (1 ≤ c.1) × (c.1 ≤ 65535)) cost costs within)
    cases false m e = old m e

behind_within : (costs : List (List ℕ × ℕ)) → All (λ cost. (1 ≤ cost.1) × (cost.1 ≤ 65535)) costs →
    (old : List (List ℕ)) (line : List ℕ) (n : ℕ) → cost_behind costs old line ≡ Some n → (1 ≤ n) × (n ≤ 65535)
behind_within costs within old line n behind = by_test (is_head line && is_first_block old (block_of (words line))) (block_of (words line)) behind
  where
    by_test : (b : Bool) (block : Block) → cond b (new_cost costs block) None ≡ Some n → (1 ≤ n) × (n ≤ 65535)
    by_test true (OfInterface h) e = cost_within costs within h None n (λ m none. absurd (cc)) e
    by_test true OfRouter e = absurd (cc)
    by_test true OfOther e = absurd (cc)
    by_test false block e = absurd (cc)

-- a rewritten configuration has no fault, and the records of the old one with the new costs
pub reads_back : (file_name bytes : List ℕ) (costs : List (List ℕ × ℕ)) → config_fault file_name bytes ≡ None →
    All (λ cost. (1 ≤ cost.1) × (cost.1 ≤ 65535)) costs → ReadsBack file_name costs bytes (rewritten costs bytes)
reads_back file_name bytes costs accepted within = record {
  accepted = ap (λ file. first_of (faults file_name file)) (lines-rewritten costs bytes)
      ∙ no_faults file_name (relined costs [] (lines bytes))
      (faultless_so file_name (lines bytes) (relined costs [] (lines bytes))
      (same_tests costs file_name (lines bytes) (relined costs [] (lines bytes)) walk.alike) walk.fine
      (ap is_router_name walk.alike.rest.name ∙ before.name));
  records = ap (λ file. without_numbers (records_of file_name file)) (lines-rewritten costs bytes)
      ∙ records_same costs file_name (lines bytes) (relined costs [] (lines bytes)) walk.alike;
}
  where
    before : Faultless file_name (lines bytes)
    before = faultless file_name (lines bytes) accepted

    second : Block → Statement → Option ConfigFault
    second = second_address (said (lines bytes))

    twice : List Network → Block → Statement → Option ConfigFault
    twice = area_twice (said (lines bytes)) (first_heads (lines bytes))

    walk : Walked second twice (λ h n. refl) (λ ns h n. refl) costs file_name (behind_within costs within) (lines bytes) (relined costs [] (lines bytes))
    walk = walked second twice (λ h n. refl) (λ ns h n. refl) costs file_name (behind_within costs within) (lines bytes) before.fine

-- two facts on a value that came out well give a third
pub ok_both : {T E : Type 0} (r : Result T E) {P Q R : T → Type 0} → IfOk r P → IfOk r Q → ((x : T) → P x → Q x → R x) → IfOk r R
ok_both (Ok x) p q both = both x p q
ok_both (Err e) p q both = tt
