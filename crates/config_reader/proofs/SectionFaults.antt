-- A configuration without a fault has none with a printed section after it.
use Rattle.std.proofs.Common.{◌≡◌, ℕ, suc, ◌+◌, ◌≤◌, List, [], ◌∷◌, ◌++◌, length, map, All, Bool, cond, true, false, ◌&&◌, ◌||◌, refl, sym, ap, ◌∙◌, subst, arith, append-nil, Option, Some, None, Contains}
use Rattle.std.specs.Prelude.{◌==◌, codes}
use Rattle.std.specs.List.{filter_map, list_all}
use Rattle.std.proofs.lemmas.Bool.{and_parts, le-leb, leb-true, false≢true, ne_eqb}
use Rattle.std.proofs.lemmas.List.Elements.{All-head, All-tail, All-weaker, filter_map-append}
use Rattle.std.proofs.lemmas.List.Folds.{list_all-append, list_any-append}
use Rattle.cost_base.specs.Lists.{first_of, same_bytes}
use Rattle.cost_base.specs.Words.{is_blank}
use Rattle.cost_base.proofs.ByteLemmas.{same_bytes-true}
use Rattle.text_lines.specs.Lines.{lines, words, ends_word, grow, is_head, ended, with_ends}
use Rattle.text_lines.proofs.Digits.{length-decimal-le}
use Rattle.text_lines.proofs.WordLists.{room}
use Rattle.config_reader.specs.Statements.{Statement, CostIs, Block, OfInterface, OfRouter, OfOther, block_of, begin_with, statement_in}
use Rattle.config_reader.specs.Settings.{said, networks_said, about, about_router, address_said, area_set, is_of, is_of_router}
use Rattle.config_reader.specs.Configs.{first_heads, name_with_line, name_opened}
use Rattle.config_reader.specs.RouterNames.{router_name_said, is_router_name}
use Rattle.config_reader.specs.FaultList.{is_short, refused, second_address, area_twice, config_fault, faults}
use Rattle.config_reader.specs.Sections.{config_section_lines, IsSectionCost, name_line, section_cost_line}
use Rattle.config_reader.proofs.SaidSteps.{said_after, said-push, names_router, router_name-push}
use Rattle.config_reader.proofs.SettingSteps.{about-push, about_router-push, said_where}
use Rattle.config_reader.proofs.HeadSteps.{first_heads-push, heads_with, is_headed, is_headed-contains, unless_known}
use Rattle.config_reader.proofs.BlockFacts.{by_lines}
use Rattle.config_reader.proofs.FineLines.{LineFine, AllFine, all_push}
use Rattle.config_reader.proofs.FaultlessFiles.{faultless, no_faults, short_all}
use Rattle.config_reader.proofs.SameTests.{SameTests, faultless_so}
use Rattle.config_reader.proofs.SectionLaw.{block_behind, cost_said_there, after_name, after_cost, after_exit, after_one, section_lines-cons, three_more, lines-section}

abbrev behind_end : Bool → ℕ
behind_end true = 0
behind_end false = 1

-- the words of a line stand apart in it
words-room : (s : List ℕ) → room (words s) ≤ length s + behind_end (ends_word s)
words-room [] = omega arith
words-room (c ∷ cs) = cases (is_blank c) (ends_word cs) (words cs) (words-room cs)
  where
    cases : (b e : Bool) (ws : List (List ℕ)) → room ws ≤ length cs + behind_end e →
        room (cond b ws (cond e ((c ∷ []) ∷ ws) (grow c ws))) ≤ suc (length cs) + behind_end b
    cases true true ws h = omega (arith, h)
    cases true false ws h = omega (arith, h)
    cases false true ws h = omega (arith, h)
    cases false false [] h = omega arith
    cases false false (w ∷ ws) h = omega (arith, h)

-- the two words of a head of an interface
opens_room : (ws : List (List ℕ)) (name : List ℕ) → block_of ws ≡ OfInterface name → room ws ≡ length name + 11
opens_room [] name e = absurd (cc)
opens_room (w ∷ []) name e = absurd (cc)
opens_room (w ∷ v ∷ []) name e = cases (same_bytes (codes "interface") w) (begin_with (codes "router" ∷ codes "ospf" ∷ []) (w ∷ v ∷ [])) refl e
  where
    cases : (a b : Bool) → same_bytes (codes "interface") w ≡ a →
        cond (a && true) (OfInterface v) (cond b OfRouter OfOther) ≡ OfInterface name →
        length w + 1 + (length v + 1 + 0) ≡ length name + 11
    cases true b is h =
        let first : length w ≡ 9 = ap length (sym (same_bytes-true (codes "interface") w is)) in
        let second : v ≡ name = cc in
        omega (arith, first, ap length second)
    cases false true is h = absurd (cc)
    cases false false is h = absurd (cc)
opens_room (w ∷ v ∷ u ∷ ws) name e =
    longer (length (w ∷ v ∷ u ∷ ws) == 2) (begin_with (codes "interface" ∷ []) (w ∷ v ∷ u ∷ ws))
    (begin_with (codes "router" ∷ codes "ospf" ∷ []) (w ∷ v ∷ u ∷ ws))
    (ne_eqb (length (w ∷ v ∷ u ∷ ws)) 2 (λ h. omega arith)) e
  where
    longer : (l a b : Bool) → l ≡ false → cond (l && a) (OfInterface v) (cond (l && b) OfRouter OfOther)
        ≡ OfInterface name → room (w ∷ v ∷ u ∷ ws) ≡ length name + 11
    longer true a b is h = absurd (false≢true (sym is))
    longer false a b is h = absurd (cc)

-- the name of a head in a file of short lines leaves room for `interface` and a blank
headed_short : (file : List (List ℕ)) → list_all is_short file ≡ true → (name : List ℕ) → is_headed name (first_heads file) ≡ true → length name + 10 ≤ 4096
headed_short = by_lines (λ file. list_all is_short file ≡ true → (name : List ℕ) →
    is_headed name (first_heads file) ≡ true → length name + 10 ≤ 4096) (λ short name known. absurd (cc)) step
  where
    step : (file : List (List ℕ)) (line : List ℕ) →
        (list_all is_short file ≡ true → (name : List ℕ) → is_headed name (first_heads file) ≡ true →
        length name + 10 ≤ 4096) →
        list_all is_short (file ++ line ∷ []) ≡ true → (name : List ℕ) → is_headed name (first_heads (file ++ line ∷ [])) ≡ true → length name + 10 ≤ 4096
    step file line before short name known =
        by_head (is_head line) (block_of (words line)) refl
        (ap (is_headed name) (sym (first_heads-push file line)) ∙ known)
      where
        parts : (list_all is_short file ≡ true) × (list_all is_short (line ∷ []) ≡ true)
        parts = and_parts (list_all is_short file) (list_all is_short (line ∷ [])) (sym (list_all-append is_short file (line ∷ [])) ∙ short)

        within : length line ≤ 4096
        within = leb-true (length line) 4096 (and_parts (is_short line) true parts.1).0

        opened : (other : List ℕ) → block_of (words line) ≡ OfInterface other → length other + 10 ≤ 4096
        opened other is = let apart = words-room line in let sizes = opens_room (words line) other is in two (ends_word line) apart sizes
          where
            two : (b : Bool) → room (words line) ≤ length line + behind_end b → room (words line) ≡ length other + 11 → length other + 10 ≤ 4096
            two true apart sizes = omega (arith, apart, sizes, within)
            two false apart sizes = omega (arith, apart, sizes, within)

        new : (other : List ℕ) (n : ℕ) → block_of (words line) ≡ OfInterface other →
            is_headed name (heads_with (Some (other, n)) (first_heads file)) ≡ true → length name + 10 ≤ 4096
        new other n is found = by_known (is_headed other (first_heads file)) (is_headed name (first_heads file)) refl
            (sym (list_any-append (λ h. same_bytes name h.0) (first_heads file)
            (unless_known (is_headed other (first_heads file)) (other, n))) ∙ found)
          where
            by_new : (s : Bool) → same_bytes name other ≡ s → (s || false) ≡ true → length name + 10 ≤ 4096
            by_new true same h = let e = same_bytes-true name other same in omega (arith, opened other is, ap length e)
            by_new false same h = absurd (cc)

            by_known : (k a : Bool) → is_headed name (first_heads file) ≡ a → (a || is_headed name (unless_known k (other, n))) ≡ true → length name + 10 ≤ 4096
            by_known k true is_known h = before parts.0 name is_known
            by_known true false is_known h = absurd (cc)
            by_known false false is_known h = by_new (same_bytes name other) refl h

        by_head : (b : Bool) (block : Block) → block_of (words line) ≡ block →
            is_headed name (heads_with (cond b (name_with_line (length file + 1) (name_opened block)) None)
            (first_heads file)) ≡ true → length name + 10 ≤ 4096
        by_head true (OfInterface other) is found = new other (length file + 1) is found
        by_head true OfRouter is found = before parts.0 name found
        by_head true OfOther is found = before parts.0 name found
        by_head false block is found = before parts.0 name found

-- a line that gives no address and no area, is of no router block and opens no new interface
same_pushed : (file : List (List ℕ)) (line : List ℕ) → address_said (said_after file line).statement ≡ None →
    area_set (said_after file line).statement ≡ None →
    is_of_router (said_after file line).block ≡ false → first_heads (file ++ line ∷ []) ≡ first_heads file → SameTests file (file ++ line ∷ [])
same_pushed file line no_address no_area no_router heads = record {
  addresses = picked address_said no_address;
  areas = picked area_set no_area;
  router =
      ap about_router (said-push file line)
      ∙ about_router-push (said file) (said_after file line)
      ∙ ap (λ b. about_router (said file) ++ said_where b (said_after file line).statement) no_router
      ∙ append-nil (about_router (said file));
  heads = ap (map (λ (head : List ℕ × ℕ). head.0)) heads;
}
  where
    none_there : {X : Type 0} (pick : Statement → Option X) (b : Bool) (s : Statement) → pick s ≡ None → filter_map pick (said_where b s) ≡ []
    none_there pick true s none = rw none refl
    none_there pick false s none = refl

    picked : {X : Type 0} (pick : Statement → Option X) → pick (said_after file line).statement ≡ None →
        (name : List ℕ) → filter_map pick (about (said (file ++ line ∷ [])) name)
        ≡ filter_map pick (about (said file) name)
    picked pick none name =
        ap (λ all. filter_map pick (about all name)) (said-push file line)
        ∙ ap (filter_map pick) (about-push (said file) (said_after file line) name)
        ∙ filter_map-append pick (about (said file) name) (said_where (is_of name (said_after file line).block) (said_after file line).statement)
        ∙ ap (λ more. filter_map pick (about (said file) name) ++ more)
        (none_there pick (is_of name (said_after file line).block) (said_after file line).statement none)
        ∙ append-nil (filter_map pick (about (said file) name))

same_trans : (a b c : List (List ℕ)) → SameTests a b → SameTests b c → SameTests a c
same_trans a b c one two = record {
  addresses = λ name. two.addresses name ∙ one.addresses name;
  areas = λ name. two.areas name ∙ one.areas name;
  router = two.router ∙ one.router;
  heads = two.heads ∙ one.heads;
}

module _ (file_name : List ℕ) (base : List (List ℕ)) where
  -- a file whose lines are fine by the tests of another one, which says the same of them
  record GoesOn (file : List (List ℕ)) : Type 0 where
    fine : AllFine (second_address (said base)) (area_twice (said base) (first_heads base)) [] file
    same : SameTests base file
    name : is_router_name (router_name_said file_name file).0 ≡ true

  -- one more line without faults
  goes_on : (file : List (List ℕ)) (line : List ℕ) → GoesOn file → LineFine (second_address (said base)) (area_twice (said base) (first_heads base)) file line →
      SameTests file (file ++ line ∷ []) → names_router line ≡ false → GoesOn (file ++ line ∷ [])
  goes_on file line so_far line_fine same unnamed = record {
    fine = all_push (second_address (said base)) (area_twice (said base) (first_heads base)) [] file line so_far.fine line_fine;
    same = same_trans base file (file ++ line ∷ []) so_far.same same;
    name = ap (λ (p : List ℕ × ℕ). is_router_name p.0) (router_name-push file_name file line unnamed) ∙ so_far.name;
  }

  -- the lines of one cost
  one_cost : (file : List (List ℕ)) (cost : List ℕ × ℕ) → IsSectionCost file cost → length cost.0 + 10 ≤ 4096 →
      GoesOn file → GoesOn (file ++ config_section_lines (cost ∷ []))
  one_cost file cost fits short so_far =
      let known = is_headed-contains cost.0 (first_heads file) fits.headed in
      let first = goes_on file (name_line cost.0) so_far
      (record { short = le-leb (length (name_line cost.0)) 4096 (omega (arith, short)); own = refl; address = refl; area = refl })
      (same_pushed file (name_line cost.0) refl refl refl (after_name file_name file cost.0 fits.word known).1) refl in
      let opened = file ++ name_line cost.0 ∷ [] in
      let block = block_behind file cost.0 fits.word in
      let says = cost_said_there cost.1 fits.from fits.to in
      let statement : statement_in (OfInterface cost.0) (words (section_cost_line cost.1)) ≡ CostIs cost.1 = says in
      let second = goes_on opened (section_cost_line cost.1) first
      (record {
        short = le-leb (length (section_cost_line cost.1)) 4096 (omega (arith, length-decimal-le 5 cost.1 (omega arith) (omega (arith, fits.to))));
        own = ap (λ b. refused (statement_in b (words (section_cost_line cost.1)))) block ∙ ap refused statement;
        address = ap (λ b. second_address (said base) b (statement_in b (words (section_cost_line cost.1)))) block
            ∙ ap (second_address (said base) (OfInterface cost.0)) statement;
        area = ap (λ b. area_twice (said base) (first_heads base) (networks_said (said opened)) b
            (statement_in b (words (section_cost_line cost.1)))) block
            ∙ ap (area_twice (said base) (first_heads base) (networks_said (said opened)) (OfInterface cost.0)) statement;
      })
      (same_pushed opened (section_cost_line cost.1)
      (ap address_said (ap (λ b. statement_in b (words (section_cost_line cost.1))) block ∙ statement))
      (ap area_set (ap (λ b. statement_in b (words (section_cost_line cost.1))) block ∙ statement))
      (ap is_of_router block)
      (after_cost file_name file cost.0 cost.1 fits.word fits.from fits.to).1) refl in
      let set = opened ++ section_cost_line cost.1 ∷ [] in
      let third = goes_on set (codes "exit") second (record { short = refl; own = refl; address = refl; area = refl })
      (same_pushed set (codes "exit") refl refl refl (after_exit file_name set).1) refl in
      subst GoesOn (three_more file (name_line cost.0) (section_cost_line cost.1) (codes "exit")) third

  -- the lines of a section
  section_goes : (file : List (List ℕ)) (costs : List (List ℕ × ℕ)) → All (IsSectionCost file) costs →
      All (λ cost. length cost.0 + 10 ≤ 4096) costs → GoesOn file → GoesOn (file ++ config_section_lines costs)
  section_goes file [] fits short so_far = subst GoesOn (sym (append-nil file)) so_far
  section_goes file (cost ∷ costs) fits short so_far =
      let here = All-head (IsSectionCost file) cost costs fits in
      let heads = (after_one file_name file cost here).1 in
      let rest : All (IsSectionCost (file ++ config_section_lines (cost ∷ []))) costs =
      All-weaker (IsSectionCost file) (IsSectionCost (file ++ config_section_lines (cost ∷ [])))
      (λ other fit. record {
        word = fit.word;
        headed = subst (λ (hs : List (List ℕ × ℕ)). Contains (map (λ head. head.0) hs) other.0)
            (sym heads) fit.headed;
        from = fit.from;
        to = fit.to;
      })
      costs (All-tail (IsSectionCost file) cost costs fits) in
      subst GoesOn (sym (section_lines-cons file cost costs))
      (section_goes (file ++ config_section_lines (cost ∷ [])) costs rest
      (All-tail (λ c. length c.0 + 10 ≤ 4096) cost costs short)
      (one_cost file cost here (All-head (λ c. length c.0 + 10 ≤ 4096) cost costs short) so_far))

pub all_short : (file : List (List ℕ)) → All (λ line. is_short line ≡ true) file → list_all is_short file ≡ true
all_short [] each = refl
all_short (line ∷ file) each = rw (All-head (λ l. is_short l ≡ true) line file each, all_short file (All-tail (λ l. is_short l ≡ true) line file each)) refl

-- a configuration without a fault has none with a section after it
pub section_accepted : (file_name bytes : List ℕ) (costs : List (List ℕ × ℕ)) → All (IsSectionCost (lines bytes)) costs → config_fault file_name bytes ≡ None →
    config_fault file_name (ended bytes ++ with_ends (config_section_lines costs)) ≡ None
section_accepted file_name bytes costs fits accepted =
    let file = lines bytes in
    let before = faultless file_name file accepted in
    let short = all_short file (short_all (second_address (said file)) (area_twice (said file) (first_heads file)) file [] before.fine) in
    let start : GoesOn file_name file file = record {
      fine = before.fine;
      same = record { addresses = λ name. refl; areas = λ name. refl; router = refl; heads = refl };
      name = before.name;
    } in
    let done = section_goes file_name file file costs fits
    (All-weaker (IsSectionCost file) (λ cost. length cost.0 + 10 ≤ 4096)
    (λ cost fit. headed_short file short cost.0 (is_headed-contains cost.0 (first_heads file) fit.headed)) costs
    fits) start in
    ap (λ (read : List (List ℕ)). first_of (faults file_name read)) (lines-section bytes costs fits)
    ∙ no_faults file_name (file ++ config_section_lines costs) (faultless_so file_name file (file ++ config_section_lines costs) done.same done.fine done.name)
