-- A configuration with a printed section after it.
use Rattle.std.proofs.Common.{◌≡◌, ℕ, ◌+◌, ◌≤◌, List, [], ◌∷◌, ◌++◌, length, map, All, Bool, cond, true, false, refl, sym, ap, ◌∙◌, subst, arith, append-nil, append_assoc, eqb, Some, Contains}
use Rattle.std.proofs.lemmas.Simd.{map-map}
use Rattle.std.specs.Prelude.{codes}
use Rattle.std.specs.List.{filter}
use Rattle.std.proofs.lemmas.Bool.{ne_eqb}
use Rattle.std.proofs.lemmas.List.Elements.{filter-append, All-head, All-tail, All-weaker}
use Rattle.cost_base.specs.Decimal.{decimal}
use Rattle.cost_base.specs.Lists.{same_bytes, last_of}
use Rattle.cost_base.specs.Words.{IsOneWord}
use Rattle.cost_base.proofs.ListLemmas.{map-agree, last_of-push}
use Rattle.text_lines.specs.Lines.{lines, words, is_head, ended, with_ends}
use Rattle.interface_model.specs.declared.Interface.{Interface}
use Rattle.interface_model.specs.Records.{Router}
use Rattle.config_reader.specs.Statements.{CostIs, OfInterface, OfOther, block_of, cost_statement, interface_statement, statement_in}
use Rattle.config_reader.specs.Settings.{Said, said, block_by_head, about_router, setting, router_id_said, interface_as_set, is_of, is_of_router}
use Rattle.config_reader.specs.Configs.{config_of, first_heads, name_with_line, name_opened}
use Rattle.config_reader.specs.RouterNames.{router_name_said}
use Rattle.config_reader.specs.Sections.{config_section_lines, with_cost, with_costs, IsSectionCost, name_line, section_cost_line}
use Rattle.config_reader.proofs.SaidSteps.{said_after, said-push, names_router, router_name-push, opened_from}
use Rattle.config_reader.proofs.SettingSteps.{interface_of-other, interface_of-cost, about_router-push, said_where}
use Rattle.config_reader.proofs.HeadSteps.{first_heads-push, heads_with, is_headed, is_headed-contains, unless_known}
use Rattle.config_reader.proofs.PrintedLines.{lines-with_ends, all_lack_end, lacks_end, word_lacks_end}
use Rattle.text_lines.proofs.WordLaws.{words-one, decimal-word}
use Rattle.text_lines.proofs.NumberLaws.{number-decimal}
use Rattle.text_lines.proofs.LineLaws.{lines-ended}

-- a router by its name, what its file says and its heads
pub router_by : List ℕ → List Said → List (List ℕ × ℕ) → Router
router_by name all heads = record {
  name = name;
  router_id = setting router_id_said (about_router all);
  interfaces = map (λ head. interface_as_set all head.0 head.1) heads;
}

-- what the lines of a configuration say
pub router_of : List ℕ → List (List ℕ) → Router
router_of file_name file = router_by (router_name_said file_name file).0 (said file) (first_heads file)

pub config_of-lines : (file_name bytes : List ℕ) → config_of file_name bytes ≡ router_of file_name (lines bytes)
unfolding router_of router_by
config_of-lines file_name bytes = refl

-- one more thing said that is of no router block keeps the router id
router_id_kept : (all : List Said) (s : Said) → is_of_router s.block ≡ false → about_router (all ++ s ∷ []) ≡ about_router all
router_id_kept all s other = about_router-push all s ∙ ap (λ b. about_router all ++ said_where b s.statement) other ∙ append-nil (about_router all)

-- a thing said outside of every block that is read leaves a router
router_by-silent : (name : List ℕ) (all : List Said) (s : Said) (heads : List (List ℕ × ℕ)) → s.block ≡ OfOther →
    router_by name (all ++ s ∷ []) heads ≡ router_by name all heads
unfolding router_by
router_by-silent name all s heads silent =
    cc (
      router_id_kept all s (ap is_of_router silent),
      map-agree (λ head. interface_as_set (all ++ s ∷ []) head.0 head.1) (λ head. interface_as_set all head.0 head.1) heads
          (λ head. interface_of-other all s head.0 head.1 (ap (is_of head.0) silent) (ap is_of_router silent)),
    )

-- a cost line sets the cost of its interface
router_by-cost : (name : List ℕ) (all : List Said) (s : Said) (heads : List (List ℕ × ℕ)) (interface : List ℕ) (n : ℕ) →
    s.block ≡ OfInterface interface → s.statement ≡ CostIs n →
    router_by name (all ++ s ∷ []) heads ≡ with_costs ((interface, n) ∷ []) (router_by name all heads)
unfolding router_by
router_by-cost name all s heads interface n block cost =
    cc (
      router_id_kept all s (ap is_of_router block),
      map-agree (λ head. interface_as_set (all ++ s ∷ []) head.0 head.1) (λ head. with_cost ((interface, n) ∷ []) (interface_as_set all head.0 head.1)) heads
          one,
      map-map (with_cost ((interface, n) ∷ [])) (λ head. interface_as_set all head.0 head.1) heads,
    )
  where
    one : (head : List ℕ × ℕ) → interface_as_set (all ++ s ∷ []) head.0 head.1 ≡ with_cost ((interface, n) ∷ []) (interface_as_set all head.0 head.1)
    one head = cases (same_bytes head.0 interface) refl
      where
        cases : (b : Bool) → same_bytes head.0 interface ≡ b →
            interface_as_set (all ++ s ∷ []) head.0 head.1
            ≡ record (interface_as_set all head.0 head.1) { cost = cond b (Some n) (interface_as_set all head.0 head.1).cost }
        cases true same = interface_of-cost all s head.0 head.1 n (ap (is_of head.0) block ∙ same) (ap is_of_router block) cost
        cases false same = interface_of-other all s head.0 head.1 (ap (is_of head.0) block ∙ same) (ap is_of_router block)

-- a line that says nothing, names no router and opens no new interface leaves what a file says
pub router_of-silent : (file_name : List ℕ) (file : List (List ℕ)) (line : List ℕ) →
    (said_after file line).block ≡ OfOther → names_router line ≡ false →
    first_heads (file ++ line ∷ []) ≡ first_heads file →
    router_of file_name (file ++ line ∷ []) ≡ router_of file_name file
unfolding router_of
router_of-silent file_name file line silent unnamed heads =
    cc (
      ap (λ (p : List ℕ × ℕ). p.0) (router_name-push file_name file line unnamed),
      said-push file line,
      heads,
      router_by-silent (router_name_said file_name file).0 (said file) (said_after file line) (first_heads file) silent,
    )

-- a cost line sets the cost of its interface
pub router_of-cost : (file_name : List ℕ) (file : List (List ℕ)) (line interface : List ℕ) (n : ℕ) →
    (said_after file line).block ≡ OfInterface interface → (said_after file line).statement ≡ CostIs n →
    names_router line ≡ false → first_heads (file ++ line ∷ []) ≡ first_heads file →
    router_of file_name (file ++ line ∷ []) ≡ with_costs ((interface, n) ∷ []) (router_of file_name file)
unfolding router_of
router_of-cost file_name file line interface n block cost unnamed heads =
    cc (
      ap (λ (p : List ℕ × ℕ). p.0) (router_name-push file_name file line unnamed),
      said-push file line,
      heads,
      router_by-cost (router_name_said file_name file).0 (said file) (said_after file line) (first_heads file) interface n block cost,
    )

-- the head of a section's interface leaves what a file says
pub after_name : (file_name : List ℕ) (file : List (List ℕ)) (name : List ℕ) → IsOneWord name → is_headed name (first_heads file) ≡ true →
    (router_of file_name (file ++ name_line name ∷ []) ≡ router_of file_name file) × (first_heads (file ++ name_line name ∷ []) ≡ first_heads file)
after_name file_name file name one known = (router_of-silent file_name file (name_line name) refl refl heads, heads)
  where
    heads : first_heads (file ++ name_line name ∷ []) ≡ first_heads file
    heads =
        first_heads-push file (name_line name)
        ∙ ap (λ o. heads_with o (first_heads file)) opened
        ∙ ap (λ b. first_heads file ++ unless_known b (name, length file + 1)) known
        ∙ append-nil (first_heads file)
      where
        opened : opened_from (length file) (name_line name) ≡ Some (name, length file + 1)
        opened = ap (λ ws. name_with_line (length file + 1) (name_opened (block_of (codes "interface" ∷ ws)))) (words-one name one)

-- the block of a line behind a head of an interface
pub block_behind : (file : List (List ℕ)) (name : List ℕ) → IsOneWord name →
    block_by_head (last_of (filter is_head (file ++ name_line name ∷ []))) ≡ OfInterface name
block_behind file name one =
    ap (λ heads. block_by_head (last_of heads)) (filter-append is_head file (name_line name ∷ []))
    ∙ ap block_by_head (last_of-push (filter is_head file) (name_line name))
    ∙ ap (λ ws. block_of (codes "interface" ∷ ws)) (words-one name one)

-- what a cost line says
pub cost_said_there : (n : ℕ) → 1 ≤ n → n ≤ 65535 → interface_statement (words (section_cost_line n)) ≡ CostIs n
cost_said_there n from to =
    ap (λ ws. interface_statement (codes "ip" ∷ codes "ospf" ∷ codes "cost" ∷ ws)) (words-one (decimal n) (decimal-word n))
    ∙ ap (cost_statement true) (number-decimal n 65535 to (omega arith))
    ∙ positive
  where
    positive : cost_statement true (Some n) ≡ CostIs n
    positive = let some : eqb n 0 ≡ false = ne_eqb n 0 (λ e. omega arith) in rw some

-- a cost line behind the head of its interface sets the cost
pub after_cost : (file_name : List ℕ) (file : List (List ℕ)) (name : List ℕ) (n : ℕ) → IsOneWord name → 1 ≤ n → n ≤ 65535 →
    (router_of file_name ((file ++ name_line name ∷ []) ++ section_cost_line n ∷ []) ≡
    with_costs ((name, n) ∷ []) (router_of file_name (file ++ name_line name ∷ [])))
    × (first_heads ((file ++ name_line name ∷ []) ++ section_cost_line n ∷ []) ≡ first_heads (file ++ name_line name ∷ []))
after_cost file_name file name n one from to =
    (router_of-cost file_name (file ++ name_line name ∷ []) (section_cost_line n) name n (block_behind file name one) cost refl heads, heads)
  where
    heads : first_heads ((file ++ name_line name ∷ []) ++ section_cost_line n ∷ []) ≡ first_heads (file ++ name_line name ∷ [])
    heads = first_heads-push (file ++ name_line name ∷ []) (section_cost_line n)

    cost : (said_after (file ++ name_line name ∷ []) (section_cost_line n)).statement ≡ CostIs n
    cost = ap (λ b. statement_in b (words (section_cost_line n))) (block_behind file name one) ∙ cost_said_there n from to

-- `exit` leaves what a file says
pub after_exit : (file_name : List ℕ) (file : List (List ℕ)) →
    (router_of file_name (file ++ codes "exit" ∷ []) ≡ router_of file_name file) × (first_heads (file ++ codes "exit" ∷ []) ≡ first_heads file)
after_exit file_name file = (router_of-silent file_name file (codes "exit") refl refl heads, heads)
  where
    heads : first_heads (file ++ codes "exit" ∷ []) ≡ first_heads file
    heads = first_heads-push file (codes "exit")

pub three_more : {X : Type 0} (xs : List X) (a b c : X) → ((xs ++ a ∷ []) ++ b ∷ []) ++ c ∷ [] ≡ xs ++ (a ∷ b ∷ c ∷ [])
three_more [] a b c = refl
three_more (x ∷ xs) a b c = ap (λ ys. x ∷ ys) (three_more xs a b c)

-- a file with the lines of one cost after it
pub after_one : (file_name : List ℕ) (file : List (List ℕ)) (cost : List ℕ × ℕ) → IsSectionCost file cost →
    (router_of file_name (file ++ config_section_lines (cost ∷ [])) ≡ with_costs (cost ∷ []) (router_of file_name file))
    × (first_heads (file ++ config_section_lines (cost ∷ [])) ≡ first_heads file)
after_one file_name file cost fits =
    let known = is_headed-contains cost.0 (first_heads file) fits.headed in
    let head = after_name file_name file cost.0 fits.word known in
    let set = after_cost file_name file cost.0 cost.1 fits.word fits.from fits.to in
    let left = after_exit file_name ((file ++ name_line cost.0 ∷ []) ++ section_cost_line cost.1 ∷ []) in
    let same = three_more file (name_line cost.0) (section_cost_line cost.1) (codes "exit") in
    (ap (router_of file_name) (sym same) ∙ left.0 ∙ set.0 ∙ ap (with_costs ((cost.0, cost.1) ∷ [])) head.0, ap first_heads (sym same) ∙ left.1 ∙ set.1 ∙ head.1)

-- costs one after another
with_costs-cons : (cost : List ℕ × ℕ) (costs : List (List ℕ × ℕ)) (r : Router) → with_costs costs (with_costs (cost ∷ []) r) ≡ with_costs (cost ∷ costs) r
with_costs-cons cost costs r =
    ap (λ (interfaces : List Interface). record r { interfaces = interfaces })
    (map-map (with_cost costs) (with_cost (cost ∷ [])) r.interfaces)

pub section_lines-cons : (file : List (List ℕ)) (cost : List ℕ × ℕ) (costs : List (List ℕ × ℕ)) →
    file ++ config_section_lines (cost ∷ costs) ≡ (file ++ config_section_lines (cost ∷ [])) ++ config_section_lines costs
section_lines-cons file cost costs = sym (append_assoc file (config_section_lines (cost ∷ [])) (config_section_lines costs))

-- a file with the lines of a section after it
pub router_of-section : (file_name : List ℕ) (file : List (List ℕ)) (costs : List (List ℕ × ℕ)) →
    All (IsSectionCost file) costs →
    router_of file_name (file ++ config_section_lines costs) ≡ with_costs costs (router_of file_name file)
router_of-section file_name file [] fits = ap (router_of file_name) (append-nil file) ∙ same (router_of file_name file)
  where
    same : (r : Router) → r ≡ with_costs [] r
    same r = ap (λ (interfaces : List Interface). record r { interfaces = interfaces }) (each r.interfaces)
      where
        each : (is : List Interface) → is ≡ map (with_cost []) is
        each [] = refl
        each (i ∷ is) = ap (λ rest. i ∷ rest) (each is)
router_of-section file_name file (cost ∷ costs) fits =
    let here = after_one file_name file cost (All-head (IsSectionCost file) cost costs fits) in
    let rest : All (IsSectionCost (file ++ config_section_lines (cost ∷ []))) costs =
    All-weaker (IsSectionCost file) (IsSectionCost (file ++ config_section_lines (cost ∷ [])))
    (λ other fit. record {
      word = fit.word;
      headed = subst (λ (heads : List (List ℕ × ℕ)). Contains (map (λ head. head.0) heads) other.0)
          (sym here.1) fit.headed;
      from = fit.from;
      to = fit.to;
    })
    costs (All-tail (IsSectionCost file) cost costs fits) in
    ap (router_of file_name) (section_lines-cons file cost costs)
    ∙ router_of-section file_name (file ++ config_section_lines (cost ∷ [])) costs rest
    ∙ ap (with_costs costs) here.0
    ∙ with_costs-cons cost costs (router_of file_name file)

-- no line of a section has an LF
section_lacks_end : (file : List (List ℕ)) (costs : List (List ℕ × ℕ)) → All (IsSectionCost file) costs → all_lack_end (config_section_lines costs) ≡ true
section_lacks_end file [] fits = refl
section_lacks_end file (cost ∷ costs) fits =
    let name : lacks_end cost.0 ≡ true = word_lacks_end cost.0 (All-head (IsSectionCost file) cost costs fits).word.whole in
    let number : lacks_end (decimal cost.1) ≡ true = word_lacks_end (decimal cost.1) (decimal-word cost.1).whole in
    let rest = section_lacks_end file costs (All-tail (IsSectionCost file) cost costs fits) in
    rw (name, number, rest)

-- the lines of a text with a section after it
pub lines-section : (bytes : List ℕ) (costs : List (List ℕ × ℕ)) → All (IsSectionCost (lines bytes)) costs →
    lines (ended bytes ++ with_ends (config_section_lines costs)) ≡ lines bytes ++ config_section_lines costs
lines-section bytes costs fits =
    lines-ended bytes (with_ends (config_section_lines costs))
    ∙ ap (λ more. lines bytes ++ more)
    (lines-with_ends (config_section_lines costs) (section_lacks_end (lines bytes) costs fits))

-- a configuration with a section after it says the same, but for the costs of the section
pub config_of-section : (file_name bytes : List ℕ) (costs : List (List ℕ × ℕ)) → All (IsSectionCost (lines bytes)) costs →
    config_of file_name (ended bytes ++ with_ends (config_section_lines costs)) ≡ with_costs costs (config_of file_name bytes)
config_of-section file_name bytes costs fits =
    config_of-lines file_name (ended bytes ++ with_ends (config_section_lines costs))
    ∙ ap (router_of file_name) (lines-section bytes costs fits)
    ∙ router_of-section file_name (lines bytes) costs fits
    ∙ ap (with_costs costs) (sym (config_of-lines file_name bytes))
