-- The section of a router in a printed answer holds exactly the router's lines of costs.
use Rattle.std.proofs.Common.{◌≡◌, ℕ, ◌⊎◌, inl, inr, refl, sym, ◌∙◌, ap, List, [], ◌∷◌, ◌++◌, length, map, Bool, true, false, cond, ◌&&◌, not, Option, Some, None}
use Rattle.std.specs.Prelude.{codes, All, ◌==◌}
use Rattle.std.specs.List.{AllByRecursion}
use Rattle.std.proofs.lemmas.List.{append_assoc}
use Rattle.std.proofs.lemmas.List.Elements.{All-head, All-tail}
use Rattle.std.proofs.Math.Bool.{and-true}
use Rattle.std.proofs.lemmas.Bool.{and_from, and_parts, and_right, cases_Bool, false≢true}
use Rattle.cost_base.specs.Decimal.{decimal}
use Rattle.cost_base.specs.Lists.{same_bytes}
use Rattle.cost_base.specs.Words.{IsOneWord}
use Rattle.cost_base.proofs.ByteLemmas.{same_bytes-true}
use Rattle.text_lines.specs.Lines.{lines, words, with_ends}
use Rattle.design_problem.specs.declared.form.Row.{Row}
use Rattle.design_problem.specs.declared.tree.Entry.{Entry}
use Rattle.design_problem.specs.declared.tree.Entry.TheVariants.{Tighten, Split, Halve, Refute, Undone}
use Rattle.design_problem.specs.declared.answer.Verdict.{Verdict}
use Rattle.design_problem.specs.declared.answer.Verdict.TheVariants.{Optimal, Impossible, Undecided}
use Rattle.design_problem.specs.declared.answer.Costs.{Costs}
use Rattle.design_problem.specs.declared.answer.CostLine.{CostLine}
use Rattle.design_problem.specs.declared.answer.CapTree.{CapTree}
use Rattle.design_problem.specs.Answers.{AnswerParts}
use Rattle.design_problem.specs.Text.{spaced, verdict_words, router_lines, cost_lines, costs_lines, row_line, entry_line, tree_lines, answer_lines, text, end_lines}
use Rattle.config_reader.specs.Statements.{begin_with}
use Rattle.config_reader.specs.Sections.{config_section_lines}
use Rattle.config_reader.proofs.PrintedLines.{all_lack_end, lines-with_ends}
use Rattle.text_lines.proofs.WordLaws.{words-one}
use Rattle.read_back_laws.specs.ReadBack.{opens_section, pairs_of, until_end, section}
use Rattle.read_back_laws.proofs.PrintedText.{NamesWords, all_append, costs_lack, head_part, floor_part, last_part, parts_are, lines_around}

-- A router's lines stand together: none of them; only others behind them; one run.

abbrev pub NoneOf : List ℕ → List CostLine → Type 0
NoneOf router lines = AllByRecursion (λ line. same_bytes router line.router ≡ false) lines

abbrev pub AfterRun : List ℕ → List CostLine → Type 0
AfterRun router [] = Unit {0}
AfterRun router (line ∷ lines) =
    ((same_bytes router line.router ≡ true) × AfterRun router lines) ⊎ ((same_bytes router line.router ≡ false) × NoneOf router lines)

abbrev pub OneRun : List ℕ → List CostLine → Type 0
OneRun router [] = Unit {0}
OneRun router (line ∷ lines) =
    ((same_bytes router line.router ≡ true) × AfterRun router lines) ⊎ ((same_bytes router line.router ≡ false) × OneRun router lines)

none_pairs : (router : List ℕ) (lines : List CostLine) → NoneOf router lines → pairs_of router lines ≡ []
none_pairs router [] none = refl
none_pairs router (line ∷ lines) none = rw none.0 (none_pairs router lines none.1)

-- A line opens no section where its first word isn't `router`.

abbrev pub starts_other : List ℕ → Bool
starts_other line = not (begin_with (codes "router" ∷ []) (words line))

other_opens : (router line : List ℕ) → starts_other line ≡ true → opens_section router line ≡ false
other_opens router line other = by_words (words line) other
  where
    by_words : (ws : List (List ℕ)) → not (begin_with (codes "router" ∷ []) ws) ≡ true →
        (length ws == 2 && begin_with (codes "router" ∷ router ∷ []) ws) ≡ false
    by_words [] other = refl
    by_words (w ∷ ws) other = and_right (length (w ∷ ws) == 2) (begin_with (codes "router" ∷ router ∷ []) (w ∷ ws))
        (by_test (same_bytes (codes "router") w) other)
      where
        by_test : (b : Bool) → not (b && true) ≡ true → (b && begin_with (router ∷ []) ws) ≡ false
        by_test true other = absurd (false≢true other)
        by_test false other = refl

abbrev pub all_other : List (List ℕ) → Bool
all_other [] = true
all_other (line ∷ ls) = starts_other line && all_other ls

pub others_append : (ls more : List (List ℕ)) → all_other ls ≡ true → all_other more ≡ true → all_other (ls ++ more) ≡ true
others_append [] more other later = later
others_append (line ∷ ls) more other later =
    let parts = and_parts (starts_other line) (all_other ls) other in
    and_from (starts_other line) (all_other (ls ++ more)) parts.0 (others_append ls more parts.1 later)

pub others_cons : (line : List ℕ) (ls : List (List ℕ)) → starts_other line ≡ true → all_other ls ≡ true → all_other (line ∷ ls) ≡ true
others_cons line ls here more = and_from (starts_other line) (all_other ls) here more

-- a section isn't found in lines that open none
others_section : (router : List ℕ) (ls more : List (List ℕ)) → all_other ls ≡ true → section router (ls ++ more) ≡ section router more
others_section router [] more other = refl
others_section router (line ∷ ls) more other =
    let parts = and_parts (starts_other line) (all_other ls) other in
    rw (other_opens router line parts.0) (others_section router ls more parts.1)

other_entry : (e : Entry) → starts_other (entry_line e) ≡ true
other_entry (Tighten v side bound row) = refl
other_entry (Split v bound) = refl
other_entry (Halve v bound wide) = refl
other_entry (Refute []) = refl
other_entry (Refute (part ∷ parts)) = refl
other_entry Undone = refl

other_entries : (es : List Entry) → all_other (map entry_line es) ≡ true
other_entries [] = refl
other_entries (e ∷ es) = and_from (starts_other (entry_line e)) (all_other (map entry_line es)) (other_entry e) (other_entries es)

pub other_rows : (rows : List Row) → all_other (map row_line rows) ≡ true
other_rows [] = refl
other_rows (row ∷ rows) = other_rows rows

pub other_proof : (t : Option CapTree) → all_other (tree_lines (codes "proof") t) ≡ true
other_proof None = refl
other_proof (Some t) = other_entries t.tree

pub other_open : (t : Option CapTree) → all_other (tree_lines (codes "open") t) ≡ true
other_open None = refl
other_open (Some t) = other_entries t.tree

nothing_opened : (router : List ℕ) (ls : List (List ℕ)) → all_other ls ≡ true → section router ls ≡ []
nothing_opened router [] other = refl
nothing_opened router (line ∷ ls) other =
    let parts = and_parts (starts_other line) (all_other ls) other in
    rw (other_opens router line parts.0) (nothing_opened router ls parts.1)

-- no section begins behind the costs
last_section : (router : List ℕ) (a : AnswerParts) (behind : List (List ℕ)) → all_other behind ≡ true → section router (last_part a ++ behind) ≡ []
last_section router a behind other =
    ap (section router) (regrouped (floor_part a) (tree_lines (codes "proof") a.proof) (tree_lines (codes "open") a.undecided) end_lines behind)
    ∙ others_section router (floor_part a)
    (tree_lines (codes "proof") a.proof ++ (tree_lines (codes "open") a.undecided ++ (end_lines ++ behind))) (other_rows a.rows)
    ∙ others_section router (tree_lines (codes "proof") a.proof) (tree_lines (codes "open") a.undecided ++ (end_lines ++ behind)) (other_proof a.proof)
    ∙ others_section router (tree_lines (codes "open") a.undecided) (end_lines ++ behind) (other_open a.undecided)
    ∙ others_section router end_lines behind refl
    ∙ nothing_opened router behind other
  where
    regrouped : (f p u e b : List (List ℕ)) → (f ++ (p ++ (u ++ e))) ++ b ≡ f ++ (p ++ (u ++ (e ++ b)))
    regrouped f p u e b = simp append_assoc

-- `router NAME`
abbrev router_line : List ℕ → List ℕ
router_line name = spaced (codes "router" ∷ name ∷ [])

router_words : (name : List ℕ) → IsOneWord name → words (router_line name) ≡ codes "router" ∷ name ∷ []
router_words name one = ap (λ (ws : List (List ℕ)). codes "router" ∷ ws) (words-one name one)

router_opens : (router name : List ℕ) → IsOneWord name → opens_section router (router_line name) ≡ same_bytes router name
router_opens router name one =
    ap (λ (ws : List (List ℕ)). length ws == 2 && begin_with (codes "router" ∷ router ∷ []) ws) (router_words name one) ∙ and-true (same_bytes router name)

-- the lines of an interface's cost
abbrev three : CostLine → List (List ℕ) → List (List ℕ)
three line more =
    spaced (codes "interface" ∷ line.interface ∷ [])
    ∷ spaced (codes " ip" ∷ codes "ospf" ∷ codes "cost" ∷ decimal line.cost ∷ [])
    ∷ codes "exit"
    ∷ more

three_section : (router : List ℕ) (line : CostLine) (more : List (List ℕ)) → section router (three line more) ≡ section router more
three_section router line more =
    others_section router (spaced (codes "interface" ∷ line.interface ∷ [])
    ∷ spaced (codes " ip" ∷ codes "ospf" ∷ codes "cost" ∷ decimal line.cost ∷ []) ∷ codes "exit" ∷ []) more refl

-- in a router's section: its lines, up to the next router's
in_section : (router : List ℕ) (ls : List CostLine) (tail : List (List ℕ)) → All NamesWords ls → AfterRun router ls →
    until_end tail ≡ [] → until_end (cost_lines (Some router) ls ++ tail) ≡ config_section_lines (pairs_of router ls)
in_section router [] tail words run last = last
in_section router (line ∷ ls) tail words run last =
    elim run [
      | inl same ↦
          let is : router ≡ line.router = same_bytes-true router line.router same.0 in
          rw same.0
          (ap (three line) (ap (λ (name : List ℕ). until_end (cost_lines (Some name) ls ++ tail)) (sym is)
          ∙ in_section router ls tail (All-tail NamesWords line ls words) same.1 last))
      | inr other ↦
          rw (other.0, none_pairs router ls other.1) refl
    ]

-- a router's section begins behind the lines of others
abbrev IsBefore : List ℕ → Option (List ℕ) → Type 0
IsBefore router None = Unit {0}
IsBefore router (Some before) = same_bytes router before ≡ false

-- behind a router's own line
at_line : (router : List ℕ) (line : CostLine) (more : List (List ℕ)) → IsOneWord line.router →
    same_bytes router line.router ≡ true → section router (router_line line.router ∷ more) ≡ until_end more
at_line router line more one same = rw (router_opens router line.router one ∙ same) refl

past_line : (router : List ℕ) (line : CostLine) (more : List (List ℕ)) → IsOneWord line.router →
    same_bytes router line.router ≡ false → section router (router_line line.router ∷ more) ≡ section router more
past_line router line more one other = rw (router_opens router line.router one ∙ other) refl

-- skipping the line of another router, with or without its `router` line
skip_router : (router : List ℕ) (before : Option (List ℕ)) (line : CostLine) (more : List (List ℕ)) →
    IsOneWord line.router → same_bytes router line.router ≡ false →
    section router (router_lines before line.router ++ more) ≡ section router more
skip_router router None line more one other = past_line router line more one other
skip_router router (Some before) line more one other = by_test (same_bytes before line.router)
  where
    by_test : (b : Bool) → section router (cond b [] (router_line line.router ∷ []) ++ more) ≡ section router more
    by_test true = refl
    by_test false = past_line router line more one other

-- the `router` line of the router that is looked for is printed
meet_router : (router : List ℕ) (before : Option (List ℕ)) (line : CostLine) (more : List (List ℕ)) →
    IsOneWord line.router → IsBefore router before → same_bytes router line.router ≡ true →
    section router (router_lines before line.router ++ more) ≡ until_end more
meet_router router None line more one apart same = at_line router line more one same
meet_router router (Some before) line more one apart same =
    elim (cases_Bool (same_bytes before line.router)) [
      | inl equal ↦
          absurd (false≢true (sym apart ∙ ap (same_bytes router) (same_bytes-true before line.router equal) ∙ same))
      | inr differs ↦ rw differs (at_line router line more one same)
    ]

find_section : (router : List ℕ) (before : Option (List ℕ)) (ls : List CostLine) (tail : List (List ℕ)) →
    All NamesWords ls → OneRun router ls → IsBefore router before → until_end tail ≡ [] → section router tail ≡ [] →
    section router (cost_lines before ls ++ tail) ≡ config_section_lines (pairs_of router ls)
find_section router before [] tail words run apart last none = none
find_section router before (line ∷ ls) tail words run apart last none =
    let one : IsOneWord line.router = (All-head NamesWords line ls words).router in
    let rest : List (List ℕ) = three line (cost_lines (Some line.router) ls) in
    let grouped : section router (cost_lines before (line ∷ ls) ++ tail)
    ≡ section router (router_lines before line.router ++ three line (cost_lines (Some line.router) ls ++ tail))
    = ap (section router) (append_assoc (router_lines before line.router) rest tail) in
    elim run [
      | inl same ↦
          let is : router ≡ line.router = same_bytes-true router line.router same.0 in
          let inside = ap (λ (name : List ℕ). until_end (cost_lines (Some name) ls ++ tail)) (sym is)
          ∙ in_section router ls tail (All-tail NamesWords line ls words) same.1 last in
          grouped
          ∙ meet_router router before line (three line (cost_lines (Some line.router) ls ++ tail)) one apart same.0
          ∙ ap (three line) inside
          ∙ rw same.0 refl
      | inr other ↦
          grouped
          ∙ skip_router router before line (three line (cost_lines (Some line.router) ls ++ tail)) one other.0
          ∙ three_section router line (cost_lines (Some line.router) ls ++ tail)
          ∙ find_section router (Some line.router) ls tail (All-tail NamesWords line ls words) other.1 other.0 last none
          ∙ rw other.0 refl
    ]

head_section : (router : List ℕ) (a : AnswerParts) (more : List (List ℕ)) → section router (head_part a ++ more) ≡ section router more
head_section router a more = others_section router (head_part a) more (by_verdict a.verdict)
  where
    by_verdict : (v : Verdict) → all_other (codes "ospfcost answer 1" ∷ spaced (codes "verdict" ∷ verdict_words v) ∷ []) ≡ true
    by_verdict (Optimal k) = refl
    by_verdict Impossible = refl
    by_verdict (Undecided cap) = refl

-- a text's sections are those of these lines of costs, where the lines of a router stand together
abbrev pub PrintsSections : List ℕ → List CostLine → Type 0
PrintsSections bytes ls = (router : List ℕ) → OneRun router ls → section router (lines bytes) ≡ config_section_lines (pairs_of router ls)

-- So are the sections of a printed answer, also with lines before and behind it that open no section.
pub sections_printed : (before behind : List (List ℕ)) (a : AnswerParts) (costs : Costs) → a.costs ≡ Some costs →
    All NamesWords costs.lines → all_lack_end before ≡ true → all_lack_end behind ≡ true → all_other before ≡ true →
    all_other behind ≡ true → PrintsSections (with_ends before ++ text a ++ with_ends behind) costs.lines
sections_printed before behind a costs some words early late front back = λ router run.
    ap (section router) (lines_around before behind a costs some words early late)
    ∙ others_section router before (answer_lines a ++ behind) front
    ∙ ap (λ (ls : List (List ℕ)). section router (ls ++ behind)) (parts_are a)
    ∙ ap (section router) (regrouped (head_part a) (costs_lines a.costs) (last_part a) behind)
    ∙ head_section router a (costs_lines a.costs ++ (last_part a ++ behind))
    ∙ ap (λ (o : Option Costs). section router (costs_lines o ++ (last_part a ++ behind))) some
    ∙ others_section router (spaced (codes "costs" ∷ decimal costs.greatest ∷ []) ∷ []) (cost_lines None costs.lines ++ (last_part a ++ behind)) refl
    ∙ find_section router None costs.lines (last_part a ++ behind) words run tt refl (last_section router a behind back)
  where
    regrouped : (h c l b : List (List ℕ)) → (h ++ (c ++ l)) ++ b ≡ h ++ (c ++ (l ++ b))
    regrouped h c l b = simp append_assoc

-- So are the sections of a text with these lines of costs between lines that open none, where the lines behind them end
-- a section.
pub sections_between : (before behind : List (List ℕ)) (ls : List CostLine) → All NamesWords ls → all_lack_end before ≡ true →
    all_lack_end behind ≡ true → all_other before ≡ true → all_other behind ≡ true → until_end behind ≡ [] →
    PrintsSections (with_ends (before ++ (cost_lines None ls ++ behind))) ls
sections_between before behind ls words early late front back last = λ router run.
    ap (section router) (lines-with_ends (before ++ (cost_lines None ls ++ behind))
    (all_append before (cost_lines None ls ++ behind) early (all_append (cost_lines None ls) behind (costs_lack None ls words) late)))
    ∙ others_section router before (cost_lines None ls ++ behind) front
    ∙ find_section router None ls behind words run tt last (nothing_opened router behind back)
