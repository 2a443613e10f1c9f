-- The lines of a printed answer: none holds an LF, so the text's lines are the answer's lines.
use Rattle.std.proofs.Common.{◌≡◌, ℕ, ◌+◌, refl, sym, ◌∙◌, ap, List, [], ◌∷◌, ◌++◌, length, map, Bool, true, false, not, Option, Some, None}
use Rattle.std.specs.Prelude.{codes, All, pos, negsuc, ℤ, ◌==◌, cond}
use Rattle.std.proofs.lemmas.List.{append_assoc}
use Rattle.std.proofs.lemmas.Bool.{and_from, and_parts}
use Rattle.std.proofs.lemmas.List.Folds.{list_all-append}
use Rattle.std.proofs.lemmas.List.Elements.{All-head, All-tail}
use Rattle.cost_base.specs.Decimal.{decimal}
use Rattle.cost_base.specs.Lists.{same_bytes}
use Rattle.cost_base.specs.Words.{IsOneWord}
use Rattle.cost_base.specs.declared.StepName.{StepName}
use Rattle.cost_base.specs.declared.StepName.TheVariants.{Add, Sub, Mul, Div, Lcm, Scale}
use Rattle.cost_base.specs.declared.Ratio.{Ratio}
use Rattle.text_lines.specs.Lines.{lines, with_ends}
use Rattle.design_problem.specs.declared.form.Row.{Row}
use Rattle.design_problem.specs.declared.tree.Side.{Side}
use Rattle.design_problem.specs.declared.tree.Side.TheVariants.{Low as LowSide, High as HighSide}
use Rattle.design_problem.specs.declared.tree.Member.{Member}
use Rattle.design_problem.specs.declared.tree.Member.TheVariants.{Low as ByLow, High as ByHigh, Row as ByRow}
use Rattle.design_problem.specs.declared.tree.Entry.{Entry}
use Rattle.design_problem.specs.declared.tree.Entry.TheVariants.{Tighten, Split, Halve, Refute, Undone}
use Rattle.design_problem.specs.declared.answer.Verdict.{Verdict}
use Rattle.design_problem.specs.declared.answer.Verdict.TheVariants.{Optimal, Impossible, Undecided}
use Rattle.design_problem.specs.declared.answer.Costs.{Costs}
use Rattle.design_problem.specs.declared.answer.CostLine.{CostLine}
use Rattle.design_problem.specs.declared.answer.Floor.{Floor}
use Rattle.design_problem.specs.declared.answer.Floor.TheVariants.{Absent, Empty, Var}
use Rattle.design_problem.specs.declared.answer.CapTree.{CapTree}
use Rattle.design_problem.specs.Answers.{AnswerParts}
use Rattle.design_problem.specs.Text.{spaced, verdict_words, router_lines, cost_lines, costs_lines, floor_word, row_line, side_word, step_word, integer, ratio_word, member_words, members_words, multiplier_words, entry_line, tree_lines, answer_lines, text, end_lines}
use Rattle.config_reader.proofs.PrintedLines.{lacks_end, word_lacks_end, all_lack_end, lines-with_ends}
use Rattle.text_lines.proofs.LineLaws.{with_ends-append}
use Rattle.text_lines.proofs.WordLaws.{decimal-word}

lacks-append : (xs ys : List ℕ) → lacks_end xs ≡ true → lacks_end ys ≡ true → lacks_end (xs ++ ys) ≡ true
lacks-append [] ys here more = more
lacks-append (c ∷ cs) ys here more =
    let parts = and_parts (not (c == 10)) (lacks_end cs) here in
    and_from (not (c == 10)) (lacks_end (cs ++ ys)) parts.0 (lacks-append cs ys parts.1 more)

-- words without LF make a line without LF
pub spaced_lacks : (words : List (List ℕ)) → all_lack_end words ≡ true → lacks_end (spaced words) ≡ true
spaced_lacks [] lack = refl
spaced_lacks (word ∷ []) lack = (and_parts (lacks_end word) true lack).0
spaced_lacks (word ∷ next ∷ words) lack =
    let parts = and_parts (lacks_end word) (all_lack_end (next ∷ words)) lack in
    lacks-append word (32 ∷ spaced (next ∷ words)) parts.0 (spaced_lacks (next ∷ words) parts.1)

pub decimal_lacks : (n : ℕ) → lacks_end (decimal n) ≡ true
decimal_lacks n = word_lacks_end (decimal n) (decimal-word n).whole

pub all_cons : (line : List ℕ) (ls : List (List ℕ)) → lacks_end line ≡ true → all_lack_end ls ≡ true → all_lack_end (line ∷ ls) ≡ true
all_cons line ls here more = and_from (lacks_end line) (all_lack_end ls) here more

pub all_append : (ls ms : List (List ℕ)) → all_lack_end ls ≡ true → all_lack_end ms ≡ true → all_lack_end (ls ++ ms) ≡ true
all_append ls ms here more = list_all-append lacks_end ls ms ∙ and_from (all_lack_end ls) (all_lack_end ms) here more

pub decimals_lack : (ns : List ℕ) → all_lack_end (map decimal ns) ≡ true
decimals_lack [] = refl
decimals_lack (n ∷ ns) = all_cons (decimal n) (map decimal ns) (decimal_lacks n) (decimals_lack ns)

verdict_lacks : (v : Verdict) → all_lack_end (verdict_words v) ≡ true
verdict_lacks (Optimal k) = all_cons (codes "optimal") (decimal k ∷ []) refl (decimals_lack (k ∷ []))
verdict_lacks Impossible = refl
verdict_lacks (Undecided cap) = all_cons (codes "undecided") (codes "budget" ∷ decimal cap ∷ []) refl (decimals_lack (cap ∷ []))

floor_lacks : (f : Floor) → lacks_end (floor_word f) ≡ true
floor_lacks Absent = refl
floor_lacks Empty = refl
floor_lacks (Var v) = decimal_lacks v

side_lacks : (s : Side) → lacks_end (side_word s) ≡ true
side_lacks LowSide = refl
side_lacks HighSide = refl

step_lacks : (s : StepName) → lacks_end (step_word s) ≡ true
step_lacks Add = refl
step_lacks Sub = refl
step_lacks Mul = refl
step_lacks Div = refl
step_lacks Lcm = refl
step_lacks Scale = refl

integer_lacks : (z : ℤ) → lacks_end (integer z) ≡ true
integer_lacks (pos n) = decimal_lacks n
integer_lacks (negsuc n) = decimal_lacks (n + 1)

ratio_lacks : (q : Ratio) → lacks_end (ratio_word q) ≡ true
ratio_lacks q = lacks-append (integer q.numerator) (47 ∷ integer q.denominator) (integer_lacks q.numerator) (integer_lacks q.denominator)

member_lacks : (m : Member) → all_lack_end (member_words m) ≡ true
member_lacks (ByLow v bound) = all_cons (codes "low") (decimal v ∷ decimal bound ∷ []) refl (decimals_lack (v ∷ bound ∷ []))
member_lacks (ByHigh v bound) = all_cons (codes "high") (decimal v ∷ decimal bound ∷ []) refl (decimals_lack (v ∷ bound ∷ []))
member_lacks (ByRow row) = all_cons (codes "row") (decimal row ∷ []) refl (decimals_lack (row ∷ []))

members_lack : (ms : List Member) → all_lack_end (members_words ms) ≡ true
members_lack [] = refl
members_lack (m ∷ ms) = all_append (member_words m) (members_words ms) (member_lacks m) (members_lack ms)

parts_lack : (parts : List (ℕ × ℕ)) → all_lack_end (multiplier_words parts) ≡ true
parts_lack [] = refl
parts_lack (part ∷ parts) =
    all_cons (decimal part.0) (decimal part.1 ∷ multiplier_words parts) (decimal_lacks part.0)
    (all_cons (decimal part.1) (multiplier_words parts) (decimal_lacks part.1) (parts_lack parts))

entry_lacks : (e : Entry) → lacks_end (entry_line e) ≡ true
entry_lacks (Tighten v side bound row) =
    spaced_lacks (codes "tighten" ∷ decimal v ∷ side_word side ∷ decimal bound ∷ decimal row ∷ [])
    (all_cons (decimal v) (side_word side ∷ decimal bound ∷ decimal row ∷ []) (decimal_lacks v)
    (all_cons (side_word side) (decimal bound ∷ decimal row ∷ []) (side_lacks side)
    (decimals_lack (bound ∷ row ∷ []))))
entry_lacks (Split v bound) = spaced_lacks (codes "split" ∷ decimal v ∷ decimal bound ∷ []) (decimals_lack (v ∷ bound ∷ []))
entry_lacks (Halve v bound wide) =
    spaced_lacks (codes "halve" ∷ decimal v ∷ decimal bound ∷ step_word wide.step ∷ ratio_word wide.left ∷ ratio_word wide.right ∷ members_words wide.basis)
    (all_cons (decimal v) (decimal bound ∷ step_word wide.step ∷ ratio_word wide.left ∷ ratio_word wide.right ∷ members_words wide.basis) (decimal_lacks v)
    (all_cons (decimal bound) (step_word wide.step ∷ ratio_word wide.left ∷ ratio_word wide.right ∷ members_words wide.basis) (decimal_lacks bound)
    (all_cons (step_word wide.step) (ratio_word wide.left ∷ ratio_word wide.right ∷ members_words wide.basis) (step_lacks wide.step)
    (all_cons (ratio_word wide.left) (ratio_word wide.right ∷ members_words wide.basis) (ratio_lacks wide.left)
    (all_cons (ratio_word wide.right) (members_words wide.basis) (ratio_lacks wide.right) (members_lack wide.basis))))))
entry_lacks (Refute parts) = spaced_lacks (codes "refute" ∷ multiplier_words parts) (parts_lack parts)
entry_lacks Undone = refl

entries_lack : (es : List Entry) → all_lack_end (map entry_line es) ≡ true
entries_lack [] = refl
entries_lack (e ∷ es) = all_cons (entry_line e) (map entry_line es) (entry_lacks e) (entries_lack es)

pub rows_lack : (rows : List Row) → all_lack_end (map row_line rows) ≡ true
rows_lack [] = refl
rows_lack (row ∷ rows) =
    all_cons (row_line row) (map row_line rows)
    (spaced_lacks (codes "row" ∷ decimal row.request ∷ map decimal row.rival)
    (decimals_lack (row.request ∷ row.rival))) (rows_lack rows)

pub tree_lacks : (word : List ℕ) (tree : Option CapTree) → lacks_end word ≡ true → all_lack_end (tree_lines word tree) ≡ true
tree_lacks word None lacks = all_cons (spaced (word ∷ codes "none" ∷ [])) []
    (spaced_lacks (word ∷ codes "none" ∷ []) (all_cons word (codes "none" ∷ []) lacks refl)) refl
tree_lacks word (Some t) lacks =
    all_cons (spaced (word ∷ decimal t.cap ∷ decimal (length t.tree) ∷ [])) (map entry_line t.tree)
    (spaced_lacks (word ∷ decimal t.cap ∷ decimal (length t.tree) ∷ [])
    (all_cons word (decimal t.cap ∷ decimal (length t.tree) ∷ []) lacks
    (decimals_lack (t.cap ∷ length t.tree ∷ []))))
    (entries_lack t.tree)

-- the names of a line of costs are one word each
pub record NamesWords (line : CostLine) : Type 0 where
  pub router : IsOneWord line.router
  pub interface : IsOneWord line.interface

one_lacks : (name : List ℕ) → IsOneWord name → lacks_end name ≡ true
one_lacks name one = word_lacks_end name one.whole

router_lack : (before : Option (List ℕ)) (router : List ℕ) → IsOneWord router → all_lack_end (router_lines before router) ≡ true
router_lack None router one = all_cons (spaced (codes "router" ∷ router ∷ [])) [] (one_lacks router one) refl
router_lack (Some other) router one = by_test (same_bytes other router)
  where
    by_test : (b : Bool) → all_lack_end (cond b [] (spaced (codes "router" ∷ router ∷ []) ∷ [])) ≡ true
    by_test true = refl
    by_test false = all_cons (spaced (codes "router" ∷ router ∷ [])) [] (one_lacks router one) refl

-- so the lines of costs hold no LF
pub costs_lack : (before : Option (List ℕ)) (ls : List CostLine) → All NamesWords ls → all_lack_end (cost_lines before ls) ≡ true
costs_lack before [] words = refl
costs_lack before (line ∷ ls) words =
    let first = All-head NamesWords line ls words in
    all_append (router_lines before line.router)
    (spaced (codes "interface" ∷ line.interface ∷ [])
    ∷ spaced (codes " ip" ∷ codes "ospf" ∷ codes "cost" ∷ decimal line.cost ∷ []) ∷ codes "exit"
    ∷ cost_lines (Some line.router) ls) (router_lack before line.router first.router)
    (all_cons (spaced (codes "interface" ∷ line.interface ∷ []))
    (spaced (codes " ip" ∷ codes "ospf" ∷ codes "cost" ∷ decimal line.cost ∷ []) ∷ codes "exit"
    ∷ cost_lines (Some line.router) ls) (one_lacks line.interface first.interface)
    (all_cons (spaced (codes " ip" ∷ codes "ospf" ∷ codes "cost" ∷ decimal line.cost ∷ []))
    (codes "exit" ∷ cost_lines (Some line.router) ls) (decimal_lacks line.cost)
    (costs_lack (Some line.router) ls (All-tail NamesWords line ls words))))

-- The parts of an answer's lines: those before the costs, and those after them.

abbrev pub head_part : AnswerParts → List (List ℕ)
head_part a = codes "ospfcost answer 1" ∷ spaced (codes "verdict" ∷ verdict_words a.verdict) ∷ []

abbrev pub floor_part : AnswerParts → List (List ℕ)
floor_part a = spaced (codes "floor" ∷ floor_word a.floor ∷ []) ∷ spaced (codes "rows" ∷ decimal (length a.rows) ∷ []) ∷ map row_line a.rows

abbrev pub last_part : AnswerParts → List (List ℕ)
last_part a = floor_part a ++ (tree_lines (codes "proof") a.proof ++ (tree_lines (codes "open") a.undecided ++ end_lines))

regrouped : (p c f t u e : List (List ℕ)) → p ++ c ++ f ++ t ++ u ++ e ≡ p ++ (c ++ (f ++ (t ++ (u ++ e))))
regrouped p c f t u e = simp append_assoc

pub parts_are : (a : AnswerParts) → answer_lines a ≡ head_part a ++ (costs_lines a.costs ++ last_part a)
parts_are a = regrouped (head_part a) (costs_lines a.costs) (floor_part a) (tree_lines (codes "proof") a.proof)
    (tree_lines (codes "open") a.undecided) end_lines

last_lacks : (a : AnswerParts) → all_lack_end (last_part a) ≡ true
last_lacks a =
    all_append (floor_part a) (tree_lines (codes "proof") a.proof ++ (tree_lines (codes "open") a.undecided ++ end_lines))
    (all_cons (spaced (codes "floor" ∷ floor_word a.floor ∷ [])) (spaced (codes "rows" ∷ decimal (length a.rows) ∷ []) ∷ map row_line a.rows)
    (spaced_lacks (codes "floor" ∷ floor_word a.floor ∷ []) (all_cons (floor_word a.floor) [] (floor_lacks a.floor) refl))
    (all_cons (spaced (codes "rows" ∷ decimal (length a.rows) ∷ [])) (map row_line a.rows)
    (spaced_lacks (codes "rows" ∷ decimal (length a.rows) ∷ []) (decimals_lack (length a.rows ∷ [])))
    (rows_lack a.rows)))
    (all_append (tree_lines (codes "proof") a.proof) (tree_lines (codes "open") a.undecided ++ end_lines) (tree_lacks (codes "proof") a.proof refl)
    (all_append (tree_lines (codes "open") a.undecided) end_lines (tree_lacks (codes "open") a.undecided refl) refl))

head_lacks : (a : AnswerParts) → all_lack_end (head_part a) ≡ true
head_lacks a = all_cons (spaced (codes "verdict" ∷ verdict_words a.verdict)) []
    (spaced_lacks (codes "verdict" ∷ verdict_words a.verdict) (verdict_lacks a.verdict)) refl

-- the lines of an answer with costs, whose names are one word each, hold no LF
pub answer_lacks : (a : AnswerParts) (costs : Costs) → a.costs ≡ Some costs → All NamesWords costs.lines → all_lack_end (answer_lines a) ≡ true
answer_lacks a costs some words =
    ap all_lack_end (parts_are a)
    ∙ all_append (head_part a) (costs_lines a.costs ++ last_part a) (head_lacks a)
    (all_append (costs_lines a.costs) (last_part a)
    (ap (λ (o : Option Costs). all_lack_end (costs_lines o)) some
    ∙ all_cons (spaced (codes "costs" ∷ decimal costs.greatest ∷ [])) (cost_lines None costs.lines)
    (spaced_lacks (codes "costs" ∷ decimal costs.greatest ∷ []) (decimals_lack (costs.greatest ∷ [])))
    (costs_lack None costs.lines words))
    (last_lacks a))

-- so the lines of a text that holds an answer's, with lines before and behind it that hold no LF
pub lines_around : (before behind : List (List ℕ)) (a : AnswerParts) (costs : Costs) → a.costs ≡ Some costs → All NamesWords costs.lines →
    all_lack_end before ≡ true → all_lack_end behind ≡ true →
    lines (with_ends before ++ text a ++ with_ends behind) ≡ before ++ (answer_lines a ++ behind)
lines_around before behind a costs some words early late =
    ap lines
    (append_assoc (with_ends before) (text a) (with_ends behind)
    ∙ ap (λ (bytes : List ℕ). with_ends before ++ bytes) (sym (with_ends-append (answer_lines a) behind))
    ∙ sym (with_ends-append before (answer_lines a ++ behind)))
    ∙ lines-with_ends (before ++ (answer_lines a ++ behind))
    (all_append before (answer_lines a ++ behind) early
    (all_append (answer_lines a) behind (answer_lacks a costs some words) late))
