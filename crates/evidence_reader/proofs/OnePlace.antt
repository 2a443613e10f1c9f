-- A line that is in the grammar at a place leads to one place.
use Rattle.std.proofs.Common.{◌≡◌, ℕ, zero, suc, ◌+◌, List, [], ◌∷◌, ◌++◌, length, codes, eqb, ◌||◌, if◌then◌else◌, Option, Some, None, refl, sym, ap, ◌∙◌, arith, inl, inr}
use Rattle.std.proofs.lemmas.Bool.{true≢false}
use Rattle.std.proofs.lemmas.List.{append_cancel_left}
use Rattle.std.specs.List.{list_all}
use Rattle.cost_base.specs.Decimal.{is_digit, decimal}
use Rattle.design_problem.specs.declared.tree.Entry.{Entry}
use Rattle.design_problem.specs.declared.tree.Entry.TheVariants.{Tighten, Split, Halve, Refute, Undone}
use Rattle.design_problem.specs.Text.{spaced, multiplier_words, entry_line, interface_line}
use Rattle.design_problem.specs.Trees.{subtree_count}
use Rattle.text_lines.specs.Numbers.{split}
use Rattle.text_lines.proofs.Printed.{decimal-same, decimal-digits}
use Rattle.answer_lines.specs.declared.other_text.OtherText.{OtherText}
use Rattle.answer_lines.specs.declared.other_text.OtherText.TheVariants.{Total, Spread, Change}
use Rattle.answer_lines.specs.Grammar.{TextPlace, AtHead, AtVerdict, AtCosts, AtSections, AtInterface, AtCost, AtExit, AtFloor, AtRows, AtRow, AtTree, AtEnd, AfterEnd, AtOtherHead, AtInnerHead, AtOtherVerdict, AtOtherCosts, AtSectionsEnd, AtUnread, Next, IsRouterNext, IsInterfaceAgain, IsEndNext, IsPartNext, costs_front}
use Rattle.evidence_text.specs.Parts.{part_word, no_tree_line, tree_line}
use Rattle.evidence_text.specs.declared.TreePart.{TreePart}
use Rattle.evidence_text.specs.declared.TreePart.TheVariants.{Proof, Undecided}
use Rattle.answer_lines.proofs.ListParts.{head-is, tail-is}
use Rattle.answer_lines.proofs.LineWords.{tree-words}

-- one line doesn't begin with two bytes
first-apart : (line : List ℕ) (a b : ℕ) (xs ys : List ℕ) → (a ≡ b → ⊥) → line ≡ a ∷ xs → line ≡ b ∷ ys → ⊥
first-apart line a b xs ys differ first second = differ (head-is a b xs ys (sym first ∙ second))

-- a line of a router doesn't begin as that of the rows
router-rows : (line xs ys : List ℕ) → line ≡ 114 ∷ 111 ∷ 117 ∷ xs → line ≡ 114 ∷ 111 ∷ 119 ∷ ys → ⊥
router-rows line xs ys first second =
    let third : 117 ≡ 119 = head-is _ _ _ _ (tail-is _ _ _ _ (tail-is _ _ _ _ (sym first ∙ second))) in
    omega (arith, third)

-- what stands behind a front of one line
behind-front : (line front a b : List ℕ) → line ≡ front ++ a → line ≡ front ++ b → a ≡ b
behind-front line front a b first second = append_cancel_left front a b (sym first ∙ second)

-- `none` is no number
none-number : (n : ℕ) → codes "none" ≡ decimal n → ⊥
none-number n e = true≢false (sym (decimal-digits n) ∙ ap (list_all is_digit) (sym e))

-- how many subtrees a tree line tells of, by its first byte
abbrev said_count : List ℕ → ℕ
said_count [] = 0
said_count (c ∷ cs) = if eqb c 116 then 1 else (if eqb c 115 || eqb c 104 then 2 else 0)

said_count-refute : (ws : List (List ℕ)) → said_count (spaced (codes "refute" ∷ ws)) ≡ 0
said_count-refute [] = refl
said_count-refute (w ∷ ws) = refl

said_count-entry : (entry : Entry) → said_count (entry_line entry) ≡ subtree_count entry
said_count-entry (Tighten v side bound row) = refl
said_count-entry (Split v bound) = refl
said_count-entry (Halve v bound wide) = refl
said_count-entry (Refute parts) = said_count-refute (multiplier_words parts)
said_count-entry Undone = refl

subtrees-same : (line : List ℕ) (a b : Entry) → line ≡ entry_line a → line ≡ entry_line b → subtree_count a ≡ subtree_count b
subtrees-same line a b first second = sym (said_count-entry a) ∙ ap said_count (sym first ∙ second) ∙ said_count-entry b

costs-once : (line : List ℕ) (next other : TextPlace) → Next AtCosts line next → Next AtCosts line other → next ≡ other
costs-once line next other (inl a) (inl b) = a.1 ∙ sym b.1
costs-once line next other (inl a) (inr b) = absurd (none-number b.greatest (behind-front line (codes "costs ") (codes "none") (decimal b.greatest) a.0 b.is))
costs-once line next other (inr a) (inl b) = absurd (none-number a.greatest (behind-front line (codes "costs ") (codes "none") (decimal a.greatest) b.0 a.is))
costs-once line next other (inr a) (inr b) = a.leads ∙ sym b.leads

-- a further interface
again-line : (of : Option OtherText) (before : Option (List ℕ)) (line : List ℕ) (next : TextPlace) → IsInterfaceAgain of before line next →
    (name : List ℕ) × (line ≡ interface_line name)
again-line of None line next again = absurd again
again-line of (Some router) line next again = (again.name, again.is)

again-once : (of : Option OtherText) (before : Option (List ℕ)) (line : List ℕ) (next other : TextPlace) → IsInterfaceAgain of before line next →
    IsInterfaceAgain of before line other → next ≡ other
again-once of None line next other a b = absurd a
again-once of (Some router) line next other a b = a.leads ∙ sym b.leads

router-again : (of : Option OtherText) (before : Option (List ℕ)) (line : List ℕ) (next other : TextPlace) → IsRouterNext of before line next →
    IsInterfaceAgain of before line other → ⊥
router-again of before line next other a b = first-apart line 114 105 _ _ (λ e. omega arith) a.is (again-line of before line other b).1

-- the line of a router isn't one that ends the sections: `floor` begins otherwise, and `rows` goes on otherwise
router-end : (of : Option OtherText) (before : Option (List ℕ)) (line : List ℕ) (next other : TextPlace) → IsRouterNext of before line next →
    IsEndNext of line other → ⊥
router-end None before line next other a b = first-apart line 114 102 _ _ (λ e. omega arith) a.is b.is
router-end (Some Total) before line next other a b = first-apart line 114 102 _ _ (λ e. omega arith) a.is b.0.2
router-end (Some Spread) before line next other a b = router-rows line _ _ a.is b.0.2
router-end (Some Change) before line next other a b = router-rows line _ _ a.is b.0.2

again-end : (of : Option OtherText) (before : Option (List ℕ)) (line : List ℕ) (next other : TextPlace) → IsInterfaceAgain of before line next →
    IsEndNext of line other → ⊥
again-end None before line next other a b = first-apart line 105 102 _ _ (λ e. omega arith) (again-line None before line next a).1 b.is
again-end (Some Total) before line next other a b = first-apart line 105 102 _ _ (λ e. omega arith) (again-line (Some Total) before line next a).1 b.0.2
again-end (Some Spread) before line next other a b = first-apart line 105 114 _ _ (λ e. omega arith) (again-line (Some Spread) before line next a).1 b.0.2
again-end (Some Change) before line next other a b = first-apart line 105 114 _ _ (λ e. omega arith) (again-line (Some Change) before line next a).1 b.0.2

end-once : (of : Option OtherText) (line : List ℕ) (next other : TextPlace) → IsEndNext of line next → IsEndNext of line other → next ≡ other
end-once None line next other a b = a.leads ∙ sym b.leads
end-once (Some text) line next other a b = a.1 ∙ sym b.1

sections-once : (of : Option OtherText) (before : Option (List ℕ)) (line : List ℕ) (next other : TextPlace) → Next (AtSections of before) line next →
    Next (AtSections of before) line other → next ≡ other
sections-once of before line next other (inl a) (inl b) =
    a.leads ∙ ap (AtInterface of) (behind-front line (codes "router ") a.name b.name a.is b.is) ∙ sym b.leads
sections-once of before line next other (inl a) (inr (inl b)) = absurd (router-again of before line next other a b)
sections-once of before line next other (inl a) (inr (inr b)) = absurd (router-end of before line next other a b)
sections-once of before line next other (inr (inl a)) (inl b) = absurd (router-again of before line other next b a)
sections-once of before line next other (inr (inl a)) (inr (inl b)) = again-once of before line next other a b
sections-once of before line next other (inr (inl a)) (inr (inr b)) = absurd (again-end of before line next other a b)
sections-once of before line next other (inr (inr a)) (inl b) = absurd (router-end of before line other next b a)
sections-once of before line next other (inr (inr a)) (inr (inl b)) = absurd (again-end of before line other next b a)
sections-once of before line next other (inr (inr a)) (inr (inr b)) = end-once of line next other a b

-- `none` isn't a number of costs
other-costs-once : (text : OtherText) (line : List ℕ) (next other : TextPlace) → Next (AtOtherCosts text) line next →
    Next (AtOtherCosts text) line other → next ≡ other
other-costs-once text line next other (inl a) (inl b) = a.1 ∙ sym b.1
other-costs-once text line next other (inl a) (inr b) = absurd (none-number b.0.0 (behind-front line (costs_front text) (codes "none") (decimal b.0.0) a.0 b.0.2))
other-costs-once text line next other (inr a) (inl b) = absurd (none-number a.0.0 (behind-front line (costs_front text) (codes "none") (decimal a.0.0) b.0 a.0.2))
other-costs-once text line next other (inr a) (inr b) = a.1 ∙ sym b.1

-- a part without a tree has the words of no tree's head
none-words : (part : TreePart) → split 32 (no_tree_line part) ≡ part_word part ∷ codes "none" ∷ []
none-words Proof = refl
none-words Undecided = refl

none-tree : (line : List ℕ) (part : TreePart) (cap count : ℕ) → line ≡ no_tree_line part → line ≡ tree_line part cap count → ⊥
none-tree line part cap count first second =
    let words : part_word part ∷ codes "none" ∷ [] ≡ part_word part ∷ decimal cap ∷ decimal count ∷ [] =
    sym (none-words part) ∙ ap (split 32) (sym first) ∙ tree-words line part cap count second in
    omega (arith, ap length words)

-- one number of lines
count-same : (line : List ℕ) (part : TreePart) (cap count lowest lines : ℕ) → line ≡ tree_line part cap count →
    line ≡ tree_line part lowest lines → count ≡ lines
count-same line part cap count lowest lines first second =
    decimal-same count lines
    (head-is _ _ _ _ (tail-is _ _ _ _ (tail-is _ _ _ _ (sym (tree-words line part cap count first) ∙ tree-words line part lowest lines second))))

part-once : (part : TreePart) (line : List ℕ) (next other : TextPlace) → IsPartNext part line next → IsPartNext part line other → next ≡ other
part-once part line next other (inl a) (inl b) = a.1 ∙ sym b.1
part-once part line next other (inl a) (inr b) = absurd (none-tree line part b.cap b.count a.0 b.is)
part-once part line next other (inr a) (inl b) = absurd (none-tree line part a.cap a.count b.0 a.is)
part-once part line next other (inr a) (inr b) = a.leads ∙ ap (AtTree part 1) (count-same line part a.cap a.count b.cap b.count a.is b.is) ∙ sym b.leads

-- a line that is in the grammar at a place leads to one place
pub one_place : (place : TextPlace) (line : List ℕ) (next other : TextPlace) → Next place line next → Next place line other → next ≡ other
one_place AtHead line next other a b = a.1 ∙ sym b.1
one_place AtVerdict line next other a b = a.leads ∙ sym b.leads
one_place AtCosts line next other a b = costs-once line next other a b
one_place AtFloor line next other a b = a.leads ∙ sym b.leads
one_place (AtSections of before) line next other a b = sections-once of before line next other a b
one_place (AtInterface of router) line next other a b = a.leads ∙ sym b.leads
one_place (AtCost of router) line next other a b = a.leads ∙ sym b.leads
one_place (AtExit of router) line next other a b = a.1 ∙ sym b.1
one_place AtRows line next other a b =
    a.leads ∙ ap AtRow (decimal-same a.count b.count (behind-front line (codes "rows ") (decimal a.count) (decimal b.count) a.is b.is)) ∙ sym b.leads
one_place (AtRow zero) line next other a b = part-once Proof line next other a b
one_place (AtRow (suc left)) line next other a b = a.leads ∙ sym b.leads
one_place (AtTree part (suc places) (suc left)) line next other a b =
    a.leads ∙ ap (λ n. AtTree part (n + places) left) (subtrees-same line a.entry b.entry a.is b.is) ∙ sym b.leads
one_place (AtTree part zero (suc left)) line next other a b = absurd a
one_place (AtTree part (suc places) zero) line next other a b = absurd a
one_place (AtTree Proof zero zero) line next other a b = part-once Undecided line next other a b
one_place (AtTree Undecided zero zero) line next other a b = a.1 ∙ sym b.1
one_place AtEnd line next other a b = a.1 ∙ sym b.1
one_place AfterEnd line next other a b = absurd a
one_place (AtOtherHead text) line next other a b = a.1 ∙ sym b.1
one_place AtInnerHead line next other a b = a.1 ∙ sym b.1
one_place (AtOtherVerdict text) line next other a b = a.1 ∙ sym b.1
one_place (AtOtherCosts text) line next other a b = other-costs-once text line next other a b
one_place (AtSectionsEnd text) line next other a b = a.1 ∙ sym b.1
one_place (AtUnread more) line next other a b = a.1 ∙ sym b.1
