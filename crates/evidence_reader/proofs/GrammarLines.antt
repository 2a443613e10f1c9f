-- A line that is in the grammar holds no LF.
use Rattle.std.proofs.Common.{◌≡◌, ℕ, zero, suc, List, [], ◌∷◌, ◌++◌, eqb, true, false, map, codes, Option, Some, None, refl, sym, subst, inl, inr}
use Rattle.std.specs.List.{list_all}
use Rattle.std.specs.Prelude.{not}
use Rattle.std.proofs.lemmas.List.Elements.{All-append}
use Rattle.cost_base.specs.Decimal.{decimal}
use Rattle.design_problem.specs.declared.answer.Verdict.{Verdict}
use Rattle.design_problem.specs.declared.answer.Floor.{Floor}
use Rattle.design_problem.specs.Text.{spaced, verdict_words, floor_word, entry_line, verdict_line, floor_line}
use Rattle.text_lines.specs.Lines.{IsOneLine}
use Rattle.text_lines.proofs.WordLaws.{word-line}
use Rattle.answer_lines.specs.declared.other_text.OtherText.{OtherText}
use Rattle.answer_lines.specs.declared.other_text.OtherText.TheVariants.{Total, Spread, Change}
use Rattle.answer_lines.specs.Words.{entry_words}
use Rattle.answer_lines.specs.Grammar.{TextPlace, AtHead, AtVerdict, AtCosts, AtSections, AtInterface, AtCost, AtExit, AtFloor, AtRows, AtRow, AtTree, AtEnd, AfterEnd, AtOtherHead, AtInnerHead, AtOtherVerdict, AtOtherCosts, AtSectionsEnd, AtUnread, Next, IsInterfaceNext, IsInterfaceAgain, IsEndNext, IsPartNext, IsFrontAndNumber, IsPlainVerdict, IsOtherVerdict, answer_head, other_head}
use Rattle.evidence_text.specs.Parts.{part_word}
use Rattle.evidence_text.specs.declared.TreePart.{TreePart}
use Rattle.evidence_text.specs.declared.TreePart.TheVariants.{Proof, Undecided}
use Rattle.answer_lines.proofs.EntryWords.{entry_line-words}
use Rattle.evidence_reader.proofs.WholeWords.{written, AreWhole, spaced-whole, number-whole, numbers-whole, verdict-whole, floor-whole, entry-whole}

part-one : (part : TreePart) → IsOneLine (part_word part)
part-one Proof = written (codes "proof") refl
part-one Undecided = written (codes "open") refl

-- a line that is known is one
one-along : (line known : List ℕ) → line ≡ known → IsOneLine known → IsOneLine line
one-along line known is one = subst IsOneLine (sym is) one

-- a line of some words is one
one-of : (line : List ℕ) (words : List (List ℕ)) → line ≡ spaced words → AreWhole words → IsOneLine line
one-of line words is ones = one-along line (spaced words) is (spaced-whole words ones)

interface-one : (of : Option OtherText) (router line : List ℕ) (next : TextPlace) → IsInterfaceNext of router line next → IsOneLine line
interface-one of router line next a = one-of line (codes "interface" ∷ a.name ∷ []) a.is (written (codes "interface") refl, (word-line a.name a.word, tt))

again-one : (of : Option OtherText) (before : Option (List ℕ)) (line : List ℕ) (next : TextPlace) → IsInterfaceAgain of before line next → IsOneLine line
again-one of None line next a = absurd a
again-one of (Some router) line next a = interface-one of router line next a

floor-one : (line : List ℕ) (floor : Floor) → line ≡ floor_line floor → IsOneLine line
floor-one line floor is = one-of line (codes "floor" ∷ floor_word floor ∷ []) is (written (codes "floor") refl, (floor-whole floor, tt))

-- a front without an LF, and a number behind it
front-one : (front : List ℕ) (greatest : ℕ) (line : List ℕ) → list_all (λ c. not (eqb c 10)) front ≡ true → IsFrontAndNumber front greatest line →
    IsOneLine line
front-one front greatest line plain said = one-along line (front ++ decimal said.0) said.2
    (All-append (λ c. eqb c 10 ≡ false) front (decimal said.0) (written front plain) (number-whole said.0))

end-one : (of : Option OtherText) (line : List ℕ) (next : TextPlace) → IsEndNext of line next → IsOneLine line
end-one None line next a = floor-one line a.floor a.is
end-one (Some Total) line next a = floor-one line a.0.0 a.0.2
end-one (Some Spread) line next a = front-one (codes "rows ") 18446744073709551615 line refl a.0
end-one (Some Change) line next a = front-one (codes "rows ") 18446744073709551615 line refl a.0

sections-one : (of : Option OtherText) (before : Option (List ℕ)) (line : List ℕ) (next : TextPlace) → Next (AtSections of before) line next → IsOneLine line
sections-one of before line next (inl a) = one-of line (codes "router" ∷ a.name ∷ []) a.is (written (codes "router") refl, (word-line a.name a.word, tt))
sections-one of before line next (inr (inl a)) = again-one of before line next a
sections-one of before line next (inr (inr a)) = end-one of line next a

verdict-one : (line : List ℕ) (verdict : Verdict) → line ≡ verdict_line verdict → IsOneLine line
verdict-one line verdict is = one-of line (codes "verdict" ∷ verdict_words verdict) is (written (codes "verdict") refl, verdict-whole verdict)

plain-one : (line : List ℕ) → IsPlainVerdict line → IsOneLine line
plain-one line (inl is) = one-along line (codes "verdict impossible") is (written (codes "verdict impossible") refl)
plain-one line (inr is) = one-along line (codes "verdict undecided") is (written (codes "verdict undecided") refl)

other-verdict-one : (text : OtherText) (line : List ℕ) → IsOtherVerdict text line → IsOneLine line
other-verdict-one Total line a = verdict-one line a.0 a.2
other-verdict-one Spread line (inl is) = one-along line (codes "verdict fit") is (written (codes "verdict fit") refl)
other-verdict-one Spread line (inr plain) = plain-one line plain
other-verdict-one Change line (inl number) = front-one (codes "verdict fewest ") 4294967295 line refl number
other-verdict-one Change line (inr plain) = plain-one line plain

other-head-one : (text : OtherText) (line : List ℕ) → line ≡ other_head text → IsOneLine line
other-head-one Total line is = one-along line (other_head Total) is (written (other_head Total) refl)
other-head-one Spread line is = one-along line (other_head Spread) is (written (other_head Spread) refl)
other-head-one Change line is = one-along line (other_head Change) is (written (other_head Change) refl)

other-costs-one : (text : OtherText) (line : List ℕ) (next : TextPlace) → Next (AtOtherCosts text) line next → IsOneLine line
other-costs-one Total line next (inl a) = one-along line (codes "costs none") a.0 (written (codes "costs none") refl)
other-costs-one Spread line next (inl a) = one-along line (codes "costs none") a.0 (written (codes "costs none") refl)
other-costs-one Change line next (inl a) = one-along line (codes "changes none") a.0 (written (codes "changes none") refl)
other-costs-one Total line next (inr a) = front-one (codes "costs ") 65535 line refl a.0
other-costs-one Spread line next (inr a) = front-one (codes "costs ") 65535 line refl a.0
other-costs-one Change line next (inr a) = front-one (codes "changes ") 4294967295 line refl a.0

costs-one : (line : List ℕ) (next : TextPlace) → Next AtCosts line next → IsOneLine line
costs-one line next (inl a) = one-along line (codes "costs none") a.0 (written (codes "costs none") refl)
costs-one line next (inr a) = one-of line (codes "costs" ∷ decimal a.greatest ∷ []) a.is (written (codes "costs") refl, (number-whole a.greatest, tt))

part-line-one : (part : TreePart) (line : List ℕ) (next : TextPlace) → IsPartNext part line next → IsOneLine line
part-line-one part line next (inl a) = one-of line (part_word part ∷ codes "none" ∷ []) a.0 (part-one part, (written (codes "none") refl, tt))
part-line-one part line next (inr a) =
    one-of line (part_word part ∷ decimal a.cap ∷ decimal a.count ∷ []) a.is
    (part-one part, (number-whole a.cap, (number-whole a.count, tt)))

-- a line that is in the grammar holds no LF
pub next_is_one_line : (place : TextPlace) (line : List ℕ) (next : TextPlace) → Next place line next → IsOneLine line
next_is_one_line AtHead line next a = one-along line (codes "ospfcost answer 1") a.0 (written (codes "ospfcost answer 1") refl)
next_is_one_line AtVerdict line next a = verdict-one line a.verdict a.is
next_is_one_line AtCosts line next a = costs-one line next a
next_is_one_line AtFloor line next a = floor-one line a.floor a.is
next_is_one_line (AtSections of before) line next a = sections-one of before line next a
next_is_one_line (AtInterface of router) line next a = interface-one of router line next a
next_is_one_line (AtCost of router) line next a =
    one-of line (codes " ip" ∷ codes "ospf" ∷ codes "cost" ∷ decimal a.cost ∷ []) a.is
    (written (codes " ip") refl, (written (codes "ospf") refl, (written (codes "cost") refl, (number-whole a.cost, tt))))
next_is_one_line (AtExit of router) line next a = one-along line (codes "exit") a.0 (written (codes "exit") refl)
next_is_one_line AtRows line next a = one-of line (codes "rows" ∷ decimal a.count ∷ []) a.is (written (codes "rows") refl, (number-whole a.count, tt))
next_is_one_line (AtRow zero) line next a = part-line-one Proof line next a
next_is_one_line (AtRow (suc left)) line next a =
    one-of line (codes "row" ∷ map decimal (a.row.request ∷ a.row.rival)) a.is (
      written (codes "row") refl,
      numbers-whole (a.row.request ∷ a.row.rival),
    )
next_is_one_line (AtTree part (suc places) (suc left)) line next a =
    one-along line (entry_line a.entry) a.is (one-of (entry_line a.entry) (entry_words a.entry) (entry_line-words a.entry) (entry-whole a.entry))
next_is_one_line (AtTree part zero (suc left)) line next a = absurd a
next_is_one_line (AtTree part (suc places) zero) line next a = absurd a
next_is_one_line (AtTree Proof zero zero) line next a = part-line-one Undecided line next a
next_is_one_line (AtTree Undecided zero zero) line next a = one-along line (codes "wide none") a.0 (written (codes "wide none") refl)
next_is_one_line AtEnd line next a = one-along line (codes "end") a.0 (written (codes "end") refl)
next_is_one_line AfterEnd line next a = absurd a
next_is_one_line (AtOtherHead text) line next a = other-head-one text line a.0
next_is_one_line AtInnerHead line next a = one-along line answer_head a.0 (written answer_head refl)
next_is_one_line (AtOtherVerdict text) line next a = other-verdict-one text line a.0
next_is_one_line (AtOtherCosts text) line next a = other-costs-one text line next a
next_is_one_line (AtSectionsEnd text) line next a = end-one (Some text) line next a
next_is_one_line (AtUnread more) line next a = a.0
