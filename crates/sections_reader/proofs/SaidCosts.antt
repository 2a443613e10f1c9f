-- What a text says of costs is said once, read, and no longer than the text.
use Rattle.std.proofs.Common.{◌≡◌, ℕ, ◌≤◌, List, [], ◌∷◌, ◌++◌, All, length, get_or, codes, Option, Some, None, refl, sym, ap, subst, ◌∙◌, arith, append_assoc}
use Rattle.std.proofs.lemmas.List.{append_cancel_left, length-append}
use Rattle.std.proofs.lemmas.List.Elements.{All-nil, All-cons}
use Rattle.cost_base.specs.Decimal.{decimal}
use Rattle.design_problem.specs.declared.answer.CostLine.{CostLine}
use Rattle.design_problem.specs.declared.answer.Costs.{Costs}
use Rattle.design_problem.specs.Answers.{AnswerParts}
use Rattle.design_problem.specs.Text.{router_lines, cost_lines, costs_lines, answer_lines, text, FitsCosts, head_lines, interface_lines, verdict_line}
use Rattle.text_lines.specs.Lines.{lines, with_ends, IsOneLine}
use Rattle.text_lines.proofs.LineLaws.{lines-concat}
use Rattle.evidence_text.proofs.AnswerOrder.{after_costs, after_head, answer_lines-ordered}
use Rattle.answer_lines.specs.declared.other_text.OtherText.{OtherText}
use Rattle.answer_lines.specs.declared.other_text.OtherText.TheVariants.{Total, Spread, Change}
use Rattle.answer_lines.specs.Grammar.{TextPlace, AtHead, AtOtherHead, IsSectionsEnd, answer_head, costs_front, no_costs_line}
use Rattle.answer_lines.specs.Lawful.{LeadOn}
use Rattle.answer_lines.proofs.ListParts.{head-is, tail-is}
use Rattle.evidence_reader.specs.declared.fault.AnswerFault.{AnswerFault}
use Rattle.evidence_reader.specs.Refusals.{IsTextRefused}
use Rattle.evidence_reader.proofs.GrammarLines.{next_is_one_line}
use Rattle.evidence_reader.proofs.NoRefusal.{not_refused, texts_read}
use Rattle.evidence_reader.proofs.OneAnswer.{texts_tell}
use Rattle.evidence_reader.proofs.SameLines.{IsNoSection, floor_ends, sections-same}
use Rattle.evidence_reader.proofs.SameWords.{no_digits}
use Rattle.evidence_reader.proofs.WholeWords.{written}
use Rattle.sections_reader.specs.Laws.{AnswersSayTheirCosts, CostsAreSaidOnce, SaidCostsAreRead, SaidCostsFit}
use Rattle.sections_reader.specs.Texts.{FitLines, IsSaidBy, lines_of_costs, other_costs_lines, start_of_text, text_of_bytes, top_lines}
use Rattle.sections_reader.proofs.HeadLines.{head-first}

-- lawful lines hold no LF
lead-one : (from to : TextPlace) (ls : List (List ℕ)) → LeadOn from ls to → All IsOneLine ls
lead-one from to [] lead = All-nil IsOneLine
lead-one from to (line ∷ ls) lead =
    All-cons IsOneLine line ls (next_is_one_line from line lead.0 lead.1.is) (lead-one lead.0 to ls lead.2)

-- nor is the line of the rows one of a router or an interface
rows-apart : (line : List ℕ) (n : ℕ) → line ≡ codes "rows " ++ decimal n → IsNoSection line
rows-apart line n is = record {
  router = λ name e. omega (arith, ap (λ (l : List ℕ). get_or l 2 0) (e ∙ is));
  interface = λ name e. omega (arith, ap (λ (l : List ℕ). get_or l 0 0) (e ∙ is));
}

-- the line that ends the sections is none of theirs
end-apart : (of : OtherText) (line : List ℕ) → IsSectionsEnd of line → IsNoSection line
end-apart Total line ends = subst IsNoSection (sym ends.2) (floor_ends ends.0)
end-apart Spread line ends = rows-apart line ends.0 ends.2
end-apart Change line ends = rows-apart line ends.0 ends.2

-- the same lines behind the verdict
behind-top : (of : OtherText) (v w : List ℕ) (xs ys : List (List ℕ)) → top_lines of v ++ xs ≡ top_lines of w ++ ys → xs ≡ ys
behind-top Total v w xs ys e = tail-is _ _ _ _ (tail-is _ _ _ _ (tail-is _ _ _ _ e))
behind-top Spread v w xs ys e = tail-is _ _ _ _ (tail-is _ _ _ _ e)
behind-top Change v w xs ys e = tail-is _ _ _ _ (tail-is _ _ _ _ e)

-- a number isn't `none`
none-apart : (of : OtherText) (n : ℕ) → no_costs_line of ≡ costs_front of ++ decimal n → ⊥
none-apart of n e = no_digits (codes "none") n refl (append_cancel_left (costs_front of) (codes "none") (decimal n) e)

costs-once : (of : OtherText) (m n : ℕ) (a b : Option (List CostLine)) (e f : List ℕ) (r s : List (List ℕ)) → IsSectionsEnd of e → IsSectionsEnd of f →
    other_costs_lines of m a ++ (e ∷ r) ≡ other_costs_lines of n b ++ (f ∷ s) → a ≡ b
costs-once of m n None None e f r s first second is = refl
costs-once of m n None (Some b) e f r s first second is = absurd (none-apart of n (head-is _ _ _ _ is))
costs-once of m n (Some a) None e f r s first second is = absurd (none-apart of m (sym (head-is _ _ _ _ is)))
costs-once of m n (Some a) (Some b) e f r s first second is =
    ap Some (sections-same None a b e f r s (end-apart of e first) (end-apart of f second) (tail-is _ _ _ _ is)).0

-- two readings of one text
once-by : (of : Option OtherText) (bytes : List ℕ) (a b : Option (List CostLine)) → IsSaidBy of bytes a → IsSaidBy of bytes b → a ≡ b
once-by None bytes a b x y =
    let same = texts_tell x.answer y.answer x.value.fits y.value.fits (sym x.spelled ∙ y.spelled) in
    x.costs_are ∙ ap (λ (p : AnswerParts). lines_of_costs p.costs) same ∙ sym y.costs_are
once-by (Some of) bytes a b x y =
    let first = sym (lines-concat _ (lead-one _ _ _ x.lawful)) in
    let second = lines-concat _ (lead-one _ _ _ y.lawful) in
    let same = first ∙ ap lines (sym x.spelled ∙ y.spelled) ∙ second in
    costs-once of x.number y.number a b x.behind y.behind x.unread y.unread x.ends y.ends (behind-top of x.verdict y.verdict _ _ same)

pub said_once : CostsAreSaidOnce
said_once bytes a b x y = once-by (text_of_bytes bytes) bytes a b x y

read-by : (of : Option OtherText) (bytes : List ℕ) (costs : Option (List CostLine)) (fault : AnswerFault) (line : ℕ) → IsSaidBy of bytes costs →
    IsTextRefused (start_of_text of) 0 bytes fault line → ⊥
read-by None bytes costs fault line said refused =
    texts_read said.answer fault line said.value (subst (λ (bs : List ℕ). IsTextRefused AtHead 0 bs fault line) said.spelled refused)
read-by (Some of) bytes costs fault line said refused = not_refused (AtOtherHead of) _ bytes fault line said.lawful said.spelled refused

pub said_read : SaidCostsAreRead
said_read bytes costs fault line said refused = read-by (text_of_bytes bytes) bytes costs fault line said refused

fit-costs : (costs : Option Costs) → FitsCosts costs → FitLines (lines_of_costs costs)
fit-costs None fits = tt
fit-costs (Some costs) fits = fits

fit-by : (of : Option OtherText) (bytes : List ℕ) (costs : Option (List CostLine)) → IsSaidBy of bytes costs → FitLines costs
fit-by None bytes costs said = subst FitLines (sym said.costs_are) (fit-costs said.answer.costs said.value.fits.costs)
fit-by (Some of) bytes costs said = said.fit

-- each line has an LF
lines_below_bytes : (ls : List (List ℕ)) → length ls ≤ length (with_ends ls)
lines_below_bytes [] = omega arith
lines_below_bytes (line ∷ ls) =
    let rest = lines_below_bytes ls in
    let all = length-append (line ++ 10 ∷ []) (with_ends ls) in
    let here = length-append line (10 ∷ []) in
    omega (arith, rest)

costs_below_lines : (before : Option (List ℕ)) (costs : List CostLine) → length costs ≤ length (cost_lines before costs)
costs_below_lines before [] = omega arith
costs_below_lines before (cost ∷ costs) =
    let rest = costs_below_lines (Some cost.router) costs in
    let all = length-append (router_lines before cost.router) (interface_lines cost ++ cost_lines (Some cost.router) costs) in
    omega (arith, rest, all)

-- an answer has no more cost lines than its text has bytes
own-below : (a : AnswerParts) (costs : List CostLine) → Some costs ≡ lines_of_costs a.costs → length costs ≤ length (text a)
own-below a costs are = by_costs a.costs refl are
  where
    by_costs : (said : Option Costs) → a.costs ≡ said → Some costs ≡ lines_of_costs said → length costs ≤ length (text a)
    by_costs None is e = cc
    by_costs (Some said) is e =
        let named : costs ≡ said.lines = cc in
        let own = costs_below_lines None said.lines in
        let bytes = lines_below_bytes (answer_lines a) in
        let order = ap (λ (ls : List (List ℕ)). length ls) (answer_lines-ordered a) in
        let head = length-append (head_lines a.verdict) (after_head a) in
        let part = length-append (costs_lines a.costs) (after_costs a) in
        let same = ap (λ (c : Option Costs). length (costs_lines c)) is in
        omega (arith, own, bytes, ap length named)

below-by : (of : Option OtherText) (bytes : List ℕ) (costs : List CostLine) → IsSaidBy of bytes (Some costs) → length costs ≤ length bytes
below-by None bytes costs said = omega (arith, own-below said.answer costs said.costs_are, ap length said.spelled)
below-by (Some of) bytes costs said =
    let sections = cost_lines None costs in
    let own = costs_below_lines None costs in
    let all = top_lines of said.verdict ++ (other_costs_lines of said.number (Some costs) ++ said.behind ∷ said.unread) in
    let below = lines_below_bytes all in
    let top = length-append (top_lines of said.verdict) (other_costs_lines of said.number (Some costs) ++ said.behind ∷ said.unread) in
    let part = length-append (other_costs_lines of said.number (Some costs)) (said.behind ∷ said.unread) in
    omega (arith, own, below, ap length said.spelled)

pub said_fit : SaidCostsFit
said_fit = (
  λ bytes costs said. fit-by (text_of_bytes bytes) bytes costs said,
  λ bytes costs said. below-by (text_of_bytes bytes) bytes costs said,
)

pub own_said : AnswersSayTheirCosts
own_said a value =
    let rest : List (List ℕ) = verdict_line a.verdict ∷ after_head a in
    let whole : text a ≡ answer_head ++ 10 ∷ with_ends rest =
    ap with_ends (answer_lines-ordered a) ∙ append_assoc answer_head (10 ∷ []) (with_ends rest) in
    let none : text_of_bytes (text a) ≡ None = head-first (text a) answer_head (with_ends rest) whole (written answer_head refl) in
    subst (λ (of : Option OtherText). IsSaidBy of (text a) (lines_of_costs a.costs)) (sym none)
    (record { answer = a; spelled = refl; value = value; costs_are = refl })
