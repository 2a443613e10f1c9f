-- No fault is found in an answer's text.
use Rattle.std.proofs.Common.{◌≡◌, ℕ, List, [], ◌∷◌, ◌++◌, length, refl, sym, ap, subst, ◌∙◌, arith, append_assoc, length-append, inl, inr}
use Rattle.design_problem.specs.Text.{answer_lines, text}
use Rattle.text_lines.specs.Lines.{IsOneLine, with_ends}
use Rattle.answer_lines.specs.Grammar.{TextPlace, AtHead, AfterEnd, Next}
use Rattle.answer_lines.specs.Lawful.{LineLeads, LeadOn}
use Rattle.evidence_reader.specs.declared.fault.AnswerFault.{AnswerFault}
use Rattle.evidence_reader.specs.Refusals.{IsBadLine, IsEarlyEnd, IsFault, IsTextRefused, bad_line, early_end, after_end}
use Rattle.answer_lines.proofs.LineFronts.{first_line-one, not-one}
use Rattle.evidence_reader.specs.Laws.{AnswersAreRead}
use Rattle.evidence_reader.proofs.GrammarLines.{next_is_one_line}
use Rattle.evidence_reader.proofs.Lawful.{answer-leads}
use Rattle.evidence_reader.proofs.OnePlace.{one_place}

-- the text of some lines begins with the first line and its LF
first-of : (line : List ℕ) (lines : List (List ℕ)) (rest : List ℕ) → with_ends (line ∷ lines) ++ rest ≡ line ++ 10 ∷ (with_ends lines ++ rest)
first-of line lines rest = append_assoc (line ++ 10 ∷ []) (with_ends lines) rest ∙ append_assoc line (10 ∷ []) (with_ends lines ++ rest)

text-first : (line : List ℕ) (lines : List (List ℕ)) → with_ends (line ∷ lines) ≡ line ++ 10 ∷ with_ends lines
text-first line lines = append_assoc line (10 ∷ []) (with_ends lines)

-- a text with an LF isn't empty
some-line : (a b : List ℕ) → [] ≡ a ++ 10 ∷ b → ⊥
some-line a b e = omega (arith, ap length e, length-append a (10 ∷ b))

-- what is left of a lawful text, as lawful lines that lead to its end
abbrev IsLeft : TextPlace → TextPlace → List ℕ → Type 0
IsLeft place last rest = (lines : List (List ℕ)) × LeadOn place lines last × (rest ≡ with_ends lines)

-- a lawful line along an equation
leads-along : (place : TextPlace) (line other : List ℕ) (next : TextPlace) → line ≡ other → LineLeads place line next → LineLeads place other next
leads-along place line other next same leads = subst (λ l. LineLeads place l next) same leads

-- lawful lines that begin a lawful text are its first ones
left-lawful : (from to last : TextPlace) (xs ys : List (List ℕ)) (rest : List ℕ) → LeadOn from xs to → LeadOn from ys last →
    with_ends xs ++ rest ≡ with_ends ys → IsLeft to last rest
left-lawful from to last [] ys rest first second e = (ys, subst (λ p. LeadOn p ys last) first second, e)
left-lawful from to last (x ∷ xs) [] rest first second e = absurd (some-line x (with_ends xs ++ rest) (sym e ∙ first-of x xs rest))
left-lawful from to last (x ∷ xs) (y ∷ ys) rest first second e =
    let cut : (x ≡ y) × (with_ends xs ++ rest ≡ with_ends ys) =
    first_line-one x y (with_ends xs ++ rest) (with_ends ys) (next_is_one_line from x first.0 first.1.is) (next_is_one_line from y second.0 second.1.is)
    (sym (first-of x xs rest) ∙ e ∙ text-first y ys) in
    let along : LineLeads from x second.0 = leads-along from y x second.0 (sym cut.0) second.1 in
    let same : second.0 ≡ first.0 = one_place from x second.0 first.0 along.is first.1.is in
    left-lawful first.0 to last xs ys rest first.2 (subst (λ p. LeadOn p ys last) same second.2) cut.1

-- a lawful first line is no bad one
no_bad : (place next : TextPlace) (line left rest : List ℕ) → LineLeads place line next → rest ≡ line ++ 10 ∷ left → IsBadLine place rest → ⊥
no_bad place next line left rest leads is (inl bad) =
    let cut : (line ≡ bad.0) × (left ≡ bad.1) = first_line-one line bad.0 left bad.1 (next_is_one_line place line next leads.is) bad.3 (sym is ∙ bad.2) in
    bad.4 (next, leads-along place line bad.0 next cut.0 leads)
no_bad place next line left rest leads is (inr last) = not-one line left (subst IsOneLine is last.1)

-- a text with a whole line doesn't end early
no_early : (place : TextPlace) (line left rest : List ℕ) → rest ≡ line ++ 10 ∷ left → IsEarlyEnd place rest → ⊥
no_early place line left rest is (inl none) = some-line line left (sym none ∙ is)
no_early place line left rest is (inr last) = not-one line left (subst IsOneLine is last.0)

-- a text that goes on lawfully to its end has no fault
no_fault : (place : TextPlace) (rest : List ℕ) (kind : AnswerFault) (lines : List (List ℕ)) → LeadOn place lines AfterEnd →
    rest ≡ with_ends lines → IsFault place rest kind → ⊥
no_fault place rest kind [] lead is (bad_line inside bad) = inside lead
no_fault place rest kind [] lead is (early_end inside early) = inside lead
no_fault place rest kind [] lead is (after_end at some) = some is
no_fault place rest kind (line ∷ lines) lead is (bad_line inside bad) = no_bad place lead.0 line (with_ends lines) rest lead.1 (is ∙ text-first line lines) bad
no_fault place rest kind (line ∷ lines) lead is (early_end inside early) = no_early place line (with_ends lines) rest (is ∙ text-first line lines) early
no_fault place rest kind (line ∷ lines) lead is (after_end at some) = subst (λ p. Next p line lead.0) at lead.1.is

-- lawful lines that lead behind the end are not refused
pub not_refused : (from : TextPlace) (lines : List (List ℕ)) (bytes : List ℕ) (kind : AnswerFault) (line : ℕ) → LeadOn from lines AfterEnd →
    bytes ≡ with_ends lines → IsTextRefused from 0 bytes kind line → ⊥
not_refused from lines bytes kind line lead is refused =
    let left : IsLeft refused.place AfterEnd refused.rest =
    left-lawful from refused.place AfterEnd refused.lines lines refused.rest refused.lead lead (sym refused.parts ∙ is) in
    no_fault refused.place refused.rest kind left.0 left.1 left.2 refused.fault

-- no answer's text is refused
pub texts_read : AnswersAreRead
texts_read a kind line value refused =
    not_refused AtHead (answer_lines a) (text a) kind line (answer-leads a value.fits value.bounds value.count) refl refused
