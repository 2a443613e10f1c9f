-- Another text that is written so says its costs.
use Rattle.std.proofs.Common.{◌≡◌, ℕ, ◌+◌, ◌≤◌, List, [], ◌∷◌, ◌++◌, Option, Some, None, refl, sym, ap, subst, ◌∙◌, inl, inr, append_assoc}
use Rattle.design_problem.specs.declared.answer.CostLine.{CostLine}
use Rattle.text_lines.specs.Lines.{with_ends}
use Rattle.answer_lines.specs.declared.other_text.OtherText.{OtherText}
use Rattle.answer_lines.specs.declared.other_text.OtherText.TheVariants.{Total, Spread, Change}
use Rattle.answer_lines.specs.Grammar.{AtOtherHead, AtInnerHead, AtOtherVerdict, AtOtherCosts, AtSections, AtSectionsEnd, AtUnread, AfterEnd, IsOtherVerdict, IsSectionsEnd, answer_head, behind_other_head, greatest_of_costs, inner_ends, other_head}
use Rattle.answer_lines.specs.Lawful.{LeadOn}
use Rattle.evidence_reader.proofs.Lawful.{GoOn, costs-on, go-then, lawful}
use Rattle.evidence_reader.proofs.NextPlaces.{lead-then}
use Rattle.evidence_reader.proofs.SectionLines.{router_before}
use Rattle.evidence_reader.proofs.GrammarLines.{next_is_one_line}
use Rattle.sections_reader.specs.Laws.{AreBounded, OtherTextsSayTheirCosts}
use Rattle.sections_reader.specs.Texts.{FitLines, IsSaidBy, other_costs_lines, text_by_head, text_of_bytes, top_lines}
use Rattle.sections_reader.proofs.HeadLines.{head-first}

top-on : (of : OtherText) (verdict : List ℕ) → IsOtherVerdict of verdict → GoOn (AtOtherHead of) (top_lines of verdict) (AtOtherCosts of)
top-on Total verdict said = (AtInnerHead, (refl, refl), (AtOtherVerdict Total, (refl, refl), (AtOtherCosts Total, (said, refl), refl)))
top-on Spread verdict said = (AtOtherVerdict Spread, (refl, refl), (AtOtherCosts Spread, (said, refl), refl))
top-on Change verdict said = (AtOtherVerdict Change, (refl, refl), (AtOtherCosts Change, (said, refl), refl))

-- the costs, and the line that ends them
sections-on : (of : OtherText) (number : ℕ) (costs : Option (List CostLine)) (behind : List ℕ) → number ≤ greatest_of_costs of → FitLines costs →
    AreBounded costs → IsSectionsEnd of behind → GoOn (AtOtherCosts of) (other_costs_lines of number costs ++ behind ∷ []) (AtUnread (inner_ends of))
sections-on of number None behind small fit bounds ends =
    (AtSectionsEnd of, inl (refl, refl), (AtUnread (inner_ends of), (ends, refl), refl))
sections-on of number (Some costs) behind small fit bounds ends = (
  AtSections (Some of) None,
  inr ((number, small, refl), refl),
  go-then (AtSections (Some of) None) (AtSections (Some of) (router_before None costs)) (AtUnread (inner_ends of)) _ (behind ∷ [])
      (costs-on (Some of) None costs fit bounds) (AtUnread (inner_ends of), inr (inr (ends, refl)), refl),
)

-- the first line is the head
head-named : (of : OtherText) (rest : List (List ℕ)) → text_of_bytes (with_ends (other_head of ∷ rest)) ≡ text_by_head (Some (other_head of))
head-named of rest =
    head-first (with_ends (other_head of ∷ rest)) (other_head of) (with_ends rest) (append_assoc (other_head of) (10 ∷ []) (with_ends rest))
    (next_is_one_line (AtOtherHead of) (other_head of) (behind_other_head of) (refl, refl))

named : (of : OtherText) (verdict : List ℕ) (rest : List (List ℕ)) → text_of_bytes (with_ends (top_lines of verdict ++ rest)) ≡ Some of
named Total verdict rest = head-named Total (answer_head ∷ verdict ∷ rest)
named Spread verdict rest = head-named Spread (verdict ∷ rest)
named Change verdict rest = head-named Change (verdict ∷ rest)

pub others_said : OtherTextsSayTheirCosts
others_said of verdict number costs behind unread said small fit bounds ends short rest =
    let sections = other_costs_lines of number costs in
    let read = top_lines of verdict ++ (sections ++ behind ∷ []) in
    let lead : LeadOn (AtOtherHead of) read (AtUnread (inner_ends of)) =
    lawful (AtOtherHead of) (AtUnread (inner_ends of)) read short
    (go-then (AtOtherHead of) (AtOtherCosts of) (AtUnread (inner_ends of)) (top_lines of verdict) (sections ++ behind ∷ [])
    (top-on of verdict said) (sections-on of number costs behind small fit bounds ends)) in
    let order : read ++ unread ≡ top_lines of verdict ++ (sections ++ behind ∷ unread) =
    append_assoc (top_lines of verdict) (sections ++ behind ∷ []) unread
    ∙ ap (λ ls. top_lines of verdict ++ ls) (append_assoc sections (behind ∷ []) unread) in
    subst (λ (o : Option OtherText). IsSaidBy o (with_ends (top_lines of verdict ++ (sections ++ behind ∷ unread))) costs)
    (sym (named of verdict (sections ++ behind ∷ unread)))
    (record {
      verdict = verdict;
      number = number;
      behind = behind;
      unread = unread;
      spelled = refl;
      lawful = subst (λ ls. LeadOn (AtOtherHead of) ls AfterEnd) order (lead-then (AtOtherHead of) (AtUnread (inner_ends of)) AfterEnd read unread lead rest);
      ends = ends;
      fit = fit;
    })
