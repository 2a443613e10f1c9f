-- The parts of another text that were read, as what it says.
use Rattle.std.proofs.Common.{ℕ, List, [], ◌∷◌, ◌++◌, Option, ap, subst, ◌∙◌, append_assoc, append-nil}
use Rattle.text_lines.specs.Lines.{with_ends}
use Rattle.design_problem.specs.declared.answer.CostLine.{CostLine}
use Rattle.answer_lines.specs.declared.other_text.OtherText.{OtherText}
use Rattle.answer_lines.specs.Grammar.{AtOtherHead, AtOtherCosts, AtUnread, AfterEnd, IsSectionsEnd, inner_ends}
use Rattle.answer_lines.specs.Lawful.{IsRead}
use Rattle.evidence_reader.proofs.NextPlaces.{go-then}
use Rattle.sections_reader.specs.Texts.{FitLines, IsSaidByOther, other_costs_lines, top_lines}

pub other_said : (of : OtherText) (bytes verdict : List ℕ) (number : ℕ) (costs : Option (List CostLine)) (behind : List ℕ) (unread : List (List ℕ))
    {b1 b2 b3 : ℕ} {behind_top behind_costs : List ℕ} → FitLines costs → IsSectionsEnd of behind →
    IsRead (AtOtherHead of) 0 bytes (top_lines of verdict) (AtOtherCosts of) b1 behind_top →
    IsRead (AtOtherCosts of) b1 behind_top (other_costs_lines of number costs ++ behind ∷ []) (AtUnread (inner_ends of)) b2 behind_costs →
    IsRead (AtUnread (inner_ends of)) b2 behind_costs unread AfterEnd b3 [] → IsSaidByOther of bytes costs
other_said of bytes verdict number costs behind unread {b1} {b2} {b3} fit ends top sections rest =
    let order = ap (λ lines. top_lines of verdict ++ lines) (append_assoc (other_costs_lines of number costs) (behind ∷ []) unread) in
    let whole : IsRead (AtOtherHead of) 0 bytes (top_lines of verdict ++ (other_costs_lines of number costs ++ behind ∷ unread)) AfterEnd b3 [] =
    subst (λ lines. IsRead (AtOtherHead of) 0 bytes lines AfterEnd b3 []) order (go-then top (go-then sections rest)) in
    record {
      verdict = verdict;
      number = number;
      behind = behind;
      unread = unread;
      spelled = whole.parts ∙ append-nil (with_ends (top_lines of verdict ++ (other_costs_lines of number costs ++ behind ∷ unread)));
      lawful = whole.lead;
      ends = ends;
      fit = fit;
    }
