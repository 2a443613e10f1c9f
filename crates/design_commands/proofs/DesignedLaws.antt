-- The text of an answer prints, for well-formed input, what its verdict claims.
use Rattle.std.proofs.Common.{◌≡◌, ℕ, ◌≤◌, refl, sym, subst, arith, List, [], ◌∷◌, ◌++◌, append-nil, get_or, true, Some}
use Rattle.std.specs.Prelude.{All, slice_index}
use Rattle.std.proofs.lemmas.List.Elements.{All-nil, All-cons, All-head, All-tail, All-weaker}
use Rattle.area_graph.specs.Area.{Area}
use Rattle.area_graph.specs.Costs.{IsOnlyCheapest, at_costs}
use Rattle.text_lines.specs.Lines.{with_ends}
use Rattle.config_reader.proofs.PrintedLines.{all_lack_end}
use Rattle.design_problem.specs.declared.problem.Request.{Request}
use Rattle.design_problem.specs.declared.problem.VarName.{VarName}
use Rattle.design_problem.specs.declared.answer.CostLine.{CostLine}
use Rattle.design_problem.specs.declared.answer.Costs.{Costs}
use Rattle.design_problem.specs.declared.answer.Verdict.{Verdict}
use Rattle.design_problem.specs.declared.answer.Verdict.TheVariants.{Optimal, Impossible, Undecided}
use Rattle.design_problem.specs.Problems.{DesignProblem, request_ends}
use Rattle.design_problem.specs.Rows.{IsFit}
use Rattle.design_problem.specs.Answers.{AnswerParts, CostLinesOf, IsValid}
use Rattle.design_problem.specs.ProblemLaws.{GivesBest, IsTrueVerdict}
use Rattle.design_problem.specs.AnswerRanges.{IsCost, BoundsCosts}
use Rattle.design_problem.specs.Text.{FitsCostLine, FitsCosts, text}
use Rattle.design_problem.proofs.ProblemTrees.{valid_holds}
use Rattle.evidence_text.specs.AnswerValues.{IsAnswerValue}
use Rattle.least_bound.specs.Answered.{VerdictHolds}
use Rattle.wide_fraction.specs.SearchLimits.{SearchLimits}
use Rattle.input_files.specs.Outcomes.{Input}
use Rattle.input_files.proofs.ReadyInputs.{IsReadyInput}
use Rattle.design_commands.specs.Designs.{IsAnswerTo, IsDesigned, IsShownImpossible, IsShownUndecided, verdict_status, MayDesign, AreCheapestBack}
use Rattle.present_costs.proofs.CheapestWith.{only_cheapest_with}
use Rattle.read_back_laws.proofs.ReadBackLaws.{read_back}
use Rattle.read_back_laws.specs.ReadBack.{IsReadBack}
use Rattle.read_back_laws.proofs.PrintedText.{NamesWords}
use Rattle.read_back_laws.proofs.PrintedSections.{PrintsSections, all_other, sections_printed}

-- each named variable has a cost that a line can give
abbrev ArePrintable : List VarName → List ℕ → Type 0
ArePrintable names w = All (λ name. (1 ≤ slice_index w name.var) × (slice_index w name.var ≤ 65535)) names

-- costs that lines give are costs of interfaces
lines_printable : (w : List ℕ) (names : List VarName) (lines : List CostLine) → CostLinesOf w names lines →
    All FitsCostLine lines → All (λ line. IsCost line.cost) lines → ArePrintable names w
lines_printable w [] [] zip fit small = All-nil (λ (name : VarName). (1 ≤ slice_index w name.var) × (slice_index w name.var ≤ 65535))
lines_printable w [] (line ∷ lines) zip fit small = absurd zip
lines_printable w (name ∷ names) [] zip fit small = absurd zip
lines_printable w (name ∷ names) (line ∷ lines) zip fit small =
    let from = (All-head FitsCostLine line lines fit).cost in
    let below = All-head (λ (l : CostLine). IsCost l.cost) line lines small in
    let same = zip.0.2 in
    All-cons (λ (n : VarName). (1 ≤ slice_index w n.var) × (slice_index w n.var ≤ 65535)) name names
    (omega arith, omega arith)
    (lines_printable w names lines zip.1 (All-tail FitsCostLine line lines fit) (All-tail (λ (l : CostLine). IsCost l.cost) line lines small))

-- so are the printed costs of an answer
answer_printable : (p : DesignProblem) (a : AnswerParts) (costs : Costs) (w : List ℕ) → IsAnswerValue a →
    a.costs ≡ Some costs → CostLinesOf w p.vars costs.lines → ArePrintable p.vars w
answer_printable p a costs w value some names =
    let fit : All FitsCostLine costs.lines = subst (λ o. FitsCosts o) some value.fits.costs in
    let small : BoundsCosts (Some costs) = subst (λ o. BoundsCosts o) some value.bounds.costs in
    lines_printable w p.vars costs.lines names fit small.1

-- the sections of an answer's text with lines around it that open none
pub answer_prints : (before behind : List (List ℕ)) (a : AnswerParts) (costs : Costs) → IsAnswerValue a → a.costs ≡ Some costs →
    all_lack_end before ≡ true → all_lack_end behind ≡ true → all_other before ≡ true → all_other behind ≡ true →
    PrintsSections (with_ends before ++ text a ++ with_ends behind) costs.lines
answer_prints before behind a costs value some early late front back =
    sections_printed before behind a costs some
    (All-weaker FitsCostLine NamesWords (λ line fit. record { router = fit.router; interface = fit.interface }) costs.lines
    (subst (λ o. FitsCosts o) some value.fits.costs)) early late front back

-- the costs of a valid optimal answer are read back from a text with their sections
pub costs_back : (d : Input) (a : AnswerParts) (k : ℕ) (bytes : List ℕ) → IsReadyInput d → IsAnswerValue a →
    (gives : GivesBest d.problem k a.costs) → PrintsSections bytes gives.costs.lines → IsReadBack d bytes gives.values
costs_back d a k bytes ready value gives prints =
    read_back d bytes gives.costs.lines gives.values ready prints gives.names
    (answer_printable d.problem a gives.costs gives.values value gives.is_printed gives.names)

-- and make each wanted path the only cheapest there
pub cheapest_back : (d : Input) (bytes w : List ℕ) → IsReadBack d bytes w → IsFit d.problem w → AreCheapestBack d bytes
cheapest_back d bytes w back fit = λ n r within.
    let request : Request = get_or d.problem.requests n r in
    subst (λ (g : Area). IsOnlyCheapest g (at_costs []) (request_ends request) request.path.edges) (sym back.graph)
    ((only_cheapest_with w d.problem.graph (request_ends request) request.path.edges).1 (fit.only n r within))

-- the text of a valid optimal answer
pub designed_is : (limits : SearchLimits) (d : Input) (a : AnswerParts) (k : ℕ) → IsReadyInput d →
    IsAnswerTo limits d.problem a → a.verdict ≡ Optimal k → IsValid d.problem a → GivesBest d.problem k a.costs →
    IsDesigned limits d (text a)
designed_is limits d a k ready to is valid gives =
    let back = costs_back d a k (text a) ready to.value gives
    (subst (λ (bytes : List ℕ). PrintsSections bytes gives.costs.lines) (append-nil (text a))
    (answer_prints [] [] a gives.costs to.value gives.is_printed refl refl refl refl)) in
    record {
      answer = a;
      spelled = refl;
      value = to.value;
      valid = valid;
      earnest = to.answered.proof;
      sheet = to.answered.sheet;
      costs = gives.values;
      verdict = rw gives.greatest is;
      within = gives.best.fit.within;
      back = back;
      only = cheapest_back d (text a) gives.values back gives.best.fit;
      best = gives.best;
    }

-- its costs are those of the answer
pub designed_costs : (limits : SearchLimits) (d : Input) (a : AnswerParts) (k : ℕ) (ready : IsReadyInput d)
    (to : IsAnswerTo limits d.problem a) (is : a.verdict ≡ Optimal k)
    (valid : IsValid d.problem a) (gives : GivesBest d.problem k a.costs) →
    (designed_is limits d a k ready to is valid gives).costs ≡ gives.values
unfolding designed_is
designed_costs limits d a k ready to is valid gives = refl

-- the text of a valid impossible answer
pub impossible_is : (limits : SearchLimits) (p : DesignProblem) (a : AnswerParts) → IsAnswerTo limits p a →
    a.verdict ≡ Impossible → IsValid p a → IsShownImpossible limits p (text a)
impossible_is limits p a to is valid = record {
  answer = a;
  spelled = refl;
  value = to.value;
  valid = valid;
  earnest = to.answered.proof;
  sheet = to.answered.sheet;
  verdict = is;
  none = subst (λ (v : Verdict). IsTrueVerdict p v a.costs) is (valid_holds p a to.kept valid);
}

-- the text of an undecided answer
pub undecided_is : (limits : SearchLimits) (p : DesignProblem) (a : AnswerParts) (cap : ℕ) → IsAnswerTo limits p a →
    a.verdict ≡ Undecided cap → IsShownUndecided limits p (text a)
undecided_is limits p a cap to is = record {
  answer = a;
  spelled = refl;
  value = to.value;
  cap = cap;
  verdict = is;
  undecided = subst (λ (v : Verdict). VerdictHolds p limits.top limits.nodes a v) is to.answered.holds;
  earnest = to.answered.proof;
  sheet = to.answered.sheet;
}

-- what a verdict claims, of an answer
pub gives_best : (limits : SearchLimits) (p : DesignProblem) (a : AnswerParts) (k : ℕ) → IsAnswerTo limits p a →
    a.verdict ≡ Optimal k → IsValid p a × GivesBest p k a.costs
gives_best limits p a k to is =
    let valid : IsValid p a = subst (λ (v : Verdict). VerdictHolds p limits.top limits.nodes a v) is to.answered.holds in
    (valid, subst (λ (v : Verdict). IsTrueVerdict p v a.costs) is (valid_holds p a to.kept valid))

-- an answer's text may be written with the status of its verdict
pub answer_may : (limits : SearchLimits) (d : Input) (a : AnswerParts) → IsReadyInput d → IsAnswerTo limits d.problem a →
    MayDesign limits d (verdict_status a.verdict) (text a)
answer_may limits d a ready to = by_verdict a.verdict refl
  where
    by_verdict : (v : Verdict) → a.verdict ≡ v → MayDesign limits d (verdict_status v) (text a)
    by_verdict (Optimal k) is =
        let claim = gives_best limits d.problem a k to is in
        designed_is limits d a k ready to is claim.0 claim.1
    by_verdict Impossible is =
        impossible_is limits d.problem a to is (subst (λ (v : Verdict). VerdictHolds d.problem limits.top limits.nodes a v) is to.answered.holds)
    by_verdict (Undecided cap) is = undecided_is limits d.problem a cap to is
