-- What is answered once no round is left, or one has used the budget up.
use Rattle.std.proofs.Common.{◌≡◌, ℕ, ◌<◌, ◌≤◌, sym, ◌∙◌, ap, subst, List, arith}
use Rattle.std.specs.Prelude.{Some}
use Rattle.design_problem.specs.declared.answer.Verdict.{Verdict}
use Rattle.design_problem.specs.declared.answer.Verdict.TheVariants.{Optimal, Impossible, Undecided}
use Rattle.design_problem.specs.Problems.{DesignProblem, IsProblem, IsProblemOnGraph}
use Rattle.design_problem.specs.Rows.{AreBestCosts, greatest_cost}
use Rattle.design_problem.specs.Answers.{AnswerParts}
use Rattle.design_problem.specs.Text.{row_line}
use Rattle.design_problem.proofs.ProblemTrees.{le_greatest}
use Rattle.printed_rows.proofs.CostLaws.{greatest-le}
use Rattle.least_total.specs.declared.finding.Total.TheVariants.{Least, Undecided as TotalUndecided}
use Rattle.least_total.specs.declared.finding.TotalEvidence.{TotalEvidence}
use Rattle.least_total.specs.declared.finding.TotalEvidence.TheVariants.{Tree}
use Rattle.least_total.specs.declared.printing.PrintedTotal.{PrintedTotal}
use Rattle.least_total.specs.declared.rounds.TotalTree.{TotalTree}
use Rattle.least_total.specs.declared.so_far.SoFar.{SoFar}
use Rattle.least_total.specs.Totals.{total}
use Rattle.least_total.specs.Printing.{IsPrintedLast}
use Rattle.least_total.specs.Rounds.{IsFitWithin, IsKeptBelowTotal, IsUndecidedWithin, IsTotalSoFar}
use Rattle.printed_rows.specs.FittingTexts.{FitText}
use Rattle.least_total.specs.Results.{CanPrintTotals, IsTotalAnswer, IsRecosted, IsUndecidedTotal, ShowsLeastTotal}
use Rattle.least_total.proofs.LeastTotals.{best_within, kept_bounds}
use Rattle.least_total.proofs.PrintedTotals.{shown_closed, shown_is, shown_used_up}

-- the printed kept tree shows the least total
pub kept_shows : (p : DesignProblem) (top nodes cap least : ℕ) (t : TotalTree) (printed : PrintedTotal) →
    CanPrintTotals p nodes cap → IsKeptBelowTotal p top nodes cap least (Some t) → IsPrintedLast t printed →
    ShowsLeastTotal p top nodes cap least (Tree printed.rows printed.tree)
kept_shows p top nodes cap least t printed can kept last =
    let most = kept.0 in
    let refuted = kept.2 in
    let shown = shown_is p top nodes cap most t printed can refuted.tree refuted.few last in
    (most, kept.1, shown.sheet, shown.printed, shown_closed p top cap most t printed refuted.tree refuted.closed last, shown.fits)

abbrev cap_in : Verdict → ℕ
cap_in (Optimal k) = k
cap_in Impossible = 0
cap_in (Undecided k) = k

-- the greatest of the costs at which rounds end is the answer's
same_greatest : (p : DesignProblem) (old new : AnswerParts) (w : List ℕ) (cap : ℕ) → old.verdict ≡ Optimal cap → IsRecosted p old new w → cap ≡ greatest_cost w
same_greatest p old new w cap is other = ap cap_in (sym is ∙ sym other.verdict ∙ other.tells)

-- what a budget, a problem and its best costs' greatest can print
can_print : (p : DesignProblem) (w : List ℕ) (nodes cap : ℕ) → IsProblemOnGraph p → AreBestCosts p w → cap ≡ greatest_cost w →
    cap ≤ 65535 → nodes ≤ 10000000 → CanPrintTotals p nodes cap
can_print p w nodes cap kept best same small budget = record {
  kept = kept;
  from_lows =
      greatest-le p.low cap
      (λ k k_in.
      let above = best.fit.within.above k (omega (arith, best.fit.within.low_count)) in
      let most = le_greatest w k (omega (arith, best.fit.within.low_count)) in
      omega (arith, same));
  small = small;
  budget = budget;
}

-- an optimal answer from whose costs the rounds begin, and what they can print
pub record Begins (p : DesignProblem) (nodes cap : ℕ) (old : AnswerParts) : Type 0 where
  pub can : CanPrintTotals p nodes cap
  pub tells : old.verdict ≡ Optimal cap

pub begins : (p : DesignProblem) (w seen : List ℕ) (nodes cap : ℕ) (old : AnswerParts) → IsProblemOnGraph p → AreBestCosts p w →
    old.verdict ≡ Optimal (greatest_cost w) → seen ≡ w → cap ≡ greatest_cost seen → cap ≤ 65535 → nodes ≤ 10000000 →
    Begins p nodes cap old
begins p w seen nodes cap old kept best tells seen_is cap_is small budget =
    let same = cap_is ∙ ap greatest_cost seen_is in
    record { can = can_print p w nodes cap kept best same small budget; tells = tells ∙ ap Optimal (sym same) }

-- where no round is left
pub least_answered : (p : DesignProblem) (top nodes cap : ℕ) (old answer : AnswerParts) (s : SoFar) (sum : ℕ)
    (proof : TotalEvidence) → IsProblem p → old.verdict ≡ Optimal cap → IsTotalSoFar p top nodes cap s → s.total ≤ s.least →
    IsRecosted p old answer s.costs → sum ≡ s.total → ShowsLeastTotal p top nodes cap s.least proof →
    IsTotalAnswer p top nodes old (Least answer sum proof)
least_answered p top nodes cap old answer s sum proof problem is holds ended other sum_is shows =
    let w = s.costs in
    let same = same_greatest p old answer w cap is other in
    let least_is : s.least ≡ total w = (let ordered = holds.ordered in omega (arith, holds.total_is)) in (
      w,
      other,
      sum_is ∙ holds.total_is,
      record {
        best = other.best;
        least = λ v best.
            let within : IsFitWithin p cap v = subst (λ (k : ℕ). IsFitWithin p k v) (sym same) (best_within p w v other.best best) in
            let bound = kept_bounds p top nodes cap s.least s.kept problem holds.kept v within in
            omega (arith, least_is);
      },
      subst (λ (k : ℕ). ShowsLeastTotal p top nodes k (total w) proof) same (subst (λ (n : ℕ). ShowsLeastTotal p top nodes cap n proof) least_is shows),
    )

-- where a round has used the budget up
pub total_undecided : (p : DesignProblem) (top nodes cap : ℕ) (old answer : AnswerParts) (s : SoFar) (sum most : ℕ)
    (t : TotalTree) (printed : PrintedTotal) → CanPrintTotals p nodes cap → old.verdict ≡ Optimal cap →
    IsTotalSoFar p top nodes cap s → s.least ≤ most → most < s.total → IsUndecidedWithin p top nodes cap most t →
    IsRecosted p old answer s.costs → sum ≡ s.total → IsPrintedLast t printed →
    IsTotalAnswer p top nodes old (TotalUndecided answer sum most printed.rows printed.tree)
total_undecided p top nodes cap old answer s sum most t printed can is holds above below used_up other sum_is last =
    let w = s.costs in
    let same = same_greatest p old answer w cap is other in
    let shown = shown_is p top nodes cap most t printed can used_up.tree (omega (arith, used_up.used_up)) last in
    let counted = shown_used_up p top nodes cap most t printed used_up.tree used_up.undone used_up.used_up last in
    let lows = holds.from_lows in (
      w,
      other,
      sum_is ∙ holds.total_is,
      omega arith,
      omega (arith, holds.total_is),
      shown.sheet,
      subst (λ (k : ℕ). IsUndecidedTotal p top nodes k most printed.rows.items printed.tree) same
          (record { printed = shown.printed; undone = counted.0; used_up = counted.1 }),
      subst (λ (k : ℕ). FitText row_line k printed.rows.items printed.tree) same shown.fits,
    )
