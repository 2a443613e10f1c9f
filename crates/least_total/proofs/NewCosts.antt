-- The answer with other costs is valid again, and its text is in the grammar.
use Rattle.std.proofs.Common.{◌≡◌, ℕ, ◌≤◌, refl, sym, ◌∙◌, ap, subst, List, [], ◌∷◌, ◌++◌, map, length, arith}
use Rattle.std.specs.Prelude.{All, Option, None, Some, codes, replicate}
use Rattle.std.proofs.lemmas.List.Elements.{All-append}
use Rattle.cost_base.specs.Decimal.{decimal}
use Rattle.cost_base.proofs.ListLemmas.{All-left, All-right, length_zip}
use Rattle.design_problem.specs.declared.problem.VarName.{VarName}
use Rattle.design_problem.specs.declared.answer.CapTree.{CapTree}
use Rattle.design_problem.specs.declared.answer.CostLine.{CostLine}
use Rattle.design_problem.specs.declared.answer.Costs.{Costs}
use Rattle.design_problem.specs.declared.answer.Floor.{Floor}
use Rattle.design_problem.specs.declared.answer.Verdict.{Verdict}
use Rattle.design_problem.specs.declared.answer.Verdict.TheVariants.{Optimal}
use Rattle.design_problem.specs.declared.form.Row.{Row}
use Rattle.design_problem.specs.Problems.{DesignProblem, IsProblem}
use Rattle.design_problem.specs.Rows.{AreBestCosts, greatest_cost}
use Rattle.design_problem.specs.Answers.{AnswerParts, ClaimHolds, GivesCosts, IsValid, lines_in}
use Rattle.design_problem.specs.ProblemLaws.{GivesBest, IsTrueVerdict}
use Rattle.design_problem.proofs.ProblemTrees.{valid_holds}
use Rattle.design_problem.specs.GivenCosts.{costs_given, written}
use Rattle.design_problem.proofs.GivenCosts.{names_written}
use Rattle.design_problem.specs.Text.{FitsAnswer, costs_lines, floor_word, row_line, spaced, tree_lines, verdict_words}
use Rattle.printed_rows.specs.PrintedCosts.{ArePrintedCosts}
use Rattle.printed_rows.proofs.AnswerLines.{costs_fit, costs_short}
use Rattle.least_total.specs.Given.{AreGiven}
use Rattle.least_total.specs.Rounds.{IsFitWithin}
use Rattle.printed_rows.specs.FittingTexts.{IsTextLine}
use Rattle.least_total.specs.Results.{IsRecosted}

-- a valid optimal answer gives best costs
pub gives_best : (p : DesignProblem) (a : AnswerParts) (k : ℕ) → IsProblem p → IsValid p a → a.verdict ≡ Optimal k → GivesBest p k a.costs
gives_best p a k problem valid is = subst (λ (v : Verdict). IsTrueVerdict p v a.costs) is (valid_holds p a problem valid)

-- as many lines as free interfaces
pub lines_counted : (p : DesignProblem) (a : AnswerParts) (k : ℕ) → IsProblem p → IsValid p a → a.verdict ≡ Optimal k →
    length p.vars ≡ length (lines_in a.costs)
lines_counted p a k problem valid is =
    let gives = gives_best p a k problem valid is in
    length_zip _ p.vars gives.costs.lines gives.names ∙ ap (λ (o : Option Costs). length (lines_in o)) (sym gives.is_printed)

-- costs that are written by the lines of a problem's interfaces
pub given_by : (p : DesignProblem) (lows : List ℕ) (names : List VarName) (lines others : List CostLine) →
    lows ≡ p.low → names ≡ p.vars → lines ≡ others →
    written (replicate (length lows) 0) names lines ≡ costs_given p others
given_by p lows names lines others lows_are names_are lines_are =
    ap (λ (ls : List ℕ). written (replicate (length ls) 0) names lines) lows_are
    ∙ ap (λ (ns : List VarName). written (replicate (length p.low) 0) ns lines) names_are
    ∙ ap (λ (ls : List CostLine). written (replicate (length p.low) 0) p.vars ls) lines_are

-- the costs that the lines give are best
pub given_are : (p : DesignProblem) (a : AnswerParts) (k : ℕ) (w : List ℕ) → IsProblem p → IsValid p a →
    a.verdict ≡ Optimal k → w ≡ costs_given p (lines_in a.costs) → AreGiven p a w
given_are p a k w problem valid is given =
    let gives = gives_best p a k problem valid is in
    let same : w ≡ gives.values =
    given ∙ ap (λ (o : Option Costs). costs_given p (lines_in o)) gives.is_printed
    ∙ names_written p gives.costs.lines gives.values problem.each_named gives.best.fit.within.low_count
    gives.names in
    record {
      best = subst (AreBestCosts p) (sym same) gives.best;
      verdict = is ∙ ap Optimal (sym gives.greatest ∙ ap greatest_cost (sym same));
    }

-- fit costs within the greatest of best costs are best, and have that greatest cost
fit_best : (p : DesignProblem) (k : ℕ) (costs : Option Costs) (w : List ℕ) → GivesBest p k costs → IsFitWithin p k w → (greatest_cost w ≡ k) × AreBestCosts p w
fit_best p k costs w gives fit =
    let from : greatest_cost gives.values ≤ greatest_cost w = gives.best.least w fit.0 in
    let same : greatest_cost w ≡ k = omega (arith, gives.greatest, fit.1) in (
      same,
      record {
        fit = fit.0;
        least = λ other other_fit. let least = gives.best.least other other_fit in omega (arith, gives.greatest);
      },
    )

-- a claim with other costs
claim_again : (p : DesignProblem) (rows : List Row) (v : Verdict) (k : ℕ) (costs : Option Costs) (floor : Floor)
    (proof : Option CapTree) (new : Costs) → v ≡ Optimal k → GivesCosts p k new →
    ClaimHolds p rows v costs floor proof → ClaimHolds p rows v (Some new) floor proof
claim_again p rows v k costs floor proof new is gives claim =
    subst (λ (u : Verdict). ClaimHolds p rows u (Some new) floor proof) (sym is)
    (by_costs costs (subst (λ (u : Verdict). ClaimHolds p rows u costs floor proof) is claim))
  where
    by_costs : (c : Option Costs) → ClaimHolds p rows (Optimal k) c floor proof → ClaimHolds p rows (Optimal k) (Some new) floor proof
    by_costs (Some old) holds = (gives, holds.1)
    by_costs None holds = absurd holds

pub recosted_is : (p : DesignProblem) (a : AnswerParts) (k : ℕ) (w : List ℕ) (new : Costs) → IsProblem p → IsValid p a →
    a.verdict ≡ Optimal k → IsFitWithin p k w → ArePrintedCosts p w new →
    IsRecosted p a (record {
      verdict = a.verdict;
      costs = Some new;
      floor = a.floor;
      rows = a.rows;
      proof = a.proof;
      undecided = a.undecided;
    }) w
recosted_is p a k w new problem valid is fit printed =
    let gives = gives_best p a k problem valid is in
    let both = fit_best p k a.costs w gives fit in
    let given : GivesCosts p k new = record { values = w; names = printed.names; fit = fit.0; greatest = both.0; printed = printed.greatest ∙ both.0 } in
    record {
      valid = record {
        rows = valid.rows;
        finished = valid.finished;
        claim = claim_again p a.rows a.verdict k a.costs a.floor a.proof new is given valid.claim;
      };
      best = both.1;
      costs = new;
      printed = refl;
      names = printed.names;
      tells = is ∙ ap Optimal (sym both.0);
      verdict = refl;
      floor = refl;
      rows = refl;
      proof = refl;
    }

-- The text of the answer with other costs.

-- lines between others that are changed for short ones
lines_between : (first second third fourth fifth last other : List (List ℕ)) →
    All IsTextLine (first ++ second ++ third ++ fourth ++ fifth ++ last) → All IsTextLine other →
    All IsTextLine (first ++ other ++ third ++ fourth ++ fifth ++ last)
lines_between first second third fourth fifth last other all short =
    let a = All-left IsTextLine (first ++ second ++ third ++ fourth ++ fifth) last all in
    let b = All-left IsTextLine (first ++ second ++ third ++ fourth) fifth a in
    let c = All-left IsTextLine (first ++ second ++ third) fourth b in
    let d = All-left IsTextLine (first ++ second) third c in
    All-append IsTextLine (first ++ other ++ third ++ fourth ++ fifth) last
    (All-append IsTextLine (first ++ other ++ third ++ fourth) fifth
    (All-append IsTextLine (first ++ other ++ third) fourth
    (All-append IsTextLine (first ++ other) third
    (All-append IsTextLine first other (All-left IsTextLine first second d) short)
    (All-right IsTextLine (first ++ second) third c))
    (All-right IsTextLine (first ++ second ++ third) fourth b))
    (All-right IsTextLine (first ++ second ++ third ++ fourth) fifth a))
    (All-right IsTextLine (first ++ second ++ third ++ fourth ++ fifth) last all)

pub recosted_kept : (p : DesignProblem) (a : AnswerParts) (w : List ℕ) (new : Costs) → FitsAnswer a →
    ArePrintedCosts p w new → FitsAnswer
    (record {
      verdict = a.verdict;
      costs = Some new;
      floor = a.floor;
      rows = a.rows;
      proof = a.proof;
      undecided = a.undecided;
    })
recosted_kept p a w new kept printed = record {
  costs = costs_fit (Some new) (printed.named, printed.small);
  proof = kept.proof;
  undecided = kept.undecided;
  lines =
      lines_between (codes "ospfcost answer 1" ∷ spaced (codes "verdict" ∷ verdict_words a.verdict) ∷ []) (costs_lines a.costs)
      (spaced (codes "floor" ∷ floor_word a.floor ∷ []) ∷ spaced (codes "rows" ∷ decimal (length a.rows) ∷ []) ∷ map row_line a.rows)
      (tree_lines (codes "proof") a.proof) (tree_lines (codes "open") a.undecided) (codes "wide none" ∷ codes "end" ∷ []) (costs_lines (Some new))
      kept.lines (costs_short (Some new) (printed.named, printed.small));
}
