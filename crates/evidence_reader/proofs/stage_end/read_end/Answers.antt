use Rattle.std.proofs.Common.{ℕ, List, subst}
use Rattle.std.proofs.lemmas.Result.{err_from_is_err_and, MatchResult-weaker}
use Rattle.answer_lines.specs.Grammar.{AtTree, AfterEnd}
use Rattle.design_problem.specs.Text.{end_lines}
use Rattle.answer_lines.specs.Lawful.{IsRead}
use Rattle.evidence_text.specs.declared.TreePart.TheVariants.{Undecided}
use Rattle.evidence_reader.proofs.NextPlaces.{stop-then, go-then}
use Rattle.evidence_reader.proofs.stage_end.read_end.Goals as goal

pub returns-in_err-wide : goal.returns-in_err-wide
returns-in_err-wide c =
    let p = err_from_is_err_and c.from_residual.result c.from_residual.ensures.1 in
    rw (p.1, p.2) c.in_err-wide.ensures

pub returns-in_err-end : goal.returns-in_err-end
returns-in_err-end c =
    let p = err_from_is_err_and c.from_residual-in_err-end.result c.from_residual-in_err-end.ensures.1 in
    rw (p.1, p.2) (stop-then _ c.in_ok-wide.ensures c.in_err-end.ensures)

pub returns : goal.returns
returns c =
    let both = go-then c.in_ok-wide.ensures c.in_ok-end.ensures in
    MatchResult-weaker c.nothing_left.result c.nothing_left.ensures.end
    (λ _ none. (
      c.in_ok-end.end.read,
      subst (λ (left : List ℕ). IsRead (AtTree Undecided 0 0) c.args.text.read c.args.text.left.now end_lines
          AfterEnd c.in_ok-end.end.read left) none both,
    ))
    (λ stop h. stop-then stop both h)
