use Rattle.std.proofs.Common.{ℕ, List, All, None, Some, ap, sym, subst, ◌∙◌}
use Rattle.std.specs.Option.{option_copied}
use Rattle.std.proofs.lemmas.Result.{err_from_is_err_and}
use Rattle.std.proofs.lemmas.List.Elements.{All-nil, All-push}
use Rattle.design_problem.specs.declared.answer.CostLine.{CostLine}
use Rattle.design_problem.specs.Text.{cost_lines, FitsCostLine}
use Rattle.evidence_reader.specs.Stages.{lines_of_words}
use Rattle.answer_lines.specs.Grammar.{AtSections}
use Rattle.answer_lines.specs.Going.{Goes}
use Rattle.answer_lines.proofs.FirstLines.{read-none}
use Rattle.evidence_reader.proofs.NextPlaces.{go-then, stop-then}
use Rattle.evidence_reader.proofs.SectionLines.{router_before, router_before-more, cost_more, read-shorter, some_lines}
use Rattle.evidence_reader.proofs.stage_sections.read_sections.Goals as goal

pub loop-lines-init : goal.loop-lines-init
loop-lines-init c = record {
  goes = λ of. subst (λ (l : List CostLine). Goes (AtSections of None) c.args.text (cost_lines None l)
      (AtSections of None) c.args.text) (sym c.new-lines.ensures.items)
      (read-none (AtSections of None) c.args.text.read c.args.text.left.now);
  fits = subst (λ (l : List CostLine). All FitsCostLine l) (sym c.new-lines.ensures.items) (All-nil FitsCostLine);
  last = ap (router_before None) (sym c.new-lines.ensures.items);
  word = tt;
}

pub loop-lines-smaller : goal.loop-lines-smaller
loop-lines-smaller c =
    let before = option_copied c.loop-lines.before in
    let words = c.in-Some.words in
    let found = rw c.in-Some.is at c.in_ok-words.ensures None in
    read-shorter (lines_of_words before words) (some_lines before words) found.1

pub loop-lines-preserved : goal.loop-lines-preserved
loop-lines-preserved c =
    let before = option_copied c.loop-lines.before in
    let words = c.in-Some.words in
    let lines = c.loop-lines.lines.items in
    let more = c.push.new.self.items in
    let grown = c.in_ok-push.ensures.items in
    let line = c.in_ok-cost_line.field-0 in
    let is = c.in_ok-cost_line.ensures in
    let fit = (rw c.in-Some.is at c.in_ok-words.ensures None).0 in
    let fits : FitsCostLine line =
    subst (λ (l : CostLine). FitsCostLine l) (sym is) (record { router = fit.router; interface = fit.interface; cost = fit.cost }) in
    record {
      goes =
          λ of. subst (λ (l : List (List ℕ)). Goes (AtSections of None) c.args.text l (AtSections of (Some words.router.now))
          c.in-Some.rest) (cost_more before lines more line words c.loop-lines.invariant.last grown is)
          (go-then (c.loop-lines.invariant.goes of) (rw c.in-Some.is at c.in_ok-words.ensures of).1);
      fits = subst (λ (l : List CostLine). All FitsCostLine l) (sym grown) (All-push FitsCostLine lines line c.loop-lines.invariant.fits fits);
      last = sym (ap (router_before None) grown ∙ router_before-more None lines line ∙ ap (λ (l : CostLine). Some l.router) is);
      word = fit.router;
    }

pub returns-in_err-words : goal.returns-in_err-words
returns-in_err-words c =
    let p = err_from_is_err_and c.from_residual.result c.from_residual.ensures.1 in
    rw (p.1, p.2) (λ of. stop-then _ (c.loop-lines.invariant.goes of) (c.in_err-words.ensures of))

pub returns-in_default : goal.returns-in_default
returns-in_default c = λ of. (c.loop-lines.invariant.fits, c.loop-lines.invariant.goes of, rw c.in_default.is at c.in_ok-words.ensures of)
