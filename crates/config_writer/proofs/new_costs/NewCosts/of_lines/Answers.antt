use Rattle.std.proofs.Common.{◌∙◌, ◌+◌, ◌≤◌, sym, ap, subst, cond, Some, drop, arith}
use Rattle.std.proofs.lemmas.List.{drop_more, take_all}
use Rattle.std.proofs.lemmas.List.Elements.{All-more, All-same}
use Rattle.cost_base.specs.Lists.{same_bytes}
use Rattle.design_problem.specs.declared.answer.CostLine.{CostLine}
use Rattle.config_reader.specs.Sections.{cost_after}
use Rattle.config_writer.specs.Rewriting.{costs_of}
use Rattle.config_writer.specs.Writing.{look_up}
use Rattle.config_writer.proofs.new_costs.NewCosts.of_lines.Goals as goal

pub loop-line-preserved : goal.loop-line-preserved
loop-line-preserved c =
    let item = c.line-item.result in
    let at = c.loop-line.line-index in
    let left = costs_of (drop (at + 1) c.args.lines.now) in
    record {
      costs = λ name.
          ap (cost_after left name) (c.in_ok-add.ensures.costs name)
          ∙ ap (λ bytes. cost_after left name (cond (same_bytes name bytes) (Some item.cost) (look_up name c.loop-line.costs))) c.as_bytes.ensures
          ∙ ap (λ (line : CostLine). cost_after left name
          (cond (same_bytes name line.interface) (Some line.cost) (look_up name c.loop-line.costs)))
          c.line-item.is
          ∙ sym (ap (λ ls. cost_after (costs_of ls) name (look_up name c.loop-line.costs)) (drop_more c.args.lines.now at item c.loop-line-test.true))
          ∙ c.loop-line.invariant.costs name;
      within = All-more (λ (line : CostLine). line.cost ≤ 65535) c.args.lines.now at item c.loop-line-test.true
          c.loop-line.invariant.within
          (subst (λ (line : CostLine). line.cost ≤ 65535) c.line-item.is c.in_ok-add.ensures.within);
    }

pub returns-clause-within : goal.returns-clause-within
returns-clause-within c =
    let all = take_all c.loop-line.line-index c.args.lines.now (omega (arith, c.loop-line-test.false)) in
    All-same (λ (line : CostLine). line.cost ≤ 65535) c.args.lines.now _ (sym all) c.loop-line.invariant.within
