-- the variable's place is written, where there is one
use Rattle.std.proofs.Common.{◌≡◌, ◌∙◌, ap, sym, subst, arith, map, set}
use Rattle.cost_base.specs.Lists.{numbers_from}
use Rattle.area_graph.specs.declared.Price.{Price}
use Rattle.present_costs.specs.declared.variables.Noted.{Noted}
use Rattle.present_costs.specs.Noted.{noted_with}
use Rattle.present_costs.proofs.NotedLaws.{noted_by, noted_there, noted_nowhere}
use Rattle.present_costs.proofs.variables.note.Goals as goal

pub returns-then-place-len : goal.returns-then-place-len
returns-then-place-len c = λ f n are.
    subst (λ (price : Price). set c.args.noted.now.items c.in-Var.variable c.noted_with.result ≡ map (noted_by f price c.args.cost) (numbers_from 0 n))
    (sym c.in-Var.is)
    (noted_there f n c.in-Var.variable c.args.cost c.args.noted.now.items c.noted_with.result c.index.result.now are
    (omega (arith, c.if-place-len.true, c.len.ensures)) (c.noted_with.ensures ∙ ap (λ (noted : Noted). noted_with noted c.args.cost) c.index.ensures))

pub returns-else-place-len : goal.returns-else-place-len
returns-else-place-len c = λ f n are.
    subst (λ (price : Price). c.args.noted.now.items ≡ map (noted_by f price c.args.cost) (numbers_from 0 n)) (sym c.in-Var.is)
    (noted_nowhere f n c.in-Var.variable c.args.cost c.args.noted.now.items are (omega (arith, c.if-place-len.false, c.len.ensures)))
