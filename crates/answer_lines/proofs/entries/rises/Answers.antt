use Rattle.std.proofs.Common.{length, ◌-◌, arith}
use Rattle.std.proofs.lemmas.Bool.{ltb-true, ltb-false}
use Rattle.std.proofs.Common.{ap}
use Rattle.answer_lines.proofs.PartOrder.{rises_all}
use Rattle.answer_lines.proofs.entries.rises.Goals as goal

pub returns-in-Some-clause-rise : goal.returns-in-Some-clause-rise
returns-in-Some-clause-rise c =
    λ below. rises_all c.args.parts.now c.in-Some.last.now c.args.row c.requires c.in-Some.ensures.item.3.1 (ltb-true c.in-Some.last.now.0 c.args.row below)

pub returns-in-Some-clause-fall : goal.returns-in-Some-clause-fall
returns-in-Some-clause-fall c =
    λ above. (
      length c.args.parts.now - 1,
      omega (arith, c.in-Some.ensures.item.3.0),
      λ d. omega (arith, ltb-false c.in-Some.last.now.0 c.args.row above, ap (λ p. p.0) (c.in-Some.ensures.item.3.1 d)),
    )
