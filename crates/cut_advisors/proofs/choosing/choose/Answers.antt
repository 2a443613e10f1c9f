use Rattle.std.proofs.Common.{◌≡◌, ◌<◌, length, arith}
use Rattle.std.proofs.lemmas.Grind.{common_steps}
use Rattle.cut_advisors.proofs.AskedAdvisors.{chosen_later, chosen_here, chosen_none}
use Rattle.cut_advisors.proofs.choosing.choose.Goals as goal

pub loop-advisors-init : goal.loop-advisors-init
loop-advisors-init g c = λ answer left chosen. chosen

pub loop-advisors-preserved : goal.loop-advisors-preserved
loop-advisors-preserved g c = λ answer left chosen.
    let ok = c.loop-advisors.advisors.ok in
    let some : 0 < length c.loop-advisors.advisors.items = grind (arith, common_steps) in
    c.loop-advisors.invariant answer left
    (chosen_later _ _ _ c.loop-advisors.advisors.items _ c.index_mut.result.now c.ask-answer.new.advisor _
    some c.index_mut.ensures.value c.ask-answer.ensures.answer c.if-answer-candidates.false c.remove.ensures.items answer left chosen)

pub returns-then-answer-candidates-clause-chosen : goal.returns-then-answer-candidates-clause-chosen
returns-then-answer-candidates-clause-chosen g c =
    let ok = c.loop-advisors.advisors.ok in
    let some : 0 < length c.loop-advisors.advisors.items = grind (arith, common_steps) in
    c.loop-advisors.invariant _ _
    (chosen_here _ _ _ c.loop-advisors.advisors.items c.index_mut.result.now c.ask-answer.new.advisor _
    some c.index_mut.ensures.value c.ask-answer.ensures.answer c.if-answer-candidates.true (c.ask-answer.ensures.itself, c.ask-answer.ensures.state))

pub returns-clause-chosen : goal.returns-clause-chosen
returns-clause-chosen g c =
    let ok = c.loop-advisors.advisors.ok in
    let none : length c.loop-advisors.advisors.items ≡ 0 = grind (arith, common_steps) in
    c.loop-advisors.invariant _ _ (chosen_none _ _ _ c.loop-advisors.advisors.items none)
