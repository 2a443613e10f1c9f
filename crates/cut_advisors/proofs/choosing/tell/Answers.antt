use Rattle.std.proofs.Common.{arith}
use Rattle.cut_advisors.proofs.AskedAdvisors.{told_more, told_all}
use Rattle.cut_advisors.proofs.choosing.tell.Goals as goal

pub loop-advisor-init : goal.loop-advisor-init
loop-advisor-init g c = λ others all. all

pub loop-advisor-preserved : goal.loop-advisor-preserved
loop-advisor-preserved g c =
    told_more _ _ c.loop-advisor.advisor-items c.loop-advisor.advisor-index c.advisor-item.result c.tell_one.new.advisor (omega arith)
    (c.tell_one.ensures.itself, c.tell_one.ensures.state) c.loop-advisor.invariant

pub returns : goal.returns
returns g c = told_all _ _ _ c.loop-advisor.advisor-items _ c.loop-advisor.advisor-index _
    c.deref_mut-advisor-items.ensures.value (omega arith) (omega arith) c.loop-advisor.invariant
