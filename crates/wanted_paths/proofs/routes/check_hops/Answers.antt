use Rattle.wanted_paths.proofs.LoopSteps.{hop_leads, hop_broken}
use Rattle.wanted_paths.proofs.routes.check_hops.Goals as goal

pub loop-i-preserved : goal.loop-i-preserved
loop-i-preserved c =
    hop_leads c.args.names.now c.args.line c.args.hops.now c.loop-i.i c.index-hops-i.result c.args.last.now c.next_name.result.now c.leads_on.result
    c.loop-i-test.true c.index-hops-i.is c.next_name.ensures c.leads_on.ensures c.if-not-leads_on.false c.loop-i.invariant

pub returns-then-not-leads_on-clause-refused : goal.returns-then-not-leads_on-clause-refused
returns-then-not-leads_on-clause-refused c =
    hop_broken c.args.names.now c.args.line c.args.hops.now c.loop-i.i c.index-hops-i.result c.args.last.now c.next_name.result.now c.leads_on.result
    c.broken.result
    c.loop-i-test.true c.index-hops-i.is c.next_name.ensures c.leads_on.ensures c.if-not-leads_on.true c.loop-i.invariant c.broken.ensures
