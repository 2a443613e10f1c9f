use Rattle.std.proofs.Common.{refl, sym, ◌∙◌, ap, true, false, List}
use Rattle.std.proofs.lemmas.List.{drop_all}
use Rattle.cost_base.specs.Lists.{first_of}
use Rattle.lsdb_build.specs.declared.Linked.{Linked}
use Rattle.path_requests.specs.Resolving.{cost_faults}
use Rattle.path_requests.proofs.CostlessLinks.{lacking_here}
use Rattle.path_requests.proofs.costless.first_lacking.Goals as goal

pub loop-i-init : goal.loop-i-init
loop-i-init c = λ a d same has. refl

pub returns-then-lacks_cost : goal.returns-then-lacks_cost
returns-then-lacks_cost c = λ a d same has.
    sym (ap first_of (lacking_here c.args.request_file.now a d c.args.links.now c.args.ranges.now c.loop-i.i c.index-links-i.result c.range_in.result true
    c.loop-i-test.true c.index-links-i.is c.range_in.ensures (sym c.if-lacks_cost.true ∙ c.lacks_cost.ensures) same has))
    ∙ ap first_of (c.loop-i.invariant a d same has)

pub loop-i-preserved : goal.loop-i-preserved
loop-i-preserved c = λ a d same has.
    sym (lacking_here c.args.request_file.now a d c.args.links.now c.args.ranges.now c.loop-i.i c.index-links-i.result c.range_in.result false
    c.loop-i-test.true c.index-links-i.is c.range_in.ensures (sym c.if-lacks_cost.false ∙ c.lacks_cost.ensures) same has)
    ∙ c.loop-i.invariant a d same has

pub returns : goal.returns
returns c = λ a d same has.
    ap (λ (links : List Linked). first_of (cost_faults a d c.loop-i.i links)) (sym (drop_all c.loop-i.i c.args.links.now c.loop-i-test.false))
    ∙ ap first_of (c.loop-i.invariant a d same has)
