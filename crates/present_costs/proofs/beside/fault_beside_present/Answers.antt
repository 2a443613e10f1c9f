-- a fault of a cost gives way to that of the present network, any other fault stays the first
use Rattle.std.proofs.Common.{◌∙◌, ap, sym, Some}
use Rattle.present_costs.proofs.FaultsBeside.{beside_cost, cost_is_missing, beside_other}
use Rattle.present_costs.proofs.beside.fault_beside_present.Goals as goal

pub returns-in-Some : goal.returns-in-Some
returns-in-Some c =
    let is = c.requires ∙ ap Some c.in-NoCost.is in
    beside_cost c.args.request_file.now c.args.lsdb.now c.in-NoCost.link is ∙ sym c.first_without_cost.ensures ∙ c.in-Some.is

pub returns-in-None : goal.returns-in-None
returns-in-None c =
    let is = c.requires ∙ ap Some c.in-NoCost.is in
    absurd (cost_is_missing c.args.request_file.now c.args.lsdb.now c.in-NoCost.link is (sym c.first_without_cost.ensures ∙ c.in-None.is))

pub returns-in_default : goal.returns-in_default
returns-in_default c = beside_other c.args.request_file.now c.args.lsdb.now c.args.fault c.requires c.in_default.not-NoCost
