-- What is found is by the forms of the pool.
use Rattle.spread_sets.proofs.Findings.{found_in_step}
use Rattle.spread_sets.proofs.finding.search_box.Goals as goal

pub returns : goal.returns
returns g c =
    let old = c.args.source.now in
    let limits = c.args.limits.now in
    found_in_step old.problem old.sets limits.top limits.nodes c.args.costs.now c.search_in.new.source c.search_in.new.pool c.search_in.result
    c.search_in.ensures.lists c.search_in.ensures.found
