use Rattle.design_problem.specs.Boxes.{capped}
use Rattle.evidence_checker.proofs.WalkLaws.{stop_moved}
use Rattle.evidence_checker.proofs.tree.check_cap_tree.Goals as goal

pub returns-clause-first : goal.returns-clause-first
returns-clause-first c =
    stop_moved c.check_tree.result c.args.forms.now c.in_ok-costs.costs
    (capped (record { low = c.args.low.now; high = c.args.high.now }) c.args.proof.now.cap) c.as_slice.result.now
    c.args.proof.now.tree c.in_ok-costs.ensures c.as_slice.ensures.entries c.check_tree.ensures.first
