-- The next path is audited at a point of the problem's graph.
use Rattle.std.proofs.Common.{subst, ◌<◌, length, rules}
use Rattle.spf_ties.specs.Distances.{IsRoomFor}
use Rattle.design_problem.specs.Problems.{DesignProblem}
use Rattle.path_commands.specs.Audits.{IsAudited}
use Rattle.path_commands.proofs.Audits.{found_push}
use Rattle.path_commands.proofs.audit.audit_in.Goals as goal

pub loop-request-preserved : goal.loop-request-preserved
loop-request-preserved c =
    let below : c.loop-request.request-index < length c.as_slice-request-items.result.now = search rules in
    record {
      room = subst (λ (p : DesignProblem). IsRoomFor p.graph c.audited-path.new.room) c.problem.view_is c.audited-path.ensures.room;
      found = found_push (IsAudited c.args.problem.now.graph) c.as_slice-request-items.result.now c.loop-request.request-index
          c.request-item.result c.loop-request.found.items c.push.new.self.items c.audited-path.result below
          c.request-item.is c.loop-request.invariant.found
          (subst (λ (p : DesignProblem). IsAudited p.graph c.request-item.result c.audited-path.result)
          c.problem.view_is c.audited-path.ensures.found) c.in_ok-push.ensures.items;
    }
