-- What was found of the next path goes behind the others.
use Rattle.std.proofs.Common.{subst}
use Rattle.spf_ties.specs.Distances.{IsRoomFor}
use Rattle.design_problem.specs.Problems.{DesignProblem}
use Rattle.path_commands.specs.LiveAudits.{IsFoundLive}
use Rattle.path_commands.proofs.Audits.{found_push}
use Rattle.path_commands.proofs.audit_live.audit_left_in.Goals as goal

pub loop-request-preserved : goal.loop-request-preserved
loop-request-preserved c =
    let g = c.args.problem.now.graph in
    record {
      room = subst (λ (p : DesignProblem). IsRoomFor p.graph c.found_live.new.room) c.problem.view_is c.found_live.ensures.room;
      found = found_push (IsFoundLive g c.args.exclusion.now) c.as_slice-request-items.result.now c.loop-request.request-index
          c.request-item.result c.loop-request.found.items c.push.new.self.items c.in_ok-found_live.field-0 c.loop-request-test.true
          c.request-item.is c.loop-request.invariant.found
          (subst (λ (p : DesignProblem). IsFoundLive p.graph c.args.exclusion.now c.request-item.result c.in_ok-found_live.field-0)
          c.problem.view_is c.in_ok-found_live.ensures.found) c.in_ok-push.ensures.items;
    }
