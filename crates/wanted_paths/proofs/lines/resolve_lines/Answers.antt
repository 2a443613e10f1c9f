use Rattle.std.proofs.Common.{◌∙◌}
use Rattle.wanted_paths.proofs.LoopSteps.{line_fine, request_added}
use Rattle.wanted_paths.proofs.lines.resolve_lines.Goals as goal

pub loop-item-preserved : goal.loop-item-preserved
loop-item-preserved c =
    let d = c.args.names.now in
    let items = c.args.items.now in
    let i = c.loop-item.item-index in
    let item = c.item-item.result in
    let same = c.loop-item.invariant.same in
    let within = c.loop-item-test.true in
    let is = c.item-item.is in record {
      same = c.push_request.ensures.same ∙ same;
      faults = line_fine d c.loop-item.resolver items i item same within is c.in_ok-push_request.ensures.resolves c.loop-item.invariant.faults;
      made =
          request_added d c.loop-item.resolver items i item c.loop-item.made.items c.push_request.new.made.items same within is
          c.in_ok-push_request.ensures.made c.loop-item.invariant.made;
    }
