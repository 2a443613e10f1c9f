use Rattle.std.proofs.Common.{◌≡◌, sym, ◌∙◌}
use Rattle.lsdb_build.specs.Neighbours.{is_linked}
use Rattle.lsdb_build.proofs.FirstPlaces.{filter_kept, filter_passed}
use Rattle.lsdb_build.proofs.links.linked_ports.Goals as goal
use Rattle.lsdb_build.proofs.links.linked_ports.Goals.{then-is_linked+in_ok-push, else-is_linked}

pub loop-port-preserved : goal.loop-port-preserved
loop-port-preserved c =
    let ports = c.args.ports.now in
    let i = c.loop-port.port-index in
    let p = c.port-item.result in
    let is = sym (c.is_linked.ensures ports c.in_ok-members.ensures) in
    elim c.if-is_linked.branch [
      | then-is_linked+in_ok-push w ↦
          rw (w.found-is, w.in_ok-push.ensures.items, w.again.ensures, c.loop-port.invariant)
          (sym (filter_kept (is_linked ports) ports i p c.loop-port-test.true c.port-item.is (is ∙ w.if-is_linked.true)))
      | else-is_linked w ↦
          rw (w.found-is, c.loop-port.invariant)
          (sym (filter_passed (is_linked ports) ports i p c.loop-port-test.true c.port-item.is
          (is ∙ w.if-is_linked.false)))
    ]
