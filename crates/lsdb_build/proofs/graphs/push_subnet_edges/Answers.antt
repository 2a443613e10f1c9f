use Rattle.std.proofs.Common.{◌++◌, ap, sym, ◌∙◌, append_assoc}
use Rattle.lsdb_build.proofs.GraphLaws.{subnet_edges_step}
use Rattle.lsdb_build.proofs.graphs.push_subnet_edges.Goals as goal

pub loop-i-preserved : goal.loop-i-preserved
loop-i-preserved c =
    let step = subnet_edges_step c.args.links.now c.args.routers c.loop-i.i c.args.subnets.now c.index-subnets-i.result
    c.loop-i-test.true c.index-subnets-i.is in
    rw (c.in_ok-push_members.ensures, c.as_slice.ensures, append_assoc)
    (ap (λ es. c.loop-i.edges.items ++ es) (sym step) ∙ c.loop-i.invariant)
