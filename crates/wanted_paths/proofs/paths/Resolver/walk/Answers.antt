-- The names are those of the area that contracts see.
use Rattle.std.proofs.Common.{◌≡◌, []}
use Rattle.std.specs.Prelude.{IfOk, IfErr}
use Rattle.cost_base.specs.Lists.{first_of}
use Rattle.lsdb_build.specs.Graphs.{Database}
use Rattle.wanted_paths.specs.declared.routes.Walk.{Walk}
use Rattle.wanted_paths.specs.LineFaults.{walk_faults, TellsResolution}
use Rattle.wanted_paths.specs.Walks.{IsWalk}
use Rattle.std.proofs.Common.{subst}
use Rattle.wanted_paths.proofs.paths.Resolver.walk.Goals as goal

pub returns-clause-made : goal.returns-clause-made
returns-clause-made c =
    let line = c.args.line in
    let route = c.args.route.now in
    subst (λ (d : Database). IfOk c.resolve_walk.result (λ (walk : Walk). (walk_faults d line route ≡ []) × IsWalk d route walk))
    c.self.view_is c.resolve_walk.ensures.made

pub returns-clause-refused : goal.returns-clause-refused
returns-clause-refused c =
    subst (λ (d : Database). IfErr c.resolve_walk.result (TellsResolution (first_of (walk_faults d c.args.line c.args.route.now))))
    c.self.view_is c.resolve_walk.ensures.refused
