use Rattle.std.proofs.Common.{◌∙◌, Bor, List, ℕ, ap, sym, subst}
use Rattle.lsdb_build.specs.Graphs.{Database, IsAreaDatabase}
use Rattle.wanted_paths.proofs.LookUps.{router_placed, router_found}
use Rattle.wanted_paths.proofs.names.Names.find_router.Goals as goal

pub returns-in-Some-clause-found : goal.returns-in-Some-clause-found
returns-in-Some-clause-found c =
    let now : Bor (List ℕ) → List ℕ = λ name. name.now in
    let base = subst IsAreaDatabase c.self.view_is c.self.invariant.base in
    let are = c.self.invariant.routers ∙ ap (λ (d : Database). d.routers) c.self.view_is in (
      sym (router_found c.args.self.now c.args.name.now now c.self.inside.routers.keys are) ∙ sym c.in-Some.ensures.found,
      sym (router_placed c.args.self.now c.args.name.now now c.self.inside.routers.keys c.args.name c.in-Some.place base are (sym c.in-Some.ensures.index)),
    )

pub returns-in-None-clause-found : goal.returns-in-None-clause-found
returns-in-None-clause-found c =
    let now : Bor (List ℕ) → List ℕ = λ name. name.now in
    let are = c.self.invariant.routers ∙ ap (λ (d : Database). d.routers) c.self.view_is in
    sym (router_found c.args.self.now c.args.name.now now c.self.inside.routers.keys are) ∙ sym c.in-None.ensures.found
