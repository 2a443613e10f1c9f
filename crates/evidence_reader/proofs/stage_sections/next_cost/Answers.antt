use Rattle.std.proofs.Common.{None, Option, List, ℕ, subst}
use Rattle.std.specs.Prelude.{IfSome}
use Rattle.cost_base.specs.Words.{IsOneWord}
use Rattle.std.specs.Option.{option_copied}
use Rattle.std.proofs.lemmas.Result.{err_from_is_err_and}
use Rattle.evidence_reader.proofs.NextPlaces.{stop-then}
use Rattle.evidence_reader.proofs.SectionLines.{router_section, interface_section}
use Rattle.evidence_reader.proofs.stage_sections.next_cost.Goals as goal

pub cost_of_router-requires : goal.cost_of_router-requires
cost_of_router-requires c =
    let said = rw c.in-Router.is at c.in-Some.ensures None in
    said.1.0

pub cost_of_interface-requires-clause-router : goal.cost_of_interface-requires-clause-router
cost_of_interface-requires-clause-router c =
    let said = rw c.in-Interface.is at c.in-Some.ensures None in
    subst (λ (b : Option (List ℕ)). IfSome b IsOneWord) said.1.0 c.requires

pub cost_of_interface-requires-clause-interface : goal.cost_of_interface-requires-clause-interface
cost_of_interface-requires-clause-interface c =
    let said = rw c.in-Interface.is at c.in-Some.ensures None in
    said.1.1

pub returns-in_err-found-in-Router : goal.returns-in_err-found-in-Router
returns-in_err-found-in-Router c =
    let p = err_from_is_err_and c.from_residual.result c.from_residual.ensures.1 in
    rw (p.1, p.2)
    (λ of.
    let said = rw c.in-Router.is at c.in-Some.ensures of in
    stop-then _ said.2 (c.in_err-found-in-Router.ensures of))

pub returns-in_err-found-in-Interface : goal.returns-in_err-found-in-Interface
returns-in_err-found-in-Interface c =
    let p = err_from_is_err_and c.from_residual-in_err-found-in-Interface.result c.from_residual-in_err-found-in-Interface.ensures.1 in
    rw (p.1, p.2)
    (λ of.
    let said = rw c.in-Interface.is at c.in-Some.ensures of in
    stop-then _ said.2 (c.in_err-found-in-Interface.ensures of))

pub returns-in_ok-found-in-Router : goal.returns-in_ok-found-in-Router
returns-in_ok-found-in-Router c =
    λ of.
    let said = rw c.in-Router.is at c.in-Some.ensures of in
    let found = c.in_ok-found-in-Router.ensures of in (
      found.1,
      router_section of (option_copied c.args.before) c.in-Router.router.now said.0 c.in_ok-found-in-Router.found.0 said.1.1 said.1.2 found.0 said.2 found.2,
    )

pub returns-in_ok-found-in-Interface : goal.returns-in_ok-found-in-Interface
returns-in_ok-found-in-Interface c =
    λ of.
    let said = rw c.in-Interface.is at c.in-Some.ensures of in
    let found = c.in_ok-found-in-Interface.ensures of in (
      found.2,
      interface_section of (option_copied c.args.before) c.in-Interface.router.now c.in-Interface.interface.now said.0
          c.in_ok-found-in-Interface.found.0 said.1.0 said.1.2 found.0 found.1 said.2 found.3,
    )
