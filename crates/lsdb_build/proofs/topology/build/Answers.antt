use Rattle.std.proofs.Common.{ap, sym, ◌∙◌, [], ◌≤◌, length, subst}
use Rattle.std.proofs.lemmas.Result.{err_from_is_err_and}
use Rattle.lsdb_build.specs.Neighbours.{linked, first_members}
use Rattle.lsdb_build.proofs.Refusals.{tells_designated, tells_overlap, none_found, made_is, few_links, few_subnets}
use Rattle.lsdb_build.proofs.topology.build.Goals as goal

pub returns-in_err-refuse_undesignated-clause-refused :
    goal.returns-in_err-refuse_undesignated-clause-refused
returns-in_err-refuse_undesignated-clause-refused c =
    let found = c.in_ok-ports.ensures.ports in
    let p = err_from_is_err_and c.from_residual-in_err-refuse_undesignated.result c.from_residual-in_err-refuse_undesignated.ensures.1 in
    rw (p.1, p.2)
    (tells_designated c.args.area c.args.configs.now c.deref.result.now c.deref-4.result.now c.deref-5.result.now c.in_err-refuse_undesignated.field-0.0
    c.in_ok-refuse_many_configs.ensures.fault (c.deref.ensures.value ∙ found) c.in_ok-refuse_ports.ensures.fault (c.deref-4.ensures.value ∙ found)
    (c.deref-5.ensures.value ∙ c.in_ok-transit.ensures
    ∙ ap (first_members []) (c.deref-3.ensures.value ∙ c.in_ok-links.ensures
    ∙ ap linked (c.deref-2.ensures.value ∙ found)))
    c.in_err-refuse_undesignated.ensures)

pub returns-in_err-refuse_overlap-clause-refused : goal.returns-in_err-refuse_overlap-clause-refused
returns-in_err-refuse_overlap-clause-refused c =
    let found = c.in_ok-ports.ensures.ports in
    let p = err_from_is_err_and c.from_residual-in_err-refuse_overlap.result c.from_residual-in_err-refuse_overlap.ensures.1 in
    rw (p.1, p.2)
    (tells_overlap c.args.area c.args.configs.now c.deref.result.now c.deref-4.result.now c.deref-5.result.now
    c.deref-6.result.now c.in_err-refuse_overlap.field-0.0
    c.in_ok-refuse_many_configs.ensures.fault (c.deref.ensures.value ∙ found) c.in_ok-refuse_ports.ensures.fault (c.deref-4.ensures.value ∙ found)
    (c.deref-5.ensures.value ∙ c.in_ok-transit.ensures
    ∙ ap (first_members []) (c.deref-3.ensures.value ∙ c.in_ok-links.ensures
    ∙ ap linked (c.deref-2.ensures.value ∙ found)))
    c.in_ok-refuse_undesignated.ensures (c.deref-6.ensures.value ∙ found) c.in_err-refuse_overlap.ensures)

pub assemble-requires-clause-fits : goal.assemble-requires-clause-fits
assemble-requires-clause-fits c =
    let found = c.in_ok-ports.ensures.ports in
    let links_is = c.in_ok-links.ensures ∙ ap linked (c.deref-2.ensures.value ∙ found) in
    let transit_is = c.in_ok-transit.ensures ∙ ap (first_members []) (c.deref-3.ensures.value ∙ links_is) in
    made_is c.args.area c.args.configs.now c.deref-7.result.now c.deref-8.result.now
    (none_found c.args.area c.args.configs.now c.deref.result.now c.deref-4.result.now c.deref-5.result.now c.deref-6.result.now
    c.in_ok-refuse_many_configs.ensures.fault (c.deref.ensures.value ∙ found) c.in_ok-refuse_ports.ensures.fault (c.deref-4.ensures.value ∙ found)
    (c.deref-5.ensures.value ∙ transit_is) c.in_ok-refuse_undesignated.ensures (c.deref-6.ensures.value ∙ found) c.in_ok-refuse_overlap.ensures)
    c.in_ok-ports.ensures.valid (c.deref-7.ensures.value ∙ links_is) (c.deref-8.ensures.value ∙ transit_is)

pub assemble-requires-clause-links : goal.assemble-requires-clause-links
assemble-requires-clause-links c =
    let found = c.in_ok-ports.ensures.ports in
    let links_is = c.in_ok-links.ensures ∙ ap linked (c.deref-2.ensures.value ∙ found) in
    rw (c.deref-7.ensures.value, links_is) (few_links c.deref.result.now _ (c.deref.ensures.value ∙ found) c.in_ok-refuse_ports.ensures.few)

pub assemble-requires-clause-transit : goal.assemble-requires-clause-transit
assemble-requires-clause-transit c =
    let found = c.in_ok-ports.ensures.ports in
    let links_is = c.in_ok-links.ensures ∙ ap linked (c.deref-2.ensures.value ∙ found) in
    let transit_is = c.in_ok-transit.ensures ∙ ap (first_members []) (c.deref-3.ensures.value ∙ links_is) in
    rw (c.deref-8.ensures.value, transit_is) (few_subnets c.deref.result.now _ (c.deref.ensures.value ∙ found) c.in_ok-refuse_ports.ensures.few)

pub linked_ports-requires : goal.linked_ports-requires
linked_ports-requires c = subst (λ ps. length ps ≤ 4000) (c.deref.ensures.value ∙ sym c.deref-2.ensures.value) c.in_ok-refuse_ports.ensures.few

pub transit_ports-requires : goal.transit_ports-requires
transit_ports-requires c =
    let found = c.in_ok-ports.ensures.ports in
    subst (λ ps. length ps ≤ 4000) (sym (c.deref-3.ensures.value ∙ c.in_ok-links.ensures ∙ ap linked (c.deref-2.ensures.value ∙ found)))
    (few_links c.deref.result.now _ (c.deref.ensures.value ∙ found) c.in_ok-refuse_ports.ensures.few)
