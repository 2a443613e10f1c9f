use Rattle.wanted_paths.proofs.LinkReads.{link_read, hop_number, leads_over}
use Rattle.wanted_paths.proofs.routes.leads_on.Goals as goal

pub returns-in-Some : goal.returns-in-Some
returns-in-Some c =
    let d = c.args.names.now in
    let hop = c.args.hop.now in
    let number = c.link_number-number.result in
    let link = c.in-Some.link.now in
    leads_over d hop c.args.next.now number c.router_number.result link c.leads_to_router.result
    (link_read d c.links.result.now number link c.links.ensures.value c.in-Some.ensures.lookup.3.0 c.in-Some.ensures.lookup.1)
    (hop_number d number hop.0 hop.1 c.as_bytes.result.now c.as_bytes-2.result.now c.link_number-number.ensures c.as_bytes.ensures c.as_bytes-2.ensures)
    c.router_number.ensures c.leads_to_router.ensures
