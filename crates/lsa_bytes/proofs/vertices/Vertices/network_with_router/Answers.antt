use Rattle.std.proofs.Common.{sym, ◌∙◌, ap, subst, refl, true, false, arith, ℕ, Some, [], get_or, ◌+◌}
use Rattle.std.proofs.lemmas.List.Sums.{count_by-le-length}
use Rattle.lsa_bytes.specs.declared.Body.TheVariants.{Attached}
use Rattle.lsa_bytes.specs.declared.Lsa.{Lsa}
use Rattle.lsa_bytes.specs.AreaGraphs.{attaches}
use Rattle.lsa_bytes.specs.Databases.{is_router_lsa}
use Rattle.lsa_bytes.specs.Vertices.{AreEnds}
use Rattle.lsa_bytes.proofs.MemberLaws.{lead_at, lead_long}
use Rattle.lsa_bytes.proofs.Spots.{network_found, network_unfound, router_count}
use Rattle.lsa_bytes.proofs.vertices.Vertices.network_with_router.Goals as goal

pub index-requires : goal.index-requires
index-requires c =
    let at = network_found c.self.inside.lsas.now c.args.self.now c.self.inside.networks c.args.id (attaches c.args.router)
    c.in-Some.spot c.self.invariant.networks c.self.view_is c.in-Some.ensures in
    omega (arith, at.within, lead_long c.self.inside.lsas.now c.self.inside.ends.items c.self.invariant.ends)

pub overflow_add-result : goal.overflow_add-result
overflow_add-result c =
    let at = network_found c.self.inside.lsas.now c.args.self.now c.self.inside.networks c.args.id
    (attaches c.args.router) c.in-Some.spot c.self.invariant.networks c.self.view_is c.in-Some.ensures in
    omega (arith, at.within, at.near, c.self.invariant.routers.count, count_by-le-length is_router_lsa c.self.inside.lsas.now, c.self.invariant.few)

pub returns-in-Some : goal.returns-in-Some
returns-in-Some c =
    let lsas = c.self.inside.lsas.now in
    let first : Lsa = record { id = 0; router = 0; body = Attached [] } in
    let at = network_found lsas c.args.self.now c.self.inside.networks c.args.id
    (attaches c.args.router) c.in-Some.spot c.self.invariant.networks c.self.view_is
    c.in-Some.ensures in
    let lead = lead_at lsas c.self.inside.ends.items c.in-Some.spot.place first c.index.result.now c.self.invariant.ends at.within in
    let is = c.attaches.ensures (get_or lsas c.in-Some.spot.place first).body
    (subst (AreEnds (get_or lsas c.in-Some.spot.place first).body) (sym c.index.ensures) lead) in
    ap (λ (n : ℕ). Some (n + c.in-Some.spot.number)) (router_count lsas lsas c.self.inside.routers c.self.invariant.routers refl)
    ∙ at.back first true (sym is ∙ c.if-attaches.true)

pub returns-in_default : goal.returns-in_default
returns-in_default c =
    let lsas = c.self.inside.lsas.now in
    let first : Lsa = record { id = 0; router = 0; body = Attached [] } in
    let at = network_found lsas c.args.self.now c.self.inside.networks c.args.id
    (attaches c.args.router) c.in-Some.spot c.self.invariant.networks c.self.view_is
    c.in-Some.ensures in
    let lead = lead_at lsas c.self.inside.ends.items c.in-Some.spot.place first c.index.result.now c.self.invariant.ends at.within in
    let is = c.attaches.ensures (get_or lsas c.in-Some.spot.place first).body
    (subst (AreEnds (get_or lsas c.in-Some.spot.place first).body) (sym c.index.ensures) lead) in
    at.back first false (sym is ∙ c.if-attaches.false)

pub returns-in_default-2 : goal.returns-in_default-2
returns-in_default-2 c =
    network_unfound c.self.inside.lsas.now c.args.self.now c.self.inside.networks c.args.id (attaches c.args.router)
    c.self.invariant.networks c.self.view_is (sym c.in_default.is ∙ c.spot.ensures)
