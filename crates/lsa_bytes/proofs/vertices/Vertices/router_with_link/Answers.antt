use Rattle.std.proofs.Common.{ℕ, Some, [], get_or, ap, subst, sym, ◌∙◌, true, false, zero-add, arith}
use Rattle.lsa_bytes.specs.declared.Body.TheVariants.{Attached}
use Rattle.lsa_bytes.specs.declared.Lsa.{Lsa}
use Rattle.lsa_bytes.specs.AreaGraphs.{has_link}
use Rattle.lsa_bytes.specs.Vertices.{AreEnds}
use Rattle.lsa_bytes.proofs.MemberLaws.{lead_at, lead_long}
use Rattle.lsa_bytes.proofs.Spots.{router_found, router_unfound}
use Rattle.lsa_bytes.proofs.vertices.Vertices.router_with_link.Goals as goal

pub index-requires : goal.index-requires
index-requires c =
    let at = router_found c.self.inside.lsas.now c.args.self.now c.self.inside.routers c.args.router
    (has_link c.args.kind c.args.id) c.in-Some.spot c.self.invariant.routers c.self.view_is
    c.in-Some.ensures in
    omega (arith, at.within, lead_long c.self.inside.lsas.now c.self.inside.ends.items c.self.invariant.ends)

pub returns-in-Some : goal.returns-in-Some
returns-in-Some c =
    let lsas = c.self.inside.lsas.now in
    let first : Lsa = record { id = 0; router = 0; body = Attached [] } in
    let at = router_found lsas c.args.self.now c.self.inside.routers c.args.router
    (has_link c.args.kind c.args.id) c.in-Some.spot c.self.invariant.routers c.self.view_is
    c.in-Some.ensures in
    let lead = lead_at lsas c.self.inside.ends.items c.in-Some.spot.place first c.index.result.now c.self.invariant.ends at.within in
    let is = c.has_link.ensures (get_or lsas c.in-Some.spot.place first).body
    (subst (AreEnds (get_or lsas c.in-Some.spot.place first).body) (sym c.index.ensures) lead) in
    ap (λ (number : ℕ). Some number) (sym (zero-add c.in-Some.spot.number)) ∙ at.back first true (sym is ∙ c.if-has_link.true)

pub returns-in_default : goal.returns-in_default
returns-in_default c =
    let lsas = c.self.inside.lsas.now in
    let first : Lsa = record { id = 0; router = 0; body = Attached [] } in
    let at = router_found lsas c.args.self.now c.self.inside.routers c.args.router
    (has_link c.args.kind c.args.id) c.in-Some.spot c.self.invariant.routers c.self.view_is
    c.in-Some.ensures in
    let lead = lead_at lsas c.self.inside.ends.items c.in-Some.spot.place first c.index.result.now c.self.invariant.ends at.within in
    let is = c.has_link.ensures (get_or lsas c.in-Some.spot.place first).body
    (subst (AreEnds (get_or lsas c.in-Some.spot.place first).body) (sym c.index.ensures) lead) in
    at.back first false (sym is ∙ c.if-has_link.false)

pub returns-in_default-2 : goal.returns-in_default-2
returns-in_default-2 c =
    router_unfound c.self.inside.lsas.now c.args.self.now c.self.inside.routers c.args.router
    (has_link c.args.kind c.args.id) c.self.invariant.routers c.self.view_is (sym c.in_default.is ∙ c.spot.ensures)
