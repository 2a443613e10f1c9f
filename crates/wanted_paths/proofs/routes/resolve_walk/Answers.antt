use Rattle.std.proofs.Common.{◌≡◌, ◌↔◌, ◌∙◌, ap, sym, subst, []}
use Rattle.std.specs.Prelude.{IsTrue}
use Rattle.cost_base.specs.Lists.{first_of}
use Rattle.area_graph.specs.Area.{Area}
use Rattle.area_graph.specs.Paths.{IsSimple}
use Rattle.wanted_paths.specs.LineFaults.{fault_unless, hop_faults, broken_faults, walk_faults}
use Rattle.wanted_paths.proofs.Walks.{walk_faults_are}
use Rattle.wanted_paths.specs.declared.fault.ResolutionFault.TheVariants.{LoopPath}
use Rattle.wanted_paths.proofs.routes.resolve_walk.Goals.{After-is_simple_walk}
use Rattle.wanted_paths.proofs.routes.resolve_walk.Goals as goal

-- where words and hops have no fault, a walk's only fault is that it isn't simple
faults_are : (c : After-is_simple_walk) →
    walk_faults c.args.names.now c.args.line c.args.route.now ≡ fault_unless c.is_simple_walk.result (LoopPath c.args.line)
faults_are c =
    let d = c.args.names.now in
    let route = c.args.route.now in
    let line = c.args.line in
    let walk = c.in_ok-walk.walk in
    let hops = c.as_slice-hops.ensures in
    let last = c.as_bytes-last.ensures ∙ c.last.ensures in
    let words : hop_faults d line route.hops route.last ≡ []
    = ap (λ hs. hop_faults d line hs route.last) (sym hops)
    ∙ ap (λ l. hop_faults d line c.as_slice-hops.result.now l) (sym last) ∙ c.in_ok-check_words.ensures.made in
    let joined : broken_faults d line 1 route.hops route.last ≡ []
    = ap (λ hs. broken_faults d line 1 hs route.last) (sym hops)
    ∙ ap (λ l. broken_faults d line 1 c.as_slice-hops.result.now l) (sym last) ∙ c.in_ok-check_hops.ensures.made in
    let test = subst (λ (g : Area). IsTrue c.is_simple_walk.result ↔ IsSimple g walk.path.start walk.path.edges walk.end) c.requires c.is_simple_walk.ensures in
    walk_faults_are d line route walk c.is_simple_walk.result c.links-links.ensures.base words joined c.in_ok-walk.ensures test

pub returns-then-not-is_simple_walk-clause-refused :
    goal.returns-then-not-is_simple_walk-clause-refused
returns-then-not-is_simple_walk-clause-refused c =
    let tested = (goal.at.returns-then-not-is_simple_walk-clause-refused c).After-is_simple_walk in
    rw c.at.ensures (ap first_of (faults_are tested ∙ ap (λ b. fault_unless b (LoopPath c.args.line)) c.if-not-is_simple_walk.true))

pub returns-clause-made : goal.returns-clause-made
returns-clause-made c =
    let tested = (goal.at.returns-clause-made c).After-is_simple_walk in
    (faults_are tested ∙ ap (λ b. fault_unless b (LoopPath c.args.line)) c.if-not-is_simple_walk.false, c.in_ok-walk.ensures)
