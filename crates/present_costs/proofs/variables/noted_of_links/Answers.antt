-- each link is noted in its turn
use Rattle.std.proofs.Common.{refl, ◌∙◌, ap, sym, arith, List, length, get_or, ◌<◌}
use Rattle.std.proofs.lemmas.Option.{slice_get-get_or}
use Rattle.std.specs.Prelude.{Some}
use Rattle.lsdb_build.specs.declared.Linked.{Linked}
use Rattle.area_graph.specs.Area.{Area, edge_at}
use Rattle.present_costs.specs.declared.variables.Noted.TheVariants.{Nothing}
use Rattle.present_costs.proofs.NotedLaws.{noted_step, price_of_link}
use Rattle.present_costs.proofs.variables.noted_of_links.Goals as goal

pub loop-i-init : goal.loop-i-init
loop-i-init c = record { so_far = λ k. Nothing; items = c.in_ok-noted.ensures; goes = λ k. refl }

pub loop-i-preserved : goal.loop-i-preserved
loop-i-preserved c =
    let a = c.args.request_file.now in
    let d = c.args.lsdb.now in
    let i = c.loop-i.i in
    let link = c.link-item.result in
    let within : i < length d.links = omega (arith, c.loop-i-test.true, ap length c.links-link-items.ensures.value) in
    let is = c.link-item.is ∙ ap (λ (links : List Linked). get_or links i link) c.links-link-items.ensures.value in
    noted_step a d c.args.count i link c.price_of_link.result c.present_cost.result c.loop-i.noted.items c.note.new.noted.items within
    is
    (c.price_of_link.ensures ∙ ap (λ (g : Area). (edge_at g i).price) c.requires
    ∙ price_of_link a d i link (slice_get-get_or d.links i link within ∙ ap Some (sym is)))
    c.present_cost.ensures c.loop-i.invariant (c.note.ensures c.loop-i.invariant.so_far c.args.count c.loop-i.invariant.items)
