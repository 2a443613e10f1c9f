-- one link further
use Rattle.std.proofs.Common.{◌≡◌, ◌∙◌, ◌<◌, ◌+◌, ap, sym, arith, List, [], ◌∷◌, length, get_or, drop}
use Rattle.area_graph.specs.declared.Price.{Price}
use Rattle.lsdb_build.specs.declared.Linked.{Linked}
use Rattle.wanted_paths.proofs.LoopSteps.{added}
use Rattle.path_requests.specs.Meaning.{prices_from}
use Rattle.path_requests.proofs.LinkSteps.{link_there}
use Rattle.path_requests.proofs.problems.Numbering.prices.Goals as goal

pub price_of-price-requires : goal.price_of-price-requires
price_of-price-requires c =
    let links = c.args.self.now.choices.now.database.links in
    let within : c.loop-i.i < length links = omega (arith, c.loop-i-test.true, ap length c.links-link-items.ensures.value) in
    link_there links c.loop-i.i c.link-item.result within
    (c.link-item.is ∙ ap (λ (ls : List Linked). get_or ls c.loop-i.i c.link-item.result) c.links-link-items.ensures.value)

pub loop-i-preserved : goal.loop-i-preserved
loop-i-preserved c =
    let a = c.args.self.now.choices.now.asked in
    let d = c.args.self.now.choices.now.database in
    let i = c.loop-i.i in
    let within : i < length d.links = omega (arith, c.loop-i-test.true, ap length c.links-link-items.ensures.value) in
    added (prices_from a d i) d.links i c.link-item.result c.loop-i.made.items (c.price_of-price.result ∷ []) c.push.new.self.items
    (prices_from a d 0 d.links) (prices_from a d (i + 1) (drop (i + 1) d.links)) within
    (c.link-item.is ∙ ap (λ (ls : List Linked). get_or ls i c.link-item.result) c.links-link-items.ensures.value)
    (ap (λ (p : Price). p ∷ prices_from a d (i + 1) (drop (i + 1) d.links)) (sym c.price_of-price.ensures))
    c.in_ok-push.ensures.items c.loop-i.invariant
