use Rattle.std.proofs.Common.{◌≡◌, ◌∙◌, ap, ◌++◌, ◌∷◌, ◌<◌, ℕ, Bool, List, [], cond, length, get_or, refl, arith}
use Rattle.std.specs.Prelude.{Some, slice_get, ◌&&◌, ◌==◌}
use Rattle.cost_base.proofs.ListLemmas.{filter-numbers_from-push}
use Rattle.lsdb_build.specs.Graphs.{Database}
use Rattle.lsdb_build.specs.declared.Linked.{Linked}
use Rattle.request_reader.specs.Asked.{Asked}
use Rattle.path_requests.specs.Meaning.{is_free, own, owner_at, range_of}
use Rattle.path_requests.proofs.LinkSteps.{link_there}
use Rattle.path_requests.proofs.variables.own_links.Goals as goal

-- whether a link that is there has a variable of its own
own_is : (a : Asked) (d : Database) (k : ℕ) (x : Linked) → slice_get d.links k ≡ Some x →
    (is_free (range_of a d x) && owner_at a d k (Some x) == k) ≡ own a d k
own_is a d k x at = rw at refl

pub is_own-requires : goal.is_own-requires
is_own-requires c =
    let links = c.args.choices.now.database.links in
    let within : c.loop-i.i < length links = omega (arith, c.loop-i-test.true, ap length c.links-link-items.ensures.value) in
    link_there links c.loop-i.i c.link-item.result within
    (c.link-item.is ∙ ap (λ (ls : List Linked). get_or ls c.loop-i.i c.link-item.result) c.links-link-items.ensures.value)

pub loop-i-preserved : goal.loop-i-preserved
loop-i-preserved c =
    let a = c.args.choices.now.asked in
    let d = c.args.choices.now.database in
    let i = c.loop-i.i in
    let made = c.loop-i.made.items in
    let within : i < length d.links = omega (arith, c.loop-i-test.true, ap length c.links-link-items.ensures.value) in
    let there = link_there d.links i c.link-item.result within
    (c.link-item.is ∙ ap (λ (ls : List Linked). get_or ls i c.link-item.result) c.links-link-items.ensures.value) in
    filter-numbers_from-push (own a d) i made c.push_if.new.things.items c.loop-i.invariant
    (c.in_ok-push_if.ensures ∙ ap (λ (b : Bool). cond b (made ++ i ∷ []) made) (c.is_own.ensures ∙ own_is a d i c.link-item.result there))
