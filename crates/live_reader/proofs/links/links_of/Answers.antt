use Rattle.std.proofs.Common.{get_or, subst}
use Rattle.std.specs.Prelude.{option_to_list}
use Rattle.std.proofs.lemmas.Result.{err_from_is_err_and}
use Rattle.std.proofs.lemmas.List.{drop_all}
use Rattle.live_reader.specs.JsonLinks.{link_read}
use Rattle.live_reader.proofs.EachLaws.{AreLeft, each_at, each_begin, each_end, each_go_on, each_tell}
use Rattle.live_reader.proofs.links.links_of.Goals as goal

pub loop-place-init : goal.loop-place-init
loop-place-init c said stand = each_begin option_to_list (link_read c.args.around) c.args.tape.now c.args.places.now c.new-links.result.items said
    c.new-links.ensures.items stand

pub returns-in_err-link : goal.returns-in_err-link
returns-in_err-link c =
    let p = err_from_is_err_and c.from_residual.result c.from_residual.ensures.1 in
    rw (p.1, p.2) (λ said stand. each_tell option_to_list (link_read c.args.around) c.args.tape.now _ _ c.loop-place.links.items said _
    (each_at option_to_list (link_read c.args.around) c.args.tape.now c.loop-place.place-index 0 c.args.places.now c.loop-place.links.items said
    c.loop-place-test.true (c.loop-place.invariant said stand))
    c.in_err-link.ensures)

pub loop-place-preserved : goal.loop-place-preserved
loop-place-preserved c said stand =
    each_go_on option_to_list (link_read c.args.around) c.args.tape.now (get_or c.args.places.now c.loop-place.place-index 0) _ c.loop-place.links.items
    c.push_some.new.things.items c.in_ok-link.link said
    (each_at option_to_list (link_read c.args.around) c.args.tape.now c.loop-place.place-index 0 c.args.places.now c.loop-place.links.items said
    c.loop-place-test.true (c.loop-place.invariant said stand))
    c.in_ok-link.ensures c.in_ok-push_some.ensures.added

pub returns : goal.returns
returns c said stand =
    each_end option_to_list (link_read c.args.around) c.args.tape.now c.loop-place.links.items said
    (subst (λ ps. AreLeft option_to_list (link_read c.args.around) c.args.tape.now ps c.loop-place.links.items said)
    (drop_all c.loop-place.place-index c.args.places.now c.loop-place-test.false) (c.loop-place.invariant said stand))
