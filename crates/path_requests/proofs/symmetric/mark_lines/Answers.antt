use Rattle.std.proofs.Common.{◌∙◌, ap, arith, List, map, take}
use Rattle.std.specs.Prelude.{◌||◌}
use Rattle.std.specs.List.{list_any}
use Rattle.std.proofs.lemmas.List.{take_all}
use Rattle.request_reader.specs.declared.DirectiveLine.{DirectiveLine}
use Rattle.path_requests.specs.Chosen.{ties_one}
use Rattle.path_requests.proofs.ChosenLinks.{tied_none, tied_more}
use Rattle.path_requests.proofs.symmetric.mark_lines.Goals as goal

pub loop-item-init : goal.loop-item-init
loop-item-init c = λ f are. are ∙ tied_none c.args.names.now f

pub loop-item-preserved : goal.loop-item-preserved
loop-item-preserved c = λ f are.
    let d = c.args.names.now in
    let items = c.args.items.now in
    let i = c.loop-item.item-index in
    c.mark_named.ensures (λ link. f link || list_any (λ item. ties_one d link item.what) (take i items)) (c.loop-item.invariant f are)
    ∙ tied_more d items i c.item-item.result f c.loop-item-test.true c.item-item.is

pub returns : goal.returns
returns c = λ f are.
    let d = c.args.names.now in
    let items = c.args.items.now in
    c.loop-item.invariant f are
    ∙ ap (λ (lines : List DirectiveLine). map (λ link. f link || list_any (λ item. ties_one d link item.what) lines) d.links)
    (take_all c.loop-item.item-index items (omega (arith, c.loop-item-test.false)))
