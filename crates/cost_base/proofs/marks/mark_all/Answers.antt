use Rattle.std.proofs.Common.{rules, ◌<◌, ◌≤◌, ◌==◌, length, get_or}
use Rattle.std.proofs.lemmas.List.{get_or_default}
use Rattle.cost_base.proofs.MarkLaws.{all_marked, marked_more}
use Rattle.cost_base.proofs.marks.mark_all.Goals as goal

pub loop-place-preserved : goal.loop-place-preserved
loop-place-preserved c =
    let xs = c.args.places.now in
    let i = c.loop-place.place-index in
    let within : i < length xs = search rules in
    marked_more (λ k place. place == k) c.args.marks.now.items c.loop-place.marks.items c.mark.new.marks.items xs i
    (get_or xs i 0) within (get_or_default xs i 0 (get_or xs i 0) within) c.loop-place.invariant c.mark.ensures

pub returns : goal.returns
returns c =
    let xs = c.args.places.now in
    let past : length xs ≤ c.loop-place.place-index = search rules in
    all_marked (λ k place. place == k) c.args.marks.now.items c.loop-place.marks.items xs c.loop-place.place-index past c.loop-place.invariant
