use Rattle.std.proofs.Common.{◌∙◌, ap, map}
use Rattle.std.specs.Prelude.{◌&&◌, ◌||◌, is_some}
use Rattle.std.specs.List.{list_any}
use Rattle.path_requests.specs.Chosen.{ties_one}
use Rattle.path_requests.proofs.ChosenLinks.{all_apart}
use Rattle.path_requests.proofs.symmetric.symmetric_by.Goals as goal

pub returns : goal.returns
returns c =
    let d = c.args.names.now in
    let items = c.args.items.now in
    c.mark_lines.ensures (λ link. c.any_ties_all.result && is_some link.link_back) c.in_ok-marks.ensures
    ∙ ap (λ b. map (λ link. (b && is_some link.link_back) || list_any (λ item. ties_one d link item.what) items) d.links) c.any_ties_all.ensures
    ∙ all_apart d items
