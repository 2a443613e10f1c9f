use Rattle.std.proofs.Common.{◌≡◌, ◌∙◌, ap, length, replicate, sym, rules, None, Option}
use Rattle.cost_base.proofs.FillLaws.{map_same}
use Rattle.lsdb_build.specs.declared.Linked.{Linked}
use Rattle.path_requests.specs.declared.ranges.Range.{Range}
use Rattle.path_requests.proofs.ranges.no_ranges.Goals as goal

pub returns : goal.returns
returns c =
    let nothing : Option Range = None in
    let filled : c.in_ok-vec.field-0.items ≡ replicate (length c.args.names.now.links) nothing = search rules in
    filled ∙ sym (map_same {X = Linked} nothing c.args.names.now.links)
