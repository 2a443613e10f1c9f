use Rattle.std.proofs.Common.{rules, ◌≡◌, length}
use Rattle.cost_base.proofs.MarkLaws.{clear_marks}
use Rattle.spf_ties.proofs.LeastCosts.{none_known}
use Rattle.spf_ties.proofs.room.Room.new.Goals as goal

pub returns : goal.returns
returns c =
    let counted : length c.in_ok-marks.marks.items ≡ length c.args.graph.now.edges = search rules in
    let clear = clear_marks c.in_ok-marks.marks.items (length c.args.graph.now.edges) counted c.in_ok-marks.ensures.none in
    search (rules, none_known, clear)
