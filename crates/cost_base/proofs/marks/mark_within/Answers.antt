use Rattle.std.proofs.Common.{rules, sym, ◌≤◌, length, true}
use Rattle.std.proofs.lemmas.List.{set_past}
use Rattle.cost_base.proofs.marks.mark_within.Goals as goal

pub returns-else-place-len : goal.returns-else-place-len
returns-else-place-len c =
    let past : length c.args.marks.now.items ≤ c.args.place = search rules in sym (set_past c.args.marks.now.items c.args.place true past)
