-- The head, the costs, and the rows.
use Rattle.std.specs.Option.{option_copied}
use Rattle.path_commands.proofs.SpreadTexts.{front_spelled}
use Rattle.path_commands.proofs.spread_text.text_of_rows.Goals as goal

pub returns : goal.returns
returns c =
    front_spelled c.args.verdict.now (option_copied c.args.costs) c.args.rows.now
    c.in_ok-text.text.items c.push_costs.new.text.items c.push_set_rows.new.text.items
    c.in_ok-text.ensures c.in_ok-push_costs.ensures c.in_ok-push_set_rows.ensures
