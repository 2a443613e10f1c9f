-- All requests fit: the costs.
use Rattle.std.proofs.Common.{◌∙◌}
use Rattle.path_commands.proofs.ConflictTexts.{fits_spelled}
use Rattle.path_commands.proofs.conflict_text.fits_text.Goals as goal

pub returns : goal.returns
returns c = fits_spelled c.args.problem.now c.args.costs.now c.as_slice.result.now c.in_ok-text.text.items
    c.push_costs_part.new.text.items c.push_line.new.text.items (c.as_slice.ensures.value ∙ c.in_ok-members.ensures)
    c.in_ok-text.ensures c.in_ok-push_costs_part.ensures c.in_ok-push_line.ensures
