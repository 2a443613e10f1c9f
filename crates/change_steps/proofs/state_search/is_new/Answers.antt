use Rattle.change_steps.proofs.WalkLaws.{toggled}
use Rattle.change_steps.proofs.state_search.is_new.Goals as goal

pub returns-clause-same : goal.returns-clause-same
returns-clause-same c = toggled c.args.marks.now.items c.args.step c.requires.left
