use Rattle.std.proofs.Common.{◌≡◌, ◌∙◌, ap, length}
use Rattle.cost_branching.proofs.Caps.{forms_back, no_more, rows_back, same_pool}
use Rattle.cost_branching.proofs.one_cap.decide_within.Goals.{After-truncate}
use Rattle.cost_branching.proofs.one_cap.decide_within.Goals as goal

same_rows : (g : _) (c : After-truncate g) → c.truncate.new.self.rows ≡ c.args.pool.now.rows
same_rows g c =
    c.truncate.ensures.rows
    ∙ rows_back c.args.pool.now c.search_rivals.new.pool (length c.rows-begun.result.now) (ap length c.rows-begun.ensures) c.in-Err.ensures.grows.rows

pub returns-in-Err-clause-pool : goal.returns-in-Err-clause-pool
returns-in-Err-clause-pool g c =
    same_pool c.args.problem.now c.args.pool.now c.truncate.new.self (same_rows g c)
    (c.truncate.ensures.forms ∙ forms_back c.args.problem.now c.args.pool.now c.search_rivals.new.pool
    (length c.rows-begun.result.now) (ap length c.rows-begun.ensures) c.requires.pool c.in-Err.ensures.grows.forms)
    c.requires.pool

pub returns-in-Err-clause-more : goal.returns-in-Err-clause-more
returns-in-Err-clause-more g c = no_more c.args.pool.now c.truncate.new.self (same_rows g c)
