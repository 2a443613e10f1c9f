use Rattle.std.proofs.Common.{◌<◌, arith, of_calls}
use Rattle.rival_separation.proofs.shared.prepare.Goals as goal

pub least_lead-requires-clause-fits : goal.least_lead-requires-clause-fits
least_lead-requires-clause-fits g c = c.requires.outlooks.fits c.loop-later.later c.outlook_at-other.result (omega (arith, c.loop-later-test.true))
    (search of_calls)

pub least_lead-requires-clause-path : goal.least_lead-requires-clause-path
least_lead-requires-clause-path g c = c.requires.outlooks.path c.loop-later.later c.outlook_at-other.result (omega (arith, c.loop-later-test.true))
    (search of_calls)
