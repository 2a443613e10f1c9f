use Rattle.std.proofs.lemmas.Bool.{both_ways, false≢true}
use Rattle.change_steps.proofs.held.is_only_in_both.Goals as goal

pub returns-then-not-is_only-clause-room : goal.returns-then-not-is_only-clause-room
returns-then-not-is_only-clause-room c = c.is_only.ensures.room

pub returns-then-not-is_only-clause-both : goal.returns-then-not-is_only-clause-both
returns-then-not-is_only-clause-both c = (
  λ is. absurd (false≢true is),
  λ both. absurd (both_ways c.is_only.result c.if-not-is_only.true (c.is_only.ensures.only.1 both.0)),
)

pub returns-clause-room : goal.returns-clause-room
returns-clause-room c = c.is_only-2.ensures.room

pub returns-clause-both : goal.returns-clause-both
returns-clause-both c = (
  λ is. (c.is_only.ensures.only.0 c.if-not-is_only.false, c.is_only-2.ensures.only.0 is),
  λ both. c.is_only-2.ensures.only.1 both.1,
)
