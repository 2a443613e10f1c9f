use Rattle.std.proofs.Common.{◌≡◌}
use Rattle.std.specs.Prelude.{filter}
use Rattle.cost_base.specs.Lists.{numbers_from}
use Rattle.path_requests.specs.Meaning.{own}
use Rattle.path_requests.proofs.variables.own_links.Given as goal

-- those of the links so far
abbrev pub invariant-loop-i : goal.invariant-loop-i
invariant-loop-i l = l.made.items ≡ filter (own l.choices.asked l.choices.database) (numbers_from 0 l.i)
