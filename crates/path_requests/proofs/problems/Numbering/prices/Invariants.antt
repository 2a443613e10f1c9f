use Rattle.std.proofs.Common.{◌≡◌, ◌++◌, drop}
use Rattle.path_requests.specs.Meaning.{prices_from}
use Rattle.path_requests.proofs.problems.Numbering.prices.Given as goal

abbrev pub invariant-loop-i : goal.invariant-loop-i
invariant-loop-i l = l.made.items ++ prices_from l.self.choices.now.asked l.self.choices.now.database l.i
    (drop l.i l.self.choices.now.database.links) ≡ prices_from l.self.choices.now.asked l.self.choices.now.database 0 l.self.choices.now.database.links
