use Rattle.std.proofs.Common.{rules}
use Rattle.exact_simplex.proofs.tableau.Tableau.multipliers.Goals as goal

pub returns-clause-refutes : goal.returns-clause-refutes
returns-clause-refutes c = search rules

pub returns-clause-few : goal.returns-clause-few
returns-clause-few c = search rules
