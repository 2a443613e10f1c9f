use Rattle.std.proofs.Common.{◌++◌}
use Rattle.design_problem.specs.Rows.{LeadsEach, forms_of_rows}
use Rattle.design_problem.proofs.EarnestCounts.{many_cuts}
use Rattle.design_problem.proofs.laws.earnest_trees_cut.Goals as goal

pub returns : goal.returns
returns c p top rows box tree earnest = many_cuts (LeadsEach p) top (forms_of_rows p rows ++ earnest.more) box tree earnest.earnest
