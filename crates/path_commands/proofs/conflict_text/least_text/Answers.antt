-- A least conflict: the tree's lines, and the costs without each member.
use Rattle.std.proofs.Common.{arith}
use Rattle.std.specs.Prelude.{codes}
use Rattle.path_commands.proofs.ConflictLines.{made_part_short, rows_part_short}
use Rattle.path_commands.proofs.ConflictTexts.{least_spelled, each_within, evidence_pushed}
use Rattle.path_commands.proofs.conflict_text.least_text.Goals as goal

pub push_evidence-requires-clause-rows : goal.push_evidence-requires-clause-rows
push_evidence-requires-clause-rows c =
    rows_part_short c.args.problem.now c.requires.0 c.requires.1 c.args.least.now.members.now c.args.least.now.rows.now c.args.tree
    c.keeps_problem_on_graph.ensures.problem c.keeps_problem_on_graph.ensures.graph c.requires.3.told

pub push_evidence-requires-clause-tree : goal.push_evidence-requires-clause-tree
push_evidence-requires-clause-tree c =
    made_part_short c.args.problem.now c.requires.0 c.requires.1 c.args.least.now.members.now c.args.least.now.rows.now c.args.tree
    (codes "proof") c.at_greatest_bound-tree.result c.keeps_problem_on_graph.ensures.problem c.at_greatest_bound-tree.ensures.same
    c.at_greatest_bound-tree.ensures.small c.requires.2 (omega arith) c.requires.3.told

pub push_without-requires-clause-within : goal.push_without-requires-clause-within
push_without-requires-clause-within c =
    each_within c.args.problem.now c.requires.0 c.requires.1 c.args.least.now.members.now c.args.least.now.rows.now c.args.tree
    c.args.least.now.without.now c.requires.3

pub returns : goal.returns
returns c =
    let p = c.args.problem.now in
    let evidence = evidence_pushed p c.args.least.now.rows.now c.args.tree c.at_greatest_bound-tree.result
    (codes "proof") c.in_ok-text.text.items c.push_evidence.new.text.items c.at_greatest_bound-tree.ensures.same
    c.in_ok-push_evidence.ensures in
    least_spelled p c.args.least.now.members.now c.args.least.now.rows.now c.args.tree c.args.least.now.without.now c.in_ok-text.text.items
    c.push_evidence.new.text.items c.push_without.new.text.items c.push_line.new.text.items c.in_ok-text.ensures
    evidence c.in_ok-push_without.ensures c.in_ok-push_line.ensures
