use Rattle.live_reader.proofs.WalkLaws.{first_node, past}
use Rattle.live_reader.proofs.tree.node_at.Goals as goal

pub returns-then-nodes-place : goal.returns-then-nodes-place
returns-then-nodes-place c j stands = past c.nodes-nodes.result.now c.args.tape.now c.args.place j c.nodes-nodes.ensures.tokens c.if-nodes-place.true stands

pub returns : goal.returns
returns c j stands = first_node c.nodes-nodes.result.now c.args.tape.now c.args.place j c.nodes-nodes.ensures.tokens stands
