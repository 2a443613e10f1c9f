use Rattle.live_reader.proofs.WalkLaws.{no_item, items_close, some_item}
use Rattle.std.proofs.Common.{length, ap, arith}
use Rattle.std.proofs.lemmas.List.{length-map}
use Rattle.json.specs.Tape.{node_token}
use Rattle.live_reader.proofs.tree.item_end.Goals as goal

pub returns-then-nodes-place-clause-item : goal.returns-then-nodes-place-clause-item
returns-then-nodes-place-clause-item c js more e =
    no_item c.nodes-nodes.result.now c.args.tape.now c.args.place js more c.nodes-nodes.ensures.tokens c.if-nodes-place.true e

pub returns-in-EndArray-clause-item : goal.returns-in-EndArray-clause-item
returns-in-EndArray-clause-item c js more e =
    items_close c.nodes-nodes.result.now c.args.tape.now c.args.place js more c.nodes-nodes.ensures.tokens c.in-EndArray.is e

pub returns-in_default : goal.returns-in_default
returns-in_default c = record {
  item = λ js more e.
      some_item c.nodes-nodes.result.now c.args.tape.now c.args.place c.after.result js more c.nodes-nodes.ensures.tokens
      (omega (arith, c.if-nodes-place.false, ap length c.nodes-nodes.ensures.tokens, length-map c.nodes-nodes.result.now node_token))
      c.in_default.not-EndArray c.after.ensures.value e;
  later = c.after.ensures.later;
}
