use Rattle.std.proofs.Common.{◌≡◌, ◌+◌, ◌<◌, length, sym, ◌∙◌, ap, arith}
use Rattle.std.proofs.lemmas.List.{length-map}
use Rattle.json.specs.Tape.{node_token}
use Rattle.live_reader.proofs.WalkLaws.{no_step, no_name, some_name}
use Rattle.live_reader.proofs.tree.step_at.Goals.{then-nodes-lt2-via-then-nodes-lt2, then-nodes-lt2-via-else-nodes-lt2+then-nodes-place}
use Rattle.live_reader.proofs.tree.step_at.Goals as goal

pub returns-then-nodes-lt2-clause-member : goal.returns-then-nodes-lt2-clause-member
returns-then-nodes-lt2-clause-member c ms more e =
    let nodes = c.nodes-nodes.result.now in
    let long : length nodes ≡ length c.args.tape.now = sym (length-map nodes node_token) ∙ ap length c.nodes-nodes.ensures.tokens in
    let short : length c.args.tape.now < c.args.place + 2 = elim c.then-nodes-lt2.branch [
      | then-nodes-lt2-via-then-nodes-lt2 w ↦ omega (arith, w.if-nodes-lt2, long)
      | then-nodes-lt2-via-else-nodes-lt2+then-nodes-place w ↦ omega (arith, w.if-nodes-lt2, w.if-nodes-place, long)
    ] in
    no_step c.args.tape.now c.args.place ms more short e

pub returns-in_default : goal.returns-in_default
returns-in_default c = record {
  member = λ ms more e.
      let nodes = c.nodes-nodes.result.now in
      let long : length nodes ≡ length c.args.tape.now = sym (length-map nodes node_token) ∙ ap length c.nodes-nodes.ensures.tokens in
      no_name nodes c.args.tape.now c.args.place ms more c.nodes-nodes.ensures.tokens (omega (arith, long)) c.in_default.not-Key e;
  later = tt;
}

pub returns-clause-member : goal.returns-clause-member
returns-clause-member c ms more e =
    let nodes = c.nodes-nodes.result.now in
    let long : length nodes ≡ length c.args.tape.now = sym (length-map nodes node_token) ∙ ap length c.nodes-nodes.ensures.tokens in
    some_name nodes c.args.tape.now c.args.place c.in-Key.name c.after.result ms more c.nodes-nodes.ensures.tokens (omega (arith, long)) c.in-Key.is
    c.after.ensures.value e
