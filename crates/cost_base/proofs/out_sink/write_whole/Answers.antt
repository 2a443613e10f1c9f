use Rattle.std.proofs.Common.{arith, ◌≡◌, ◌-◌, length, take, drop}
use Rattle.std.proofs.lemmas.Grind.{common_steps}
use Rattle.cost_base.proofs.AppendedBytes.{appends_more}
use Rattle.cost_base.proofs.out_sink.write_whole.Goals as goal

pub loop-preserved : goal.loop-preserved
loop-preserved g c = record {
  within = grind (arith, common_steps, c.in_ok-written.ensures.within);
  sent =
      let piece = c.args.piece.now in
      let whole : take (length piece - c.loop.written) (drop c.loop.written piece) ≡ drop c.loop.written piece = grind (arith, common_steps) in
      appends_more (g.W.Write.contents c.args.output.now) (g.W.Write.contents c.loop.output)
      (g.W.Write.contents c.write_some.new.output) c.args.piece.now c.loop.written c.in_ok-written.field-0
      c.loop.invariant.sent (rw whole at c.in_ok-written.ensures.some);
}
