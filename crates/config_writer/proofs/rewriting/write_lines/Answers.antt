use Rattle.std.proofs.Common.{◌∙◌, ap, arith, length}
use Rattle.text_lines.specs.TextLeft.{TextLeft}
use Rattle.config_writer.specs.Rewriting.{costs_of}
use Rattle.config_writer.specs.Writing.{look_up}
use Rattle.config_writer.proofs.WrittenLines.{written_none, written_step}
use Rattle.config_writer.proofs.rewriting.write_lines.Goals as goal

pub loop-line-init : goal.loop-line-init
loop-line-init c = record {
  written =
      written_none (costs_of c.args.lines.now) c.args.bytes.now c.new-left.result c.new-writer.result (ap (λ (t : TextLeft). t.bytes) c.new-left.ensures)
      (λ name. ap (look_up name) c.new-writer.ensures.costs ∙ c.in_ok-costs.ensures.costs name)
      c.new-writer.ensures.heads c.new-writer.ensures.named c.new-writer.ensures.out;
  within = omega (arith, ap (λ (t : TextLeft). length t.bytes) c.new-left.ensures, ap (λ (t : TextLeft). t.longest) c.new-left.ensures);
}

pub loop-line-preserved : goal.loop-line-preserved
loop-line-preserved c = record {
  written =
      written_step (costs_of c.args.lines.now) c.args.bytes.now c.loop-line.left c.next_line.new.left c.loop-line.writer c.write_line.new.self c.in-Some.line
      c.loop-line.invariant.written c.in-Some.ensures.line (rw c.ended.ensures at c.in_ok-write_line.ensures);
  within = omega (arith, c.loop-line.invariant.within, c.in-Some.ensures.line.0.first.smaller, c.in-Some.ensures.line.0.longest);
}
