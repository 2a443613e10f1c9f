use Rattle.config_reader.proofs.HeardSteps.{heard_more, heard_long}
use Rattle.config_reader.proofs.reader.read_lines.Goals as goal

pub loop-line-preserved-in-Continue-1 : goal.loop-line-preserved-in-Continue-1
loop-line-preserved-in-Continue-1 c =
    heard_more c.args.bytes.now c.loop-line.lines c.next_line.new.self c.loop-line.reader c.hear.new.self c.in-Ok.line
    c.loop-line.invariant (rw c.in-Ok.is at c.in-Some.ensures.line) c.in_ok-hear-in-Ok.ensures

pub loop-line-preserved : goal.loop-line-preserved
loop-line-preserved c =
    heard_long c.args.bytes.now c.loop-line.lines c.next_line.new.self c.loop-line.reader c.refuse.new.self
    c.in-Err.long c.loop-line.invariant (rw c.in-Err.is at c.in-Some.ensures.line) c.refuse.ensures
