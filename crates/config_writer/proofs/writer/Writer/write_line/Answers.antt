use Rattle.std.proofs.Common.{refl, sym}
use Rattle.std.proofs.lemmas.Result.{on_ok_weaker}
use Rattle.config_writer.proofs.WrittenLines.{head_excluded}
use Rattle.config_writer.proofs.writer.Writer.write_line.Goals as goal

pub returns-in_ok-cost-in-Head : goal.returns-in_ok-cost-in-Head
returns-in_ok-cost-in-Head c =
    on_ok_weaker c.put_head.result
    (head_excluded c.args.self.now c.open.new.self _ c.args.text.now c.args.ended c.in_ok-cost-in-Head.cost
    (sym c.in-Head.ensures) c.in_ok-cost-in-Head.ensures refl refl refl)
    c.put_head.ensures
