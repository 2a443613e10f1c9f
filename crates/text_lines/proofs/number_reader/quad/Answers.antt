use Rattle.std.proofs.Common.{sym}
use Rattle.text_lines.proofs.Quads.{quad-long}
use Rattle.text_lines.proofs.number_reader.quad.Goals as goal

pub returns-in_default : goal.returns-in_default
returns-in_default c =
    sym (quad-long c.args.text.now c.in_ok-first.first.now c.in_ok-second.second.now c.in_ok-third.third.now c.in_default.field-0.0.now
    c.in_ok-first.rest.now c.in_ok-second.rest.now c.in_ok-third.fourth.now c.in_default.field-0.1.now
    c.in_ok-first.ensures.pieces c.in_ok-second.ensures.pieces c.in_ok-third.ensures.pieces c.in_default.ensures.pieces)
