use Rattle.std.proofs.Common.{rules, sym, ap}
use Rattle.text_lines.specs.Reads.{prefix_pair}
use Rattle.text_lines.proofs.Quads.{prefix-long}
use Rattle.text_lines.proofs.number_reader.prefix.Goals as goal

pub returns-in_default : goal.returns-in_default
returns-in_default c =
    ap prefix_pair (sym (prefix-long c.args.text.now c.in_ok-address.address.now c.in_default.field-0.0.now
    c.in_ok-address.length.now c.in_default.field-0.1.now
    c.in_ok-address.ensures.pieces c.in_default.ensures.pieces))

pub returns-in_err-length : goal.returns-in_err-length
returns-in_err-length c = search rules
