use Rattle.std.proofs.Common.{◌∙◌, sym}
use Rattle.config_writer.proofs.WrittenLines.{first_absent}
use Rattle.config_writer.proofs.rewriting.rewrite_lines.Goals as goal

pub returns-in-Some-clause-missing : goal.returns-in-Some-clause-missing
returns-in-Some-clause-missing c =
    sym (c.in-Some.ensures ∙ first_absent c.in_ok-writer.writer.heads c.args.bytes.now c.args.lines.now
    c.in_ok-writer.ensures.heads)

pub returns-in-None-clause-headed : goal.returns-in-None-clause-headed
returns-in-None-clause-headed c =
    sym (c.in-None.ensures ∙ first_absent c.in_ok-writer.writer.heads c.args.bytes.now c.args.lines.now
    c.in_ok-writer.ensures.heads)
