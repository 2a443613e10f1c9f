use Rattle.std.proofs.Common.{[]}
use Rattle.std.proofs.Common.{sym}
use Rattle.text_lines.specs.Lines.{words}
use Rattle.config_reader.proofs.LongerLists.{absent}
use Rattle.config_reader.proofs.statements.word.Goals as goal

pub returns-in-None : goal.returns-in-None
returns-in-None c = sym (absent (words c.args.text.now) c.args.place [] (sym c.in-None.ensures))
