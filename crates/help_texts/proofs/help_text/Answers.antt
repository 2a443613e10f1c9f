use Rattle.std.proofs.Common.{rules}
use Rattle.help_texts.proofs.help_text.Goals as goal

pub returns-in-Some : goal.returns-in-Some
returns-in-Some c = search rules
