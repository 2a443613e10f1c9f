-- What `help` and `version` print.
use Rattle.std.specs.Prelude.{ℕ, List, [], ◌∷◌, Option, None, Some, codes}
use Rattle.text_lines.specs.Lines.{with_ends}
use Rattle.command_words.specs.declared.job.CommandName.{CommandName}
use Rattle.command_words.specs.declared.job.CommandName.TheVariants as name
use Rattle.help_texts.specs.declared.texts.all.TheConstants as all
use Rattle.help_texts.specs.declared.texts.design.TheConstants as design
use Rattle.help_texts.specs.declared.texts.check.TheConstants as check
use Rattle.help_texts.specs.declared.texts.audit.TheConstants as audit
use Rattle.help_texts.specs.declared.texts.rewrite.TheConstants as rewrite
use Rattle.help_texts.specs.declared.texts.trial.TheConstants as trial
use Rattle.help_texts.specs.declared.texts.conflict.TheConstants as conflict
use Rattle.help_texts.specs.declared.texts.spread.TheConstants as spread
use Rattle.help_texts.specs.declared.texts.total.TheConstants as total
use Rattle.help_texts.specs.declared.texts.change.TheConstants as change
use Rattle.help_texts.specs.declared.texts.steps.TheConstants as steps
use Rattle.help_texts.specs.declared.texts.compare.TheConstants as compare
use Rattle.help_texts.specs.declared.texts.lsas.TheConstants as lsas
use Rattle.help_texts.specs.declared.texts.route.TheConstants as route
use Rattle.help_texts.specs.declared.texts.help.TheConstants as help
use Rattle.help_texts.specs.declared.texts.version.TheConstants as version

-- the text on one command, which stands in a file of its own
abbrev pub text_on : CommandName → List ℕ
text_on name.Design = design.TEXT.now
text_on name.Check = check.TEXT.now
text_on name.Audit = audit.TEXT.now
text_on name.Rewrite = rewrite.TEXT.now
text_on name.Trial = trial.TEXT.now
text_on name.Conflict = conflict.TEXT.now
text_on name.Spread = spread.TEXT.now
text_on name.Total = total.TEXT.now
text_on name.Change = change.TEXT.now
text_on name.Steps = steps.TEXT.now
text_on name.Compare = compare.TEXT.now
text_on name.Lsas = lsas.TEXT.now
text_on name.Route = route.TEXT.now
text_on name.Help = help.TEXT.now
text_on name.Version = version.TEXT.now

-- the text on all commands, or on one of them
abbrev pub help_text : Option CommandName → List ℕ
help_text None = all.TEXT.now
help_text (Some n) = text_on n

-- what `version` prints: the version of the program, and the logic of the checker that proved it
abbrev pub version_text : List ℕ
version_text = with_ends (codes "ospfcost 1.0" ∷ codes "proved with rattle logic dac8208d650f15bf" ∷ [])
