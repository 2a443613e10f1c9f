-- Each name is UTF-8.
use Rattle.std.proofs.Common.{sym, subst}
use Rattle.std.specs.Str.{IsUtf8}
use Rattle.design_commands.proofs.trial_files.words_of.Goals as goal

pub word_of-requires : goal.word_of-requires
word_of-requires c = subst IsUtf8 (sym c.name-item.is) (c.requires c.loop-name.name-index _ c.loop-name-test.true)
