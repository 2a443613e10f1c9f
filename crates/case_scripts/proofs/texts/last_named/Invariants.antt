use Rattle.std.proofs.Common.{◌≡◌, option_copied, take}
use Rattle.case_scripts.specs.ScriptTexts.{last_named}
use Rattle.case_scripts.proofs.texts.last_named.Given as goal

abbrev pub invariant-loop-text : goal.invariant-loop-text
invariant-loop-text l = option_copied l.found ≡ last_named l.name (take l.text-index l.made)
