use Rattle.std.proofs.Common.{◌≡◌, drop}
use Rattle.std.specs.Prelude.{find}
use Rattle.cost_base.specs.Lists.{same_bytes}
use Rattle.command_words.specs.Commands.{command_named, word_of}
use Rattle.command_words.proofs.table.command_named.Given as goal

-- the word names one of the commands that are left, where it names one
abbrev pub invariant-loop-name : goal.invariant-loop-name
invariant-loop-name l =
    find (λ n. same_bytes (word_of n) l.word) (drop l.name-index l.name-items) ≡ command_named l.word
