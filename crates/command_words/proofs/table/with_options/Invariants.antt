use Rattle.std.proofs.Common.{◌≡◌, map, drop}
use Rattle.clap.specs.Simple.{app_of}
use Rattle.command_words.specs.Commands.{option, with_rules}
use Rattle.command_words.specs.Forms.{now_texts}
use Rattle.command_words.proofs.table.with_options.Given as goal

-- the command so far with the options that are left is the command with all of them
abbrev pub invariant-loop-name : goal.invariant-loop-name
invariant-loop-name l =
    with_rules (app_of l.more) (map (option l.must) (now_texts (drop l.name-index l.names)))
    ≡ with_rules (app_of l.fn.command) (map (option l.must) (now_texts l.names))
