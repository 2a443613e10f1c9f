use Rattle.std.proofs.Common.{◌≡◌, take}
use Rattle.command_words.specs.Forms.{now_texts}
use Rattle.text_lines.specs.Arguments.{texts}
use Rattle.command_words.proofs.values.copies.Given as goal

-- the words so far are copied
abbrev pub invariant-loop-word : goal.invariant-loop-word
invariant-loop-word l = texts l.all.items ≡ now_texts (take l.word-index l.words)
