-- Parts of the command table by what names them in the code. No public clause cites it.
use Rattle.std.specs.Prelude.{◌≡◌, List, map, Option, Some, None, Result, MatchResult}
use Rattle.std.specs.Borrow.{Bor}
use Rattle.clap.specs.Matches.{found_of}
use Rattle.clap.specs.Walk.{rows_of}
use Rattle.clap.specs.declared.parser.matches.ArgMatches.{ArgMatches}
use Rattle.command_words.specs.declared.job.WordsStop.{WordsStop}
use Rattle.command_words.specs.declared.job.WordsStop.TheVariants.{Refused}
use Rattle.command_words.specs.declared.table.Operands.{Operands as Words}
use Rattle.command_words.specs.declared.table.Operands.TheVariants as words
use Rattle.command_words.specs.Jobs.{Text}
use Rattle.command_words.specs.Commands.{Operands, none, config, configs, topic, Found}

-- the words that a command takes beside its options, by their name in the code
abbrev pub operands_of : Words → Operands
operands_of words.Nothing = none
operands_of words.Config = config
operands_of words.Configs = configs
operands_of words.Topic = topic

-- the texts behind references
abbrev pub now_texts : List (Bor Text) → List Text
now_texts = map (λ t. t.now)

-- the options and operands, each with its values, that the parser of the command line found in the words
abbrev pub rows_found : ArgMatches → Found
rows_found matches = rows_of (found_of matches)

-- What a call may answer that reads a part of the words: the part, a refusal where there is none, or want of memory.
abbrev pub Answers : {A T : Type 0} → Option A → (T → A) → Result T WordsStop → Type 0
Answers part see result = MatchResult result (λ x. part ≡ Some (see x)) (λ stop. stop ≡ Refused → part ≡ None)
