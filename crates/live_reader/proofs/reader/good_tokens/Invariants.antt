use Rattle.std.proofs.Common.{◌≡◌, ◌+◌, ◌≤◌, length}
use Rattle.json.specs.Lex.{tokens}
use Rattle.live_reader.specs.JsonTexts.{good_tokens}
use Rattle.live_reader.proofs.reader.good_tokens.Given as goal

-- the tokens that were counted and those that are left are all
abbrev pub invariant-loop-token : goal.invariant-loop-token
invariant-loop-token l = record {
  counted : l.good + good_tokens l.reader ≡ good_tokens (tokens l.fn.text);
  few : l.good + length l.reader ≤ length (tokens l.fn.text);
}

abbrev pub decreases-loop-token : goal.decreases-loop-token
decreases-loop-token l = length l.reader
