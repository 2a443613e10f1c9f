-- Where the stages of a reader stop.
use Rattle.std.specs.Prelude.{ℕ}
use Rattle.cost_base.specs.declared.refusal.Refusal.{Refusal}
use Rattle.answer_lines.specs.Grammar.{TextPlace}
use Rattle.answer_lines.specs.declared.text_left.TextLeft.{TextLeft}
use Rattle.evidence_reader.specs.Refusals.{IsReaderStop}
use Rattle.evidence_reader.specs.declared.fault.AnswerFault.{AnswerFault}

-- a stop of a reader that begins at a place, with the text that is left there
abbrev pub StopsReader : TextPlace → TextLeft → Refusal AnswerFault ℕ → Type 0
StopsReader from text stop = IsReaderStop from text.read text.left.now stop
