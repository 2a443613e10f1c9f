use Rattle.begun_lines.specs.BegunLines.{IsNumberInRange}
use Rattle.begun_lines.proofs.BegunWords.{last_never, last_word, number-spaceless}
use Rattle.begun_lines.proofs.begun.Begun.last_number.Goals as goal

pub returns-in-None : goal.returns-in-None
returns-in-None c =
    last_never (IsNumberInRange c.args.numbers) c.args.self.text.now c.first_word.result.now c.first_word.ensures.0
    c.args.self.room c.first_word.ensures.1 c.in-None.ensures

pub returns-in-Some : goal.returns-in-Some
returns-in-Some c =
    last_word (IsNumberInRange c.args.numbers) (number-spaceless c.args.numbers) c.args.self.text.now c.first_word.result.now
    c.first_word.ensures.0 c.args.self.room c.in-Some.missing c.first_word.ensures.1
    c.in-Some.ensures c.ends.result c.ends.ensures
