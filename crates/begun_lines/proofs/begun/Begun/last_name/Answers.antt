use Rattle.std.proofs.Common.{◌≡◌, length}
use Rattle.begun_lines.proofs.BegunWords.{last_never, last_word, never_name, least_name, name-spaceless}
use Rattle.begun_lines.proofs.begun.Begun.last_name.Goals as goal

pub returns-in-None : goal.returns-in-None
returns-in-None c =
    last_never (λ w. w ≡ c.args.wanted.now) c.args.self.text.now c.first_word.result.now c.first_word.ensures.0 c.args.self.room c.first_word.ensures.1
    (never_name c.args.wanted.now c.first_word.result.now c.in-None.ensures)

pub returns-in-Some : goal.returns-in-Some
returns-in-Some c =
    last_word (λ w. w ≡ c.args.wanted.now) (name-spaceless c.args.wanted.now c.requires) c.args.self.text.now
    c.first_word.result.now c.first_word.ensures.0 c.args.self.room (length c.in-Some.missing.now)
    c.first_word.ensures.1
    (least_name c.args.wanted.now c.first_word.result.now c.in-Some.missing.now c.in-Some.ensures) c.ends.result c.ends.ensures
