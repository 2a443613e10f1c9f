use Rattle.begun_lines.specs.BegunLines.{IsNumberInRange}
use Rattle.begun_lines.proofs.BegunWords.{no_step, step_behind, number-spaceless}
use Rattle.begun_lines.proofs.begun.Begun.number.Goals as goal

pub returns-in_err-missing : goal.returns-in_err-missing
returns-in_err-missing c =
    rw c.from_residual.ensures (no_step (IsNumberInRange c.args.numbers) c.args.self c.first_word.result.now
    c.first_word.ensures.0 c.first_word.ensures.1 c.in_err-missing.ensures)

pub returns : goal.returns
returns c =
    step_behind (IsNumberInRange c.args.numbers) (number-spaceless c.args.numbers) c.args.self c.first_word.result.now
    c.first_word.ensures.0 c.in_ok-missing.missing c.in_ok-missing.ensures c.first_word.ensures.1 c.behind.result
    c.behind.ensures
