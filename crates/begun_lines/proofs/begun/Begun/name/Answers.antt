use Rattle.std.proofs.Common.{◌≡◌, length}
use Rattle.begun_lines.proofs.BegunWords.{no_step, step_behind, never_name, least_name, name-spaceless}
use Rattle.begun_lines.proofs.begun.Begun.name.Goals as goal

pub returns-in_err-missing : goal.returns-in_err-missing
returns-in_err-missing c =
    rw c.from_residual.ensures
    (no_step (λ w. w ≡ c.args.wanted.now) c.args.self c.first_word.result.now c.first_word.ensures.0
    c.first_word.ensures.1 (never_name c.args.wanted.now c.first_word.result.now c.in_err-missing.ensures))

pub returns : goal.returns
returns c =
    step_behind (λ w. w ≡ c.args.wanted.now) (name-spaceless c.args.wanted.now c.requires) c.args.self
    c.first_word.result.now c.first_word.ensures.0 (length c.in_ok-missing.missing.now)
    (least_name c.args.wanted.now c.first_word.result.now c.in_ok-missing.missing.now c.in_ok-missing.ensures)
    c.first_word.ensures.1 c.behind.result c.behind.ensures
