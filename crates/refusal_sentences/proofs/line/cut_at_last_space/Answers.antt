use Rattle.std.proofs.Common.{◌+◌}
use Rattle.std.proofs.lemmas.List.{take_rest}
use Rattle.refusal_sentences.proofs.Cuts.{last_same, nowhere_space}
use Rattle.refusal_sentences.proofs.line.cut_at_last_space.Goals as goal

pub returns-in_err-end : goal.returns-in_err-end
returns-in_err-end c rest word none is =
    absurd (nowhere_space c.args.text.now rest word is c.in_err-end.ensures)

pub returns : goal.returns
returns c rest word none is =
    rw (take_rest c.args.text.now (c.in_ok-end.end + 1))
    (last_same c.args.text.now rest word c.in_ok-end.end none is c.in_ok-end.ensures.0.high c.in_ok-end.ensures.0.after c.in_ok-end.ensures.1)
