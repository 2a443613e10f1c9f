use Rattle.answer_lines.specs.Words.{words_left}
use Rattle.answer_lines.proofs.EntryWords.{no_member, no_bound}
use Rattle.answer_lines.proofs.entries.member_of.Goals as goal

pub returns-in_err-side : goal.returns-in_err-side
returns-in_err-side c = rw c.from_residual-in_err-side.ensures (no_member (words_left c.args.words) c.in_default.ensures c.in_err-side.ensures)

pub returns-in_err-bound : goal.returns-in_err-bound
returns-in_err-bound c = rw c.from_residual-in_err-bound.ensures
    (no_bound (words_left c.args.words) (words_left c.in_ok-side.numbers) c.in_ok-side.side c.in_ok-side.ensures
    c.in_err-bound.ensures)
