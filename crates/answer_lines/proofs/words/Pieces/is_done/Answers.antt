use Rattle.text_lines.proofs.Pieces.{split-some}
use Rattle.answer_lines.proofs.words.Pieces.is_done.Goals as goal

pub returns-in-Some : goal.returns-in-Some
returns-in-Some c = (λ e. cc, λ e. absurd (split-some 32 c.in-Some.field-0.now (rw c.in-Some.is at e)))
