use Rattle.std.proofs.Common.{◌+◌, sym, ◌∙◌, arith}
use Rattle.text_lines.proofs.Printed.{decimal-same}
use Rattle.answer_lines.proofs.ratios.negative_of.Goals as goal

pub returns-then-size-eq0 : goal.returns-then-size-eq0
returns-then-size-eq0 c = λ n small e. omega (arith, decimal-same c.in_ok-size.size (n + 1) (sym c.in_ok-size.ensures.0 ∙ e))
