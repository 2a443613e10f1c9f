use Rattle.std.proofs.Common.{◌∷◌, sym, ap, ◌∙◌, arith}
use Rattle.cost_base.specs.Decimal.{decimal}
use Rattle.text_lines.specs.Numbers.{split}
use Rattle.text_lines.proofs.Pieces.{split-some}
use Rattle.whole_numbers.proofs.Divisors.{one-gcd}
use Rattle.answer_lines.proofs.ListParts.{tail-is}
use Rattle.begun_lines.proofs.entries.behind_part.Goals as goal

pub returns-in_err-row : goal.returns-in_err-row
returns-in_err-row c =
    rw c.from_residual.ensures
    (λ row m rest among positive e.
    c.in_err-row.ensures row m (split 32 rest) (omega (arith, among.greatest)) (omega (arith, positive.least))
    (omega (arith, positive.greatest)) (c.new.ensures ∙ e))

pub returns-in_err-behind : goal.returns-in_err-behind
returns-in_err-behind c =
    rw c.from_residual-in_err-behind.ensures
    (λ row m rest among positive e.
    split-some 32 rest (sym (tail-is _ _ _ _ (tail-is _ _ _ _ (sym c.in_ok-row.ensures.3 ∙ c.new.ensures ∙ e))) ∙ c.in_err-behind.ensures))

pub returns : goal.returns
returns c = (
  c.in_ok-row.field-0-0-1,
  record { least = omega arith; greatest = omega (arith, c.in_ok-row.ensures.0); coprime = one-gcd c.in_ok-row.row },
  record { least = omega (arith, c.in_ok-row.ensures.1); greatest = omega (arith, c.in_ok-row.ensures.2); coprime = one-gcd c.in_ok-row.field-0-0-1 },
  sym c.new.ensures ∙ c.in_ok-row.ensures.3 ∙ ap (λ l. decimal c.in_ok-row.row ∷ decimal c.in_ok-row.field-0-0-1 ∷ l) c.in_ok-behind.ensures,
)
