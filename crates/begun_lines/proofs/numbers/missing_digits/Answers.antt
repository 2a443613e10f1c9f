use Rattle.std.proofs.Common.{◌≡◌, [], length, eqb, sym, subst, ap, ◌∙◌, arith}
use Rattle.std.proofs.lemmas.Grind.{common_steps}
use Rattle.cost_base.specs.Decimal.{decimal}
use Rattle.begun_lines.specs.BegunLines.{IsMissing, IsNumberInRange}
use Rattle.answer_lines.proofs.ListParts.{not-both}
use Rattle.begun_lines.proofs.BegunNumbers.{missing_whole, missing_zero, missing_none, missing_more}
use Rattle.begun_lines.proofs.numbers.missing_digits.Goals as goal

pub returns-then-is_empty : goal.returns-then-is_empty
returns-then-is_empty c =
    let empty : c.args.word.now ≡ [] = grind (arith, common_steps) in
    subst (λ w. IsMissing (IsNumberInRange c.args.numbers) w c.all_digits.result) (sym empty)
    (missing_whole c.args.numbers c.all_digits.result c.requires.coprime c.all_digits.ensures)

pub returns-in_err-begun : goal.returns-in_err-begun
returns-in_err-begun c =
    rw c.from_residual.ensures
    (missing_none c.args.numbers c.args.word.now
    (λ e. not-both c.is_empty.result (c.is_empty.ensures ∙ ap (λ l. eqb (length l) 0) e) c.if-is_empty.false) c.in_err-begun.ensures)

pub returns-then-begun-eq0 : goal.returns-then-begun-eq0
returns-then-begun-eq0 c =
    missing_zero c.args.numbers c.args.word.now c.missing_behind_zero.result (c.in_ok-begun.ensures.0
    ∙ ap decimal c.if-begun-eq0.true) c.missing_behind_zero.ensures

pub returns : goal.returns
returns c = missing_more c.args.numbers c.args.word.now c.in_ok-begun.begun c.missing_behind.result
    c.in_ok-begun.ensures.0 (omega arith) c.missing_behind.ensures
