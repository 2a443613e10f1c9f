use Rattle.std.proofs.Common.{◌≡◌, ◌∷◌, ◌∙◌, map, codes, sym, ap, subst, arith, ◌<◌, ◌^◌, All}
use Rattle.design_problem.specs.AnswerRanges.{IsIndex}
use Rattle.cost_base.specs.Decimal.{decimal}
use Rattle.answer_lines.specs.Words.{words_left}
use Rattle.answer_lines.proofs.ListParts.{rest-is, more-is}
use Rattle.answer_lines.proofs.LineWords.{row-words}
use Rattle.answer_lines.proofs.SpacedWords.{from-words}
use Rattle.answer_lines.proofs.rows.row_of.Goals as goal

pub returns-in_default-number : goal.returns-in_default-number
returns-in_default-number c =
    λ row bounds e.
    let at_request : words_left c.in-Some.numbers ≡ map decimal (row.request ∷ row.rival) =
    rest-is (words_left c.new.result) _ _ _ _ c.in-Some.ensures (c.new.ensures ∙ row-words c.args.line.now row e) in
    c.in_default-number.ensures row.request (map decimal row.rival) (omega (arith, bounds.0)) at_request

pub returns-in_default-2 : goal.returns-in_default-2
returns-in_default-2 c =
    λ row bounds e.
    let at_request : words_left c.in-Some.numbers ≡ map decimal (row.request ∷ row.rival) =
    rest-is (words_left c.new.result) _ _ _ _ c.in-Some.ensures (c.new.ensures ∙ row-words c.args.line.now row e) in
    let none = rw c.in_default-2.is at c.in_ok-edges.ensures in
    none row.rival bounds.1 (rest-is (words_left c.in-Some.numbers) _ _ _ _ c.in-Some-number.ensures.1 at_request)

pub returns : goal.returns
returns c =
    let found = rw c.in-Some-2.is at c.in_ok-edges.ensures in
    let edges_are : words_left c.in-Some-number.edges ≡ map decimal c.from_items.result = found.0 ∙ ap (map decimal) (sym c.from_items.ensures) in
    let small : c.in-Some-number.request < 2 ^ 32 = omega (arith, c.in-Some-number.ensures.0) in (
      (small, subst (λ ns. All IsIndex ns) (sym c.from_items.ensures) found.1),
      from-words c.args.line.now (codes "row") (map decimal (c.in-Some-number.request ∷ c.from_items.result))
          (sym c.new.ensures ∙ more-is (words_left c.new.result) (codes "row") (words_left c.in-Some.numbers)
          (map decimal (c.in-Some-number.request ∷ c.from_items.result)) c.in-Some.ensures
          (more-is (words_left c.in-Some.numbers) (decimal c.in-Some-number.request) (words_left c.in-Some-number.edges)
          (map decimal c.from_items.result) c.in-Some-number.ensures.1 edges_are)),
    )
