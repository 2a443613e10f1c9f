use Rattle.std.proofs.Common.{◌≢◌, ◌↔◌, IsTrue, [], refl, sym, ap, ◌∙◌}
use Rattle.std.specs.Prelude.{not}
use Rattle.std.proofs.lemmas.Bool.Decides.{Decides-not}
use Rattle.answer_lines.specs.Words.{words_left}
use Rattle.begun_lines.proofs.TruthLaws.{through, both-first, both-second}
use Rattle.begun_lines.proofs.BegunRows.{row-said}
use Rattle.begun_lines.proofs.rows.is_row.Goals as goal

pub returns-then-not-is_done : goal.returns-then-not-is_done
returns-then-not-is_done c =
    let some : IsTrue (not c.is_done.result) ↔ (words_left c.in-Some.numbers ≢ []) = Decides-not c.is_done.result c.is_done.ensures in
    through (both-second (not c.is_done.result) c.are_numbers.result c.are_numbers.result some c.are_numbers.ensures (ap not c.if-not-is_done.true) refl)
    (row-said c.args.line.now (words_left c.in-Some.numbers) (sym c.new.ensures ∙ c.in-Some.ensures))

pub returns-else-not-is_done : goal.returns-else-not-is_done
returns-else-not-is_done c =
    let some : IsTrue (not c.is_done.result) ↔ (words_left c.in-Some.numbers ≢ []) = Decides-not c.is_done.result c.is_done.ensures in
    through (both-first (not c.is_done.result) (not c.is_done.result) some (ap not c.if-not-is_done.false) refl)
    (row-said c.args.line.now (words_left c.in-Some.numbers) (sym c.new.ensures ∙ c.in-Some.ensures))
