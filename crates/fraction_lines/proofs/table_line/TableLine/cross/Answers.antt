-- The lists are crossed, and so are the lines.
use Rattle.std.proofs.Common.{◌≡◌, ◌<◌, ℕ, ap, sym, subst, List, ◌∷◌, length, arith}
use Rattle.std.proofs.lemmas.Result.{err_from_is_err_and}
use Rattle.whole_numbers.specs.Fractions.{Fraction}
use Rattle.design_problem.specs.Basis.{entry}
use Rattle.fraction_lines.specs.TableLines.{AreTableNumbers, Rises, crossed_by, filled}
use Rattle.fraction_lines.specs.Marks.{AllMarked}
use Rattle.fraction_lines.specs.Entries.{IsMade, crossed_at}
use Rattle.fraction_lines.proofs.FilledLines.{line_crossed_as, line_numbers, entry_numbers, term_step, crossed_wide, width_is, same_width, on_ok, always_ok}
use Rattle.fraction_lines.proofs.table_line.TableLine.cross.Goals.{After-quotients}
use Rattle.fraction_lines.proofs.table_line.TableLine.cross.Goals as goal

-- the new line is as wide as the old one
into_width : (c : After-quotients) → c.into.inside.width ≡ c.self.inside.width
into_width c =
    let s = c.self.inside in
    let i = c.into.inside in
    same_width i.constant s.constant i.width s.width i.entries.items s.entries.items c.args.into.now c.args.self.now
    c.into.view_is c.self.view_is c.requires.into

-- and so are the quotients
quotients_width : (c : After-quotients) → c.quotients.inside.width ≡ c.self.inside.width
quotients_width c =
    let s = c.self.inside in
    let q = c.quotients.inside in
    same_width q.constant s.constant q.width s.width q.entries.items s.entries.items c.args.quotients.now
    c.args.self.now c.quotients.view_is c.self.view_is c.requires.quotients.counted

pub returns-in_err-into-inside-clause-wide : goal.returns-in_err-into-inside-clause-wide
returns-in_err-into-inside-clause-wide c =
    let p = err_from_is_err_and c.from_residual.result c.from_residual.ensures.1 in
    let s = c.self.inside in
    let q = c.quotients.inside in
    let place_in : 0 < length c.args.self.now = omega (arith, width_is s.constant s.width s.entries.items c.args.self.now c.self.view_is) in
    rw (p.1, p.2) (
      term_step c.args.factor s.constant q.constant c.args.self.now c.args.quotients.now 0 c.in_err-into-inside.field-0.0 place_in
          (ap (λ (l : List Fraction). entry l 0) (sym c.self.view_is))
          (ap (λ (l : List Fraction). entry l 0) (sym c.quotients.view_is)) c.in_err-into-inside.ensures.step,
      c.in_err-into-inside.ensures.passes,
    )

pub cross_entries-made-requires-clause-quotients : goal.cross_entries-made-requires-clause-quotients
cross_entries-made-requires-clause-quotients c =
    let q = c.quotients.inside in
    let width = quotients_width (goal.at.cross_entries-made-requires-clause-quotients c).After-quotients in
    rw c.as_slice-2.ensures.value
    (record {
      rises = subst (λ (w : ℕ). Rises 0 w q.entries.items) width c.quotients.invariant.rises;
      numbers = entry_numbers c.args.top q.constant q.width q.entries.items c.quotients.invariant.rises
          (subst (AreTableNumbers c.args.top) (sym c.quotients.view_is) c.requires.quotients.numbers);
    })

pub cross_entries-made-requires-clause-olds : goal.cross_entries-made-requires-clause-olds
cross_entries-made-requires-clause-olds c =
    let s = c.self.inside in
    rw c.as_slice.ensures.value
    (record {
      rises = c.self.invariant.rises;
      numbers = entry_numbers c.args.top s.constant s.width s.entries.items c.self.invariant.rises
          (subst (AreTableNumbers c.args.top) (sym c.self.view_is) c.requires.numbers);
    })

pub cross_entries-made-requires-clause-room : goal.cross_entries-made-requires-clause-room
cross_entries-made-requires-clause-room c =
    let width = into_width (goal.at.cross_entries-made-requires-clause-room c).After-quotients in
    omega (arith, c.clear.ensures.capacity, c.into.invariant.room)

pub invariant_of-into-2 : goal.invariant_of-into-2
invariant_of-into-2 c =
    let width = into_width (goal.at.invariant_of-into-2 c).After-quotients in
    record {
      rises = subst (λ (w : ℕ). Rises 0 w c.cross_entries-made.new.made.items) (sym width) c.cross_entries-made.ensures.entries.entries.rises;
      room = omega (arith, c.cross_entries-made.ensures.entries.room);
      marked = subst (AllMarked c.marks_of-into-inside.result) c.as_slice-3.ensures.value c.marks_of-into-inside.ensures;
    }

pub returns-clause-crossed : goal.returns-clause-crossed
returns-clause-crossed c =
    let s = c.self.inside in
    let q = c.quotients.inside in
    let i = c.into.inside in
    let same = into_width (goal.at.returns-clause-crossed c).After-quotients in
    let width = quotients_width (goal.at.returns-clause-crossed c).After-quotients in
    on_ok c.cross_entries-made.result
    (IsMade s.width (crossed_at c.args.factor) c.as_slice.result.now c.as_slice-2.result.now c.cross_entries-made.new.made.items)
    (c.in_ok-into-inside.field-0 ∷ filled i.width c.cross_entries-made.new.made.items ≡ crossed_by c.args.factor c.args.self.now c.args.quotients.now)
    (line_crossed_as c.in_ok-into-inside.field-0 c.args.factor s.constant q.constant s.width i.width q.width
    s.entries.items q.entries.items c.cross_entries-made.new.made.items c.as_slice.result.now
    c.as_slice-2.result.now c.args.self.now c.args.quotients.now
    c.in_ok-into-inside.ensures.exact same width c.as_slice.ensures.value c.as_slice-2.ensures.value c.self.view_is c.quotients.view_is)
    c.cross_entries-made.ensures.made

pub returns-clause-numbers : goal.returns-clause-numbers
returns-clause-numbers c =
    let i = c.into.inside in
    always_ok c.cross_entries-made.result (AreTableNumbers c.args.top (c.in_ok-into-inside.field-0 ∷ filled i.width c.cross_entries-made.new.made.items))
    (line_numbers c.args.top c.in_ok-into-inside.field-0 i.width c.cross_entries-made.new.made.items
    c.in_ok-into-inside.ensures.number c.cross_entries-made.ensures.entries.entries.numbers)

pub returns-clause-wide : goal.returns-clause-wide
returns-clause-wide c =
    let s = c.self.inside in
    let q = c.quotients.inside in
    let width = quotients_width (goal.at.returns-clause-wide c).After-quotients in
    crossed_wide c.cross_entries-made.result c.args.top c.args.factor s.constant q.constant s.width q.width
    s.entries.items q.entries.items c.as_slice.result.now c.as_slice-2.result.now c.args.self.now
    c.args.quotients.now
    width c.as_slice.ensures.value c.as_slice-2.ensures.value c.self.view_is c.quotients.view_is
    c.cross_entries-made.ensures.wide
