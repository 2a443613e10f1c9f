-- The list is divided, and so is the line.
use Rattle.std.proofs.Common.{◌≡◌, ◌<◌, Err, ℕ, suc, [], ap, sym, subst, List, ◌∷◌, length, arith}
use Rattle.std.proofs.lemmas.Result.{err_from_is_err_and}
use Rattle.cost_base.specs.declared.StepName.TheVariants.{Div}
use Rattle.whole_numbers.specs.Fractions.{Fraction}
use Rattle.design_problem.specs.Basis.{entry}
use Rattle.fraction_lines.specs.TableLines.{AreTableNumbers, IsTableNumber, Rises, divided_without, filled}
use Rattle.fraction_lines.specs.Marks.{AllMarked}
use Rattle.fraction_lines.specs.Entries.{IsMade, divided_at}
use Rattle.fraction_lines.proofs.ZeroFractions.{divided_number}
use Rattle.fraction_lines.proofs.NamedSteps.{named_passes}
use Rattle.fraction_lines.proofs.FilledLines.{line_divided_as, line_numbers, entry_numbers, quotient_step, divided_wide, width_is, same_width, on_ok, always_ok}
use Rattle.fraction_lines.proofs.table_line.TableLine.divide.Goals.{After-self}
use Rattle.fraction_lines.proofs.table_line.TableLine.divide.Goals as goal

-- the new line is as wide as the old one
into_width : (c : After-self) → c.into.inside.width ≡ c.self.inside.width
into_width c =
    let s = c.self.inside in
    let i = c.into.inside in
    same_width i.constant s.constant i.width s.width i.entries.items s.entries.items c.args.into.now c.args.self.now
    c.into.view_is c.self.view_is c.requires.into

pub returns-in_err-into-inside-clause-wide : goal.returns-in_err-into-inside-clause-wide
returns-in_err-into-inside-clause-wide c =
    let p = err_from_is_err_and c.from_residual.result c.from_residual.ensures.1 in
    let s = c.self.inside in
    let wide = c.in_err-into-inside.field-0.0 in
    let place_in : 0 < length c.args.self.now = omega (arith, width_is s.constant s.width s.entries.items c.args.self.now c.self.view_is) in
    rw (p.1, p.2) (
      quotient_step c.args.divisor s.constant c.args.self.now 0 wide place_in
          (ap (λ (l : List Fraction). entry l 0) (sym c.self.view_is)) c.in_err-into-inside.ensures.wide.named,
      named_passes {X = Fraction} (Err wide) c.args.top Div s.constant c.args.divisor c.in_err-into-inside.ensures.wide,
    )

pub divide_entries-made-requires-clause-olds : goal.divide_entries-made-requires-clause-olds
divide_entries-made-requires-clause-olds c =
    let s = c.self.inside in
    rw c.as_slice.ensures.value
    (record {
      rises = c.self.invariant.rises;
      numbers = entry_numbers c.args.top s.constant s.width s.entries.items c.self.invariant.rises
          (subst (AreTableNumbers c.args.top) (sym c.self.view_is) c.requires.numbers);
    })

pub divide_entries-made-requires-clause-room : goal.divide_entries-made-requires-clause-room
divide_entries-made-requires-clause-room c =
    let width = into_width (goal.at.divide_entries-made-requires-clause-room c).After-self in
    omega (arith, c.clear.ensures.capacity, c.into.invariant.room)

pub invariant_of-into-2 : goal.invariant_of-into-2
invariant_of-into-2 c =
    let width = into_width (goal.at.invariant_of-into-2 c).After-self in
    record {
      rises = subst (λ (w : ℕ). Rises 0 w c.divide_entries-made.new.made.items) (sym width) c.divide_entries-made.ensures.entries.entries.rises;
      room = omega (arith, c.divide_entries-made.ensures.entries.room);
      marked = subst (AllMarked c.marks_of-into-inside.result) c.as_slice-2.ensures.value c.marks_of-into-inside.ensures;
    }

pub returns-clause-divided : goal.returns-clause-divided
returns-clause-divided c =
    let s = c.self.inside in
    let i = c.into.inside in
    let same = into_width (goal.at.returns-clause-divided c).After-self in
    on_ok c.divide_entries-made.result
    (IsMade s.width (divided_at c.args.left_out c.args.divisor) c.as_slice.result.now [] c.divide_entries-made.new.made.items)
    (c.in_ok-into-inside.field-0 ∷ filled i.width c.divide_entries-made.new.made.items ≡ divided_without (suc c.args.left_out) c.args.divisor c.args.self.now 0)
    (line_divided_as c.args.left_out c.in_ok-into-inside.field-0 c.args.divisor s.constant s.width i.width
    s.entries.items c.divide_entries-made.new.made.items c.as_slice.result.now c.args.self.now
    c.in_ok-into-inside.ensures.exact same c.as_slice.ensures.value c.self.view_is)
    c.divide_entries-made.ensures.made

pub returns-clause-numbers : goal.returns-clause-numbers
returns-clause-numbers c =
    let s = c.self.inside in
    let i = c.into.inside in
    let first = subst (AreTableNumbers c.args.top) (sym c.self.view_is) c.requires.numbers in
    let value_is : IsTableNumber c.args.top c.in_ok-into-inside.field-0 =
    divided_number c.args.top s.constant c.args.divisor c.in_ok-into-inside.field-0 first.0.lowest.positive
    c.in_ok-into-inside.ensures.exact c.in_ok-into-inside.ensures.within in
    always_ok c.divide_entries-made.result (AreTableNumbers c.args.top (c.in_ok-into-inside.field-0 ∷ filled i.width c.divide_entries-made.new.made.items))
    (line_numbers c.args.top c.in_ok-into-inside.field-0 i.width c.divide_entries-made.new.made.items value_is
    c.divide_entries-made.ensures.entries.entries.numbers)

pub returns-clause-wide : goal.returns-clause-wide
returns-clause-wide c =
    let s = c.self.inside in
    divided_wide c.divide_entries-made.result c.args.top c.args.divisor s.constant s.width s.entries.items c.as_slice.result.now c.args.self.now
    c.as_slice.ensures.value c.self.view_is c.divide_entries-made.ensures.wide
