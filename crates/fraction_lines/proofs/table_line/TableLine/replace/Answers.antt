-- A column that isn't 0 gets another fraction that isn't.
use Rattle.std.proofs.Common.{◌≡◌, ◌<◌, ℕ, suc, ◌∙◌, ap, sym, subst, List, ◌∷◌, map, length, arith}
use Rattle.std.specs.Prelude.{slice_set}
use Rattle.std.proofs.lemmas.List.{with_items_is, length-map}
use Rattle.whole_numbers.specs.Fractions.{Fraction}
use Rattle.design_problem.specs.Basis.{entry}
use Rattle.fraction_lines.specs.TableLines.{Rises, filled}
use Rattle.fraction_lines.specs.Entries.{AreRising, replaced}
use Rattle.fraction_lines.specs.Marks.{AllMarked}
use Rattle.fraction_lines.proofs.Columns.{replaced_rises, replaced_here, replaced_other}
use Rattle.fraction_lines.proofs.FilledLines.{line_entry, line_written, width_is}
use Rattle.fraction_lines.proofs.MarkLaws.{replaced_marked}
use Rattle.fraction_lines.proofs.table_line.TableLine.replace.Goals.{After-replace_fraction}
use Rattle.fraction_lines.proofs.table_line.TableLine.replace.Goals as goal

pub replace_fraction-requires : goal.replace_fraction-requires
replace_fraction-requires c = subst AreRising (sym c.deref_mut.ensures.value) (c.self.inside.width, c.self.invariant.rises)

-- the list with the other fraction, and its length
new_is : (c : After-replace_fraction) → c.replace_fraction.new.entries ≡ map (replaced c.args.column c.args.value) c.self.inside.entries.items
new_is c = c.replace_fraction.ensures ∙ ap (map (replaced c.args.column c.args.value)) c.deref_mut.ensures.value

counted : (c : After-replace_fraction) → length c.replace_fraction.new.entries ≡ c.self.inside.entries.len
counted c =
    let s = c.self.inside in
    omega (arith, ap length (new_is c) ∙ length-map s.entries.items (replaced c.args.column c.args.value), s.entries.ok.0)

pub invariant_of-self : goal.invariant_of-self
invariant_of-self c =
    let s = c.self.inside in
    let at = (goal.at.invariant_of-self c).After-replace_fraction in
    let kept = with_items_is s.entries c.replace_fraction.new.entries (counted at) ∙ new_is at in
    record {
      rises = subst (λ (l : List (ℕ × Fraction)). Rises 0 s.width l) (sym kept)
          (replaced_rises 0 s.width c.args.column c.args.value s.entries.items c.requires.not_zero
          c.self.invariant.rises);
      room = c.self.invariant.room;
      marked = subst (AllMarked s.marks) (sym kept) (replaced_marked s.marks c.args.column c.args.value s.entries.items c.self.invariant.marked);
    }

pub returns : goal.returns
returns c =
    let s = c.self.inside in
    let at = (goal.at.returns c).After-replace_fraction in
    let kept = with_items_is s.entries c.replace_fraction.new.entries (counted at) ∙ new_is at in
    let column_in : c.args.column < s.width = omega (arith, c.requires.within, width_is s.constant s.width s.entries.items c.args.self.now c.self.view_is) in
    ap (λ (l : List (ℕ × Fraction)). s.constant ∷ filled s.width l) kept
    ∙ line_written s.constant s.width s.entries.items (map (replaced c.args.column c.args.value) s.entries.items) c.args.column c.args.value column_in
    (replaced_here c.args.column c.args.value s.entries.items
    (λ none. c.requires.before (ap (λ (l : List Fraction). entry l (suc c.args.column)) (sym c.self.view_is)
    ∙ line_entry s.constant s.width s.entries.items c.args.column column_in ∙ none)))
    (λ m m_in other. replaced_other c.args.column m c.args.value s.entries.items (λ same. other (sym same)))
    ∙ ap (λ (l : List Fraction). slice_set l (suc c.args.column) c.args.value) c.self.view_is
