-- Behind the columns that the line has there is room for one more.
use Rattle.std.proofs.Common.{◌≡◌, ◌<◌, ◌≤◌, ℕ, suc, ◌∙◌, ap, sym, List, ◌∷◌, length, arith}
use Rattle.std.specs.Prelude.{slice_set}
use Rattle.whole_numbers.specs.Fractions.{Fraction}
use Rattle.design_problem.specs.Basis.{entry}
use Rattle.fraction_lines.specs.TableLines.{Rises, filled, nothing}
use Rattle.fraction_lines.proofs.Columns.{rises_until, rises_widen, rises_length, put_rises, put_here, put_other}
use Rattle.fraction_lines.proofs.FilledLines.{line_entry, line_written, width_is}
use Rattle.fraction_lines.proofs.MarkLaws.{put_marked}
use Rattle.fraction_lines.proofs.table_line.TableLine.push.Goals as goal

-- a line that has 0 from a column on
rises_before : (c : Fraction) (w column : ℕ) (es : List (ℕ × Fraction)) (now : List Fraction) → Rises 0 w es →
    c ∷ filled w es ≡ now → ((later : ℕ) → column ≤ later → suc later < length now → entry now (suc later) ≡ nothing) →
    Rises 0 column es
rises_before c w column es now rises view none =
    let counted = width_is c w es now view in
    rises_until 0 w column es rises
    (λ k from k_in. sym (line_entry c w es k k_in) ∙ ap (λ (l : List Fraction). entry l (suc k)) view ∙ none k from (omega arith))

pub put_entry-requires : goal.put_entry-requires
put_entry-requires c =
    let s = c.self.inside in
    let rises = rises_before s.constant s.width c.args.column s.entries.items c.args.self.now c.self.invariant.rises c.self.view_is c.requires.last in
    let short = rises_length 0 c.args.column s.entries.items rises (omega arith) in
    record {
      room = omega (
        arith,
        short,
        s.entries.ok.0,
        c.self.invariant.room,
        c.requires.within,
        width_is s.constant s.width s.entries.items c.args.self.now c.self.view_is,
      );
    }

pub invariant_of-self : goal.invariant_of-self
invariant_of-self c =
    let s = c.self.inside in
    let rises = rises_before s.constant s.width c.args.column s.entries.items c.args.self.now c.self.invariant.rises c.self.view_is c.requires.last in
    let column_in : suc c.args.column ≤ s.width =
    omega (arith, c.requires.within, width_is s.constant s.width s.entries.items c.args.self.now c.self.view_is) in
    record {
      rises = rises_widen 0 (suc c.args.column) s.width c.put_entry.new.entries.items
          (put_rises c.args.column c.args.column c.args.value s.entries.items c.put_entry.new.entries.items rises
          (omega arith) c.put_entry.ensures.put) column_in;
      room = omega (arith, c.put_entry.ensures.capacity, c.self.invariant.room);
      marked = put_marked s.marks c.marked-self-inside.result c.args.column c.args.value s.entries.items
          c.put_entry.new.entries.items c.marked-self-inside.ensures.kept c.marked-self-inside.ensures.here
          c.self.invariant.marked c.put_entry.ensures.put;
    }

pub returns : goal.returns
returns c =
    let s = c.self.inside in
    let rises = rises_before s.constant s.width c.args.column s.entries.items c.args.self.now c.self.invariant.rises c.self.view_is c.requires.last in
    let column_in : c.args.column < s.width = omega (arith, c.requires.within, width_is s.constant s.width s.entries.items c.args.self.now c.self.view_is) in
    line_written s.constant s.width s.entries.items c.put_entry.new.entries.items c.args.column c.args.value column_in
    (put_here c.args.column c.args.column c.args.value s.entries.items c.put_entry.new.entries.items c.requires.number
    rises (omega arith) c.put_entry.ensures.put)
    (λ m m_in other. put_other c.args.column m c.args.value s.entries.items c.put_entry.new.entries.items (λ same. other (sym same)) c.put_entry.ensures.put)
    ∙ ap (λ (l : List Fraction). slice_set l (suc c.args.column) c.args.value) c.self.view_is
