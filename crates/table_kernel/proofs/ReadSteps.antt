-- A kernel whose lines are read from the table in fractions, line by line.
use borrow.Author.Count.{below_more}
use Rattle.std.specs.declared.alloc.Global.{Global}
use Rattle.std.proofs.Common.{Vec, ◌≡◌, ℕ, suc, ◌+◌, ◌<◌, sym, ◌∙◌, ap, subst, List, [], length, arith}
use Rattle.std.specs.Prelude.{◌≢◌, slice_index_or, slice_set, All}
use Rattle.std.proofs.lemmas.List.{get_or-set_other, get_or-set_same, get_or_default, length-set}
use Rattle.std.proofs.lemmas.List.Elements.{All-set}
use Rattle.whole_numbers.specs.Fractions.{Fraction}
use Rattle.fraction_table.specs.declared.table.Table.{Table}
use Rattle.fraction_table.proofs.Pivots.{members_long}
use Rattle.integer_pivots.specs.declared.line.Line.{Line}
use Rattle.integer_pivots.specs.Lines.{IsLine, no_line}
use Rattle.table_kernel.specs.declared.kernel.Kernel.{Kernel}
use Rattle.table_kernel.specs.Kernels.{IsShaped, width_of}
use Rattle.table_kernel.specs.ReadBack.{IsReadFrom, low_line}
use Rattle.table_kernel.specs.Turns.{KeepsAllButLows, line_of}

-- the table in fractions has a line for each variable's x - low, with the constant before the columns
pub low_line_in : (k : Kernel) (v : ℕ) → IsShaped k → v < width_of k → v < length k.table.lines.items
low_line_in k v s v_in = omega (arith, s.lines, s.constants, members_long k.table.costs (length k.table.rows.items), v_in)

pub low_line_long : (k : Kernel) (v : ℕ) → IsShaped k → v < width_of k → length (low_line k.table v) ≡ suc (width_of k)
low_line_long k v s v_in = s.wide v [] (low_line_in k v s v_in)

-- the lines before a bound are read
pub record AreReadBefore (old new : Kernel) (bound : ℕ) : Type 0 where
  pub keeps : KeepsAllButLows old new
  pub count : length new.lows.items ≡ width_of old
  pub each : All (λ (line : Line). length line.numbers ≡ width_of old) new.lows.items
  pub lines : (v : ℕ) → v < bound → IsLine (line_of new v)
  pub read : (v : ℕ) → v < bound → IsReadFrom (low_line old.table v) (line_of new v)

-- the line of fractions that is read next
pub row_at : (old mid : Kernel) (v : ℕ) (row : List Fraction) → IsShaped old → KeepsAllButLows old mid → v < width_of old →
    row ≡ slice_index_or mid.table.lines.items v row → row ≡ low_line old.table v
row_at old mid v row s keeps v_in is =
    is ∙ ap (λ (t : Table). slice_index_or t.lines.items v row) keeps.table
    ∙ get_or_default old.table.lines.items v row [] (low_line_in old v s v_in)

-- one line more, which is put in its place
pub one_more_read : (old mid : Kernel) (lows : Vec Line Global) (v : ℕ) (row : List Fraction) (new : Line) → IsShaped old → v < width_of old →
    AreReadBefore old mid v → row ≡ slice_index_or mid.table.lines.items v row → length new.numbers ≡ width_of old → IsLine new → IsReadFrom row new →
    lows.items ≡ slice_set mid.lows.items v new → AreReadBefore old (record mid { lows = lows }) (v + 1)
one_more_read old mid lows v row new s v_in b row_is long small read put =
    let there : v < length mid.lows.items = omega (arith, b.count, v_in) in
    let own : slice_index_or lows.items v no_line ≡ new = ap (λ (ls : List Line). slice_index_or ls v no_line) put ∙
    get_or-set_same mid.lows.items v new no_line there in
    record {
      keeps = record {
        table = b.keeps.table;
        common = b.keeps.common;
        leads = b.keeps.leads;
        constants = b.keeps.constants;
        uses = b.keeps.uses;
        turns = b.keeps.turns;
        left = b.keeps.left;
        entering = b.keeps.entering;
      };
      count = ap length put ∙ length-set mid.lows.items v new ∙ b.count;
      each = subst (All (λ (line : Line). length line.numbers ≡ width_of old)) (sym put)
          (All-set (λ (line : Line). length line.numbers ≡ width_of old) mid.lows.items v new long b.each);
      lines = below_more (λ u. IsLine (slice_index_or lows.items u no_line)) v
          (λ u before. subst IsLine (sym (others u (omega (arith, before)))) (b.lines u before)) (subst IsLine (sym own) small);
      read = below_more (λ u. IsReadFrom (low_line old.table u) (slice_index_or lows.items u no_line)) v
          (λ u before. subst (IsReadFrom (low_line old.table u)) (sym (others u (omega (arith, before)))) (b.read u before))
          (subst (IsReadFrom (low_line old.table v)) (sym own)
          (subst (λ (r : List Fraction). IsReadFrom r new) (row_at old mid v row s b.keeps v_in row_is) read));
    }
  where
    others : (u : ℕ) → u ≢ v → slice_index_or lows.items u no_line ≡ line_of mid u
    others u other = ap (λ (ls : List Line). slice_index_or ls u no_line) put ∙ get_or-set_other mid.lows.items v u new no_line other
