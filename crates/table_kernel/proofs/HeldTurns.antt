-- The turns that are put one after the other into the room for them.
use Rattle.std.specs.declared.alloc.Global.{Global}
use Rattle.std.proofs.Common.{Vec, ◌≡◌, ℕ, ◌+◌, ◌^◌, ◌<◌, ◌≤◌, refl, sym, ◌∙◌, ap, subst, List, length, arith}
use Rattle.std.specs.Prelude.{ℤ, pos, ◌<ℤ◌, ◌≤ℤ◌, nat_abs, slice_index_or}
use Rattle.std.specs.Vec.{with_item}
use Rattle.std.proofs.lemmas.Int.{ints}
use Rattle.std.proofs.lemmas.List.{get_or_default, length-set}
use mathlib.Core.Path.{ap₂}
use Rattle.whole_numbers.specs.Lists.{number_at}
use Rattle.integer_pivots.specs.declared.line.Line.{Line}
use Rattle.integer_pivots.specs.declared.turned_line.Turn.{Turn}
use Rattle.integer_pivots.specs.Lines.{IsLine, no_line}
use Rattle.integer_pivots.specs.Turns.{turn_by}
use Rattle.integer_pivots.proofs.Sizes.{read, read_number}
use Rattle.integer_pivots.proofs.WrittenPlaces.{written_more}
use Rattle.integer_pivots.proofs.LineReads.{number_small}
use Rattle.table_kernel.specs.declared.kernel.Kernel.{Kernel}
use Rattle.table_kernel.specs.Kernels.{IsKernel, width_of}
use Rattle.table_kernel.specs.Lines.{KeepsNumbers}
use Rattle.table_kernel.specs.Turns.{AreTurns, held_turn, line_of, no_turn, turn_of_line}

-- the turns before a bound are held, and the turns alone have changed
pub record AreTurnsBefore (old new : Kernel) (column bound : ℕ) : Type 0 where
  pub same : new ≡ record old { turns = new.turns }
  pub count : length new.turns.items ≡ length old.turns.items
  pub each : (v : ℕ) → v < bound → held_turn new v ≡ turn_of_line old column v

pub none_put : (k : Kernel) (column : ℕ) → AreTurnsBefore k k column 0
none_put k column = record { same = refl; count = refl; each = λ v before. absurd (omega (arith, before)) }

-- one more is put
pub one_put : (old mid : Kernel) (column v : ℕ) (turn : Turn) → AreTurnsBefore old mid column v → v < length old.turns.items →
    turn ≡ turn_of_line old column v → AreTurnsBefore old (record mid { turns = with_item mid.turns v turn }) column (v + 1)
one_put old mid column v turn b v_in is =
    let turns = with_item mid.turns v turn in
    record {
      same = ap (λ (k : Kernel). record k { turns = turns }) b.same;
      count = length-set mid.turns.items v turn ∙ b.count;
      each = written_more (λ (u : ℕ) (t : Turn). t ≡ turn_of_line old column u) no_turn mid.turns.items v turn (omega (arith, v_in, b.count)) b.each is;
    }

-- and then all are
pub all_put : (old new : Kernel) (column : ℕ) → IsKernel old → AreTurnsBefore old new column (length old.lows.items) → AreTurns new column
all_put old new column kernel b =
    subst (λ (k : Kernel). AreTurns k column) (sym b.same)
    (record { count = b.count ∙ kernel.shaped.turns ∙ sym kernel.shaped.lows; each = b.each })

pub turns_alone : (old new : Kernel) (column bound : ℕ) → AreTurnsBefore old new column bound → KeepsNumbers old new
turns_alone old new column bound b =
    subst (KeepsNumbers old) (sym b.same)
    (record {
      table = refl;
      common = refl;
      lows = refl;
      leads = refl;
      constants = refl;
      uses = refl;
      turns = b.count;
      left = omega arith;
      entering = refl;
    })

-- the lines are as before
pub lows_same : (old mid : Kernel) (column bound : ℕ) → AreTurnsBefore old mid column bound → mid.lows ≡ old.lows
lows_same old mid column bound b = ap (λ (k : Kernel). k.lows) b.same

-- the numbers of a line and of the entering one, as they are read at the column
pub record AreRead (k : Kernel) (column v : ℕ) (numbers entering : List ℤ) : Type 0 where
  pub inside : column < length numbers
  pub own : read (number_at numbers column) ≡ number_at (line_of k v).numbers column
  pub pivot : read (number_at entering column) ≡ number_at k.entering.numbers column
  pub small : nat_abs (read (number_at numbers column)) ≤ 2 ^ 30
  pub range : (pos 0 <ℤ read (number_at entering column)) × (read (number_at entering column) ≤ℤ pos (2 ^ 30))

pub are_read : (k mid : Kernel) (column v : ℕ) (line : Line) (numbers entering : List ℤ) → IsKernel k → column < width_of k → IsLine k.entering →
    pos 0 <ℤ number_at k.entering.numbers column → mid.lows ≡ k.lows → v < length k.lows.items →
    line ≡ slice_index_or mid.lows.items v line → numbers ≡ line.numbers → entering ≡ k.entering.numbers → AreRead k column v numbers entering
are_read k mid column v line numbers entering kernel inside e positive lows v_in line_is numbers_are entering_are = record {
  inside = omega (arith, inside, ap length here, kernel.shaped.each v no_line v_in);
  own = own_is;
  pivot = pivot_is;
  small = subst (λ (z : ℤ). nat_abs z ≤ 2 ^ 30) (sym own_is) own_small;
  range = subst (λ (z : ℤ). (pos 0 <ℤ z) × (z ≤ℤ pos (2 ^ 30))) (sym pivot_is) (positive, omega (arith, ints, pivot_small));
}
  where
    here : numbers ≡ (line_of k v).numbers
    here =
        numbers_are
        ∙ ap (λ (l : Line). l.numbers) line_is
        ∙ ap (λ (ls : Vec Line Global). (slice_index_or ls.items v line).numbers) lows
        ∙ ap (λ (l : Line). l.numbers) (get_or_default k.lows.items v line no_line v_in)

    own_small : nat_abs (number_at (line_of k v).numbers column) ≤ 2 ^ 30
    own_small = number_small (line_of k v) (kernel.bounded.lines v no_line v_in) column

    pivot_small : nat_abs (number_at k.entering.numbers column) ≤ 2 ^ 30
    pivot_small = number_small k.entering e column

    own_is : read (number_at numbers column) ≡ number_at (line_of k v).numbers column
    own_is = ap (λ (zs : List ℤ). read (number_at zs column)) here ∙ read_number (number_at (line_of k v).numbers column) (omega (arith, own_small))

    pivot_is : read (number_at entering column) ≡ number_at k.entering.numbers column
    pivot_is = ap (λ (zs : List ℤ). read (number_at zs column)) entering_are ∙ read_number (number_at k.entering.numbers column) (omega (arith, pivot_small))

-- the turn that is made of them
pub turn_made : (k : Kernel) (column v : ℕ) (numbers entering : List ℤ) (turn : Turn) → AreRead k column v numbers entering →
    turn ≡ turn_by (read (number_at numbers column)) (read (number_at entering column)) → turn ≡ turn_of_line k column v
turn_made k column v numbers entering turn r is = is ∙ ap₂ turn_by r.own r.pivot
