-- What the turn of a line is given, as it is read.
use Rattle.std.proofs.Common.{◌≡◌, ℕ, ◌*◌, ◌^◌, ◌<◌, ◌≤◌, sym, ◌∙◌, ap, subst, length, arith, FitsSigned, w64, to_z, of_z}
use Rattle.std.specs.Prelude.{ℤ, pos, nat_abs, ◌<ℤ◌, ◌≤ℤ◌, slice_index_or}
use Rattle.std.proofs.lemmas.Int.{ints, to_z-of_z}
use Rattle.std.proofs.lemmas.List.{get_or_default}
use Rattle.whole_numbers.specs.Lists.{number_at}
use Rattle.integer_pivots.specs.declared.line.Line.{Line}
use Rattle.integer_pivots.specs.declared.turned_line.Turn.{Turn}
use Rattle.integer_pivots.specs.declared.lowest.Lowest.{Lowest}
use Rattle.integer_pivots.specs.Turns.{IsAtPivot, IsLowestAfter, MayLineTurn, denominator_after, turn_at}
use Rattle.integer_pivots.specs.Lines.{no_line}
use Rattle.integer_pivots.proofs.Sizes.{read, read_number, size_most}
use Rattle.integer_pivots.proofs.TurnLaws.{turn_positive, turn_small}
use Rattle.integer_pivots.proofs.LineReads.{number_small}
use Rattle.table_kernel.specs.declared.kernel.Kernel.{Kernel}
use Rattle.table_kernel.specs.Turns.{IsLineReady, IsLowestOf, IsReadyToTurn, line_of, no_turn, turn_of_line}

-- each line of a kernel is ready where all numbers are
pub line_ready : (k : Kernel) (column v : ℕ) → IsReadyToTurn k column → v < length k.lows.items → IsLineReady k column v
line_ready k column v r v_in = record {
  inside = r.inside;
  among = v_in;
  line = r.lines v no_line v_in;
  count = r.each v no_line v_in;
  entering = r.entering;
  long = r.long;
  pivot = r.pivot;
  limit = r.limit v no_line v_in;
  held = omega (arith, v_in, r.turns.count);
  turn = r.turns.each v v_in;
}

-- how large the multiplier and the factor of a line's turn are
pub turn_sizes : (k : Kernel) (column v : ℕ) → IsLineReady k column v →
    ((pos 0 <ℤ (turn_of_line k column v).multiplier) × ((turn_of_line k column v).multiplier ≤ℤ pos (2 ^ 30)))
    × (nat_abs (turn_of_line k column v).factor ≤ 2 ^ 30)
turn_sizes k column v r =
    let number = number_at (line_of k v).numbers column in
    let pivot = number_at k.entering.numbers column in
    let sizes = turn_small number pivot in
    let some = turn_positive number pivot r.pivot in
    let pivot_small = number_small k.entering r.entering column in
    let small = number_small (line_of k v) r.line column in
    ((some, omega (arith, ints, sizes.0, pivot_small)), omega (arith, sizes.1, small))

-- the turn that is held, as it is read
pub turn_read : (k : Kernel) (column v : ℕ) (turn : Turn) → IsLineReady k column v → turn ≡ slice_index_or k.turns.items v turn → turn ≡ turn_of_line k column v
turn_read k column v turn r is = is ∙ get_or_default k.turns.items v turn no_turn r.held ∙ r.turn

-- a line of a kernel, as it is read
pub line_read : (k : Kernel) (v : ℕ) (line : Line) → v < length k.lows.items → line ≡ slice_index_or k.lows.items v line → line ≡ line_of k v
line_read k v line v_in is = is ∙ get_or_default k.lows.items v line no_line v_in

-- a number by its bits
pub bits_one : (z : ℤ) → nat_abs z < 2 ^ 63 → of_z w64 z ≡ 1 → z ≡ pos 1
bits_one z small e = sym (read_number z small) ∙ ap (to_z w64) e

pub bits_none : (z : ℤ) → nat_abs z < 2 ^ 63 → of_z w64 z ≡ 0 → z ≡ pos 0
bits_none z small e = sym (read_number z small) ∙ ap (to_z w64) e

-- numbers that 64 bits hold are the same where their bits are
pub same_bits : (y z : ℤ) → FitsSigned w64 y → FitsSigned w64 z → of_z w64 y ≡ of_z w64 z → y ≡ z
same_bits y z y_fits z_fits same = sym (to_z-of_z w64 y y_fits) ∙ ap (to_z w64) same ∙ to_z-of_z w64 z z_fits

-- a factor that is 0, as it is tested
pub no_factor : (k : Kernel) (column v : ℕ) (turn : Turn) → turn ≡ turn_of_line k column v → nat_abs turn.factor ≤ 2 ^ 30 →
    of_z w64 turn.factor ≡ 0 → (turn_of_line k column v).factor ≡ pos 0
no_factor k column v turn is small none = sym (ap (λ (t : Turn). t.factor) is) ∙ bits_none turn.factor (omega (arith, small)) none

-- and one that isn't
pub some_factor : (k : Kernel) (column v : ℕ) (turn : Turn) → turn ≡ turn_of_line k column v → (of_z w64 turn.factor ≡ 0 → ⊥) →
    (turn_of_line k column v).factor ≡ pos 0 → ⊥
some_factor k column v turn is some none = some (ap (of_z w64) (ap (λ (t : Turn). t.factor) is ∙ none))

-- the denominator after the pivot, as it is made
pub after_read : (k : Kernel) (column v : ℕ) (line : Line) (turn : Turn) → IsLineReady k column v → line ≡ line_of k v → turn ≡ turn_of_line k column v →
    (pos 0 <ℤ turn.multiplier) × (turn.multiplier ≤ℤ pos (2 ^ 30)) →
    nat_abs (read line.denominator) * nat_abs (read turn.multiplier) ≡ denominator_after k.entering column (line_of k v)
after_read k column v line turn r line_is turn_is small =
    let d_small : nat_abs (line_of k v).denominator ≤ 2 ^ 30 = size_most (line_of k v).denominator (2 ^ 30) r.line.positive r.line.denominator in
    let m_small : nat_abs turn.multiplier ≤ 2 ^ 30 = size_most turn.multiplier (2 ^ 30) small.0 small.1 in
    ap (λ (l : Line). nat_abs (read l.denominator) * nat_abs (read turn.multiplier)) line_is
    ∙ ap (λ (z : ℤ). nat_abs z * nat_abs (read turn.multiplier)) (read_number (line_of k v).denominator (omega (arith, d_small)))
    ∙ ap (λ (z : ℤ). nat_abs (line_of k v).denominator * nat_abs z) (read_number turn.multiplier (omega (arith, m_small)))
    ∙ ap (λ (t : Turn). nat_abs (line_of k v).denominator * nat_abs t.multiplier) turn_is

-- a number from 1 to 2^30 is so as it is read
pub range_read : (z : ℤ) → (pos 0 <ℤ z) × (z ≤ℤ pos (2 ^ 30)) → (pos 0 <ℤ read z) × (read z ≤ℤ pos (2 ^ 30))
range_read z within =
    subst (λ (y : ℤ). (pos 0 <ℤ y) × (y ≤ℤ pos (2 ^ 30))) (sym (read_number z (omega (arith, size_most z (2 ^ 30) within.0 within.1)))) within

-- and so is the denominator of a line that is ready
pub denominator_range : (k : Kernel) (column v : ℕ) (line : Line) → IsLineReady k column v → line ≡ line_of k v →
    (pos 0 <ℤ read line.denominator) × (read line.denominator ≤ℤ pos (2 ^ 30))
denominator_range k column v line r is =
    subst (λ (l : Line). (pos 0 <ℤ read l.denominator) × (read l.denominator ≤ℤ pos (2 ^ 30))) (sym is)
    (range_read (line_of k v).denominator (r.line.positive, r.line.denominator))

-- a line that is ready is at its pivot
pub at_pivot : (k : Kernel) (column v : ℕ) (line : Line) → IsLineReady k column v → line ≡ line_of k v → IsAtPivot column k.entering line
at_pivot k column v line r is =
    subst (IsAtPivot column k.entering) (sym is) record {
      turning = r.line;
      across = r.entering;
      long = r.count ∙ sym r.long;
      inside = omega (arith, r.inside, r.count);
      pivot = r.pivot;
    }

-- its turn is that of the line, as it is read
pub turn_is_at : (k : Kernel) (column v : ℕ) (line : Line) (turn : Turn) → line ≡ line_of k v → turn ≡ turn_of_line k column v →
    turn ≡ turn_at k.entering column line
turn_is_at k column v line turn is turn_is = turn_is ∙ ap (turn_at k.entering column) (sym is)

-- what holds of both as they are read
pub may_read : (k : Kernel) (column v : ℕ) (line : Line) (turn : Turn) → line ≡ line_of k v → turn ≡ turn_of_line k column v →
    MayLineTurn (turn_of_line k column v) (line_of k v) k.entering → MayLineTurn turn line k.entering
may_read k column v line turn is turn_is may =
    subst (λ (t : Turn). MayLineTurn t line k.entering) (sym turn_is)
    (subst (λ (l : Line). MayLineTurn (turn_of_line k column v) l k.entering) (sym is) may)

pub lowest_is : (k : Kernel) (column v : ℕ) (line : Line) (turn : Turn) (lowest : Lowest) → line ≡ line_of k v → turn ≡ turn_of_line k column v →
    IsLowestAfter turn column k.entering line lowest → IsLowestOf k column v lowest
lowest_is k column v line turn lowest is turn_is told =
    subst (λ (t : Turn). IsLowestAfter t column k.entering (line_of k v) lowest) turn_is
    (subst (λ (l : Line). IsLowestAfter turn column k.entering l lowest) is told)

pub lowest_there : (k : Kernel) (column v : ℕ) (line : Line) (turn : Turn) (lowest : Lowest) → line ≡ line_of k v → turn ≡ turn_of_line k column v →
    IsLowestOf k column v lowest → IsLowestAfter turn column k.entering line lowest
lowest_there k column v line turn lowest is turn_is told =
    subst (λ (t : Turn). IsLowestAfter t column k.entering line lowest) (sym turn_is)
    (subst (λ (l : Line). IsLowestAfter (turn_of_line k column v) column k.entering l lowest) (sym is) told)
