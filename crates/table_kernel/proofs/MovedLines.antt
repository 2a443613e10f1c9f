-- Lines of which the constants moved: how far, and the numbers over the common denominator.
use Rattle.std.proofs.Common.{◌≡◌, ℕ, zero, suc, ◌+◌, ◌*◌, ◌^◌, ◌<◌, ◌≤◌, refl, sym, ◌∙◌, ap, subst, List, [], ◌∷◌, map, length, arith, inl, inr, get_or-set_same, get_or-set_other}
use Rattle.std.specs.Prelude.{ℤ, pos, ◌+ℤ◌, ◌-ℤ◌, ◌*ℤ◌, Option, None, Some, nat_abs, slice_index_or, slice_set, All}
use Rattle.std.proofs.Math.Nat.{le-max_left, le-max_right, mul-le-mul_left, mul-le-mul_right}
use Rattle.std.proofs.lemmas.Bool.{cases_eq}
use Rattle.std.proofs.lemmas.Int.{unsigned_abs-mul}
use Rattle.std.proofs.lemmas.List.{get_or-map, get_or_default, length-map, length-set, map-set}
use Rattle.whole_numbers.proofs.Ring.{var, num, ◌⊕◌, ◌⊖◌, ◌⊗◌, ring}
use Rattle.whole_numbers.specs.Lists.{number_at}
use Rattle.fraction_table.proofs.MovedTables.{raised_rows}
use Rattle.fraction_table.proofs.theory.MovedNumbers.{lowered, lowered_rows, raised}
use Rattle.integer_pivots.specs.declared.line.Line.{Line}
use Rattle.integer_pivots.specs.Lines.{IsLine, no_line, rows_of, step_of}
use Rattle.integer_pivots.specs.Numbers.{greatest_of}
use Rattle.integer_pivots.proofs.Sizes.{difference_small, sum_small}
use Rattle.table_kernel.specs.Moves.{LineMayMove, lines_after_high, lines_after_low, raised_kernel_line, with_constant}
use Rattle.table_kernel.specs.Numbers.{scaled_line, share_of}
use Rattle.table_kernel.proofs.Columns.{scaled_at}

-- a line of which the constant alone moved, at most by so many of its steps
pub record IsLineMoved (far : ℕ) (old new : Line) : Type 0 where
  pub same : new ≡ with_constant old new.constant
  pub size : nat_abs new.constant ≤ nat_abs old.constant + far * step_of old

-- lines of which each moved so
pub record AreLinesMoved (far : ℕ) (olds news : List Line) : Type 0 where
  pub count : length news ≡ length olds
  pub each : (v : ℕ) → v < length olds → IsLineMoved far (slice_index_or olds v no_line) (slice_index_or news v no_line)

-- no number passes the greatest
number_size : (zs : List ℤ) (c : ℕ) → nat_abs (number_at zs c) ≤ greatest_of zs
number_size [] c = omega arith
number_size (z ∷ zs) zero = le-max_left (nat_abs z) (greatest_of zs)
number_size (z ∷ zs) (suc c) = let rest = number_size zs c in let more = le-max_right (nat_abs z) (greatest_of zs) in omega (arith, rest, more)

number_step : (line : Line) (c : ℕ) → nat_abs (number_at line.numbers c) ≤ step_of line
number_step line c =
    let one = number_size line.numbers c in
    let more = le-max_left (greatest_of line.numbers) (nat_abs line.denominator) in
    omega (arith, one, more)

raised_line_moved : (column far : ℕ) (fall : ℤ) (line : Line) → nat_abs fall ≡ far → IsLineMoved far line (raised_kernel_line column fall line)
raised_line_moved column far fall line far_is =
    let times : nat_abs (fall *ℤ number_at line.numbers column) ≡ nat_abs fall * nat_abs (number_at line.numbers column) =
    unsigned_abs-mul fall (number_at line.numbers column) in
    let most : nat_abs fall * nat_abs (number_at line.numbers column) ≤ nat_abs fall * step_of line = mul-le-mul_left (nat_abs fall) (number_step line column)
    in
    let is : nat_abs fall * step_of line ≡ far * step_of line = ap (λ (m : ℕ). m * step_of line) far_is in
    record {
      same = refl;
      size = sum_small (nat_abs line.constant) (far * step_of line) line.constant (fall *ℤ number_at line.numbers column) (omega arith)
          (omega (arith, times, most, is));
    }

lowered_line_moved : (far : ℕ) (fall : ℤ) (line : Line) → nat_abs fall ≡ far →
    IsLineMoved far line (with_constant line (line.constant -ℤ (line.denominator *ℤ fall)))
lowered_line_moved far fall line far_is =
    let times : nat_abs (line.denominator *ℤ fall) ≡ nat_abs line.denominator * nat_abs fall = unsigned_abs-mul line.denominator fall in
    let step : nat_abs line.denominator ≤ step_of line = le-max_right (greatest_of line.numbers) (nat_abs line.denominator) in
    let most : nat_abs line.denominator * nat_abs fall ≤ step_of line * nat_abs fall = mul-le-mul_right (nat_abs fall) step in
    let is : step_of line * nat_abs fall ≡ far * step_of line = grind (arith, far_is) in
    record {
      same = refl;
      size = difference_small (nat_abs line.constant) (far * step_of line) line.constant (line.denominator *ℤ fall) (omega arith)
          (omega (arith, times, most, is));
    }

zero_line_moved : (far : ℕ) (line : Line) → IsLineMoved far line (with_constant line (pos 0))
zero_line_moved far line = record { same = refl; size = omega arith }

stays_moved : (far : ℕ) (line : Line) → IsLineMoved far line line
stays_moved far line = record { same = refl; size = omega arith }

-- the lines after one is put in the place of another
set_moved : (far v : ℕ) (olds news : List Line) (line : Line) → v < length olds → AreLinesMoved far olds news →
    IsLineMoved far (slice_index_or olds v no_line) line → AreLinesMoved far olds (slice_set news v line)
set_moved far v olds news line v_in are here = record {
  count = length-set news v line ∙ are.count;
  each = λ u u_in. (elim (cases_eq u v) [
    | inl same ↦
        subst (λ (k : ℕ). IsLineMoved far (slice_index_or olds k no_line) (slice_index_or (slice_set news v line) k no_line)) (sym same)
        (subst (IsLineMoved far (slice_index_or olds v no_line)) (sym (get_or-set_same news v line no_line (omega (arith, are.count, v_in)))) here)
    | inr other ↦ subst (IsLineMoved far (slice_index_or olds u no_line)) (sym (get_or-set_other news v u line no_line other)) (are.each u u_in)
  ]);
}

raised_moved : (column far : ℕ) (fall : ℤ) (lines : List Line) → nat_abs fall ≡ far → AreLinesMoved far lines (map (raised_kernel_line column fall) lines)
raised_moved column far fall lines far_is = record {
  count = length-map lines (raised_kernel_line column fall);
  each = λ v v_in.
      subst (IsLineMoved far (slice_index_or lines v no_line)) (sym (get_or-map (raised_kernel_line column fall) lines v no_line no_line v_in))
      (raised_line_moved column far fall (slice_index_or lines v no_line) far_is);
}

none_moved : (far : ℕ) (lines : List Line) → AreLinesMoved far lines lines
none_moved far lines = record { count = refl; each = λ v v_in. stays_moved far (slice_index_or lines v no_line) }

pub low_lines_moved : (far v : ℕ) (lines : List Line) (column : Option ℕ) (fall : ℤ) → v < length lines → nat_abs fall ≡ far →
    AreLinesMoved far lines (lines_after_low lines column v fall)
low_lines_moved far v lines None fall v_in far_is =
    set_moved far v lines lines _ v_in (none_moved far lines) (lowered_line_moved far fall (slice_index_or lines v no_line) far_is)
low_lines_moved far v lines (Some j) fall v_in far_is =
    set_moved far v lines (map (raised_kernel_line j fall) lines) _ v_in (raised_moved j far fall lines far_is)
    (zero_line_moved far (slice_index_or lines v no_line))

pub high_lines_moved : (far : ℕ) (lines : List Line) (column : Option ℕ) (fall : ℤ) → nat_abs fall ≡ far →
    AreLinesMoved far lines (lines_after_high lines column fall)
high_lines_moved far lines None fall far_is = none_moved far lines
high_lines_moved far lines (Some j) fall far_is = raised_moved j far fall lines far_is

-- what a move of constants keeps of each line
pub all_moved : (far : ℕ) (olds news : List Line) (P Q : Line → Type 0) → AreLinesMoved far olds news →
    ((old new : Line) → IsLineMoved far old new → P old → Q new) → All P olds → All Q news
all_moved far olds news P Q are step all v d v_in =
    let there : v < length olds = omega (arith, v_in, are.count) in
    subst Q (get_or_default news v no_line d v_in)
    (step (slice_index_or olds v no_line) (slice_index_or news v no_line) (are.each v there) (all v no_line there))

pub line_moved : (far : ℕ) (old new : Line) → IsLineMoved far old new → IsLine old → IsLine new
line_moved far old new m l = subst IsLine (sym m.same)
    (record { positive = l.positive; denominator = l.denominator; reach_positive = l.reach_positive; reach = l.reach; numbers = l.numbers })

pub rows_kept : (far : ℕ) (olds news : List Line) → AreLinesMoved far olds news → rows_of news ≡ rows_of olds
rows_kept far [] [] are = refl
rows_kept far [] (new ∷ news) are = absurd (omega (arith, are.count))
rows_kept far (old ∷ olds) [] are = absurd (omega (arith, are.count))
rows_kept far (old ∷ olds) (new ∷ news) are =
    ap (λ (ts : List ℤ). ts ∷ rows_of news) (ap (λ (line : Line). line.numbers) (are.each 0 (omega arith)).same)
    ∙ ap (λ (rows : List (List ℤ)). old.numbers ∷ rows)
    (rows_kept far olds news (record { count = omega (arith, are.count); each = λ v v_in. are.each (suc v) (omega (arith, v_in)) }))

-- what a line may move is less by what it moved
pub room_after : (D far more : ℕ) (old new : Line) → IsLineMoved far old new → LineMayMove D (far + more) old → LineMayMove D more new
room_after D far more old new m may =
    subst (LineMayMove D more) (sym m.same)
    (let all : (far + more) * step_of old ≡ far * step_of old + more * step_of old = grind arith in
    let most : nat_abs new.constant + more * step_of old ≤ nat_abs old.constant + (far + more) * step_of old = omega (arith, m.size, all) in
    let product : (nat_abs new.constant + more * step_of old) * share_of D old ≤ (nat_abs old.constant + (far + more) * step_of old) * share_of D old =
    mul-le-mul_right (share_of D old) most in
    omega (arith, product, may))

pub limit_after : (D far : ℕ) (old new : Line) → IsLineMoved far old new → LineMayMove D far old → nat_abs new.constant * share_of D new ≤ 2 ^ 44
limit_after D far old new m may =
    let share : share_of D new ≡ share_of D old = ap (share_of D) m.same in
    let product : nat_abs new.constant * share_of D old ≤ (nat_abs old.constant + far * step_of old) * share_of D old = mul-le-mul_right (share_of D old) m.size
    in
    subst (λ (s : ℕ). nat_abs new.constant * s ≤ 2 ^ 44) (sym share) (omega (arith, product, may))

-- less room is wanted
pub room_less : (D far more : ℕ) (line : Line) → LineMayMove D (far + more) line → LineMayMove D far line
room_less D far more line may =
    let all : (far + more) * step_of line ≡ far * step_of line + more * step_of line = grind arith in
    let most : nat_abs line.constant + far * step_of line ≤ nat_abs line.constant + (far + more) * step_of line = omega (arith, all) in
    let product : (nat_abs line.constant + far * step_of line) * share_of D line ≤ (nat_abs line.constant + (far + more) * step_of line) * share_of D line =
    mul-le-mul_right (share_of D line) most in
    omega (arith, product, may)

-- a line whose constant rises, over the common denominator
raised_scaled : (D column : ℕ) (fall : ℤ) (line : Line) → scaled_line D (raised_kernel_line column fall line) ≡ raised column fall (scaled_line D line)
raised_scaled D column fall line =
    let s = pos (share_of D line) in
    let ms = map (λ z. z *ℤ s) line.numbers in
    ap (λ (z : ℤ). z ∷ ms)
    (ring (line.constant ∷ fall ∷ number_at line.numbers column ∷ s ∷ [])
    ((var 0 ⊕ var 1 ⊗ var 2) ⊗ var 3) (var 0 ⊗ var 3 ⊕ (var 2 ⊗ var 3) ⊗ var 1) refl
    ∙ ap (λ (z : ℤ). (line.constant *ℤ s) +ℤ (z *ℤ fall)) (sym (scaled_at s line.numbers column)))

raised_all : (D column : ℕ) (fall : ℤ) (lines : List Line) → map (scaled_line D) (map (raised_kernel_line column fall) lines) ≡
    map (raised column fall) (map (scaled_line D) lines)
raised_all D column fall [] = refl
raised_all D column fall (line ∷ lines) =
    ap (λ (ts : List ℤ). ts ∷ map (scaled_line D) (map (raised_kernel_line column fall) lines)) (raised_scaled D column fall line)
    ∙ ap (λ (rows : List (List ℤ)). raised column fall (scaled_line D line) ∷ rows) (raised_all D column fall lines)

-- one whose own form falls
lowered_scaled : (D : ℕ) (fall : ℤ) (line : Line) → (pos (share_of D line) *ℤ line.denominator) ≡ pos D →
    scaled_line D (with_constant line (line.constant -ℤ (line.denominator *ℤ fall))) ≡ lowered (pos D *ℤ fall) (scaled_line D line)
lowered_scaled D fall line whole =
    let s = pos (share_of D line) in
    ap (λ (z : ℤ). z ∷ map (λ z. z *ℤ s) line.numbers)
    (ring (line.constant ∷ line.denominator ∷ fall ∷ s ∷ []) ((var 0 ⊖ var 1 ⊗ var 2) ⊗ var 3) (var 0 ⊗ var 3 ⊖ (var 3 ⊗ var 1) ⊗ var 2) refl
    ∙ ap (λ (z : ℤ). (line.constant *ℤ s) -ℤ (z *ℤ fall)) whole)

-- one of the basis: its constant is 0, and its number in its own column the denominator
own_scaled : (D column : ℕ) (fall : ℤ) (line : Line) → (line.constant *ℤ pos (share_of D line)) ≡ pos 0 →
    (number_at line.numbers column *ℤ pos (share_of D line)) ≡ pos D →
    scaled_line D (with_constant line (pos 0)) ≡ lowered (pos D *ℤ fall) (raised column fall (scaled_line D line))
own_scaled D column fall line constant number =
    let s = pos (share_of D line) in
    let ms = map (λ z. z *ℤ s) line.numbers in
    ap (λ (z : ℤ). z ∷ ms)
    (ring (s ∷ pos D ∷ fall ∷ []) (num (pos 0) ⊗ var 0) ((num (pos 0) ⊕ var 1 ⊗ var 2) ⊖ var 1 ⊗ var 2) refl
    ∙ sym (ap (λ (z : ℤ). (z +ℤ (number_at ms column *ℤ fall)) -ℤ (pos D *ℤ fall)) constant
    ∙ ap (λ (z : ℤ). (pos 0 +ℤ (z *ℤ fall)) -ℤ (pos D *ℤ fall)) (scaled_at s line.numbers column ∙ number)))

row_there : (D v : ℕ) (lines : List Line) → v < length lines → slice_index_or (map (scaled_line D) lines) v [] ≡ scaled_line D (slice_index_or lines v no_line)
row_there D v lines v_in = get_or-map (scaled_line D) lines v no_line [] v_in

-- what the lines of x - low are over the common denominator after a lower bound moved
pub low_lows : (D v : ℕ) (lines : List Line) (column : Option ℕ) (fall : ℤ) → v < length lines →
    (pos (share_of D (slice_index_or lines v no_line)) *ℤ (slice_index_or lines v no_line).denominator) ≡ pos D →
    ((j : ℕ) → column ≡ Some j → (((slice_index_or lines v no_line).constant *ℤ pos (share_of D (slice_index_or lines v no_line))) ≡ pos 0)
    × ((number_at (slice_index_or lines v no_line).numbers j *ℤ pos (share_of D (slice_index_or lines v no_line))) ≡ pos D)) →
    map (scaled_line D) (lines_after_low lines column v fall) ≡ lowered_rows v (pos D *ℤ fall) (raised_rows column fall (map (scaled_line D) lines))
low_lows D v lines None fall v_in whole own =
    let line = slice_index_or lines v no_line in
    let rows = map (scaled_line D) lines in
    map-set (scaled_line D) lines v (with_constant line (line.constant -ℤ (line.denominator *ℤ fall)))
    ∙ ap (slice_set rows v) (lowered_scaled D fall line whole ∙ ap (lowered (pos D *ℤ fall)) (sym (row_there D v lines v_in)))
low_lows D v lines (Some j) fall v_in whole own =
    let line = slice_index_or lines v no_line in
    let rows = map (scaled_line D) lines in
    let many : length rows ≡ length lines = length-map lines (scaled_line D) in
    let is = own j refl in
    map-set (scaled_line D) (map (raised_kernel_line j fall) lines) v (with_constant line (pos 0))
    ∙ ap (λ (rs : List (List ℤ)). slice_set rs v (scaled_line D (with_constant line (pos 0)))) (raised_all D j fall lines)
    ∙ ap (slice_set (map (raised j fall) rows) v)
    (own_scaled D j fall line is.0 is.1
    ∙ ap (λ (ts : List ℤ). lowered (pos D *ℤ fall) (raised j fall ts)) (sym (row_there D v lines v_in))
    ∙ ap (lowered (pos D *ℤ fall)) (sym (get_or-map (raised j fall) rows v [] [] (omega (arith, many, v_in)))))

-- and after an upper one moved
pub high_lows : (D : ℕ) (lines : List Line) (column : Option ℕ) (fall : ℤ) →
    map (scaled_line D) (lines_after_high lines column fall) ≡ raised_rows column fall (map (scaled_line D) lines)
high_lows D lines None fall = refl
high_lows D lines (Some j) fall = raised_all D j fall lines
