-- A kernel whose bounds move to those of another box, one after another.
use Rattle.std.proofs.Common.{◌≡◌, ℕ, suc, ◌+◌, ◌<◌, sym, ◌∙◌, ap, subst, List, length, arith}
use Rattle.std.specs.Prelude.{pos, ◌-ℤ◌, nat_abs, slice_index, All}
use Rattle.std.proofs.lemmas.Int.{ints}
use Rattle.design_problem.specs.declared.form.Form.{Form}
use Rattle.design_problem.specs.declared.boxes.CostBox.{CostBox}
use Rattle.design_problem.specs.Boxes.{IsBox}
use Rattle.fraction_table.specs.Tableaus.{FitsBox, between}
use Rattle.fraction_table.proofs.BetweenBoxes.{AreAlike, at_between}
use Rattle.table_kernel.specs.declared.kernel.Kernel.{Kernel}
use Rattle.table_kernel.specs.Kernels.{width_of}
use Rattle.table_kernel.specs.Moves.{KeepsOfBox, MayMove}
use Rattle.table_kernel.specs.Turns.{line_of}
use Rattle.table_kernel.proofs.MovedLines.{room_less}
use Rattle.table_kernel.proofs.Distances.{left_of, left_step}

-- less room is wanted
may_less : (k : Kernel) (far more : ℕ) → MayMove k (far + more) → MayMove k far
may_less k far more may v v_in = room_less (nat_abs k.common) far more (line_of k v) (may v v_in)

may_as : (k : Kernel) (far other : ℕ) → far ≡ other → MayMove k far → MayMove k other
may_as k far other same may = subst (λ (d : ℕ). MayMove k d) same may

turned : (a b : ℕ) → nat_abs (pos a -ℤ pos b) ≡ nat_abs (pos b -ℤ pos a)
turned a b = omega (arith, ints)

-- what is left of the ways of both lists
pub low_room : (old t : Kernel) (costs : CostBox) (v bound : ℕ) → AreAlike old.table.costs costs →
    v < length old.table.costs.low → bound ≡ slice_index costs.low v →
    t.table.costs ≡ between old.table.costs costs v v →
    MayMove t (left_of old.table.costs.low costs.low v + left_of old.table.costs.high costs.high v) →
    MayMove t (nat_abs (pos bound -ℤ pos (slice_index t.table.costs.low v))
    + (left_of old.table.costs.low costs.low (suc v) + left_of old.table.costs.high costs.high v))
low_room old t costs v bound alike v_in bound_is costs_are may =
    let there : v < length costs.low = omega (arith, alike.new_low, v_in) in
    let low_is : slice_index t.table.costs.low v ≡ slice_index old.table.costs.low v =
    ap (λ (box : CostBox). slice_index box.low v) costs_are ∙ at_between old.table.costs.low costs.low v v_in there in
    let step : nat_abs (pos bound -ℤ pos (slice_index t.table.costs.low v))
    ≡ nat_abs (pos (slice_index costs.low v) -ℤ pos (slice_index old.table.costs.low v)) =
    ap (λ (b : ℕ). nat_abs (pos b -ℤ pos (slice_index t.table.costs.low v))) bound_is
    ∙ ap (λ (l : ℕ). nat_abs (pos (slice_index costs.low v) -ℤ pos l)) low_is in
    may_as t _ _ (omega (arith, step, left_step old.table.costs.low costs.low v v_in there)) may

pub high_room : (old t : Kernel) (costs : CostBox) (v bound : ℕ) → AreAlike old.table.costs costs →
    v < length old.table.costs.low → bound ≡ slice_index costs.high v →
    t.table.costs ≡ between old.table.costs costs (suc v) v →
    MayMove t (left_of old.table.costs.low costs.low (suc v) + left_of old.table.costs.high costs.high v) →
    MayMove t (nat_abs (pos (slice_index t.table.costs.high v) -ℤ pos bound)
    + (left_of old.table.costs.low costs.low (suc v) + left_of old.table.costs.high costs.high (suc v)))
high_room old t costs v bound alike v_in bound_is costs_are may =
    let here : v < length old.table.costs.high = omega (arith, alike.high, v_in) in
    let there : v < length costs.high = omega (arith, alike.new_high, v_in) in
    let high_is : slice_index t.table.costs.high v ≡ slice_index old.table.costs.high v =
    ap (λ (box : CostBox). slice_index box.high v) costs_are ∙ at_between old.table.costs.high costs.high v here there in
    let step : nat_abs (pos (slice_index t.table.costs.high v) -ℤ pos bound)
    ≡ nat_abs (pos (slice_index costs.high v) -ℤ pos (slice_index old.table.costs.high v)) =
    turned (slice_index t.table.costs.high v) bound
    ∙ ap (λ (b : ℕ). nat_abs (pos b -ℤ pos (slice_index t.table.costs.high v))) bound_is
    ∙ ap (λ (h : ℕ). nat_abs (pos (slice_index costs.high v) -ℤ pos h)) high_is in
    may_as t _ _ (omega (arith, step, left_step old.table.costs.high costs.high v here there)) may

pub low_may : (old t : Kernel) (costs : CostBox) (v bound : ℕ) → AreAlike old.table.costs costs →
    v < length old.table.costs.low → bound ≡ slice_index costs.low v →
    t.table.costs ≡ between old.table.costs costs v v →
    MayMove t (left_of old.table.costs.low costs.low v + left_of old.table.costs.high costs.high v) →
    MayMove t (nat_abs (pos bound -ℤ pos (slice_index t.table.costs.low v)))
low_may old t costs v bound alike v_in bound_is costs_are may =
    may_less t (nat_abs (pos bound -ℤ pos (slice_index t.table.costs.low v)))
    (left_of old.table.costs.low costs.low (suc v) + left_of old.table.costs.high costs.high v)
    (low_room old t costs v bound alike v_in bound_is costs_are may)

pub high_may : (old t : Kernel) (costs : CostBox) (v bound : ℕ) → AreAlike old.table.costs costs →
    v < length old.table.costs.low → bound ≡ slice_index costs.high v →
    t.table.costs ≡ between old.table.costs costs (suc v) v →
    MayMove t (left_of old.table.costs.low costs.low (suc v) + left_of old.table.costs.high costs.high v) →
    MayMove t (nat_abs (pos (slice_index t.table.costs.high v) -ℤ pos bound))
high_may old t costs v bound alike v_in bound_is costs_are may =
    may_less t (nat_abs (pos (slice_index t.table.costs.high v) -ℤ pos bound))
    (left_of old.table.costs.low costs.low (suc v) + left_of old.table.costs.high costs.high (suc v))
    (high_room old t costs v bound alike v_in bound_is costs_are may)

-- what two moves in a row keep
pub both_keep : (old t s : Kernel) → KeepsOfBox old t → KeepsOfBox t s → KeepsOfBox old s
both_keep old t s first second =
    record {
      top = second.top ∙ first.top;
      rows = second.rows ∙ first.rows;
      width = second.width ∙ first.width;
      common = second.common ∙ first.common;
      lows = second.lows ∙ first.lows;
    }

-- the box that it moved to, and that its rows fit it
pub settled_box : (old s : Kernel) (costs : CostBox) → KeepsOfBox old s → s.table.costs ≡ costs → IsBox (width_of old) costs →
    IsBox (width_of s) s.table.costs
settled_box old s costs keeps costs_are box =
    subst (λ (n : ℕ). IsBox n s.table.costs) (sym keeps.width) (subst (λ (c : CostBox). IsBox (width_of old) c) (sym costs_are) box)

pub settled_fit : (old s : Kernel) (costs : CostBox) → KeepsOfBox old s → s.table.costs ≡ costs →
    All (FitsBox costs) old.table.rows.items → All (FitsBox s.table.costs) s.table.rows.items
settled_fit old s costs keeps costs_are fit =
    subst (λ (c : CostBox). All (FitsBox c) s.table.rows.items) (sym costs_are)
    (subst (λ (rows : List Form). All (FitsBox costs) rows) (sym (ap (λ rows. rows.items) keeps.rows)) fit)
