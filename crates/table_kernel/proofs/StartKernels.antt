-- At the starting basis a kernel holds the units over 1, and the ranges of the variables.
use Prim.Native.Nat.{◌∣◌}
use Rattle.std.proofs.Common.{◌≡◌, ℕ, zero, suc, ◌+◌, ◌^◌, ◌<◌, ◌*◌, ◌≤◌, Bool, true, false, cond, refl, sym, ◌∙◌, ap, subst, List, [], ◌∷◌, ◌++◌, map, length, arith, append-nil, zero-add}
use Rattle.std.specs.Prelude.{ℤ, pos, ◌-ℤ◌, ◌*ℤ◌, ◌<ℤ◌, ◌≤ℤ◌, ◌==◌, nat_abs, slice_index, slice_index_or, vec_capacity, All}
use Rattle.std.proofs.lemmas.Int.{ints}
use Rattle.std.proofs.lemmas.List.{get_or-map, get_or_default, length-append, map-append}
use Rattle.std.proofs.lemmas.Nat.Gcd.{dvd_refl}
use Rattle.std.proofs.lemmas.Simd.{map-map}
use Rattle.cost_base.specs.Lists.{numbers_from}
use Rattle.cost_base.proofs.ListLemmas.{length-numbers_from, get_or-numbers_from, length-map-numbers_from, map-numbers_from-agree, get_or-map-numbers_from}
use Rattle.whole_numbers.proofs.Ring.{var, num, ◌⊗◌, ring}
use Rattle.whole_numbers.specs.Fractions.{Fraction}
use Rattle.whole_numbers.specs.Lists.{number_at}
use Rattle.design_problem.specs.declared.form.Form.{Form}
use Rattle.design_problem.specs.declared.boxes.CostBox.{CostBox}
use Rattle.design_problem.specs.declared.tree.Member.{Member}
use Rattle.design_problem.specs.declared.tree.Member.TheVariants.{Low}
use Rattle.design_problem.specs.Forms.{value_for_costs}
use Rattle.design_problem.specs.Boxes.{IsBox}
use Rattle.design_problem.specs.Basis.{IsFormOf, low_member, member_form, unit}
use Rattle.fraction_table.specs.Tableaus.{FitsBox, Held, starting}
use Rattle.fraction_table.specs.ValidTables.{HasRoom, IsSound, IsTableau, high_member, held_of, members_of_box, number_of_form}
use Rattle.fraction_table.specs.declared.stage.Stage.TheVariants.{Open}
use Rattle.fraction_table.proofs.Pivots.{line_long, lines_long, members_long}
use Rattle.fraction_table.proofs.StartingTables.{all_mapped, elsewhere_none, members_are, number_start, start_rows, starting_leads, starting_mixtures, starting_own, starts_long}
use Rattle.fraction_table.proofs.IntegralTurns.{coefficients_long}
use Rattle.fraction_table.proofs.theory.Resolved.{unit_same, unit_other}
use Rattle.fraction_table.proofs.theory.Units.{high_value, low_value}
use Rattle.integer_pivots.specs.declared.line.Line.{Line}
use Rattle.integer_pivots.specs.Lines.{IsLine, rows_of}
use Rattle.integer_pivots.specs.Leads.{AreLeads, IsLead}
use Rattle.integer_pivots.specs.Numbers.{AllWithin, weight_of}
use Rattle.integer_pivots.specs.Uses.{uses_in, uses_by}
use Rattle.integer_pivots.specs.UnitLines.{unit_line_of}
use Rattle.table_kernel.specs.declared.kernel.Kernel.{Kernel}
use Rattle.table_kernel.specs.Kernels.{IsBounded, IsKernel, IsShaped, lows_of, width_of}
use Rattle.table_kernel.specs.Bases.{AreAtBasis}
use Rattle.table_kernel.specs.Numbers.{scaled_line, share_of}
use Rattle.table_kernel.proofs.AtBasis.{basis_kernel}

-- the units lead each at its own variable
pub unit_leads : (n : ℕ) → AreLeads (map (λ v. unit n v (pos 1)) (numbers_from 0 n)) (numbers_from 0 n)
unit_leads n c c_in =
    let inside : c < n = omega (arith, c_in, length-numbers_from 0 n) in
    let own : slice_index (numbers_from 0 n) c ≡ c = get_or-numbers_from 0 n c 0 inside ∙ zero-add c in
    subst (IsLead (map (λ v. unit n v (pos 1)) (numbers_from 0 n)) c) (sym own)
    record {
      within = omega (arith, inside, length-map-numbers_from (λ v. unit n v (pos 1)) 0 n);
      before = λ v before. entry v (omega (arith, before, inside)) ∙ unit_other n v c (λ same. omega (arith, same, before));
      there = λ v_in none. one_some (sym (unit_same n c inside) ∙ sym (entry c inside) ∙ none);
    }
  where
    one_some : pos 1 ≡ pos 0 → ⊥
    one_some same = omega (arith, ints)

    entry : (v : ℕ) → v < n → number_at (slice_index_or (map (λ u. unit n u (pos 1)) (numbers_from 0 n)) v []) c ≡ number_at (unit n v (pos 1)) c
    entry v v_in =
        ap (λ (row : List ℤ). number_at row c) (get_or-map-numbers_from (λ u. unit n u (pos 1)) 0 n v [] v_in ∙ ap (λ u. unit n u (pos 1)) (zero-add v))

-- the constants of x - low and of high - x at the low corner
abbrev pub first_constants : CostBox → List ℤ
first_constants costs =
    map (λ v. pos 0) (numbers_from 0 (length costs.low))
    ++ map (λ v. pos (slice_index costs.high v) -ℤ pos (slice_index costs.low v))
    (numbers_from 0 (length costs.low))

first_long : (costs : CostBox) → length (first_constants costs) ≡ length costs.low + length costs.low
first_long costs =
    let n = length costs.low in
    length-append (map (λ v. pos 0) (numbers_from 0 n)) (map (λ v. pos (slice_index costs.high v) -ℤ pos (slice_index costs.low v)) (numbers_from 0 n))
    ∙ ap (λ (k : ℕ). k + length (map (λ v. pos (slice_index costs.high v) -ℤ pos (slice_index costs.low v))
    (numbers_from 0 n))) (length-map-numbers_from (λ v. pos 0) 0 n)
    ∙ ap (λ (k : ℕ). n + k) (length-map-numbers_from (λ v. pos (slice_index costs.high v) -ℤ pos (slice_index costs.low v)) 0 n)

-- they are the values of the box's forms there
values_first : (costs : CostBox) → map (λ member. value_for_costs (member_form (length costs.low) [] member) costs.low) (members_of_box costs 0) ≡
    first_constants costs
values_first costs =
    let n = length costs.low in
    let at : Member → ℤ = λ member. value_for_costs (member_form n [] member) costs.low in
    let lows = map (low_member costs) (numbers_from 0 n) in
    let highs = map (high_member costs) (numbers_from 0 n) in
    ap (map at) (append-nil (lows ++ highs))
    ∙ map-append at lows highs
    ∙ ap (λ zs. zs ++ map at highs) (map-map at (low_member costs) (numbers_from 0 n)
    ∙ map-numbers_from-agree (λ v. at (low_member costs v)) (λ v. pos 0) 0 n
    (λ v from v_in. low_value costs.low [] v (omega (arith, v_in))))
    ∙ ap (λ zs. map (λ v. pos 0) (numbers_from 0 n) ++ zs) (map-map at (high_member costs) (numbers_from 0 n)
    ∙ map-numbers_from-agree (λ v. at (high_member costs v))
    (λ v. pos (slice_index costs.high v) -ℤ pos (slice_index costs.low v)) 0 n
    (λ v from v_in. high_value costs.low [] v (slice_index costs.high v) (omega (arith, v_in))))

first_at : (costs : CostBox) (rows : List Form) (place : ℕ) → rows ≡ [] → place < length (first_constants costs) →
    number_at (first_constants costs) place
    ≡ value_for_costs (member_form (length costs.low) rows
    (slice_index_or (members_of_box costs (length rows)) place (Low 0 0))) costs.low
first_at costs rows place rows_are place_in =
    let n = length costs.low in
    subst (λ (fs : List Form). number_at (first_constants costs) place
    ≡ value_for_costs (member_form n fs (slice_index_or (members_of_box costs (length fs)) place (Low 0 0))) costs.low)
    (sym rows_are)
    (ap (λ zs. number_at zs place) (sym (values_first costs))
    ∙ get_or-map (λ member. value_for_costs (member_form n [] member) costs.low) (members_of_box costs 0) place (Low 0 0) (pos 0)
    (omega (arith, first_long costs, members_long costs 0, place_in)))

-- a list over 1
scaled_once : (zs : List ℤ) → map (λ z. z *ℤ pos 1) zs ≡ zs
scaled_once [] = refl
scaled_once (z ∷ zs) =
    ap (λ y. y ∷ map (λ x. x *ℤ pos 1) zs) (ring (z ∷ []) (var 0 ⊗ num (pos 1)) (var 0) refl) ∙ ap (λ ys. z ∷ ys) (scaled_once zs)

-- the numbers of x - low, by the units
unit_scaled : (n v : ℕ) → scaled_line 1 (unit_line_of n v) ≡ pos 0 ∷ unit n v (pos 1)
unit_scaled n v = scaled_once (pos 0 ∷ unit n v (pos 1))

rows_by : (a m n : ℕ) → map (scaled_line 1) (map (unit_line_of n) (numbers_from a m)) ≡ map (λ v. pos 0 ∷ unit n v (pos 1)) (numbers_from a m)
rows_by a zero n = refl
rows_by a (suc m) n =
    ap (λ row. row ∷ map (scaled_line 1) (map (unit_line_of n) (numbers_from (a + 1) m))) (unit_scaled n a)
    ∙ ap (λ rows. (pos 0 ∷ unit n a (pos 1)) ∷ rows) (rows_by (a + 1) m n)

-- the numbers at the columns are the units
unit_rows : (n a m : ℕ) → rows_of (map (unit_line_of n) (numbers_from a m)) ≡ map (λ v. unit n v (pos 1)) (numbers_from a m)
unit_rows n a zero = refl
unit_rows n a (suc m) = ap (λ rows. unit n a (pos 1) ∷ rows) (unit_rows n (a + 1) m)

-- the starting basis
pub start_at_basis : (costs : CostBox) (rows : List Form) → IsBox (length costs.low) costs → All (FitsBox costs) rows →
    AreAtBasis costs rows (starting costs) 1 (start_rows (length costs.low) 0 (length costs.low))
start_at_basis costs rows box fit =
    let n = length costs.low in
    record {
      high_count = box.high_count;
      counts = λ k d k_in. (fit k d k_in).count;
      count = length-map-numbers_from (low_member costs) 0 n;
      members = all_mapped (IsFormOf costs rows) (low_member costs) n (λ k k_in. (k_in, refl));
      positive = omega arith;
      long = starts_long n 0 n;
      mixtures = starting_mixtures costs rows;
      own = λ k k_in. starting_own costs rows k (suc k) k_in (omega (arith, k_in)) ∙ unit_same n k k_in;
      elsewhere = λ k place k_in place_in apart. starting_own costs rows k place k_in (omega (arith, place_in)) ∙ elsewhere_none n k place apart;
      lead = λ k k_in. starting_leads n 0 n k k (sym (zero-add k)) k_in k_in;
    }

unit_within : (n v : ℕ) → AllWithin 1 (unit n v (pos 1))
unit_within n v = all_mapped (λ (z : ℤ). nat_abs z ≤ 1) (λ k. cond (k == v) (pos 1) (pos 0)) n (λ k k_in. either (k == v))
  where
    either : (b : Bool) → nat_abs (cond b (pos 1) (pos 0)) ≤ 1
    either true = omega arith
    either false = omega arith

-- a unit's line is small
unit_line_small : (n v : ℕ) → IsLine (unit_line_of n v)
unit_line_small n v = record {
  positive = omega (arith, ints);
  denominator = omega (arith, ints);
  reach_positive = omega (arith, ints);
  reach = omega (arith, ints);
  numbers = unit_within n v;
}

-- what the kernel of a box is made of
pub record IsStarting (k : Kernel) (costs : CostBox) : Type 0 where
  pub common : k.common ≡ pos 1
  pub lows : k.lows.items ≡ map (unit_line_of (length costs.low)) (numbers_from 0 (length costs.low))
  pub leads : k.leads.items ≡ numbers_from 0 (length costs.low)
  pub constants : k.constants.items ≡ first_constants costs
  pub small : AllWithin (2 ^ 27) k.constants.items
  pub uses : uses_in k.uses.items ≡ map (λ v. []) (numbers_from 0 (length costs.low))
  pub turns : length k.turns.items ≡ length costs.low
  pub left : length costs.low ≤ vec_capacity k.left
  pub entering : length k.entering.numbers ≡ length costs.low

pub starting_shaped : (k : Kernel) → IsTableau k.table → HasRoom k.table → k.table.rows.items ≡ [] → IsStarting k k.table.costs → IsShaped k
starting_shaped k w room rows_are s =
    let n = width_of k in
    let none : length k.table.rows.items ≡ 0 = ap length rows_are in
    let counted = ap length s.constants ∙ first_long k.table.costs in
    let many = members_long k.table.costs (length k.table.rows.items) in
    record {
      room = room;
      lows = ap length s.lows ∙ length-map-numbers_from (unit_line_of n) 0 n;
      each = subst (All (λ (line : Line). length line.numbers ≡ n)) (sym s.lows)
          (all_mapped (λ (line : Line). length line.numbers ≡ n) (unit_line_of n) n
          (λ v v_in. length-map-numbers_from (λ j. cond (j == v) (pos 1) (pos 0)) 0 n));
      leads = ap length s.leads ∙ length-numbers_from 0 n;
      lead = subst (λ (lines : List Line). AreLeads (rows_of lines) k.leads.items) (sym s.lows)
          (subst (λ (rows : List (List ℤ)). AreLeads rows k.leads.items) (sym (unit_rows n 0 n))
          (subst (AreLeads (map (λ v. unit n v (pos 1)) (numbers_from 0 n))) (sym s.leads) (unit_leads n)));
      constants = omega (arith, counted, many, none);
      uses = s.uses ∙ ap (λ (rows : List Form). uses_by rows n) (sym rows_are);
      turns = s.turns;
      left = s.left;
      entering = s.entering;
      lines = omega (arith, lines_long k.table w, counted, none);
      wide = λ i d i_in. line_wide i d i_in;
    }
  where
    line_wide : (i : ℕ) (d : List Fraction) → i < length k.table.lines.items → length (slice_index_or k.table.lines.items i d) ≡ suc (width_of k)
    line_wide i d i_in = subst (λ (line : List Fraction). length line ≡ suc (width_of k))
        (get_or_default k.table.lines.items i [] d i_in) (line_long k.table w i i_in)

-- what holds of each unit's line holds of the kernel's
each_unit : (k : Kernel) (P : Line → Type 0) → IsStarting k k.table.costs → ((v : ℕ) → P (unit_line_of (width_of k) v)) → All P k.lows.items
each_unit k P s holds = subst (All P) (sym s.lows) (all_mapped P (unit_line_of (width_of k)) (width_of k) (λ v v_in. holds v))

starting_bounded : (k : Kernel) → 2 ^ 126 ≤ k.table.top → k.table.rows.items ≡ [] → IsStarting k k.table.costs → IsBounded k
starting_bounded k top rows_are s =
    record {
      top = top;
      positive = subst (λ (z : ℤ). pos 0 <ℤ z) (sym s.common) (omega (arith, ints));
      common = subst (λ (z : ℤ). z ≤ℤ pos (2 ^ 30)) (sym s.common) (omega (arith, ints));
      lines = each_unit k IsLine s (unit_line_small (width_of k));
      divides = subst (λ (z : ℤ). All (λ (line : Line). nat_abs line.denominator ∣ nat_abs z) k.lows.items) (sym s.common)
          (each_unit k (λ (line : Line). nat_abs line.denominator ∣ 1) s (λ v. dvd_refl 1));
      low = each_unit k (λ (line : Line). nat_abs line.constant * share_of (nat_abs k.common) line ≤ 2 ^ 44) s (λ v. omega arith);
      rows = subst (All (λ (f : Form). weight_of f ≤ 2 ^ 16)) (sym rows_are) (λ i d i_in. absurd (omega (arith, i_in)));
      constants = λ i d i_in. omega (arith, s.small i d i_in);
    }

-- the kernel of a box without rows
starting_is : (k : Kernel) → 2 ^ 126 ≤ k.table.top → IsTableau k.table → HasRoom k.table → k.table.rows.items ≡ [] →
    k.table.basis.items ≡ starting k.table.costs → IsStarting k k.table.costs → IsKernel k
starting_is k top w room rows_are basis_is s =
    let n = width_of k in
    let costs = k.table.costs in
    let rows = k.table.rows.items in
    let one : nat_abs k.common ≡ 1 = ap nat_abs s.common in
    let lows_are : lows_of k ≡ start_rows n 0 n =
    ap (λ D. map (scaled_line D) k.lows.items) one
    ∙ ap (map (scaled_line 1)) s.lows
    ∙ rows_by 0 n n in
    let shaped = starting_shaped k w room rows_are s in
    basis_kernel k shaped (starting_bounded k top rows_are s) w.box w.fit
    (subst (λ (D : ℕ). AreAtBasis costs rows k.table.basis.items D (lows_of k)) (sym one)
    (subst (AreAtBasis costs rows k.table.basis.items 1) (sym lows_are)
    (subst (λ (basis : List Member). AreAtBasis costs rows basis 1 (start_rows n 0 n)) (sym basis_is) (start_at_basis costs rows w.box w.fit))))
    (λ place place_in.
    let place_there : place < length (first_constants costs) = subst (λ (zs : List ℤ). place < length zs) s.constants place_in in
    let member = slice_index_or (members_of_box costs (length rows)) place (Low 0 0) in
    let is = members_are costs rows place (Low 0 0) (omega (arith, shaped.constants, place_in)) in
    let f = member_form n rows member in
    ap (λ zs. number_at zs place) s.constants
    ∙ first_at costs rows place rows_are place_there
    ∙ sym (number_start n costs.low f 0 (coefficients_long costs rows member w.fit is) (omega arith))
    ∙ ap (λ (D : ℕ). number_of_form D costs.low (start_rows n 0 n) f 0) (sym one)
    ∙ ap (λ lows. number_of_form (nat_abs k.common) costs.low lows f 0) (sym lows_are))

pub started : (k : Kernel) (costs : CostBox) (top : ℕ) →
    held_of k.table Open ≡ record { top = top; costs = costs; rows = []; basis = starting costs; stage = Open } →
    IsSound k.table Open → IsStarting k costs → 2 ^ 126 ≤ top → IsKernel k
started k costs top held sound s large =
    let costs_are : k.table.costs ≡ costs = ap (λ (h : Held). h.costs) held in
    starting_is k (subst (λ (m : ℕ). 2 ^ 126 ≤ m) (sym (ap (λ (h : Held). h.top) held)) large) (sound.tableau tt) sound.room
    (ap (λ (h : Held). h.rows) held)
    (ap (λ (h : Held). h.basis) held ∙ ap starting (sym costs_are))
    (subst (IsStarting k) (sym costs_are) s)
