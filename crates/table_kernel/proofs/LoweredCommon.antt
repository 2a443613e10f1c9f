-- A kernel whose common denominator is lowered to a divisor that is a multiple of all lines' own ones.
use Prim.Native.Nat.{◌∣◌}
use native.Mathlib.Nat.{div-mul_cancel, mul_assoc, mul_comm}
use Rattle.std.proofs.Common.{◌≡◌, ℕ, suc, ◌*◌, ◌/◌, ◌^◌, ◌<◌, ◌≤◌, refl, sym, ◌∙◌, ap, subst, List, [], ◌∷◌, map, length, arith}
use Rattle.std.specs.Prelude.{ℤ, pos, ◌*ℤ◌, ◌<ℤ◌, ◌≤ℤ◌, nat_abs, slice_index_or, All}
use Rattle.std.specs.Vec.{with_items}
use Rattle.std.proofs.lemmas.List.Elements.{All-tail}
use Rattle.cost_base.specs.Lists.{numbers_from}
use Rattle.whole_numbers.specs.Fractions.{Fraction, StandsFor, reduced}
use Rattle.whole_numbers.proofs.Divisors.{quotient_positive}
use Rattle.whole_numbers.proofs.FractionLaws.{cancel, product_positive, reduced_lowest, reduced_stands, stands_less}
use Rattle.whole_numbers.proofs.Ring.{var, ◌⊗◌, ring, ring_by, using, nothing}
use Rattle.whole_numbers.proofs.Sizes.{size_positive}
use Rattle.whole_numbers.proofs.Sums.{lowest_unique}
use Rattle.design_problem.specs.declared.form.Form.{Form}
use Rattle.design_problem.specs.declared.boxes.CostBox.{CostBox}
use Rattle.design_problem.specs.Basis.{member_form}
use Rattle.fraction_table.specs.declared.table.Table.{Table}
use Rattle.fraction_table.specs.ValidTables.{members_of_box, number_of_form}
use Rattle.integer_pivots.specs.declared.line.Line.{Line}
use Rattle.integer_pivots.specs.Lines.{no_line}
use Rattle.integer_pivots.specs.Numbers.{AllWithin}
use Rattle.integer_pivots.proofs.Sizes.{read, read_number, size_most}
use Rattle.table_kernel.specs.declared.kernel.Kernel.{Kernel}
use Rattle.table_kernel.specs.Bases.{AreAtBasis}
use Rattle.table_kernel.specs.Constants.{AreConstantsPut, KeepsAllButConstants}
use Rattle.table_kernel.specs.Kernels.{IsBounded, IsKernel, IsMoving, kernel_lines, stated}
use Rattle.table_kernel.specs.Numbers.{fraction_lines, over_common, scaled_line, share_of}
use Rattle.table_kernel.specs.ReadBack.{IsLeastCommon}
use Rattle.table_kernel.proofs.AtBasis.{kernel_basis, number_up, scaled_by, scaled_down}
use Rattle.table_kernel.proofs.PutKernels.{put_kernel}
use Rattle.table_kernel.proofs.Shares.{factor_within, share_more}

-- two fractions that stand for one number over one denominator have one value
same_values : (p q : Fraction) (m : ℤ) (D : ℕ) → 0 < D → StandsFor p m D → StandsFor q m D →
    (p.numerator *ℤ pos q.denominator) ≡ (q.numerator *ℤ pos p.denominator)
same_values p q m D D_some p_is q_is =
    cancel D _ _ D_some
    (ring_by (p.numerator ∷ pos p.denominator ∷ q.numerator ∷ pos q.denominator ∷ m ∷ pos D ∷ [])
    (var 0 ⊗ var 3 ⊗ var 5) (var 2 ⊗ var 1 ⊗ var 5)
    (using (var 3) (var 0 ⊗ var 5) (var 4 ⊗ var 1) p_is (using (var 1) (var 4 ⊗ var 3) (var 2 ⊗ var 5) (sym q_is) nothing)) refl)

-- a number times a factor, over the denominator times it, is the same fraction
over_more : (D r : ℕ) (m : ℤ) → 0 < D → 0 < r → over_common (D * r) (m *ℤ pos r) ≡ over_common D m
over_more D r m D_some r_some =
    let both = product_positive D r D_some r_some in
    let p = reduced (m *ℤ pos r) (D * r) in
    lowest_unique p (reduced m D) (reduced_lowest (m *ℤ pos r) (D * r) both) (reduced_lowest m D D_some)
    (same_values p (reduced m D) m D D_some (stands_less p m D r r_some (reduced_stands (m *ℤ pos r) (D * r) both)) (reduced_stands m D D_some))

-- numbers times a product
scaled_twice : (a r : ℕ) (zs : List ℤ) → scaled_by (a * r) zs ≡ scaled_by r (scaled_by a zs)
scaled_twice a r [] = refl
scaled_twice a r (z ∷ zs) =
    ap (λ (y : ℤ). y ∷ scaled_by (a * r) zs) (ring (z ∷ pos a ∷ pos r ∷ []) (var 0 ⊗ (var 1 ⊗ var 2)) ((var 0 ⊗ var 1) ⊗ var 2) refl)
    ∙ ap (λ (ys : List ℤ). ((z *ℤ pos a) *ℤ pos r) ∷ ys) (scaled_twice a r zs)

-- the lines over a common denominator times a factor
lows_more : (E r : ℕ) (lines : List Line) → All (λ line. nat_abs line.denominator ∣ E) lines →
    map (scaled_line (E * r)) lines ≡ map (scaled_by r) (map (scaled_line E) lines)
lows_more E r [] divides = refl
lows_more E r (line ∷ lines) divides =
    let zs = line.constant ∷ line.numbers in
    ap (λ (n : ℕ). scaled_by n zs ∷ map (scaled_line (E * r)) lines) (share_more E r (nat_abs line.denominator) (divides 0 no_line (omega arith)))
    ∙ ap (λ (ys : List ℤ). ys ∷ map (scaled_line (E * r)) lines) (scaled_twice (share_of E line) r zs)
    ∙ ap (λ (ls : List (List ℤ)). scaled_by r (scaled_line E line) ∷ ls)
    (lows_more E r lines (All-tail (λ (l : Line). nat_abs l.denominator ∣ E) line lines divides))

-- the fractions of a form are the same
numbers_more : (E r : ℕ) (low : List ℕ) (lows : List (List ℤ)) (f : Form) (places : List ℕ) → 0 < E → 0 < r →
    map (over_common (E * r)) (map (number_of_form (E * r) low (map (scaled_by r) lows) f) places)
    ≡ map (over_common E) (map (number_of_form E low lows f) places)
numbers_more E r low lows f [] E_some r_some = refl
numbers_more E r low lows f (place ∷ places) E_some r_some =
    let number = number_of_form (E * r) low (map (scaled_by r) lows) f in
    let one : over_common (E * r) (number place) ≡ over_common E (number_of_form E low lows f place) =
    ap (over_common (E * r)) (number_up E r low lows f place) ∙ over_more E r (number_of_form E low lows f place) E_some r_some in
    ap (λ (q : Fraction). q ∷ map (over_common (E * r)) (map number places)) one
    ∙ ap (λ (qs : List Fraction). over_common E (number_of_form E low lows f place) ∷ qs) (numbers_more E r low lows f places E_some r_some)

-- and so are the lines of all forms
lines_more : (E r : ℕ) (costs : CostBox) (rows : List Form) (lows : List (List ℤ)) → 0 < E → 0 < r →
    fraction_lines (E * r) costs rows (map (scaled_by r) lows) ≡ fraction_lines E costs rows lows
lines_more E r costs rows lows E_some r_some =
    ap (λ line_of. map line_of (members_of_box costs (length rows)))
    (λ i member. numbers_more E r costs.low lows (member_form (length costs.low) rows member) (numbers_from 0 (suc (length costs.low))) E_some r_some i)

-- a lower common denominator: a multiple of the lines' own ones, of which the common denominator is a multiple
pub record IsLower (k : Kernel) (common : ℤ) : Type 0 where
  pub range : (pos 0 <ℤ common) × (common ≤ℤ pos (2 ^ 30))
  pub multiple : All (λ line. nat_abs line.denominator ∣ nat_abs common) k.lows.items
  pub least : nat_abs common ∣ nat_abs k.common

-- the least one is a lower one, as it is read
pub lower_least : (k : Kernel) (common : ℤ) → IsBounded k → IsLeastCommon k.lows.items common → IsLower k (read common)
lower_least k common b l =
    let small : nat_abs common ≤ 2 ^ 30 = size_most common (2 ^ 30) l.positive l.small in
    subst (IsLower k) (sym (read_number common (omega (arith, small))))
    (record { range = (l.positive, l.small); multiple = l.multiple; least = l.least (nat_abs k.common) b.divides })

-- the kernel with it
abbrev pub with_common : Kernel → ℤ → Kernel
with_common k common = record {
  table = k.table;
  common = common;
  lows = k.lows;
  leads = k.leads;
  constants = k.constants;
  uses = k.uses;
  turns = k.turns;
  left = k.left;
  entering = k.entering;
}

module _ (k : Kernel) (common : ℤ) (l : IsLower k common) where
  -- how often the lower one goes into the common one
  abbrev times : ℕ
  times = nat_abs k.common / nat_abs common

  whole : nat_abs common * times ≡ nat_abs k.common
  whole = mul_comm (nat_abs common) times ∙ div-mul_cancel (nat_abs common) l.least

  some : 0 < nat_abs common
  some = size_positive common l.range.0

  times_some : IsBounded k → 0 < times
  times_some b = quotient_positive (nat_abs k.common) (nat_abs common) (size_positive k.common b.positive) l.least

  -- the table that is stated stays
  pub lines_lower : IsBounded k → kernel_lines (with_common k common) ≡ kernel_lines k
  lines_lower b =
      let E = nat_abs common in
      let lines = k.lows.items in
      let rows = k.table.rows.items in
      sym (lines_more E times k.table.costs rows (map (scaled_line E) lines) some (times_some b))
      ∙ ap (fraction_lines (E * times) k.table.costs rows) (sym (lows_more E times lines l.multiple))
      ∙ ap (λ (D : ℕ). fraction_lines D k.table.costs rows (map (scaled_line D) lines)) whole

  -- the constants of x - low are less
  short : IsBounded k → All (λ line. nat_abs line.constant * share_of (nat_abs common) line ≤ 2 ^ 44) k.lows.items
  short b v d v_in =
      let line = slice_index_or k.lows.items v d in
      let E = nat_abs common in
      let same : share_of (nat_abs k.common) line ≡ share_of E line * times =
      ap (λ (D : ℕ). D / nat_abs line.denominator) (sym whole) ∙ share_more E times (nat_abs line.denominator) (l.multiple v d v_in) in
      let product : nat_abs line.constant * share_of (nat_abs k.common) line ≡ nat_abs line.constant * share_of E line * times =
      ap (λ (n : ℕ). nat_abs line.constant * n) same ∙ sym (mul_assoc (nat_abs line.constant) (share_of E line) times) in
      factor_within (nat_abs line.constant * share_of E line) times (2 ^ 44) (omega (arith, times_some b)) (omega (arith, product, b.low v d v_in))

  pub bounded_lower : IsBounded k → IsBounded (with_common k common)
  bounded_lower b =
      record {
        top = b.top;
        positive = l.range.0;
        common = l.range.1;
        lines = b.lines;
        divides = l.multiple;
        low = short b;
        constants = b.constants;
        rows = b.rows;
      }

  -- the basis is over the lower one
  pub moving_lower : IsKernel k → IsMoving (with_common k common)
  moving_lower m =
      let E = nat_abs common in
      let lines = k.lows.items in
      let basis = AreAtBasis k.table.costs k.table.rows.items k.table.basis.items in
      let s = m.shaped in
      record {
        shaped = record {
          room = s.room;
          lows = s.lows;
          each = s.each;
          leads = s.leads;
          lead = s.lead;
          constants = s.constants;
          uses = s.uses;
          turns = s.turns;
          left = s.left;
          entering = s.entering;
          lines = s.lines;
          wide = s.wide;
        };
        bounded = bounded_lower m.bounded;
        basis =
            scaled_down k.table.costs k.table.rows.items k.table.basis.items E times (map (scaled_line E) lines) some (times_some m.bounded)
            (subst (basis (E * times)) (lows_more E times lines l.multiple)
            (subst (λ (D : ℕ). basis D (map (scaled_line D) lines)) (sym whole) (kernel_basis k m).0));
      }

-- the kernels with the constants put for the lower one
pub kernel_lower : (k n : Kernel) (common : ℤ) → IsLower k common → IsKernel k → AreConstantsPut (with_common k common) n.constants.items →
    AllWithin (2 ^ 62) n.constants.items → KeepsAllButConstants (with_common k common) n → IsKernel n
kernel_lower k n common l m are small keeps =
    put_kernel (with_common k common) n (moving_lower k common l m) m.tableau.box m.tableau.fit are small keeps

-- a table with these lines
abbrev with_lines : Table → List (List Fraction) → Table
with_lines t lines = record {
  top = t.top;
  costs = t.costs;
  rows = t.rows;
  basis = t.basis;
  lines = with_items t.lines lines;
  quotients = t.quotients;
  scratch = t.scratch;
}

-- it stands for the same table
pub stated_lower : (k n : Kernel) (common : ℤ) → IsLower k common → IsBounded k →
    KeepsAllButConstants (with_common k common) n → stated n ≡ stated k
stated_lower k n common l b keeps = kept ∙ ap (with_lines k.table) (lines_lower k common l b)
  where
    kept : stated n ≡ stated (with_common k common)
    kept = rw (keeps.table, keeps.common, keeps.lows) refl
