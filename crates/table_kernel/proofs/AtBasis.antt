-- A basis with the numbers of x - low over one denominator, apart from any lines; and a kernel that is made of them.
use Rattle.std.proofs.Common.{◌≡◌, ℕ, zero, suc, ◌*◌, ◌^◌, ◌<◌, ◌≤◌, refl, sym, ◌∙◌, ap, subst, List, [], ◌∷◌, map, length, arith}
use native.Mathlib.Nat.{zero-mul}
use Rattle.std.specs.Prelude.{ℤ, pos, negsuc, ◌+ℤ◌, ◌*ℤ◌, neg_ℤ, nat_abs, slice_index_or, All}
use Rattle.std.specs.List.{AllZip}
use Rattle.std.proofs.lemmas.Int.{ints}
use Rattle.std.proofs.Math.Nat.{mul_comm}
use Rattle.std.proofs.lemmas.List.{get_or-map, length-map, with_items_is}
use Rattle.cost_base.specs.Lists.{numbers_from}
use Rattle.whole_numbers.specs.Fractions.{Fraction}
use Rattle.whole_numbers.proofs.Ring.{var, num, ◌⊕◌, ◌⊗◌, ring}
use Rattle.whole_numbers.proofs.FractionLaws.{cancel}
use Rattle.whole_numbers.specs.Lists.{number_at}
use Rattle.design_problem.specs.declared.form.Form.{Form}
use Rattle.design_problem.specs.declared.boxes.CostBox.{CostBox}
use Rattle.design_problem.specs.declared.tree.Member.{Member}
use Rattle.design_problem.specs.declared.tree.Member.TheVariants.{Low}
use Rattle.design_problem.specs.Basis.{LeadsPositive, coordinate, forms_of, mixture, one_form}
use Rattle.design_problem.specs.Boxes.{IsBox}
use Rattle.design_problem.specs.Forms.{no_form, value_for_costs}
use Rattle.fraction_table.specs.Pivots.{member_at}
use Rattle.fraction_table.specs.Tableaus.{FitsBox}
use Rattle.fraction_table.specs.ValidTables.{AllLong, AreMixtures, IsTableLine, IsUnboxed, from_lows, low_forms, members_of_box, number_of_form}
use Rattle.fraction_table.proofs.theory.Zips.{zip_from}
use Rattle.whole_numbers.proofs.Sizes.{size_positive}
use Rattle.integer_pivots.proofs.Sizes.{number_within, size_most}
use Rattle.integer_pivots.proofs.LineReads.{pos_size}
use Rattle.table_kernel.specs.declared.kernel.Kernel.{Kernel}
use Rattle.table_kernel.specs.Bases.{AreAtBasis}
use Rattle.table_kernel.specs.Constants.{AreConstants}
use Rattle.table_kernel.specs.Kernels.{IsBounded, IsKernel, IsMoving, IsShaped, kernel_lines, lows_of, stated, width_of}
use Rattle.table_kernel.specs.Numbers.{fraction_line}
use Rattle.table_kernel.specs.Lines.{form_of_place}
use Rattle.table_kernel.proofs.Columns.{column_number, place_number_within}
use Rattle.table_kernel.proofs.OverCommon.{over_numbers, over_stand}

pub at_basis : (top : ℕ) (costs : CostBox) (rows : List Form) (basis : List Member) (table : List (List Fraction))
    (u : IsUnboxed top costs rows basis table) → AreAtBasis costs rows basis u.common u.lows
at_basis top costs rows basis table u = record {
  high_count = u.high_count;
  counts = u.counts;
  count = u.count;
  members = u.members;
  positive = u.positive;
  long = u.long;
  mixtures = u.mixtures;
  own = u.own;
  elsewhere = u.elsewhere;
  lead = u.lead;
}

-- with lines it is a table's
abbrev pub unboxed_of : (top D : ℕ) (costs : CostBox) (rows : List Form) (basis : List Member) (lows : List (List ℤ))
    (table : List (List Fraction)) → AreAtBasis costs rows basis D lows →
    AllZip (IsTableLine top D costs rows lows) (members_of_box costs (length rows)) table → IsUnboxed top costs rows basis table
unboxed_of top D costs rows basis lows table b lines = record {
  high_count = b.high_count;
  counts = b.counts;
  count = b.count;
  members = b.members;
  common = D;
  positive = b.positive;
  lows = lows;
  long = b.long;
  mixtures = b.mixtures;
  own = b.own;
  elsewhere = b.elsewhere;
  lead = b.lead;
  lines = lines;
}

-- numbers that are all multiplied by g
abbrev pub scaled_by : ℕ → List ℤ → List ℤ
scaled_by g ms = map (λ z. z *ℤ pos g) ms

long_down : (n g : ℕ) (lows : List (List ℤ)) → AllLong n (map (scaled_by g) lows) → AllLong n lows
long_down n g [] long = tt
long_down n g (ts ∷ lows) long = (sym (length-map ts (λ z. z *ℤ pos g)) ∙ long.0, long_down n g lows long.1)

pub number_scaled : (g : ℕ) (ts : List ℤ) (place : ℕ) → number_at (scaled_by g ts) place ≡ (number_at ts place *ℤ pos g)
number_scaled g [] place = ring (pos g ∷ []) (num (pos 0)) (num (pos 0) ⊗ var 0) refl
number_scaled g (t ∷ ts) zero = refl
number_scaled g (t ∷ ts) (suc place) = number_scaled g ts place

lows_up : (g : ℕ) (cs : List ℤ) (lows : List (List ℤ)) (place : ℕ) → from_lows cs (map (scaled_by g) lows) place ≡ (from_lows cs lows place *ℤ pos g)
lows_up g [] lows place = ring (pos g ∷ []) (num (pos 0)) (num (pos 0) ⊗ var 0) refl
lows_up g (c ∷ cs) [] place = ring (pos g ∷ []) (num (pos 0)) (num (pos 0) ⊗ var 0) refl
lows_up g (c ∷ cs) (ts ∷ lows) place =
    ap (λ z. (c *ℤ z) +ℤ from_lows cs (map (scaled_by g) lows) place) (number_scaled g ts place)
    ∙ ap (λ z. (c *ℤ (number_at ts place *ℤ pos g)) +ℤ z) (lows_up g cs lows place)
    ∙ ring (c ∷ number_at ts place ∷ pos g ∷ from_lows cs lows place ∷ []) (var 0 ⊗ (var 1 ⊗ var 2) ⊕ var 3 ⊗ var 2) ((var 0 ⊗ var 1 ⊕ var 3) ⊗ var 2) refl

-- the numbers of any form are multiplied, too
pub number_up : (D g : ℕ) (low : List ℕ) (lows : List (List ℤ)) (f : Form) (place : ℕ) →
    number_of_form (D * g) low (map (scaled_by g) lows) f place ≡ (number_of_form D low lows f place *ℤ pos g)
number_up D g low lows f zero =
    ap (λ z. (pos (D * g) *ℤ value_for_costs f low) +ℤ z) (lows_up g f.coefficients lows 0)
    ∙ ring (pos D ∷ pos g ∷ value_for_costs f low ∷ from_lows f.coefficients lows 0 ∷ []) ((var 0 ⊗ var 1) ⊗ var 2 ⊕ var 3 ⊗ var 1)
    ((var 0 ⊗ var 2 ⊕ var 3) ⊗ var 1) refl
number_up D g low lows f (suc k) = lows_up g f.coefficients lows (suc k)

mixture_up : (g : ℕ) (ms : List ℤ) (fs : List Form) (i : ℕ) → mixture (scaled_by g ms) fs i ≡ (mixture ms fs i *ℤ pos g)
mixture_up g [] fs i = ring (pos g ∷ []) (num (pos 0)) (num (pos 0) ⊗ var 0) refl
mixture_up g (m ∷ ms) [] i = ring (pos g ∷ []) (num (pos 0)) (num (pos 0) ⊗ var 0) refl
mixture_up g (m ∷ ms) (f ∷ fs) i =
    ap (λ z. ((m *ℤ pos g) *ℤ coordinate f i) +ℤ z) (mixture_up g ms fs i)
    ∙ ring (m ∷ pos g ∷ coordinate f i ∷ mixture ms fs i ∷ []) ((var 0 ⊗ var 1) ⊗ var 2 ⊕ var 3 ⊗ var 1) ((var 0 ⊗ var 2 ⊕ var 3) ⊗ var 1) refl

mixtures_down : (D g : ℕ) (bs gs : List Form) (lows : List (List ℤ)) → 0 < g → AreMixtures (D * g) bs gs (map (scaled_by g) lows) → AreMixtures D bs gs lows
mixtures_down D g bs [] [] g_positive are = tt
mixtures_down D g bs [] (ts ∷ lows) g_positive are = absurd are
mixtures_down D g bs (f ∷ gs) [] g_positive are = absurd are
mixtures_down D g bs (f ∷ gs) (ts ∷ lows) g_positive are = (
  λ i. cancel g _ _ g_positive
      (ring (pos D ∷ coordinate f i ∷ pos g ∷ []) ((var 0 ⊗ var 1) ⊗ var 2) ((var 0 ⊗ var 2) ⊗ var 1) refl
      ∙ are.0 i
      ∙ mixture_up g ts (one_form ∷ bs) i),
  mixtures_down D g bs gs lows g_positive are.1,
)

not_negative : (m : ℕ) (zs : List ℤ) → 0 < m → LeadsPositive (neg_ℤ (pos m) ∷ zs) → ⊥
not_negative zero zs m_positive leads = absurd (omega arith)
not_negative (suc m) zs m_positive leads = leads

pub lead_less : (g : ℕ) (z : ℤ) (zs ms : List ℤ) → 0 < g → (LeadsPositive zs → LeadsPositive ms) → LeadsPositive ((z *ℤ pos g) ∷ zs) → LeadsPositive (z ∷ ms)
lead_less (suc g) (pos zero) zs ms g_positive rest leads =
    rest (subst (λ (m : ℕ). LeadsPositive (pos m ∷ zs)) (zero-mul (suc g)) leads)
lead_less (suc g) (pos (suc n)) zs ms g_positive rest leads = tt
lead_less (suc g) (negsuc n) zs ms g_positive rest leads =
    let product : 0 < suc n * suc g = grind arith in
    not_negative (suc n * suc g) zs product leads
lead_less zero z zs ms g_positive rest leads = absurd (omega arith)

lead_down : (g place : ℕ) (lows : List (List ℤ)) → 0 < g →
    LeadsPositive (map (λ ts. number_at ts place) (map (scaled_by g) lows)) →
    LeadsPositive (map (λ ts. number_at ts place) lows)
lead_down g place [] g_positive leads = leads
lead_down g place (ts ∷ lows) g_positive leads =
    lead_less g (number_at ts place) (map (λ us. number_at us place) (map (scaled_by g) lows))
    (map (λ us. number_at us place) lows) g_positive (lead_down g place lows g_positive)
    (subst (λ (z : ℤ). LeadsPositive (z ∷ map (λ us. number_at us place) (map (scaled_by g) lows))) (number_scaled g ts place) leads)

-- numbers and denominator over a common factor
pub scaled_down : (costs : CostBox) (rows : List Form) (basis : List Member) (D g : ℕ) (lows : List (List ℤ)) → 0 < D →
    0 < g → AreAtBasis costs rows basis (D * g) (map (map (λ z. z *ℤ pos g)) lows) → AreAtBasis costs rows basis D lows
scaled_down costs rows basis D g lows D_positive g_positive b = record {
  high_count = b.high_count;
  counts = b.counts;
  count = b.count;
  members = b.members;
  positive = D_positive;
  long = long_down (suc (length costs.low)) g lows b.long;
  mixtures = mixtures_down D g (forms_of costs rows basis) (low_forms (length costs.low) 0 costs.low) lows g_positive b.mixtures;
  own = λ k k_in. cancel g _ _ g_positive (sym (number_up D g costs.low lows (slice_index_or (forms_of costs rows basis) k no_form) (suc k)) ∙ b.own k k_in);
  elsewhere = λ k place k_in place_in other.
      cancel g _ _ g_positive (sym
      (number_up D g costs.low lows (slice_index_or (forms_of costs rows basis) k no_form) place)
      ∙ b.elsewhere k place k_in place_in other ∙ none g);
  lead = λ k k_in. lead_down g (suc k) lows g_positive (b.lead k k_in);
}
  where
    none : (n : ℕ) → pos 0 ≡ (pos 0 *ℤ pos n)
    none n = ring (pos n ∷ []) (num (pos 0)) (num (pos 0) ⊗ var 0) refl

long_up : (n g : ℕ) (lows : List (List ℤ)) → AllLong n lows → AllLong n (map (scaled_by g) lows)
long_up n g [] long = tt
long_up n g (ts ∷ lows) long = (length-map ts (λ z. z *ℤ pos g) ∙ long.0, long_up n g lows long.1)

mixtures_up : (D g : ℕ) (bs gs : List Form) (lows : List (List ℤ)) → AreMixtures D bs gs lows → AreMixtures (D * g) bs gs (map (scaled_by g) lows)
mixtures_up D g bs [] [] are = tt
mixtures_up D g bs [] (ts ∷ lows) are = absurd are
mixtures_up D g bs (f ∷ gs) [] are = absurd are
mixtures_up D g bs (f ∷ gs) (ts ∷ lows) are = (
  λ i.
      ring (pos D ∷ coordinate f i ∷ pos g ∷ []) ((var 0 ⊗ var 2) ⊗ var 1) ((var 0 ⊗ var 1) ⊗ var 2) refl
      ∙ ap (λ z. z *ℤ pos g) (are.0 i)
      ∙ sym (mixture_up g ts (one_form ∷ bs) i),
  mixtures_up D g bs gs lows are.1,
)

positive_leads : (m : ℕ) (zs : List ℤ) → 0 < m → LeadsPositive (pos m ∷ zs)
positive_leads zero zs m_positive = absurd (omega arith)
positive_leads (suc m) zs m_positive = tt

lead_more : (g : ℕ) (z : ℤ) (zs ms : List ℤ) → 0 < g → (LeadsPositive zs → LeadsPositive ms) → LeadsPositive (z ∷ zs) → LeadsPositive ((z *ℤ pos g) ∷ ms)
lead_more (suc g) (pos zero) zs ms g_positive rest leads =
    subst (λ (m : ℕ). LeadsPositive (pos m ∷ ms)) (sym (zero-mul (suc g))) (rest leads)
lead_more (suc g) (pos (suc n)) zs ms g_positive rest leads =
    let product : 0 < suc n * suc g = grind arith in positive_leads (suc n * suc g) ms product
lead_more (suc g) (negsuc n) zs ms g_positive rest leads = absurd leads
lead_more zero z zs ms g_positive rest leads = absurd (omega arith)

lead_up : (g place : ℕ) (lows : List (List ℤ)) → 0 < g →
    LeadsPositive (map (λ ts. number_at ts place) lows) →
    LeadsPositive (map (λ ts. number_at ts place) (map (scaled_by g) lows))
lead_up g place [] g_positive leads = leads
lead_up g place (ts ∷ lows) g_positive leads =
    subst (λ (z : ℤ). LeadsPositive (z ∷ map (λ us. number_at us place) (map (scaled_by g) lows))) (sym (number_scaled g ts place))
    (lead_more g (number_at ts place) (map (λ us. number_at us place) lows)
    (map (λ us. number_at us place) (map (scaled_by g) lows)) g_positive (lead_up g place lows g_positive) leads)

-- numbers and denominator times a common factor
pub scaled_up : (costs : CostBox) (rows : List Form) (basis : List Member) (D g : ℕ) (lows : List (List ℤ)) →
    0 < g → AreAtBasis costs rows basis D lows → AreAtBasis costs rows basis (D * g) (map (scaled_by g) lows)
scaled_up costs rows basis D g lows g_positive b = record {
  high_count = b.high_count;
  counts = b.counts;
  count = b.count;
  members = b.members;
  positive = grind (arith, b.positive, g_positive);
  long = long_up (suc (length costs.low)) g lows b.long;
  mixtures = mixtures_up D g (forms_of costs rows basis) (low_forms (length costs.low) 0 costs.low) lows b.mixtures;
  own = λ k k_in. number_up D g costs.low lows (slice_index_or (forms_of costs rows basis) k no_form) (suc k) ∙ ap (λ z. z *ℤ pos g) (b.own k k_in);
  elsewhere = λ k place k_in place_in other.
      number_up D g costs.low lows (slice_index_or (forms_of costs rows basis) k no_form) place
      ∙ ap (λ z. z *ℤ pos g) (b.elsewhere k place k_in place_in other)
      ∙ ring (pos g ∷ []) (num (pos 0) ⊗ var 0) (num (pos 0)) refl;
  lead = λ k k_in. lead_up g (suc k) lows g_positive (b.lead k k_in);
}

-- the numbers over another denominator that stand for the same
pub crossed_basis : (costs : CostBox) (rows : List Form) (basis : List Member) (D E : ℕ) (lows news : List (List ℤ)) →
    0 < E → map (scaled_by D) news ≡ map (scaled_by E) lows → AreAtBasis costs rows basis D lows → AreAtBasis costs rows basis E news
crossed_basis costs rows basis D E lows news E_positive same b =
    scaled_down costs rows basis E D news E_positive b.positive
    (subst (λ (m : ℕ). AreAtBasis costs rows basis m (map (scaled_by D) news)) (mul_comm D E)
    (subst (AreAtBasis costs rows basis (D * E)) (sym same) (scaled_up costs rows basis D E lows E_positive b)))

-- the lines of a table that is stated are those of the kernel
pub stated_lines : (k : Kernel) → IsShaped k → (stated k).lines.items ≡ kernel_lines k
stated_lines k s =
    with_items_is k.table.lines (kernel_lines k)
    (length-map (members_of_box k.table.costs (length k.table.rows.items)) (fraction_line (nat_abs k.common) k.table.costs k.table.rows.items (lows_of k))
    ∙ sym s.constants
    ∙ sym s.lines
    ∙ sym k.table.lines.ok.0)

-- the constants that a kernel holds are those of its forms
abbrev pub ConstantsAre : Kernel → Type 0
ConstantsAre k = AreConstants k.table.costs k.table.rows.items (nat_abs k.common) (lows_of k) k.constants.items

-- the basis of a kernel, and a kernel of a basis
pub kernel_basis : (k : Kernel) → IsKernel k → AreAtBasis k.table.costs k.table.rows.items k.table.basis.items (nat_abs k.common) (lows_of k) × ConstantsAre k
kernel_basis k m =
    let u = m.tableau.unboxed in
    let common : u.common ≡ nat_abs k.common = ap nat_abs m.numbers.common in
    let a = at_basis k.table.top k.table.costs k.table.rows.items k.table.basis.items (stated k).lines.items u in
    let b = subst (λ (D : ℕ). AreAtBasis k.table.costs k.table.rows.items k.table.basis.items D u.lows) common a in (
      subst (AreAtBasis k.table.costs k.table.rows.items k.table.basis.items (nat_abs k.common)) m.numbers.lows b,
      λ place place_in.
          m.numbers.constants place place_in
          ∙ ap (λ D. number_of_form D k.table.costs.low u.lows (form_of_place k place) 0) common
          ∙ ap (λ lows. number_of_form (nat_abs k.common) k.table.costs.low lows (form_of_place k place) 0) m.numbers.lows,
    )

-- a kernel may move
pub kernel_moves : (k : Kernel) → IsKernel k → IsMoving k
kernel_moves k m = record { shaped = m.shaped; bounded = m.bounded; basis = (kernel_basis k m).0 }

-- no number of a place's form is greater than 2^76
number_small : (k : Kernel) (s : IsShaped k) (b : IsBounded k) (c : ConstantsAre k) (line : ℕ) →
    line < length k.constants.items → (place : ℕ) →
    nat_abs (number_of_form (nat_abs k.common) k.table.costs.low (lows_of k) (form_of_place k line) place) ≤ 2 ^ 76
number_small k s b c line line_in zero =
    let small : nat_abs (number_at k.constants.items line) ≤ 2 ^ 62 = number_within (2 ^ 62) k.constants.items line b.constants in
    subst (λ (z : ℤ). nat_abs z ≤ 2 ^ 76) (c line line_in) (omega (arith, small))
number_small k s b c line line_in (suc column) =
    let small = place_number_within k s b line line_in column in
    subst (λ (z : ℤ). nat_abs z ≤ 2 ^ 76) (sym (column_number k (nat_abs k.common) k.table.costs.low (form_of_place k line) column)) small

-- the line of a place
pub line_is : (k : Kernel) → IsShaped k → IsBounded k → ConstantsAre k → (line : ℕ) → line < length k.constants.items →
    IsTableLine k.table.top (nat_abs k.common) k.table.costs k.table.rows.items (lows_of k) (member_at k.table line)
    (fraction_line (nat_abs k.common) k.table.costs k.table.rows.items (lows_of k) (member_at k.table line))
line_is k s b c line line_in =
    let D = nat_abs k.common in
    let positive : 0 < D = size_positive k.common b.positive in
    let small : D ≤ 2 ^ 30 = size_most k.common (2 ^ 30) b.positive b.common in
    let number = number_of_form D k.table.costs.low (lows_of k) (form_of_place k line) in
    let most : (place : ℕ) → nat_abs (number place) ≤ k.table.top = λ place. let n = number_small k s b c line line_in place in omega (arith, n, b.top) in
    record {
      numbers = over_numbers k.table.top D number 0 (suc (width_of k)) positive (omega (arith, small, b.top)) most;
      stand = over_stand D (map number (numbers_from 0 (suc (width_of k)))) positive;
    }

lines_are : (k : Kernel) → IsShaped k → IsBounded k → ConstantsAre k →
    AllZip (IsTableLine k.table.top (nat_abs k.common) k.table.costs k.table.rows.items (lows_of k))
    (members_of_box k.table.costs (length k.table.rows.items)) (kernel_lines k)
lines_are k s b c =
    let members = members_of_box k.table.costs (length k.table.rows.items) in
    let line_of = fraction_line (nat_abs k.common) k.table.costs k.table.rows.items (lows_of k) in
    zip_from (IsTableLine k.table.top (nat_abs k.common) k.table.costs k.table.rows.items (lows_of k)) members (kernel_lines k) (Low 0 0) []
    (sym (length-map members line_of))
    (λ line line_in. subst (IsTableLine k.table.top (nat_abs k.common) k.table.costs k.table.rows.items (lows_of k)
    (member_at k.table line)) (sym (get_or-map line_of members line (Low 0 0) [] line_in))
    (line_is k s b c line (subst (λ (n : ℕ). line < n) (sym s.constants) line_in)))

pub basis_kernel : (k : Kernel) → IsShaped k → IsBounded k → IsBox (width_of k) k.table.costs →
    All (FitsBox k.table.costs) k.table.rows.items →
    AreAtBasis k.table.costs k.table.rows.items k.table.basis.items (nat_abs k.common) (lows_of k) →
    ConstantsAre k → IsKernel k
basis_kernel k s b box fit a c =
    let D = nat_abs k.common in
    let lines = subst (AllZip (IsTableLine k.table.top D k.table.costs k.table.rows.items (lows_of k))
    (members_of_box k.table.costs (length k.table.rows.items))) (sym (stated_lines k s)) (lines_are k s b c) in
    record {
      shaped = s;
      bounded = b;
      tableau = record {
        box = box;
        fit = fit;
        unboxed = unboxed_of k.table.top D k.table.costs k.table.rows.items k.table.basis.items (lows_of k) (stated k).lines.items a lines;
      };
      numbers = record { common = pos_size k.common (omega (arith, ints, b.positive)); lows = refl; constants = c };
    }
