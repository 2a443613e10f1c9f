-- A whole table shows its basis, and the entries of each form of the box.
use Rattle.std.proofs.Common.{◌≡◌, ℕ, zero, suc, ◌+◌, ◌*◌, ◌<◌, ◌≤◌, refl, sym, ◌∙◌, ap, subst, List, [], ◌∷◌, ◌++◌, map, take, length, arith, zero-add}
use Rattle.std.specs.Prelude.{ℤ, pos, negsuc, ◌*ℤ◌, slice_index_or}
use Rattle.std.specs.List.{AllZip}
use Rattle.std.proofs.lemmas.Int.{ints}
use Rattle.std.proofs.lemmas.List.{get_or-take, get_or_append_left, length-map, length-take-le, length-append}
use Rattle.cost_base.specs.Lists.{numbers_from}
use Rattle.cost_base.proofs.ListLemmas.{length-map-numbers_from, get_or-map-numbers_from, length_zip}
use Rattle.whole_numbers.specs.Fractions.{Fraction, StandsFor}
use Rattle.whole_numbers.specs.Lists.{number_at}
use Rattle.design_problem.specs.declared.form.Form.{Form}
use Rattle.design_problem.specs.declared.boxes.CostBox.{CostBox}
use Rattle.design_problem.specs.declared.tree.Member.{Member}
use Rattle.design_problem.specs.declared.tree.Member.TheVariants.{Low, Row}
use Rattle.design_problem.specs.Basis.{HasEntries, IsBasis, IsFormOf, IsTable, LeadsPositive, column, entry, forms_of, low_member, member_form}
use Rattle.fraction_table.specs.ValidTables.{IsTableLine, IsTableauOf, high_member, low_forms, members_of_box}
use Rattle.fraction_lines.proofs.TableLineLaws.{number_at as number_there}
use Rattle.fraction_table.proofs.theory.Resolved.{are_entries, stand_length}
use Rattle.fraction_table.proofs.theory.Units.{long_at, low_numbers}
use Rattle.fraction_table.proofs.IntegralTurns.{coefficients_long, stand_at}
use Rattle.fraction_table.proofs.theory.Zips.{zip_at, zip_from}

-- a line has the entries of its form
pub line_entries : (top : ℕ) (costs : CostBox) (rows : List Form) (basis : List Member) (table : List (List Fraction))
    (w : IsTableauOf top costs rows basis table) (member : Member) (line : List Fraction) → IsFormOf costs rows member →
    IsTableLine top w.unboxed.common costs rows w.unboxed.lows member line → HasEntries costs rows basis member line
line_entries top costs rows basis table w member line is l =
    are_entries top w.unboxed.common costs.low w.unboxed.lows (forms_of costs rows basis) (member_form (length costs.low) rows member) line w.unboxed.positive
    (length-map basis (member_form (length costs.low) rows) ∙ w.unboxed.count)
    (coefficients_long costs rows member w.fit is) w.unboxed.long w.unboxed.mixtures l.numbers l.stand

-- a number that stands for another has its sign
lead_same : (z m : ℤ) (d D : ℕ) (zs ms : List ℤ) → 0 < d → 0 < D → (z *ℤ pos D) ≡ (m *ℤ pos d) →
    (LeadsPositive ms → LeadsPositive zs) → LeadsPositive (m ∷ ms) → LeadsPositive (z ∷ zs)
lead_same (pos zero) (pos zero) d D zs ms d_positive D_positive is rest leads = rest leads
lead_same (pos (suc n)) (pos zero) d D zs ms d_positive D_positive is rest leads = tt
lead_same (negsuc n) (pos zero) d D zs ms d_positive D_positive is rest leads =
    let product : 0 < suc n * D = grind arith in
    absurd (omega (arith, ints))
lead_same (pos zero) (pos (suc k)) d D zs ms d_positive D_positive is rest leads =
    let product : 0 < suc k * d = grind arith in
    absurd (omega (arith, ints))
lead_same (pos (suc n)) (pos (suc k)) d D zs ms d_positive D_positive is rest leads = tt
lead_same (negsuc n) (pos (suc k)) d D zs ms d_positive D_positive is rest leads =
    let product : 0 < suc k * d = grind arith in
    let other : 0 < suc n * D = grind arith in
    absurd (omega (arith, ints))
lead_same z (negsuc k) d D zs ms d_positive D_positive is rest leads = absurd leads

leads_stand : (D place : ℕ) (lines : List (List Fraction)) (lows : List (List ℤ)) → 0 < D →
    AllZip (λ line ts. (0 < (entry line place).denominator) × StandsFor (entry line place) (number_at ts place) D) lines
    lows → LeadsPositive (map (λ ts. number_at ts place) lows) → LeadsPositive (column lines place)
leads_stand D place [] [] D_positive stand leads = leads
leads_stand D place [] (ts ∷ lows) D_positive stand leads = absurd stand
leads_stand D place (line ∷ lines) [] D_positive stand leads = absurd stand
leads_stand D place (line ∷ lines) (ts ∷ lows) D_positive stand leads =
    lead_same (entry line place).numerator (number_at ts place) (entry line place).denominator D (column lines place)
    (map (λ us. number_at us place) lows) stand.0.0 D_positive stand.0.1
    (leads_stand D place lines lows D_positive stand.1) leads

pub low_forms_long : (n a : ℕ) (low : List ℕ) → length (low_forms n a low) ≡ length low
low_forms_long n a [] = refl
low_forms_long n a (l ∷ ls) = ap suc (low_forms_long n (a + 1) ls)

pub lows_counted : (top : ℕ) (costs : CostBox) (rows : List Form) (basis : List Member) (table : List (List Fraction))
    (w : IsTableauOf top costs rows basis table) → length costs.low ≡ length w.unboxed.lows
lows_counted top costs rows basis table w =
    sym (low_forms_long (length costs.low) 0 costs.low) ∙ length_zip _ (low_forms (length costs.low) 0 costs.low) w.unboxed.lows w.unboxed.mixtures

-- the members of a box begin with x - low for each variable
pub members_begin : (costs : CostBox) (rows v : ℕ) (d : Member) → v < length costs.low → slice_index_or (members_of_box costs rows) v d ≡ low_member costs v
members_begin costs rows v d v_in =
    let n = length costs.low in
    let lows = map (low_member costs) (numbers_from 0 n) in
    let highs = map (high_member costs) (numbers_from 0 n) in
    let counted : length lows ≡ n = length-map-numbers_from (low_member costs) 0 n in
    get_or_append_left (lows ++ highs) (map (λ row. Row row) (numbers_from 0 rows)) d v (omega (arith, length-append lows highs, counted, v_in))
    ∙ get_or_append_left lows highs d v (omega (arith, counted, v_in))
    ∙ get_or-map-numbers_from (low_member costs) 0 n v d v_in
    ∙ ap (low_member costs) (zero-add v)

members_many : (costs : CostBox) (rows : ℕ) → length costs.low ≤ length (members_of_box costs rows)
members_many costs rows =
    let n = length costs.low in
    let lows = map (low_member costs) (numbers_from 0 n) in
    let highs = map (high_member costs) (numbers_from 0 n) in
    let others = map (λ row. Row row) (numbers_from 0 rows) in
    omega (arith, length-append (lows ++ highs) others, length-append lows highs, length-map-numbers_from (low_member costs) 0 n)

-- the line of x - low
pub low_line : (top : ℕ) (costs : CostBox) (rows : List Form) (basis : List Member) (table : List (List Fraction))
    (w : IsTableauOf top costs rows basis table) (v : ℕ) → v < length costs.low →
    IsTableLine top w.unboxed.common costs rows w.unboxed.lows (low_member costs v) (slice_index_or table v [])
low_line top costs rows basis table w v v_in =
    subst (λ (m : Member). IsTableLine top w.unboxed.common costs rows w.unboxed.lows m (slice_index_or table v []))
    (members_begin costs (length rows) v (Low 0 0) v_in)
    (zip_at (IsTableLine top w.unboxed.common costs rows w.unboxed.lows) (members_of_box costs (length rows)) table v
    (Low 0 0) [] w.unboxed.lines (omega (arith, members_many costs (length rows), v_in)))

-- its fractions stand for the numbers of the line of its variable
pub low_line_stands : (top : ℕ) (costs : CostBox) (rows : List Form) (basis : List Member)
    (table : List (List Fraction)) (w : IsTableauOf top costs rows basis table) (v place : ℕ) → v < length costs.low →
    place < suc (length costs.low) → (0 < (entry (slice_index_or table v []) place).denominator)
    × StandsFor (entry (slice_index_or table v []) place) (number_at (slice_index_or w.unboxed.lows v []) place)
    w.unboxed.common
low_line_stands top costs rows basis table w v place v_in place_in =
    let line = slice_index_or table v [] in
    let ts = slice_index_or w.unboxed.lows v [] in
    let l = low_line top costs rows basis table w v v_in in
    let counted = lows_counted top costs rows basis table w in
    let long : length ts ≡ suc (length costs.low) = long_at (suc (length costs.low)) w.unboxed.lows v w.unboxed.long (omega (arith, counted, v_in)) in
    let stand = subst (λ (ms : List ℤ). AllZip (λ q m. StandsFor q m w.unboxed.common) line ms)
    (low_numbers w.unboxed.common costs.low w.unboxed.lows rows v counted w.unboxed.long v_in) l.stand in
    let here = number_there top line place l.numbers (omega (arith, stand_length w.unboxed.common line ts stand, long, place_in)) in
    (here.lowest.positive, stand_at w.unboxed.common line ts place stand (omega (arith, long, place_in)))

-- it has a line for each variable at least
pub table_long : (top : ℕ) (costs : CostBox) (rows : List Form) (basis : List Member) (table : List (List Fraction))
    (w : IsTableauOf top costs rows basis table) → length costs.low ≤ length table
table_long top costs rows basis table w =
    omega (
      arith,
      members_many costs (length rows),
      length_zip (IsTableLine top w.unboxed.common costs rows w.unboxed.lows) (members_of_box costs (length rows)) table
          w.unboxed.lines,
    )

-- the first lines are the entries of x - low for each variable
pub whole_table : (top : ℕ) (costs : CostBox) (rows : List Form) (basis : List Member) (table : List (List Fraction)) →
    IsTableauOf top costs rows basis table → IsTable costs rows basis (take (length costs.low) table)
whole_table top costs rows basis table w =
    let n = length costs.low in
    let counted = lows_counted top costs rows basis table w in
    let taken : length (take n table) ≡ n = length-take-le n table (table_long top costs rows basis table w) in
    let lead : (k : ℕ) → k < length basis → LeadsPositive (column (take n table) (suc k)) =
    λ k k_in. (
    leads_stand w.unboxed.common (suc k) (take n table) w.unboxed.lows w.unboxed.positive
    (zip_from (λ line ts. (0 < (entry line (suc k)).denominator)
    × StandsFor (entry line (suc k)) (number_at ts (suc k)) w.unboxed.common) (take n table) w.unboxed.lows []
    [] (taken ∙ counted)
    (λ v v_in. subst (λ (line : List Fraction). (0 < (entry line (suc k)).denominator)
    × StandsFor (entry line (suc k)) (number_at (slice_index_or w.unboxed.lows v []) (suc k)) w.unboxed.common)
    (sym (get_or-take n table v [] (omega (arith, taken, v_in))))
    (low_line_stands top costs rows basis table w v (suc k) (omega (arith, taken, v_in)) (omega (arith, k_in, w.unboxed.count)))))
    (w.unboxed.lead k (omega (arith, k_in, w.unboxed.count)))
    ) in
    record {
      count = w.unboxed.count;
      members = w.unboxed.members;
      lows_count = taken;
      entries = λ v v_in.
          subst (HasEntries costs rows basis (low_member costs v)) (sym (get_or-take n table v [] v_in))
          (line_entries top costs rows basis table w (low_member costs v) (slice_index_or table v []) (v_in, refl)
          (low_line top costs rows basis table w v v_in));
      lead = lead;
    }

pub whole_basis : (top : ℕ) (costs : CostBox) (rows : List Form) (basis : List Member) (table : List (List Fraction)) →
    IsTableauOf top costs rows basis table → IsBasis costs rows basis
whole_basis top costs rows basis table w =
    (take (length costs.low) table, whole_table top costs rows basis table w)
