-- The multipliers of a line, column by column: their rows, their sizes, and what they are made to.
use Rattle.std.proofs.Common.{◌≡◌, ℕ, zero, suc, ◌+◌, ◌*◌, ◌/◌, ◌<◌, refl, sym, ◌∙◌, ap, subst, List, [], ◌∷◌, ◌++◌, map, length, take, drop, arith}
use Rattle.std.specs.Prelude.{ℤ, pos, negsuc, ◌*ℤ◌, neg_ℤ, nat_abs, ◌<ℤ◌, ◌≤ℤ◌, fold, slice_index_or, All}
use Rattle.std.specs.List.{AllByRecursion}
use Rattle.std.proofs.lemmas.Int.{ints}
use Rattle.std.proofs.lemmas.List.{append-nil, append_assoc, map-append}
use Prim.Native.Nat.{◌∣◌}
use native.Mathlib.Nat.{dvd_trans, mul_comm, div-mul_cancel, div-one, dvd_refl, one-dvd}
use Rattle.cost_base.proofs.ListLemmas.{each_append, each_left, each_right, each_weaker}
use Rattle.whole_numbers.specs.Fractions.{Fraction, IsLowest, StandsFor, gcd, lcm, negated, times, whole}
use Rattle.whole_numbers.proofs.Ring.{var, num, ◌⊗◌, neg, ring, ring_by, nothing as no_more, using}
use Rattle.whole_numbers.proofs.Divisors.{gcd-one, quotient_positive}
use Rattle.whole_numbers.proofs.FractionLaws.{stands_less, times_stands}
use Rattle.whole_numbers.proofs.Multiples.{left_divides_lcm, right_divides_lcm, lcm_positive, stands_over}
use Rattle.whole_numbers.proofs.Sizes.{negated_size}
use Rattle.whole_numbers.proofs.Sums.{lowest_unique}
use Rattle.wide_fraction.specs.Widths.{IsWithin}
use Rattle.wide_fraction.proofs.Quotients.{zero_stands}
use Rattle.design_problem.specs.declared.form.Form.{Form}
use Rattle.design_problem.specs.declared.boxes.CostBox.{CostBox}
use Rattle.design_problem.specs.declared.tree.Member.{Member}
use Rattle.design_problem.specs.declared.tree.Member.TheVariants.{Low, High, Row}
use Rattle.design_problem.specs.Basis.{IsFormOf, entry}
use Rattle.design_problem.specs.Steps.{column_part, column_parts, denominators, made_whole, refuting_multipliers, own_multiplier, unless_zero}
use Rattle.fraction_lines.specs.Entries.{AllNumbers}
use Rattle.fraction_lines.specs.TableLines.{AreTableNumbers, IsTableNumber}
use Rattle.fraction_table.specs.ValidTables.{Stand}
use Rattle.fraction_table.specs.Multipliers.{IsMultiplier, columns_numbered, common_of, fractions, fractions_of, numbered, whole_multiplier, whole_multipliers, wholes}
use Rattle.fraction_lines.proofs.ZeroFractions.{times_lowest}
use Rattle.fraction_table.proofs.Solutions.{low_number}
use Rattle.fraction_table.proofs.MultiplierSums.{AreMade, IsEntry}

-- without the rows' numbers they are the multipliers
own_fractions : (r : Member) → fractions (numbered r (whole (pos 1) ∷ [])) ≡ own_multiplier r
own_fractions (Low v bound) = refl
own_fractions (High v bound) = refl
own_fractions (Row row) = refl

row_fractions : (row : ℕ) (qs : List Fraction) → fractions (numbered (Row row) qs) ≡ qs
row_fractions row [] = refl
row_fractions row (q ∷ qs) = ap (λ ps. q ∷ ps) (row_fractions row qs)

column_fractions : (member : Member) (q : Fraction) → fractions (numbered member (unless_zero q.numerator q)) ≡ column_part member q
column_fractions (Low v bound) q = refl
column_fractions (High v bound) q = refl
column_fractions (Row row) q = row_fractions row (unless_zero q.numerator q)

columns_fractions : (members : List Member) (qs : List Fraction) → fractions (columns_numbered members qs) ≡ column_parts members qs
columns_fractions [] qs = refl
columns_fractions (member ∷ members) [] = refl
columns_fractions (member ∷ members) (q ∷ qs) =
    map-append (λ (part : ℕ × Fraction). part.1) (numbered member (unless_zero q.numerator q)) (columns_numbered members qs)
    ∙ ap (λ ps. ps ++ fractions (columns_numbered members qs)) (column_fractions member q)
    ∙ ap (λ ps. column_part member q ++ ps) (columns_fractions members qs)

pub fractions_are : (basis : List Member) (r : Member) (es : List Fraction) → fractions (fractions_of basis r es) ≡ refuting_multipliers basis r es
fractions_are basis r es =
    map-append (λ (part : ℕ × Fraction). part.1) (numbered r (whole (pos 1) ∷ [])) (columns_numbered basis (drop 1 es))
    ∙ ap (λ ps. ps ++ fractions (columns_numbered basis (drop 1 es))) (own_fractions r)
    ∙ ap (λ ps. own_multiplier r ++ ps) (columns_fractions basis (drop 1 es))

-- with one more column
pub columns_next : (members : List Member) (qs : List Fraction) (k : ℕ) (d : Member) → k < length members →
    k < length qs → columns_numbered (take (suc k) members) qs ≡ columns_numbered (take k members) qs
    ++ numbered (slice_index_or members k d) (unless_zero (entry qs k).numerator (entry qs k))
columns_next [] qs k d k_in k_there = absurd (omega arith)
columns_next (member ∷ members) [] k d k_in k_there = absurd (omega arith)
columns_next (member ∷ members) (q ∷ qs) zero d k_in k_there = append-nil (numbered member (unless_zero q.numerator q))
columns_next (member ∷ members) (q ∷ qs) (suc k) d k_in k_there =
    let first = numbered member (unless_zero q.numerator q) in
    ap (λ ps. first ++ ps) (columns_next members qs k d (omega arith) (omega arith))
    ∙ sym (append_assoc first (columns_numbered (take k members) qs) (numbered (slice_index_or members k d) (unless_zero (entry qs k).numerator (entry qs k))))

pub dropped_entry : (es : List Fraction) (k : ℕ) → entry (drop 1 es) k ≡ entry es (suc k)
dropped_entry [] k = refl
dropped_entry (e ∷ es) k = refl

-- the multipliers of a line, with one more column
pub fractions_next : (basis : List Member) (r : Member) (es : List Fraction) (k n : ℕ) (member : Member) (q : Fraction)
    (olds news : List (ℕ × Fraction)) → k < length basis → k < n → length es ≡ suc n →
    olds ≡ numbered r (whole (pos 1) ∷ []) ++ columns_numbered (take k basis) (drop 1 es) →
    member ≡ slice_index_or basis k member → q ≡ entry es (suc k) →
    news ≡ olds ++ numbered member (unless_zero q.numerator q) →
    news ≡ numbered r (whole (pos 1) ∷ []) ++ columns_numbered (take (k + 1) basis) (drop 1 es)
fractions_next basis r es k n member q olds news k_in k_there long olds_are member_is q_is news_are =
    let own = numbered r (whole (pos 1) ∷ []) in
    let before = columns_numbered (take k basis) (drop 1 es) in
    let here : q ≡ entry (drop 1 es) k = q_is ∙ sym (dropped_entry es k) in
    news_are
    ∙ ap (λ (ps : List (ℕ × Fraction)). ps ++ numbered member (unless_zero q.numerator q)) olds_are
    ∙ append_assoc own before (numbered member (unless_zero q.numerator q))
    ∙ ap (λ (m : Member). own ++ (before ++ numbered m (unless_zero q.numerator q))) member_is
    ∙ ap (λ (p : Fraction). own ++ (before ++ numbered (slice_index_or basis k member) (unless_zero p.numerator p))) here
    ∙ ap (λ (ps : List (ℕ × Fraction)). own ++ ps) (sym (columns_next basis (drop 1 es) k member k_in (dropped_long es k n k_there long)))
    ∙ ap (λ (m : ℕ). own ++ columns_numbered (take m basis) (drop 1 es)) (one_more k)
  where
    dropped_long : (qs : List Fraction) (j m : ℕ) → j < m → length qs ≡ suc m → j < length (drop 1 qs)
    dropped_long [] j m j_in counted = absurd (omega arith)
    dropped_long (p ∷ qs) j m j_in counted = omega arith

    one_more : (j : ℕ) → suc j ≡ j + 1
    one_more j = omega arith

pub one_number : (top : ℕ) → IsWithin top (whole (pos 1)) → IsTableNumber top (whole (pos 1))
one_number top within = record { lowest = record { positive = omega arith; lowest = gcd-one 1 }; within = within }

negated_number : (top : ℕ) (q : Fraction) → IsTableNumber top q → IsTableNumber top (negated q)
negated_number top q is =
    record {
      lowest = record { positive = is.lowest.positive; lowest = ap (λ n. gcd n q.denominator) (negated_size q.numerator) ∙ is.lowest.lowest };
      within = record { numerator = omega (arith, negated_size q.numerator, is.within.numerator); denominator = is.within.denominator };
    }

column_is : (top count row : ℕ) (z : ℤ) (q : Fraction) → z ≡ q.numerator → row < count → IsTableNumber top q →
    q.numerator ≤ℤ pos 0 → AllByRecursion (IsMultiplier top count) (numbered (Row row) (unless_zero z q))
column_is top count row (pos zero) q z_is row_in is low = tt
column_is top count row (pos (suc n)) q z_is row_in is low = absurd (omega (arith, ints))
column_is top count row (negsuc n) q z_is row_in is low =
    (record { row = row_in; number = negated_number top q is; positive = subst (λ (z : ℤ). pos 0 <ℤ neg_ℤ z) z_is (omega (arith, ints)) }, tt)

numbered_are : (top : ℕ) (costs : CostBox) (rows : List Form) (member : Member) (q : Fraction) →
    IsFormOf costs rows member → IsTableNumber top q → q.numerator ≤ℤ pos 0 →
    AllByRecursion (IsMultiplier top (length rows)) (numbered member (unless_zero q.numerator q))
numbered_are top costs rows (Low v bound) q is number low = tt
numbered_are top costs rows (High v bound) q is number low = tt
numbered_are top costs rows (Row row) q is number low = column_is top (length rows) row q.numerator q refl is number low

abbrev pub AreLow : List Fraction → Type 0
AreLow qs = AllByRecursion (λ q. q.numerator ≤ℤ pos 0) qs

pub columns_are : (top : ℕ) (costs : CostBox) (rows : List Form) (members : List Member) (qs : List Fraction) →
    All (IsFormOf costs rows) members → AreTableNumbers top qs → AreLow qs →
    AllByRecursion (IsMultiplier top (length rows)) (columns_numbered members qs)
columns_are top costs rows [] qs forms numbers low = tt
columns_are top costs rows (member ∷ members) [] forms numbers low = tt
columns_are top costs rows (member ∷ members) (q ∷ qs) forms numbers low =
    each_append (IsMultiplier top (length rows)) (numbered member (unless_zero q.numerator q)) (columns_numbered members qs)
    (numbered_are top costs rows member q (forms 0 member (omega arith)) numbers.0 low.0)
    (columns_are top costs rows members qs (λ k d k_in. forms (suc k) d (omega arith)) numbers.1 low.1)

pub own_is : (top : ℕ) (costs : CostBox) (rows : List Form) (r : Member) → IsFormOf costs rows r →
    IsTableNumber top (whole (pos 1)) → AllByRecursion (IsMultiplier top (length rows)) (numbered r (whole (pos 1) ∷ []))
own_is top costs rows (Low v bound) is one = tt
own_is top costs rows (High v bound) is one = tt
own_is top costs rows (Row row) is one = (record { row = is; number = one; positive = omega (arith, ints) }, tt)

pub numbers_of_parts : (top count : ℕ) (parts : List (ℕ × Fraction)) → AllByRecursion (IsMultiplier top count) parts → AllNumbers top parts
numbers_of_parts top count [] are = tt
numbers_of_parts top count (part ∷ parts) are = (are.0.number, numbers_of_parts top count parts are.1)

-- each denominator divides the common multiple
pub fold_divides : (a : ℕ) (ds : List ℕ) → a ∣ fold lcm a ds
fold_divides a [] = dvd_refl a
fold_divides a (d ∷ ds) = dvd_trans a (left_divides_lcm a d) (fold_divides (lcm a d) ds)

folded_divide : (a : ℕ) (parts : List (ℕ × Fraction)) → AllByRecursion (λ part. part.1.denominator ∣ fold lcm a (denominators (fractions parts))) parts
folded_divide a [] = tt
folded_divide a (part ∷ parts) =
    let rest = denominators (fractions parts) in (
      dvd_trans part.1.denominator (right_divides_lcm a part.1.denominator)
          (fold_divides (lcm a part.1.denominator) rest),
      folded_divide (lcm a part.1.denominator) parts,
    )

pub common_divides : (parts : List (ℕ × Fraction)) → AllByRecursion (λ part. part.1.denominator ∣ common_of parts) parts
common_divides parts = folded_divide 1 parts

fold_positive : (a : ℕ) (parts : List (ℕ × Fraction)) → 0 < a → AllByRecursion (λ part. 0 < part.1.denominator) parts →
    0 < fold lcm a (denominators (fractions parts))
fold_positive a [] positive all = positive
fold_positive a (part ∷ parts) positive all = fold_positive (lcm a part.1.denominator) parts (lcm_positive a part.1.denominator positive all.0) all.1

pub common_positive : (top count : ℕ) (parts : List (ℕ × Fraction)) → AllByRecursion (IsMultiplier top count) parts → 0 < common_of parts
common_positive top count parts are =
    fold_positive 1 parts (omega arith) (each_weaker (IsMultiplier top count) (λ part. 0 < part.1.denominator) parts (λ part is. is.number.lowest.positive) are)

-- a fraction in lowest terms that stands for a whole number is that
pub whole_from : (t : Fraction) (n : ℤ) → IsLowest t → StandsFor t n 1 → t ≡ whole n
whole_from t n lowest stands = lowest_unique t (whole n) lowest (record { positive = omega arith; lowest = gcd-one (nat_abs n) }) stands

-- a fraction, times a multiple of its denominator, is whole
pub whole_times : (q : Fraction) (L : ℕ) → 0 < q.denominator → 0 < L → q.denominator ∣ L →
    times q (whole (pos L)) ≡ whole (q.numerator *ℤ pos (L / q.denominator))
whole_times q L q_positive L_positive divides =
    let N = q.numerator *ℤ pos (L / q.denominator) in
    let t = times q (whole (pos L)) in
    let stands : StandsFor t (N *ℤ pos L) (L * 1) = times_stands q (whole (pos L)) N (pos L) L 1 q_positive (omega arith) (stands_over q L divides) refl in
    whole_from t N (times_lowest q (whole (pos L)) q_positive (omega arith))
    (stands_less t N 1 L L_positive (subst (λ (k : ℕ). StandsFor t (N *ℤ pos L) k) (mul_comm L 1) stands))

natural : (z : ℤ) → pos 0 <ℤ z → pos (nat_abs z) ≡ z
natural (pos n) positive = refl
natural (negsuc n) positive = absurd (omega (arith, ints))

product_high : (z : ℤ) (k : ℕ) → pos 0 <ℤ z → 0 < k → pos 0 <ℤ (z *ℤ pos k)
product_high (pos zero) k z_positive k_positive = absurd (omega (arith, ints))
product_high (pos (suc n)) (suc k) z_positive k_positive = omega (arith, ints)
product_high (pos (suc n)) zero z_positive k_positive = absurd (omega arith)
product_high (negsuc n) k z_positive k_positive = absurd (omega (arith, ints))

-- it is a positive natural number
pub made_natural : (q : Fraction) (L : ℕ) → 0 < q.denominator → 0 < L → q.denominator ∣ L → pos 0 <ℤ q.numerator →
    (times q (whole (pos L)) ≡ whole (pos (nat_abs (times q (whole (pos L))).numerator)))
    × (0 < nat_abs (times q (whole (pos L))).numerator)
    × (pos (nat_abs (times q (whole (pos L))).numerator) ≡ (q.numerator *ℤ pos (L / q.denominator)))
made_natural q L q_positive L_positive divides positive =
    let N = q.numerator *ℤ pos (L / q.denominator) in
    let is = whole_times q L q_positive L_positive divides in
    let high : pos 0 <ℤ N = product_high q.numerator (L / q.denominator) positive (quotient_positive L q.denominator L_positive divides) in
    let same : pos (nat_abs (times q (whole (pos L))).numerator) ≡ N = ap (λ (t : Fraction). pos (nat_abs t.numerator)) is ∙ natural N high in
    (is ∙ ap whole (sym same), natural_positive _ (subst (λ (z : ℤ). pos 0 <ℤ z) (sym same) high), same)
  where
    natural_positive : (n : ℕ) → pos 0 <ℤ pos n → 0 < n
    natural_positive n up = omega (arith, ints)

made_column : (D L K d : ℕ) (z m p : ℤ) → (z *ℤ pos D) ≡ (m *ℤ pos d) → K * d ≡ L → p ≡ (neg_ℤ z *ℤ pos K) → (pos D *ℤ p) ≡ neg_ℤ (m *ℤ pos L)
made_column D L K d z m p stands whole_is p_is =
    ap (λ (x : ℤ). pos D *ℤ x) p_is
    ∙ ring_by (pos D ∷ z ∷ m ∷ pos d ∷ pos K ∷ pos L ∷ []) (var 0 ⊗ (neg (var 1) ⊗ var 4)) (neg (var 2 ⊗ var 5))
    (using (neg (var 4)) (var 1 ⊗ var 0) (var 2 ⊗ var 3) stands (using (neg (var 2)) (var 4 ⊗ var 3) (var 5) (ap pos whole_is) no_more)) refl

-- a column's part, D-fold
row_made : (D L row : ℕ) (z : ℤ) (q : Fraction) (m : ℤ) → z ≡ q.numerator → 0 < q.denominator → 0 < L →
    q.numerator ≤ℤ pos 0 → StandsFor q m D →
    AllByRecursion (λ part. part.1.denominator ∣ L) (numbered (Row row) (unless_zero z q)) →
    AllByRecursion (λ part. (pos D *ℤ pos (whole_multiplier L part).1) ≡ neg_ℤ (m *ℤ pos L)) (numbered (Row row) (unless_zero z q))
row_made D L row (pos zero) q m z_is q_positive L_positive low stands divides = tt
row_made D L row (pos (suc n)) q m z_is q_positive L_positive low stands divides = absurd (omega (arith, ints))
row_made D L row (negsuc n) q m z_is q_positive L_positive low stands divides =
    let made = made_natural (negated q) L q_positive L_positive divides.0 (subst (λ (z : ℤ). pos 0 <ℤ neg_ℤ z) z_is (omega (arith, ints))) in (
      made_column D L (L / q.denominator) q.denominator q.numerator m (pos (whole_multiplier L (row, negated q)).1) stands
          (div-mul_cancel q.denominator divides.0) made.2,
      tt,
    )

entry_is : (D L : ℕ) (member : Member) (q : Fraction) (m : ℤ) → 0 < q.denominator → 0 < D → 0 < L →
    q.numerator ≤ℤ pos 0 → StandsFor q m D →
    AllByRecursion (λ part. part.1.denominator ∣ L) (numbered member (unless_zero q.numerator q)) → IsEntry D L member q m
entry_is D L (Low v bound) q m q_positive D_positive L_positive low stands divides =
    record {
      none = (zero_stands q m D q_positive D_positive stands).0;
      low = low_number q.numerator m q.denominator D q_positive D_positive stands low;
      made = tt;
    }
entry_is D L (High v bound) q m q_positive D_positive L_positive low stands divides =
    record {
      none = (zero_stands q m D q_positive D_positive stands).0;
      low = low_number q.numerator m q.denominator D q_positive D_positive stands low;
      made = tt;
    }
entry_is D L (Row row) q m q_positive D_positive L_positive low stands divides =
    record {
      none = (zero_stands q m D q_positive D_positive stands).0;
      low = low_number q.numerator m q.denominator D q_positive D_positive stands low;
      made = row_made D L row q.numerator q m refl q_positive L_positive low stands divides;
    }

pub are_made : (top D L : ℕ) (members : List Member) (qs : List Fraction) (ms : List ℤ) → length members ≡ length qs →
    0 < D → 0 < L → AreTableNumbers top qs → AreLow qs → Stand D qs ms →
    AllByRecursion (λ part. part.1.denominator ∣ L) (columns_numbered members qs) → AreMade D L members qs ms
are_made top D L [] qs ms same D_positive L_positive numbers low stand divides = tt
are_made top D L (member ∷ members) [] ms same D_positive L_positive numbers low stand divides = absurd (omega arith)
are_made top D L (member ∷ members) (q ∷ qs) [] same D_positive L_positive numbers low stand divides = absurd stand
are_made top D L (member ∷ members) (q ∷ qs) (m ∷ ms) same D_positive L_positive numbers low stand divides = (
  entry_is D L member q m numbers.0.lowest.positive D_positive L_positive low.0 stand.0
      (each_left (λ part. part.1.denominator ∣ L) (numbered member (unless_zero q.numerator q)) (columns_numbered members qs) divides),
  are_made top D L members qs ms (omega arith) D_positive L_positive numbers.1 low.1 stand.1
      (each_right (λ part. part.1.denominator ∣ L) (numbered member (unless_zero q.numerator q)) (columns_numbered members qs) divides),
)

-- the line's own part
pub own_made : (L : ℕ) (r : Member) → 0 < L → AllByRecursion (λ part. pos (whole_multiplier L part).1 ≡ pos L) (numbered r (whole (pos 1) ∷ []))
own_made L (Low v bound) L_positive = tt
own_made L (High v bound) L_positive = tt
own_made L (Row row) L_positive =
    ((made_natural (whole (pos 1)) L (omega arith) L_positive (one-dvd L) (omega (arith, ints))).2 ∙ one_times L, tt)
  where
    one_times : (n : ℕ) → (pos 1 *ℤ pos (n / 1)) ≡ pos n
    one_times n = ring (pos (n / 1) ∷ []) (num (pos 1) ⊗ var 0) (var 0) refl ∙ ap pos (div-one n)

-- all parts are whole and positive
pub parts_whole : (top count L : ℕ) (parts : List (ℕ × Fraction)) → 0 < L → AllByRecursion (IsMultiplier top count) parts →
    AllByRecursion (λ part. part.1.denominator ∣ L) parts →
    AllByRecursion (λ part. (part.0 < count) × (0 < part.1)) (map (whole_multiplier L) parts)
parts_whole top count L [] L_positive are divide = tt
parts_whole top count L (part ∷ parts) L_positive are divide = (
  (are.0.row, (made_natural part.1 L are.0.number.lowest.positive L_positive divide.0 are.0.positive).1),
  parts_whole top count L parts L_positive are.1 divide.1,
)

-- as fractions they are the multipliers, made whole
wholes_of : (top count L : ℕ) (parts : List (ℕ × Fraction)) → 0 < L → AllByRecursion (IsMultiplier top count) parts →
    AllByRecursion (λ part. part.1.denominator ∣ L) parts → map (λ q. times q (whole (pos L))) (fractions parts)
    ≡ wholes (map (whole_multiplier L) parts)
wholes_of top count L [] L_positive are divide = refl
wholes_of top count L (part ∷ parts) L_positive are divide =
    cc ((made_natural part.1 L are.0.number.lowest.positive L_positive divide.0 are.0.positive).0, wholes_of top count L parts L_positive are.1 divide.1)

pub wholes_are : (top count : ℕ) (parts : List (ℕ × Fraction)) → AllByRecursion (IsMultiplier top count) parts →
    made_whole (fractions parts) ≡ wholes (whole_multipliers parts)
wholes_are top count parts are = wholes_of top count (common_of parts) parts (common_positive top count parts are) are (common_divides parts)
