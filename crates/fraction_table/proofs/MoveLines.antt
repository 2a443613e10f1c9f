-- Lines whose constants are put anew.
use Rattle.std.proofs.Common.{◌≡◌, ℕ, suc, ◌*◌, ◌<◌, refl, sym, ◌∙◌, ap, subst, List, [], ◌∷◌, length, arith}
use Rattle.std.specs.Prelude.{pos, ◌*ℤ◌, Option, None, Some, IfSome, IfErr, OnOk, Result, map, slice_index_or, slice_set}
use Rattle.std.proofs.Common.{Ok, Err}
use Rattle.std.proofs.lemmas.List.{get_or_default, length-set}
use Rattle.std.proofs.lemmas.Result.{on_ok_weaker}
use lib.IntN.{+ℤ_idr}
use Rattle.cost_base.specs.declared.StepName.TheVariants.{Sub}
use Rattle.whole_numbers.specs.Fractions.{Fraction, IsLowest, StandsFor, minus, plus, times}
use Rattle.whole_numbers.proofs.Sums.{lowest_unique}
use Rattle.whole_numbers.proofs.FractionLaws.{product_positive, reduced_lowest}
use Rattle.whole_numbers.proofs.Multiples.{plus_stands_over}
use Rattle.wide_fraction.specs.Widths.{IsWithin}
use Rattle.wide_fraction.specs.declared.steps.Wide.{Wide}
use Rattle.design_problem.specs.Basis.{entry}
use Rattle.fraction_lines.specs.TableLines.{AreTableNumbers, IsTableNumber, nothing}
use Rattle.fraction_lines.specs.Entries.{IsPassing}
use Rattle.fraction_lines.specs.Turns.{AreTableLines}
use Rattle.design_problem.specs.declared.tree.Member.{Member}
use Rattle.fraction_table.specs.Moves.{IsColumnOf, ShiftsWide, put_at, raised_line, shifted_lines}
use Rattle.fraction_lines.proofs.ZeroFractions.{lowest_zero, nothing_number, nothing_times, times_lowest}
use Rattle.fraction_lines.proofs.TableLineLaws.{number_at, lines_at, lines_set, written_numbers}

pub plus_lowest : (p q : Fraction) → 0 < p.denominator → 0 < q.denominator → IsLowest (plus p q)
plus_lowest p q p_positive q_positive =
    reduced_lowest _ (p.denominator * q.denominator) (product_positive p.denominator q.denominator p_positive q_positive)

plus_nothing : (q : Fraction) → IsLowest q → plus q nothing ≡ q
plus_nothing q q_lowest =
    let zero_is : StandsFor nothing (pos 0) q.denominator = lib.IntN.zero-*ℤ (pos q.denominator) in
    let stands = plus_stands_over q nothing q.numerator (pos 0) q.denominator q_lowest.positive (omega arith) q_lowest.positive refl zero_is in
    lowest_unique (plus q nothing) q (plus_lowest q nothing q_lowest.positive (omega arith)) q_lowest
    (stands ∙ ap (λ z. z *ℤ pos (plus q nothing).denominator) (+ℤ_idr q.numerator))

first_put : (line : List Fraction) → 0 < length line → slice_set line 0 (entry line 0) ≡ line
first_put [] some = absurd (omega arith)
first_put (q ∷ line) some = refl

-- where the entry is 0 the line stays as it is
pub none_raised : (top : ℕ) (line : List Fraction) (column : ℕ) (fall value : Fraction) → suc column < length line →
    AreTableNumbers top line → IsTableNumber top fall → value ≡ entry line (suc column) → value.numerator ≡ pos 0 →
    line ≡ raised_line column fall line
none_raised top line column fall value column_in numbers fall_is value_is none =
    let here = number_at top line (suc column) numbers column_in in
    let first = number_at top line 0 numbers (omega (arith, column_in)) in
    let entry_is : entry line (suc column) ≡ nothing =
    lowest_zero (entry line (suc column)) here.lowest (ap (λ (q : Fraction). q.numerator) (sym value_is) ∙ none) in
    sym (ap (λ (q : Fraction). slice_set line 0 (plus (entry line 0) (times q fall))) entry_is
    ∙ ap (λ (q : Fraction). slice_set line 0 (plus (entry line 0) q)) (nothing_times fall fall_is.lowest.positive)
    ∙ ap (λ (q : Fraction). slice_set line 0 q) (plus_nothing (entry line 0) first.lowest)
    ∙ first_put line (omega (arith, column_in)))

-- the line with the constant that was made
pub raised_is : (line now : List Fraction) (column : ℕ) (fall value first product constant : Fraction) →
    value ≡ entry line (suc column) → first ≡ entry line 0 → product ≡ times value fall →
    constant ≡ plus first product → now ≡ slice_set line 0 constant → now ≡ raised_line column fall line
raised_is line now column fall value first product constant value_is first_is product_is constant_is now_is =
    now_is
    ∙ ap (λ (q : Fraction). slice_set line 0 q) (constant_is ∙ ap (λ (q : Fraction). plus q product) first_is
    ∙ ap (λ (q : Fraction). plus (entry line 0) q) (product_is ∙ ap (λ (q : Fraction). times q fall) value_is))

-- its numbers are ones of the table
pub raised_numbers : (top : ℕ) (line now : List Fraction) (fall value first product constant : Fraction) →
    AreTableNumbers top line → IsTableNumber top first → IsTableNumber top value → IsTableNumber top fall → product ≡ times value fall →
    constant ≡ plus first product → IsWithin top constant → now ≡ slice_set line 0 constant → AreTableNumbers top now
raised_numbers top line now fall value first product constant numbers first_is value_is fall_is product_is constant_is within now_is =
    let product_lowest : IsLowest product = subst IsLowest (sym product_is) (times_lowest value fall value_is.lowest.positive fall_is.lowest.positive) in
    let constant_number : IsTableNumber top constant =
    record {
      lowest = subst IsLowest (sym constant_is)
          (plus_lowest first product first_is.lowest.positive product_lowest.positive);
      within = within;
    } in
    subst (AreTableNumbers top) (sym now_is) (written_numbers top line 0 constant numbers constant_number)

-- a line whose constant is made 0
pub zeroed : (top count : ℕ) (lines : List (List Fraction)) (own : ℕ) (d now : List Fraction) (value : Fraction) →
    AreTableLines top count lines → own < length lines → value ≡ nothing →
    now ≡ slice_set (slice_index_or lines own d) 0 value → AreTableLines top count (slice_set lines own now)
zeroed top count lines own d now value rows own_in value_is now_is =
    let here = lines_at top count lines own d rows own_in in
    let line = slice_index_or lines own d in
    let put : AreTableNumbers top (slice_set line 0 nothing) = none_put line here.1 in
    lines_set top count lines own now rows (ap length now_is ∙ length-set line 0 value ∙ here.0)
    (subst (AreTableNumbers top) (sym (now_is ∙ ap (λ (q : Fraction). slice_set line 0 q) value_is)) put)
  where
    none_put : (line : List Fraction) → AreTableNumbers top line → AreTableNumbers top (slice_set line 0 nothing)
    none_put [] numbers = tt
    none_put (q ∷ line) numbers = (nothing_number top q numbers.0, numbers.1)

-- the form's own constant falls
pub lowered_shift : {T E : Type 0} (r : Result T E) (column : Option ℕ) (own : ℕ) (fall : Fraction) (lines : List (List Fraction))
    (d now : List Fraction) → column ≡ None → own < length lines →
    OnOk r (now ≡ slice_set (slice_index_or lines own d) 0 (minus (entry (slice_index_or lines own d) 0) fall)) →
    OnOk r (slice_set lines own now ≡ shifted_lines column own fall lines)
lowered_shift r column own fall lines d now none own_in lowered =
    on_ok_weaker r (λ now_is.
    ap (λ (line : List Fraction). slice_set lines own line) now_is
    ∙ ap (λ (line : List Fraction). slice_set lines own (slice_set line 0 (minus (entry line 0) fall))) (get_or_default lines own d [] own_in)
    ∙ ap (λ (o : Option ℕ). shifted_lines o own fall lines) (sym none)) lowered

-- the difference that is too wide
abbrev difference : Fraction → Fraction → Wide
difference constant fall = record { step = Sub; left = constant; right = fall }

pub lowered_wide : {T : Type 0} (r : Result T Wide) (top : ℕ) (column : Option ℕ) (own : ℕ) (fall : Fraction)
    (lines : List (List Fraction)) (d : List Fraction) → column ≡ None → own < length lines →
    IfErr r (λ wide. wide ≡ record { step = Sub; left = entry (slice_index_or lines own d) 0; right = fall }) →
    IfErr r (λ wide. IsPassing top wide) → IfErr r (λ wide. ShiftsWide top column own fall lines wide)
lowered_wide (Ok x) top column own fall lines d none own_in named passes = tt
lowered_wide (Err wide) top column own fall lines d none own_in named passes =
    let same = ap (λ (line : List Fraction). difference (entry line 0) fall) (get_or_default lines own d [] own_in) in
    subst (λ (o : Option ℕ). ShiftsWide top o own fall lines wide) (sym none) (named ∙ same, passes)

-- the other constants rise, and the own one is 0
pub raised_shift : (column : Option ℕ) (k own : ℕ) (fall value : Fraction) (lines raised : List (List Fraction))
    (d now : List Fraction) → column ≡ Some k → own < length raised → raised ≡ map (raised_line k fall) lines → value ≡ nothing →
    now ≡ slice_set (slice_index_or raised own d) 0 value → slice_set raised own now ≡ shifted_lines column own fall lines
raised_shift column k own fall value lines raised d now column_is own_in raised_is value_is now_is =
    ap (λ (line : List Fraction). slice_set raised own line) (now_is
    ∙ ap (λ (q : Fraction). slice_set (slice_index_or raised own d) 0 q) value_is
    ∙ ap (λ (line : List Fraction). slice_set line 0 nothing) (get_or_default raised own d [] own_in))
    ∙ ap (λ (ls : List (List Fraction)). slice_set ls own (slice_set (slice_index_or ls own []) 0 nothing)) raised_is
    ∙ ap (λ (o : Option ℕ). shifted_lines o own fall lines) (sym column_is)

-- the column of a member is one of the basis
pub column_there : (basis : List Member) (member : Member) (column : Option ℕ) → IsColumnOf basis member column → IfSome column (λ k. k < length basis)
column_there basis member None found = tt
column_there basis member (Some k) found = found.0

pub column_in : (basis : List Member) (member : Member) (column : Option ℕ) (n : ℕ) → IsColumnOf basis member column →
    length basis ≡ n → IfSome column (λ k. suc k < suc n)
column_in basis member None n found counted = tt
column_in basis member (Some k) n found counted = omega (arith, found.0, counted)

pub length-put : (column : Option ℕ) (member : Member) (basis : List Member) → length (put_at column member basis) ≡ length basis
length-put None member basis = refl
length-put (Some k) member basis = length-set basis k member
