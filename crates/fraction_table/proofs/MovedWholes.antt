-- After one bound moved, the table over the next box keeps what a table keeps.
use Rattle.std.proofs.Common.{◌≡◌, ◌≢◌, ℕ, zero, suc, ◌+◌, ◌-◌, ◌<◌, ◌≤◌, refl, sym, ◌∙◌, ap, subst, List, [], ◌∷◌, ◌++◌, map, length, arith, inl, inr, get_or-set_same, get_or-set_other}
use Rattle.std.specs.Prelude.{ℤ, pos, ◌+ℤ◌, ◌-ℤ◌, ◌*ℤ◌, Option, None, Some, nat_abs, slice_index_or, slice_set, All}
use Rattle.std.specs.List.{AllZip}
use Rattle.std.proofs.lemmas.Bool.{cases_eq, cases_lt}
use Rattle.std.proofs.lemmas.List.{get_or-map, length-map, length-set, map-append, map-set}
use Rattle.std.proofs.lemmas.Simd.{map-map}
use Rattle.cost_base.specs.Lists.{numbers_from}
use Rattle.cost_base.proofs.ListLemmas.{length_zip}
use Rattle.whole_numbers.specs.Fractions.{Fraction, whole}
use Rattle.whole_numbers.proofs.Ring.{var, num, ◌⊕◌, ◌⊖◌, ◌⊗◌, ring}
use Rattle.design_problem.specs.declared.form.Form.{Form}
use Rattle.design_problem.specs.declared.boxes.CostBox.{CostBox}
use Rattle.design_problem.specs.declared.tree.Member.{Member}
use Rattle.design_problem.specs.declared.tree.Member.TheVariants.{Low, High, Row}
use Rattle.design_problem.specs.Forms.{no_form}
use Rattle.design_problem.specs.Basis.{IsFormOf, forms_of, low_member, member_form}
use Rattle.fraction_lines.specs.TableLines.{nothing}
use Rattle.fraction_table.specs.Tableaus.{moved_basis, moved_member}
use Rattle.fraction_lines.specs.Turns.{AreTableLines}
use Rattle.fraction_table.specs.ValidTables.{AllLong, AreMixtures, IsTableLine, IsUnboxed, Stand, high_member, low_forms, members_of_box, number_of_form, numbers_of_form}
use Rattle.fraction_table.specs.Moves.{IsColumnOf, fallen, put_at, raised_line, shifted_lines}
use Rattle.fraction_table.proofs.Bases.{members_begin}
use Rattle.fraction_table.proofs.theory.MovedNumbers.{fallen_constant}
use Rattle.fraction_table.proofs.MovedTables.{AreMoved, IsFall, IsInside, IsLong, fallen_basis, map_none, map_one, other_kept, other_raised, own_lowered, own_zeroed}
use Rattle.fraction_table.proofs.Pivots.{high_place, members_long, row_place}
use Rattle.fraction_lines.proofs.TableLineLaws.{lines_at}
use Rattle.fraction_table.proofs.theory.Resolved.{stand_length}
use Rattle.fraction_table.proofs.theory.TurnedNumbers.{numbers_long}
use Rattle.fraction_table.proofs.StartingTables.{members_are}
use Rattle.fraction_table.proofs.theory.Zips.{zip_at, zip_from}

-- the form of a column
column_form : (costs : CostBox) (rows : List Form) (basis : List Member) (k : ℕ) (member : Member) → k < length basis →
    slice_index_or basis k (Low 0 0) ≡ member → slice_index_or (forms_of costs rows basis) k no_form
    ≡ member_form (length costs.low) rows member
column_form costs rows basis k member k_in here =
    get_or-map (member_form (length costs.low) rows) basis k (Low 0 0) no_form k_in ∙ ap (member_form (length costs.low) rows) here

none_is : (D : ℕ) → 0 < D → pos 0 ≡ pos D → ⊥
none_is D positive e = let same : 0 ≡ D = ap nat_abs e in omega (arith, same, positive)

-- a member has one column at most
only_column : (top : ℕ) (costs : CostBox) (rows : List Form) (basis : List Member) (table : List (List Fraction))
    (u : IsUnboxed top costs rows basis table) (before : Member) (j : ℕ) → j < length basis →
    slice_index_or basis j (Low 0 0) ≡ before → (k : ℕ) → k < length basis → k ≢ j →
    slice_index_or basis k (Low 0 0) ≢ before
only_column top costs rows basis table u before j j_in here k k_in apart same =
    let number : Form → ℤ = λ f. number_of_form u.common costs.low u.lows f (suc j) in
    none_is u.common u.positive
    (sym (u.elsewhere k (suc j) (omega (arith, k_in, u.count)) (omega (arith, j_in, u.count)) (λ h. apart (omega (arith, h))))
    ∙ ap number (column_form costs rows basis k before k_in same)
    ∙ ap number (sym (column_form costs rows basis j before j_in here))
    ∙ u.own j (omega (arith, j_in, u.count)))

-- the members of the basis with the bounds of the next box
pub moved_put : (top : ℕ) (costs next : CostBox) (rows : List Form) (basis : List Member) (table : List (List Fraction))
    (u : IsUnboxed top costs rows basis table) (before after : Member) (fall : ℤ) (column : Option ℕ) →
    IsFall costs next rows before after fall → IsColumnOf basis before column →
    moved_basis next basis ≡ put_at column after basis
moved_put top costs next rows basis table u before after fall None m found =
    map_none (moved_member next) basis (Low 0 0) (λ k k_in. m.others (slice_index_or basis k (Low 0 0)) (u.members k (Low 0 0) k_in) (found k k_in))
moved_put top costs next rows basis table u before after fall (Some j) m found =
    map_one (moved_member next) basis j after (Low 0 0) found.0 (ap (moved_member next) found.1 ∙ m.own)
    (λ k k_in apart. m.others (slice_index_or basis k (Low 0 0)) (u.members k (Low 0 0) k_in)
    (only_column top costs rows basis table u before j found.0 found.1 k k_in apart))

-- and their forms
pub forms_fallen : (top : ℕ) (costs next : CostBox) (rows : List Form) (basis : List Member)
    (table : List (List Fraction)) (u : IsUnboxed top costs rows basis table) (before after : Member) (fall : ℤ)
    (column : Option ℕ) → IsFall costs next rows before after fall → IsColumnOf basis before column →
    forms_of next rows (moved_basis next basis) ≡ fallen_basis column fall (forms_of costs rows basis)
forms_fallen top costs next rows basis table u before after fall column m found =
    ap (λ (w : ℕ). map (member_form w rows) (moved_basis next basis)) m.width
    ∙ ap (map (member_form (length costs.low) rows)) (moved_put top costs next rows basis table u before after fall column m found)
    ∙ put_forms column found
  where
    put_forms : (column : Option ℕ) → IsColumnOf basis before column →
        map (member_form (length costs.low) rows) (put_at column after basis)
        ≡ fallen_basis column fall (forms_of costs rows basis)
    put_forms None found = refl
    put_forms (Some j) found =
        map-set (member_form (length costs.low) rows) basis j after
        ∙ ap (λ (f : Form). slice_set (forms_of costs rows basis) j f)
        (m.form ∙ ap (λ (f : Form). fallen f fall) (sym (column_form costs rows basis j before found.0 found.1)))

-- the members of the next box
pub members_moved : (costs next : CostBox) (rows : ℕ) → length next.low ≡ length costs.low →
    members_of_box next rows ≡ map (moved_member next) (members_of_box costs rows)
members_moved costs next rows width =
    let f = moved_member next in
    let ks = numbers_from 0 (length costs.low) in
    let lows = map (low_member costs) ks in
    let highs = map (high_member costs) ks in
    let own : List Member = map (λ row. Row row) (numbers_from 0 rows) in
    ap (λ (w : ℕ). (map (low_member next) (numbers_from 0 w) ++ map (high_member next) (numbers_from 0 w)) ++ own) width
    ∙ sym (map-append f (lows ++ highs) own
    ∙ ap (λ (ms : List Member). ms ++ map f own) (map-append f lows highs)
    ∙ ap (λ (ms : List Member). (ms ++ map f highs) ++ map f own) (map-map f (low_member costs) ks)
    ∙ ap (λ (ms : List Member). (map (low_member next) ks ++ ms) ++ map f own) (map-map f (high_member costs) ks)
    ∙ ap (λ (ms : List Member). (map (low_member next) ks ++ map (high_member next) ks) ++ ms) (map-map f (λ row. Row row) (numbers_from 0 rows)))

-- the place of a member among all of a box
abbrev pub place_of : ℕ → Member → ℕ
place_of n (Low v bound) = v
place_of n (High v bound) = n + v
place_of n (Row row) = n + n + row

pub place_there : (costs : CostBox) (rows i : ℕ) → i < length (members_of_box costs rows) →
    place_of (length costs.low) (slice_index_or (members_of_box costs rows) i (Low 0 0)) ≡ i
place_there costs rows i i_in =
    elim (cases_lt i (length costs.low)) [
      | inl low ↦ ap (place_of (length costs.low)) (members_begin costs rows i (Low 0 0) low)
      | inr past ↦ behind past
    ]
  where
    behind : length costs.low ≤ i → place_of (length costs.low) (slice_index_or (members_of_box costs rows) i (Low 0 0)) ≡ i
    behind past =
        let n = length costs.low in
        elim (cases_lt i (n + n)) [
          | inl high ↦
              let k = i - n in
              let there : n + k ≡ i = omega (arith, past) in
              subst (λ (p : ℕ). place_of n (slice_index_or (members_of_box costs rows) p (Low 0 0)) ≡ p) there
              (ap (place_of n) (high_place costs rows k (Low 0 0) (omega (arith, high, past))))
          | inr late ↦
              let k = i - (n + n) in
              let there : n + n + k ≡ i = omega (arith, late) in
              subst (λ (p : ℕ). place_of n (slice_index_or (members_of_box costs rows) p (Low 0 0)) ≡ p) there
              (ap (place_of n) (row_place costs rows k (Low 0 0)
              (omega (arith, late, i_in, members_long costs rows))))
        ]

-- a form that fell keeps its numbers in the columns
pub kept_columns : (D : ℕ) (low : List ℕ) (lows : List (List ℤ)) (bs : List Form) (column : Option ℕ) (fall : ℤ)
    (k p : ℕ) → k < length bs → number_of_form D low lows (slice_index_or (fallen_basis column fall bs) k no_form) (suc p)
    ≡ number_of_form D low lows (slice_index_or bs k no_form) (suc p)
kept_columns D low lows bs None fall k p k_in = refl
kept_columns D low lows bs (Some j) fall k p k_in =
    elim (cases_eq k j) [
      | inl same ↦
          ap (λ (i : ℕ). number_of_form D low lows (slice_index_or (slice_set bs j (fallen (slice_index_or bs j no_form) fall)) i no_form) (suc p)) same
          ∙ ap (λ (f : Form). number_of_form D low lows f (suc p))
          (get_or-set_same bs j (fallen (slice_index_or bs j no_form) fall) no_form (omega (arith, same, k_in)))
          ∙ ap (λ (i : ℕ). number_of_form D low lows (slice_index_or bs i no_form) (suc p)) (sym same)
      | inr other ↦ ap (λ (f : Form). number_of_form D low lows f (suc p)) (get_or-set_other bs j k (fallen (slice_index_or bs j no_form) fall) no_form other)
    ]

-- the constants of the basis' forms stay 0
pub kept_constants : (D n : ℕ) (low next : List ℕ) (lows news : List (List ℤ)) (bs : List Form) (column : Option ℕ)
    (fall : ℤ) → IsInside column n → AreMoved D low next lows news bs column fall →
    ((k : ℕ) → k < n → number_of_form D low lows (slice_index_or bs k no_form) (suc k) ≡ pos D) →
    ((k place : ℕ) → k < n → place ≤ n → place ≢ suc k → number_of_form D low lows (slice_index_or bs k no_form) place
    ≡ pos 0) → length bs ≡ n → (k : ℕ) → k < n →
    number_of_form D next news (slice_index_or (fallen_basis column fall bs) k no_form) 0 ≡ pos 0
kept_constants D n low next lows news bs None fall inside m own elsewhere counted k k_in =
    m.constants (slice_index_or bs k no_form)
    ∙ ap (λ z. z +ℤ (pos 0 *ℤ fall)) (elsewhere k 0 k_in (omega arith) (λ h. omega (arith, h)))
    ∙ ring (fall ∷ []) (num (pos 0) ⊕ num (pos 0) ⊗ var 0) (num (pos 0)) refl
kept_constants D n low next lows news bs (Some j) fall inside m own elsewhere counted k k_in =
    elim (cases_eq k j) [
      | inl same ↦
          let j_in : j < n = omega (arith, same, k_in) in
          let b = slice_index_or bs j no_form in
          ap (λ (i : ℕ). number_of_form D next news (slice_index_or (slice_set bs j (fallen b fall)) i no_form) 0) same
          ∙ ap (λ (f : Form). number_of_form D next news f 0) (get_or-set_same bs j (fallen b fall) no_form (omega (arith, j_in, counted)))
          ∙ m.constants (fallen b fall)
          ∙ ap (λ z. z +ℤ (number_of_form D low lows b (suc j) *ℤ fall)) (fallen_constant D low lows b fall)
          ∙ ap (λ z. (z -ℤ (pos D *ℤ fall)) +ℤ (number_of_form D low lows b (suc j) *ℤ fall)) (elsewhere j 0 j_in (omega arith) (λ h. omega (arith, h)))
          ∙ ap (λ z. (pos 0 -ℤ (pos D *ℤ fall)) +ℤ (z *ℤ fall)) (own j j_in)
          ∙ ring (pos D ∷ fall ∷ []) ((num (pos 0) ⊖ var 0 ⊗ var 1) ⊕ var 0 ⊗ var 1) (num (pos 0)) refl
      | inr other ↦
          let b = slice_index_or bs k no_form in
          ap (λ (f : Form). number_of_form D next news f 0) (get_or-set_other bs j k (fallen (slice_index_or bs j no_form) fall) no_form other)
          ∙ m.constants b
          ∙ ap (λ z. z +ℤ (number_of_form D low lows b (suc j) *ℤ fall)) (elsewhere k 0 k_in (omega arith) (λ h. omega (arith, h)))
          ∙ ap (λ z. pos 0 +ℤ (z *ℤ fall)) (elsewhere k (suc j) k_in inside (λ h. other (omega (arith, h))))
          ∙ ring (fall ∷ []) (num (pos 0) ⊕ num (pos 0) ⊗ var 0) (num (pos 0)) refl
    ]

length_shifted : (column : Option ℕ) (own : ℕ) (fall : Fraction) (table : List (List Fraction)) → length (shifted_lines column own fall table) ≡ length table
length_shifted None own fall table = length-set table own _
length_shifted (Some j) own fall table = length-set (map (raised_line j fall) table) own _ ∙ length-map table (raised_line j fall)

long_line : (top : ℕ) (costs : CostBox) (rows : List Form) (basis : List Member) (table : List (List Fraction))
    (u : IsUnboxed top costs rows basis table) (i : ℕ) → i < length (members_of_box costs (length rows)) →
    IsLong top (length costs.low) u.common costs.low u.lows
    (member_form (length costs.low) rows (slice_index_or (members_of_box costs (length rows)) i (Low 0 0)))
    (slice_index_or table i [])
long_line top costs rows basis table u i i_in =
    let n = length costs.low in
    let member = slice_index_or (members_of_box costs (length rows)) i (Low 0 0) in
    let line = slice_index_or table i [] in
    let l = zip_at (IsTableLine top u.common costs rows u.lows) (members_of_box costs (length rows)) table i (Low 0 0) [] u.lines i_in in
    record {
      positive = u.positive;
      numbers = l.numbers;
      count = stand_length u.common line (numbers_of_form n u.common costs.low u.lows (member_form n rows member)) l.stand
          ∙ numbers_long n u.common costs.low u.lows (member_form n rows member);
      stand = l.stand;
    }

set_twice : (line : List Fraction) (p q : Fraction) → slice_set (slice_set line 0 p) 0 q ≡ slice_set line 0 q
set_twice [] p q = refl
set_twice (x ∷ line) p q = refl

-- What moves a table: the bound, its line, its column, and the numbers of the next box.
pub record IsMoveOf (top : ℕ) (costs next : CostBox) (rows : List Form) (basis : List Member)
    (table : List (List Fraction)) (u : IsUnboxed top costs rows basis table) (news : List (List ℤ))
    (before after : Member) (fall : ℤ) (column : Option ℕ) (own : ℕ) : Type 0 where
  pub falls : IsFall costs next rows before after fall
  pub found : IsColumnOf basis before column
  pub numbers : AreMoved u.common costs.low next.low u.lows news (forms_of costs rows basis) column fall
  pub own_in : own < length (members_of_box costs (length rows))
  pub own_is : slice_index_or (members_of_box costs (length rows)) own (Low 0 0) ≡ before
  pub rows_are : AreTableLines top (suc (length costs.low)) (shifted_lines column own (whole fall) table)

-- the numbers of the form of a column
pub column_own : (top : ℕ) (costs : CostBox) (rows : List Form) (basis : List Member) (table : List (List Fraction))
    (u : IsUnboxed top costs rows basis table) (before : Member) (j : ℕ) → j < length basis →
    slice_index_or basis j (Low 0 0) ≡ before →
    (number_of_form u.common costs.low u.lows (member_form (length costs.low) rows before) 0 ≡ pos 0)
    × (number_of_form u.common costs.low u.lows (member_form (length costs.low) rows before) (suc j) ≡ pos u.common)
column_own top costs rows basis table u before j j_in here =
    let form_is = sym (column_form costs rows basis j before j_in here) in (
      ap (λ (f : Form). number_of_form u.common costs.low u.lows f 0) form_is ∙
          u.elsewhere j 0 (omega (arith, j_in, u.count)) (omega arith) (λ h. omega (arith, h)),
      ap (λ (f : Form). number_of_form u.common costs.low u.lows f (suc j)) form_is ∙ u.own j (omega (arith, j_in, u.count)),
    )

-- the bound's own line stands for the numbers of its form in the next box
own_stands : (top : ℕ) (costs next : CostBox) (rows : List Form) (basis : List Member) (table : List (List Fraction))
    (u : IsUnboxed top costs rows basis table) (news : List (List ℤ)) (before after : Member) (fall : ℤ)
    (column : Option ℕ) (own : ℕ) → own < length table →
    IsMoveOf top costs next rows basis table u news before after fall column own →
    Stand u.common (slice_index_or (shifted_lines column own (whole fall) table) own [])
    (numbers_of_form (length costs.low) u.common next.low news (fallen (member_form (length costs.low) rows before) fall))
own_stands top costs next rows basis table u news before after fall None own own_there m =
    let n = length costs.low in
    let line = slice_index_or table own [] in
    let l = subst (λ (b : Member). IsLong top n u.common costs.low u.lows (member_form n rows b) line) m.own_is
    (long_line top costs rows basis table u own m.own_in) in
    subst (λ (fs : List Fraction). Stand u.common fs (numbers_of_form n u.common next.low news (fallen (member_form n rows before) fall)))
    (sym (get_or-set_same table own _ [] own_there))
    (own_lowered top n u.common costs.low next.low u.lows news (forms_of costs rows basis) (member_form n rows before) line fall m.numbers l)
own_stands top costs next rows basis table u news before after fall (Some j) own own_there m =
    let n = length costs.low in
    let line = slice_index_or table own [] in
    let raise = raised_line j (whole fall) in
    let l = subst (λ (b : Member). IsLong top n u.common costs.low u.lows (member_form n rows b) line) m.own_is
    (long_line top costs rows basis table u own m.own_in) in
    let numbers = column_own top costs rows basis table u before j m.found.0 m.found.1 in
    subst (λ (fs : List Fraction). Stand u.common fs (numbers_of_form n u.common next.low news (fallen (member_form n rows before) fall)))
    (sym (get_or-set_same (map raise table) own (slice_set (slice_index_or (map raise table) own []) 0 nothing) []
    (omega (arith, length-map table raise, own_there))
    ∙ ap (λ (fs : List Fraction). slice_set fs 0 nothing) (get_or-map raise table own [] [] own_there)
    ∙ set_twice line _ nothing))
    (own_zeroed top n u.common costs.low next.low u.lows news (forms_of costs rows basis) (member_form n rows before)
    line j fall m.numbers l numbers.0 numbers.1)

-- and each other line for those of its own, which is the same form as before
other_stands : (top : ℕ) (costs next : CostBox) (rows : List Form) (basis : List Member) (table : List (List Fraction))
    (u : IsUnboxed top costs rows basis table) (news : List (List ℤ)) (before after : Member) (fall : ℤ)
    (column : Option ℕ) (own i : ℕ) → i ≢ own → i < length table → i < length (members_of_box costs (length rows)) →
    IsMoveOf top costs next rows basis table u news before after fall column own →
    Stand u.common (slice_index_or (shifted_lines column own (whole fall) table) i [])
    (numbers_of_form (length costs.low) u.common next.low news
    (member_form (length costs.low) rows (slice_index_or (members_of_box costs (length rows)) i (Low 0 0))))
other_stands top costs next rows basis table u news before after fall None own i apart i_there i_in m =
    let n = length costs.low in
    let f = member_form n rows (slice_index_or (members_of_box costs (length rows)) i (Low 0 0)) in
    let l = long_line top costs rows basis table u i i_in in
    subst (λ (fs : List Fraction). Stand u.common fs (numbers_of_form n u.common next.low news f))
    (sym (get_or-set_other table own i _ [] apart))
    (other_kept n u.common costs.low next.low u.lows news (forms_of costs rows basis) f (slice_index_or table i []) fall m.numbers l.stand)
other_stands top costs next rows basis table u news before after fall (Some j) own i apart i_there i_in m =
    let n = length costs.low in
    let raise = raised_line j (whole fall) in
    let f = member_form n rows (slice_index_or (members_of_box costs (length rows)) i (Low 0 0)) in
    let l = long_line top costs rows basis table u i i_in in
    subst (λ (fs : List Fraction). Stand u.common fs (numbers_of_form n u.common next.low news f))
    (sym (get_or-set_other (map raise table) own i _ [] apart ∙ get_or-map raise table i [] [] i_there))
    (other_raised top n u.common costs.low next.low u.lows news (forms_of costs rows basis) f
    (slice_index_or table i []) j fall (omega (arith, m.found.0, u.count)) m.numbers l)

-- the lines of the next box
lines_moved : (top : ℕ) (costs next : CostBox) (rows : List Form) (basis : List Member) (table : List (List Fraction))
    (u : IsUnboxed top costs rows basis table) (news : List (List ℤ)) (before after : Member) (fall : ℤ)
    (column : Option ℕ) (own : ℕ) → IsMoveOf top costs next rows basis table u news before after fall column own →
    AllZip (IsTableLine top u.common next rows news) (members_of_box next (length rows))
    (shifted_lines column own (whole fall) table)
lines_moved top costs next rows basis table u news before after fall column own m =
    let ms = members_of_box costs (length rows) in
    let now = shifted_lines column own (whole fall) table in
    let as_many : length ms ≡ length table = length_zip (IsTableLine top u.common costs rows u.lows) ms table u.lines in
    let mapped : length (map (moved_member next) ms) ≡ length ms = length-map ms (moved_member next) in
    subst (λ (members : List Member). AllZip (IsTableLine top u.common next rows news) members now) (sym (members_moved costs next (length rows) m.falls.width))
    (zip_from (IsTableLine top u.common next rows news) (map (moved_member next) ms) now (Low 0 0) [] (mapped ∙ as_many
    ∙ sym (length_shifted column own (whole fall) table))
    (λ i i_in. subst (λ (b : Member). IsTableLine top u.common next rows news b (slice_index_or now i []))
    (sym (get_or-map (moved_member next) ms i (Low 0 0) (Low 0 0) (omega (arith, i_in, mapped))))
    (line i (omega (arith, i_in, mapped)))))
  where
    as_long : length (members_of_box costs (length rows)) ≡ length table
    as_long = length_zip (IsTableLine top u.common costs rows u.lows) (members_of_box costs (length rows)) table u.lines

    other_member : (i : ℕ) → i < length (members_of_box costs (length rows)) → i ≢ own →
        slice_index_or (members_of_box costs (length rows)) i (Low 0 0) ≢ before
    other_member i i_in apart same =
        apart (sym (place_there costs (length rows) i i_in) ∙ ap (place_of (length costs.low)) (same ∙ sym m.own_is)
        ∙ place_there costs (length rows) own m.own_in)

    stand : (i : ℕ) → i < length (members_of_box costs (length rows)) →
        Stand u.common (slice_index_or (shifted_lines column own (whole fall) table) i [])
        (numbers_of_form (length costs.low) u.common next.low news
        (member_form (length costs.low) rows
        (moved_member next (slice_index_or (members_of_box costs (length rows)) i (Low 0 0)))))
    stand i i_in =
        let n = length costs.low in
        let ms = members_of_box costs (length rows) in
        elim (cases_eq i own) [
          | inl same ↦
              subst (λ (k : ℕ). Stand u.common (slice_index_or (shifted_lines column own (whole fall) table) k [])
              (numbers_of_form n u.common next.low news
              (member_form n rows (moved_member next (slice_index_or ms k (Low 0 0)))))) (sym same)
              (subst (λ (f : Form). Stand u.common (slice_index_or (shifted_lines column own (whole fall) table) own [])
              (numbers_of_form n u.common next.low news f))
              (sym (ap (λ (b : Member). member_form n rows (moved_member next b)) m.own_is ∙ ap (member_form n rows) m.falls.own ∙ m.falls.form))
              (own_stands top costs next rows basis table u news before after fall column own (omega (arith, m.own_in, as_long)) m))
          | inr other ↦
              subst (λ (b : Member). Stand u.common (slice_index_or (shifted_lines column own (whole fall) table) i [])
              (numbers_of_form n u.common next.low news (member_form n rows b)))
              (sym (m.falls.others (slice_index_or ms i (Low 0 0)) (members_are costs rows i (Low 0 0) i_in) (other_member i i_in other)))
              (other_stands top costs next rows basis table u news before after fall column own i other (omega (arith, i_in, as_long)) i_in m)
        ]

    line : (i : ℕ) → i < length (members_of_box costs (length rows)) →
        IsTableLine top u.common next rows news
        (moved_member next (slice_index_or (members_of_box costs (length rows)) i (Low 0 0)))
        (slice_index_or (shifted_lines column own (whole fall) table) i [])
    line i i_in =
        let member = moved_member next (slice_index_or (members_of_box costs (length rows)) i (Low 0 0)) in
        let now = slice_index_or (shifted_lines column own (whole fall) table) i [] in
        let here = lines_at top (suc (length costs.low)) (shifted_lines column own (whole fall) table) i [] m.rows_are
        (omega (arith, length_shifted column own (whole fall) table, as_long, i_in)) in
        record {
          numbers = here.1;
          stand = subst (λ (w : ℕ). Stand u.common now (numbers_of_form w u.common next.low news (member_form w rows member))) (sym m.falls.width)
              (stand i i_in);
        }

moved_is : (costs next : CostBox) (rows : List Form) (m : Member) → length next.low ≡ length costs.low →
    IsFormOf costs rows m → IsFormOf next rows (moved_member next m)
moved_is costs next rows (Low v bound) width is = (omega (arith, width, is.0), refl)
moved_is costs next rows (High v bound) width is = (omega (arith, width, is.0), refl)
moved_is costs next rows (Row row) width is = is

pub all_moved : (costs next : CostBox) (rows : List Form) (basis : List Member) → length next.low ≡ length costs.low →
    All (IsFormOf costs rows) basis → All (IsFormOf next rows) (moved_basis next basis)
all_moved costs next rows [] width are k d k_in = absurd (omega arith)
all_moved costs next rows (b ∷ basis) width are zero d k_in = moved_is costs next rows b width (are 0 b (omega arith))
all_moved costs next rows (b ∷ basis) width are (suc k) d k_in =
    all_moved costs next rows basis width (λ i e i_in. are (suc i) e (omega (arith, i_in))) k d (omega (arith, k_in))

-- the column of a member is inside the basis
pub column_inside : (basis : List Member) (member : Member) (column : Option ℕ) (n : ℕ) → length basis ≡ n → IsColumnOf basis member column → IsInside column n
column_inside basis member None n counted found = tt
column_inside basis member (Some j) n counted found = omega (arith, counted, found.0)

-- The table after the bound moved.
pub unboxed_moved : (top : ℕ) (costs next : CostBox) (rows : List Form) (basis : List Member)
    (table : List (List Fraction)) (u : IsUnboxed top costs rows basis table) (news : List (List ℤ))
    (before after : Member) (fall : ℤ) (column : Option ℕ) (own : ℕ) →
    IsMoveOf top costs next rows basis table u news before after fall column own →
    IsUnboxed top next rows (moved_basis next basis) (shifted_lines column own (whole fall) table)
unboxed_moved top costs next rows basis table u news before after fall column own m =
    let n = length costs.low in
    let bs = forms_of costs rows basis in
    let width = m.falls.width in
    let numbered = m.numbers.numbered in
    let as_many : length bs ≡ n = length-map basis (member_form n rows) ∙ u.count in
    let forms_are = forms_fallen top costs next rows basis table u before after fall column m.falls m.found in
    record {
      high_count = m.falls.height ∙ sym width;
      counts = subst (λ (w : ℕ). All (λ (f : Form). length f.coefficients ≡ w) rows) (sym width) u.counts;
      count = length-map basis (moved_member next) ∙ u.count ∙ sym width;
      members = all_moved costs next rows basis width u.members;
      common = u.common;
      positive = u.positive;
      lows = news;
      long = subst (λ (w : ℕ). AllLong (suc w) news) (sym width) numbered.long;
      mixtures =
          subst (λ (fs : List Form). AreMixtures u.common fs (low_forms (length next.low) 0 next.low) news) (sym forms_are)
          (subst (λ (w : ℕ). AreMixtures u.common (fallen_basis column fall bs) (low_forms w 0 next.low) news) (sym width) numbered.mixtures);
      own = λ k k_in.
          ap (λ (fs : List Form). number_of_form u.common next.low news (slice_index_or fs k no_form) (suc k)) forms_are
          ∙ m.numbers.others (slice_index_or (fallen_basis column fall bs) k no_form) k
          ∙ kept_columns u.common costs.low u.lows bs column fall k k (omega (arith, as_many, width, k_in))
          ∙ u.own k (omega (arith, width, k_in));
      elsewhere = λ k place k_in place_in apart.
          ap (λ (fs : List Form). number_of_form u.common next.low news (slice_index_or fs k no_form) place) forms_are
          ∙ none k place (omega (arith, width, k_in)) (omega (arith, width, place_in)) apart;
      lead = λ k k_in. numbered.lead k (omega (arith, width, k_in));
      lines = lines_moved top costs next rows basis table u news before after fall column own m;
    }
  where
    none : (k place : ℕ) → k < length costs.low → place ≤ length costs.low → place ≢ suc k →
        number_of_form u.common next.low news
        (slice_index_or (fallen_basis column fall (forms_of costs rows basis)) k no_form) place ≡ pos 0
    none k zero k_in place_in apart =
        kept_constants u.common (length costs.low) costs.low next.low u.lows news (forms_of costs rows basis) column
        fall (column_inside basis before column (length costs.low) u.count m.found) m.numbers u.own u.elsewhere
        (length-map basis (member_form (length costs.low) rows) ∙ u.count) k k_in
    none k (suc p) k_in place_in apart =
        m.numbers.others (slice_index_or (fallen_basis column fall (forms_of costs rows basis)) k no_form) p
        ∙ kept_columns u.common costs.low u.lows (forms_of costs rows basis) column fall k p
        (omega (arith, length-map basis (member_form (length costs.low) rows), u.count, k_in))
        ∙ u.elsewhere k (suc p) k_in place_in apart
