-- What lines that turn come to in lowest terms: their common denominator, their constants over it, and the lines
-- themselves.
use Prim.Native.Nat.{◌∣◌}
use native.Mathlib.Nat.{div-mul_cancel, mul_assoc, mul_comm, one-dvd}
use Rattle.std.proofs.Common.{◌≡◌, Bool, ◌↔◌, ℕ, ◌+◌, ◌*◌, ◌/◌, ◌^◌, ◌<◌, ◌≤◌, sym, ◌∙◌, ap, subst, List, length, arith}
use Rattle.std.specs.Prelude.{ℤ, pos, ◌<ℤ◌, ◌≤ℤ◌, nat_abs, slice_index_or, slice_set, All, IsTrue}
use Rattle.std.proofs.lemmas.Int.{ints, unsigned_abs-mul}
use Rattle.std.proofs.lemmas.List.{get_or_default}
use Rattle.std.proofs.lemmas.Nat.Gcd.{dvd_trans, le_of_dvd}
use Rattle.whole_numbers.specs.Fractions.{lcm}
use Rattle.whole_numbers.proofs.Divisors.{quotient_positive}
use Rattle.whole_numbers.proofs.Multiples.{left_divides_lcm, right_divides_lcm}
use Rattle.whole_numbers.proofs.Sizes.{size_positive}
use Rattle.integer_pivots.specs.declared.line.Line.{Line}
use Rattle.integer_pivots.specs.declared.lowest.Lowest.{Lowest}
use Rattle.integer_pivots.specs.declared.turned_line.Turn.{Turn}
use Rattle.integer_pivots.specs.Lines.{IsLine, no_line}
use Rattle.integer_pivots.specs.Turns.{AreTurnedLines, IsLowestAfter, IsTurnedLine, MayTurnTo, turn_at}
use Rattle.integer_pivots.proofs.LowestTurns.{constant_of_line, lowest_divides, lowest_unique, small_of_line}
use Rattle.integer_pivots.proofs.Sizes.{read, read_number, size_most}
use Rattle.integer_pivots.proofs.WrittenPlaces.{all_more}
use Rattle.table_kernel.specs.declared.kernel.Kernel.{Kernel}
use Rattle.table_kernel.specs.Numbers.{share_of}
use Rattle.table_kernel.specs.Turns.{AreBoundedLines, FitsLowest, IsLineTurnedToLowest, IsLowestCommon, IsLowestOf, IsSmallOf, KeepsAllButLows, MayTurn, line_of, turn_of_line}
use Rattle.table_kernel.proofs.LeastCommon.{both_go_in}
use Rattle.table_kernel.proofs.Lines.{read_common}
use Rattle.table_kernel.proofs.Shares.{factor_within, share_more}
use Rattle.table_kernel.proofs.StayingWithin.{same_over, within_share}
use Rattle.table_kernel.proofs.TurnedRows.{AreChangedBefore, after_change, before_change, none_changed, one_more_changed, put_count, put_here, put_others, turned_here}

-- its denominator, as it is read
pub denominator_read : (lowest : Lowest) → nat_abs lowest.denominator ≤ 2 ^ 60 → read lowest.denominator ≡ lowest.denominator
denominator_read lowest small = read_number lowest.denominator (omega (arith, small))

-- what holds of one thing that a line comes to holds of each
pub of_each_lowest : (k : Kernel) (column v : ℕ) (P : Lowest → Type 0) (own : Lowest) → IsLowestOf k column v own → P own →
    (lowest : Lowest) → IsLowestOf k column v lowest → P lowest
of_each_lowest k column v P own own_is holds lowest is =
    subst P (lowest_unique (turn_of_line k column v) column k.entering (line_of k v) own lowest own_is is) holds

-- The lines before an index are small in lowest terms, and their denominators go into this number, which is at most
-- 2^30; it goes into each common denominator of what the lines turn to.
pub record IsLowestTo (k : Kernel) (column i : ℕ) (common : ℤ) : Type 0 where
  pub range : (pos 0 <ℤ common) × (common ≤ℤ pos (2 ^ 30))
  pub each : (v : ℕ) → v < i → (lowest : Lowest) → IsLowestOf k column v lowest → (nat_abs lowest.denominator ∣ nat_abs common) × IsSmallOf k column v lowest
  pub least : (lows : List Line) (other : ℕ) → AreTurnedLines k.entering column k.lows.items lows →
      All (λ line. nat_abs line.denominator ∣ other) lows → nat_abs common ∣ other

-- 1 is one of no line
pub none_lowest : (k : Kernel) (column : ℕ) → IsLowestTo k column 0 (pos 1)
none_lowest k column = record {
  range = (omega (arith, ints), omega (arith, ints));
  each = λ v before. absurd (omega (arith, before));
  least = λ lows other turned all. one-dvd other;
}

module _ (k : Kernel) (column v : ℕ) (lowest : Lowest) (v_in : v < length k.lows.items) (is : IsLowestOf k column v lowest) where
  -- a line that doesn't stay small in lowest terms may not turn
  pub not_small : (IsSmallOf k column v lowest → ⊥) → MayTurn k column → ⊥
  not_small large may =
      large (small_of_line (turn_of_line k column v) column k.entering (line_of k v) lowest (slice_index_or may.lows v no_line) is (may.turned.each v v_in)
      (may.bounded.lines v no_line (omega (arith, v_in, may.turned.count)))).0

  module _ (common d : ℤ) (d_is : d ≡ lowest.denominator) (before : IsLowestTo k column v common) where
    abbrev both : ℕ
    both = lcm (nat_abs common) (nat_abs d)

    -- the least multiple of both goes into each common denominator of what the lines turn to
    both_divide : (lows : List Line) (other : ℕ) → AreTurnedLines k.entering column k.lows.items lows →
        All (λ (line : Line). nat_abs line.denominator ∣ other) lows → both ∣ other
    both_divide lows other turned all =
        let here : nat_abs lowest.denominator ∣ nat_abs (slice_index_or lows v no_line).denominator =
        lowest_divides (turn_of_line k column v) column k.entering (line_of k v) lowest (slice_index_or lows v no_line) is (turned.each v v_in) in
        both_go_in (nat_abs common) (nat_abs d) other (before.least lows other turned all)
        (subst (λ (z : ℤ). nat_abs z ∣ other) (sym d_is) (dvd_trans _ here (all v no_line (omega (arith, v_in, turned.count)))))

    -- so the lines may not turn where it is too large
    pub too_large : 2 ^ 30 < both → MayTurn k column → ⊥
    too_large large may =
        let some = size_positive may.common may.bounded.positive in
        let small : nat_abs may.common ≤ 2 ^ 30 = size_most may.common (2 ^ 30) may.bounded.positive may.bounded.small in
        let most : both ≤ nat_abs may.common = le_of_dvd some (both_divide may.lows (nat_abs may.common) may.turned may.bounded.divides) in
        omega (arith, large, small, most)

    -- else it is one of one line more
    pub one_more_lowest : IsSmallOf k column v lowest → (new : ℤ) → (pos 0 <ℤ new) × (nat_abs new ≡ both) × (new ≤ℤ pos (2 ^ 30)) →
        IsLowestTo k column (v + 1) (read new)
    one_more_lowest small new made =
        let new_small : nat_abs new ≤ 2 ^ 30 = size_most new (2 ^ 30) made.0 made.2 in
        let P : ℕ → Type 0 = λ u. (l : Lowest) → IsLowestOf k column u l → (nat_abs l.denominator ∣ nat_abs new) × IsSmallOf k column u l in
        let goes_in : nat_abs lowest.denominator ∣ nat_abs new =
        subst (λ (n : ℕ). nat_abs lowest.denominator ∣ n) (sym made.1) (subst (λ (z : ℤ). nat_abs z ∣ both) d_is
        (right_divides_lcm (nat_abs common) (nat_abs d))) in
        let wider : nat_abs common ∣ nat_abs new = subst (λ (n : ℕ). nat_abs common ∣ n) (sym made.1) (left_divides_lcm (nat_abs common) (nat_abs d)) in
        subst (IsLowestTo k column (v + 1)) (sym (read_number new (omega (arith, new_small))))
        (record {
          range = (made.0, made.2);
          each = all_more P v (λ u before_v l l_is. let e = before.each u before_v l l_is in (dvd_trans _ e.0 wider, e.1))
              (of_each_lowest k column v (λ l. (nat_abs l.denominator ∣ nat_abs new) × IsSmallOf k column v l) lowest is (goes_in, small));
          least = λ lows other turned all. subst (λ (n : ℕ). n ∣ other) (sym made.1) (both_divide lows other turned all);
        })

-- all lines are before the end
pub lowest_common_is : (k : Kernel) (column i : ℕ) (common : ℤ) → length k.lows.items ≤ i → IsLowestTo k column i common → IsLowestCommon k column common
lowest_common_is k column i common past before = record {
  positive = before.range.0;
  small = before.range.1;
  each = λ v v_in. before.each v (omega (arith, past, v_in));
  least = before.least;
}

-- the common denominator, as it is read
pub lowest_read : (k : Kernel) (column : ℕ) (common : ℤ) → IsLowestCommon k column common → IsLowestCommon k column (read common)
lowest_read k column common least = subst (IsLowestCommon k column) (sym (read_common common (least.positive, least.small))) least

-- over a common denominator the constant of a line that has turned doesn't pass 2^44, in lowest terms
abbrev pub FitsLowestAt : Kernel → ℕ → ℕ → ℕ → Type 0
FitsLowestAt k column common v = (lowest : Lowest) → IsLowestOf k column v lowest → nat_abs lowest.constant * (common / nat_abs lowest.denominator) ≤ 2 ^ 44

-- what its test tells, by what it is given
pub lowest_told : (k : Kernel) (column v C : ℕ) (lowest : Lowest) (answer : Bool) (constant share : ℤ) → IsLowestOf k column v lowest →
    constant ≡ lowest.constant → nat_abs share ≡ C / nat_abs lowest.denominator → IsTrue answer ↔ (nat_abs constant * nat_abs share ≤ 2 ^ 44) →
    IsTrue answer ↔ FitsLowestAt k column C v
lowest_told k column v C lowest answer constant share is constant_is share_is told =
    let same : nat_abs constant * nat_abs share ≡ nat_abs lowest.constant * (C / nat_abs lowest.denominator) =
    ap (λ (z : ℤ). nat_abs z * nat_abs share) constant_is ∙ ap (λ (n : ℕ). nat_abs lowest.constant * n) share_is in (
      λ holds. of_each_lowest k column v (λ l. nat_abs l.constant * (C / nat_abs l.denominator) ≤ 2 ^ 44) lowest is
          (subst (λ (n : ℕ). n ≤ 2 ^ 44) same (told.0 holds)),
      λ fits. told.1 (subst (λ (n : ℕ). n ≤ 2 ^ 44) (sym same) (fits lowest is)),
    )

-- a value over a divisor of a common multiple is no greater than over the multiple
over_divisor : (c t m d C D most : ℕ) → c * m ≡ t * d → C ∣ D → d ∣ C → m ∣ D → 0 < D → 0 < m → 0 < d → t * (D / m) ≤ most → c * (C / d) ≤ most
over_divisor c t m d C D most same lower d_in m_in D_some m_some d_some fits =
    let r = D / C in
    let r_some : 0 < r = quotient_positive D C D_some lower in
    let whole : C * r ≡ D = mul_comm C r ∙ div-mul_cancel C lower in
    let shares : c * (D / d) ≡ t * (D / m) =
    same_over c t m d D (D / m) (D / d) same (div-mul_cancel m m_in) (div-mul_cancel d (dvd_trans d d_in lower)) m_some d_some in
    let parts : c * (D / d) ≡ c * (C / d) * r =
    ap (λ (n : ℕ). c * (n / d)) (sym whole) ∙ ap (λ (n : ℕ). c * n) (share_more C r d d_in) ∙ sym (mul_assoc c (C / d) r) in
    factor_within (c * (C / d)) r most (omega (arith, r_some)) (subst (λ (n : ℕ). n ≤ most) (sym shares ∙ parts) fits)

-- where the lines may turn, no constant passes 2^44
pub may_fit : (k : Kernel) (column : ℕ) (common : ℤ) → MayTurn k column → IsLowestCommon k column common → FitsLowest k column (nat_abs common)
may_fit k column common may least v v_in lowest is =
    let new = slice_index_or may.lows v no_line in
    let turned = may.turned.each v v_in in
    let new_in : v < length may.lows = omega (arith, v_in, may.turned.count) in
    let same : nat_abs lowest.constant * nat_abs new.denominator ≡ nat_abs new.constant * nat_abs lowest.denominator =
    sym (unsigned_abs-mul lowest.constant new.denominator)
    ∙ ap nat_abs (constant_of_line (turn_of_line k column v) column k.entering (line_of k v) lowest new is turned)
    ∙ unsigned_abs-mul new.constant lowest.denominator in
    over_divisor (nat_abs lowest.constant) (nat_abs new.constant) (nat_abs new.denominator) (nat_abs lowest.denominator) (nat_abs common) (nat_abs may.common)
    (2 ^ 44)
    same (least.least may.lows (nat_abs may.common) may.turned may.bounded.divides) (least.each v v_in lowest is).0 (may.bounded.divides v no_line new_in)
    (size_positive may.common may.bounded.positive) (size_positive new.denominator turned.positive) (size_positive lowest.denominator is.positive)
    (may.bounded.limit v no_line new_in)

-- a line has turned to what it comes to in lowest terms
pub record IsLowestIn (column : ℕ) (entering old new : Line) : Type 0 where
  pub line : IsLine new
  pub turned : IsTurnedLine (turn_at entering column old) column entering old new
  pub lowest : Lowest
  pub is_lowest : IsLowestAfter (turn_at entering column old) column entering old lowest
  pub denominator : new.denominator ≡ lowest.denominator
  pub constant : new.constant ≡ lowest.constant

-- the lines before a bound have
abbrev pub AreLowestBefore : Kernel → Kernel → ℕ → ℕ → Type 0
AreLowestBefore old new column bound = AreChangedBefore (λ v line. IsLowestIn column old.entering (line_of old v) line) old new bound

pub none_turned_to : (k : Kernel) (column : ℕ) → AreLowestBefore k k column 0
none_turned_to k column = none_changed (λ v line. IsLowestIn column k.entering (line_of k v) line) k

-- one more has
pub one_more_turned_to : (old mid new : Kernel) (column v : ℕ) → AreLowestBefore old mid column v → IsLineTurnedToLowest mid new column v →
    KeepsAllButLows mid new → AreLowestBefore old new column (v + 1)
one_more_turned_to old mid new column v b t keeps =
    let Fact : ℕ → Line → Type 0 = λ u line. IsLowestIn column old.entering (line_of old u) line in
    one_more_changed Fact old mid new v b keeps t.count t.others
    (before_change Fact (λ (e l : Line). IsLowestIn column e l (line_of new v)) old mid v b
    (record { line = t.line; turned = t.turned; lowest = t.lowest; is_lowest = t.is_lowest; denominator = t.denominator; constant = t.constant }))

-- a line that is put in its place has, where what was read has
pub line_put_to : (k h : Kernel) (column v : ℕ) (line new : Line) (turn : Turn) (lowest : Lowest) → v < length k.lows.items →
    h.lows.items ≡ slice_set k.lows.items v new → line ≡ line_of k v → turn ≡ turn_of_line k column v → IsLine new →
    IsTurnedLine turn column k.entering line new → IsLowestOf k column v lowest → new.denominator ≡ lowest.denominator →
    new.constant ≡ lowest.constant → IsLineTurnedToLowest k h column v
line_put_to k h column v line new turn lowest v_in put line_is turn_is small turned is denominator constant =
    let own = put_here k h v new v_in put in
    record {
      count = put_count k h v new put;
      line = subst IsLine (sym own) small;
      turned = turned_here k h column v line new turn own line_is turn_is turned;
      lowest = lowest;
      is_lowest = is;
      denominator = ap (λ (l : Line). l.denominator) own ∙ denominator;
      constant = ap (λ (l : Line). l.constant) own ∙ constant;
      others = put_others k h v new put;
    }

module _ (k : Kernel) (column : ℕ) (common : ℤ) (least : IsLowestCommon k column common) (fits : FitsLowest k column (nat_abs common)) where
  common_small : nat_abs common ≤ 2 ^ 30
  common_small = size_most common (2 ^ 30) least.positive least.small

  -- the next line may turn
  may_turn_to : (v : ℕ) → v < length k.lows.items → (lowest : Lowest) → IsLowestOf k column v lowest →
      MayTurnTo (turn_of_line k column v) column k.entering (line_of k v) lowest
  may_turn_to v v_in lowest is =
      let e = least.each v v_in lowest is in
      let some : 0 < nat_abs common = size_positive common least.positive in
      let divisor : nat_abs lowest.denominator ≤ nat_abs common = le_of_dvd some e.0 in
      let all_small = common_small in
      record {
        numbers = e.1;
        denominator = omega (arith, ints, divisor, all_small);
        constant = within_share (nat_abs lowest.constant) (nat_abs common / nat_abs lowest.denominator)
            (quotient_positive (nat_abs common) (nat_abs lowest.denominator) some e.0)
            (fits v v_in lowest is);
      }

  pub may_turn_between : (mid : Kernel) (v : ℕ) → AreLowestBefore k mid column v → v < length k.lows.items → (lowest : Lowest) →
      IsLowestOf mid column v lowest → MayTurnTo (turn_of_line mid column v) column mid.entering (line_of mid v) lowest
  may_turn_between mid v b v_in =
      after_change (λ u line. IsLowestIn column k.entering (line_of k u) line)
      (λ (e l : Line). (lowest : Lowest) → IsLowestAfter (turn_at e column l) column e l lowest → MayTurnTo (turn_at e column l) column e l lowest) k mid v b
      (may_turn_to v v_in)

  -- and then all have turned, to lines within the bounds
  pub bounded_lowest : (h : Kernel) → AreLowestBefore k h column (length k.lows.items) → AreBoundedLines common h.lows.items
  bounded_lowest h b = record {
    positive = least.positive;
    small = least.small;
    lines = each_at IsLine (λ v v_in. (b.each v v_in).line);
    divides = each_at (λ (l : Line). nat_abs l.denominator ∣ nat_abs common) (λ v v_in.
        let t = b.each v v_in in
        subst (λ (z : ℤ). nat_abs z ∣ nat_abs common) (sym t.denominator) (least.each v v_in t.lowest t.is_lowest).0);
    limit = each_at (λ (l : Line). nat_abs l.constant * share_of (nat_abs common) l ≤ 2 ^ 44) (λ v v_in.
        let t = b.each v v_in in
        subst (λ (z : ℤ). nat_abs (line_of h v).constant * (nat_abs common / nat_abs z) ≤ 2 ^ 44) (sym t.denominator)
        (subst (λ (z : ℤ). nat_abs z * (nat_abs common / nat_abs t.lowest.denominator) ≤ 2 ^ 44) (sym t.constant) (fits v v_in t.lowest t.is_lowest)));
  }
    where
      each_at : (P : Line → Type 0) → ((v : ℕ) → v < length k.lows.items → P (line_of h v)) → All P h.lows.items
      each_at P holds v d v_in = subst P (get_or_default h.lows.items v no_line d v_in) (holds v (omega (arith, v_in, b.count)))

pub turned_lowest : (k h : Kernel) (column : ℕ) → AreLowestBefore k h column (length k.lows.items) → AreTurnedLines k.entering column k.lows.items h.lows.items
turned_lowest k h column b = record { count = b.count; each = λ v v_in. (b.each v v_in).turned }
