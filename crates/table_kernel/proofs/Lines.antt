-- The line of a place's form, by what the kernel holds.
use Rattle.std.proofs.Common.{◌≡◌, ℕ, ◌+◌, ◌*◌, ◌^◌, ◌<◌, ◌≤◌, refl, sym, subst, ◌∙◌, ap, List, [], ◌∷◌, length, arith, FitsSigned, w64, true, false}
use Rattle.std.specs.Prelude.{ℤ, pos, negsuc, ◌-ℤ◌, ◌*ℤ◌, ◌<ℤ◌, ◌≤ℤ◌, neg_ℤ, nat_abs, slice_index, slice_index_or, All}
use Rattle.std.specs.Int.Signed.{lt_z}
use Rattle.std.proofs.lemmas.Bool.{ltb-false, ltb-true}
use Prim.Native.Nat.{◌∣◌}
use Rattle.std.proofs.Math.Nat.{mul-le-mul_left}
use Rattle.std.proofs.lemmas.Int.{fits_signed_from_abs, ints, unsigned_abs-mul}
use Rattle.std.proofs.lemmas.List.{get_or_default}
use Rattle.whole_numbers.proofs.Ring.{var, num, neg, ◌⊖◌, ◌⊗◌, ring}
use Rattle.whole_numbers.proofs.Sizes.{positive_is}
use Rattle.whole_numbers.specs.Lists.{number_at}
use Rattle.design_problem.specs.declared.tree.Member.{Member}
use Rattle.design_problem.specs.declared.tree.Member.TheVariants.{Low, High}
use Rattle.design_problem.specs.Forms.{no_form}
use Rattle.design_problem.specs.Basis.{IsFormOf, member_form}
use Rattle.fraction_table.specs.Pivots.{member_at}
use Rattle.fraction_table.proofs.Pivots.{row_place}
use Rattle.integer_pivots.specs.declared.line.Line.{Line}
use Rattle.integer_pivots.specs.Lines.{IsInLowestTerms, IsLine, IsReduced, no_line}
use Rattle.integer_pivots.specs.Numbers.{AllWithin}
use Rattle.integer_pivots.proofs.Sizes.{number_within, product_small, read, read_number, size_most, size_of}
use Rattle.integer_pivots.proofs.ShareLaws.{share_times}
use Rattle.table_kernel.specs.declared.kernel.Kernel.{Kernel}
use Rattle.table_kernel.specs.Kernels.{IsBounded, IsKernel, IsShaped, width_of}
use Rattle.table_kernel.specs.Lines.{IsEntering, IsLineTooLarge, KeepsNumbers, StandsForPlace, column_of, form_of_place, numbers as numbers_pass, numbers_of_place}
use Rattle.table_kernel.specs.Numbers.{number_at_column, share_of}
use Rattle.table_kernel.specs.Turns.{line_of}
use Rattle.table_kernel.proofs.Columns.{column_at, column_long, common_small, high_number_in, line_small, low_number_in}
use Rattle.table_kernel.proofs.MoveReads.{read_factors}
use Rattle.table_kernel.proofs.PlaceConstants.{high_place_constant, low_place}
use Rattle.table_kernel.proofs.Restated.{line_number}
use Rattle.table_kernel.proofs.SameButRoom.{rebuilt}
use Rattle.table_kernel.proofs.Shares.{constants_short}

-- the kernel's lines go into its common denominator
pub line_divides : (k : Kernel) → IsBounded k → (v : ℕ) → v < length k.lows.items → nat_abs (line_of k v).denominator ∣ nat_abs k.common
line_divides k b v v_in = b.divides v no_line v_in

pub common_read : (k : Kernel) → IsBounded k → read k.common ≡ k.common
common_read k b = read_number k.common (omega (arith, common_small k b))

-- a share is small
pub share_size : (z : ℤ) → pos 1 ≤ℤ z → z ≤ℤ pos (2 ^ 30) → nat_abs z ≤ 2 ^ 30
share_size z high low = size_of z (2 ^ 30) (omega (arith, ints, high), low)

pub read_share : (z : ℤ) → pos 1 ≤ℤ z → z ≤ℤ pos (2 ^ 30) → read z ≡ z
read_share z high low = read_number z (omega (arith, share_size z high low))

pub share_range : (z : ℤ) → pos 1 ≤ℤ z → z ≤ℤ pos (2 ^ 30) → (pos 0 <ℤ read z) × (read z ≤ℤ pos (2 ^ 30))
share_range z high low = subst (λ (y : ℤ). (pos 0 <ℤ y) × (y ≤ℤ pos (2 ^ 30))) (sym (read_share z high low)) (omega (arith, ints, high), low)

-- a variable's line, as code reads it
pub record IsLineRead (k : Kernel) (v : ℕ) (line : Line) : Type 0 where
  pub is : line ≡ line_of k v
  pub small : IsLine line
  pub divides : nat_abs line.denominator ∣ nat_abs k.common
  pub long : length line.numbers ≡ width_of k

pub line_read : (k : Kernel) → IsShaped k → IsBounded k → (v : ℕ) (line : Line) → v < width_of k →
    line ≡ slice_index_or k.lows.items v line → IsLineRead k v line
line_read k s b v line v_in is =
    let there : v < length k.lows.items = omega (arith, v_in, s.lows) in
    let same : line ≡ line_of k v = is ∙ get_or_default k.lows.items v line no_line there in
    record {
      is = same;
      small = subst IsLine (sym same) (b.lines v no_line there);
      divides = subst (λ (l : Line). nat_abs l.denominator ∣ nat_abs k.common) (sym same) (b.divides v no_line there);
      long = subst (λ (l : Line). length l.numbers ≡ width_of k) (sym same) (s.each v no_line there);
    }

-- a line of several, as code reads it
pub record IsTermLine (lines : List Line) (common : ℤ) (many v : ℕ) (line : Line) : Type 0 where
  pub inside : v < length lines
  pub is : line ≡ slice_index_or lines v no_line
  pub small : IsLine line
  pub divides : nat_abs line.denominator ∣ nat_abs common
  pub long : length line.numbers ≡ many

pub term_line : (lines : List Line) (common : ℤ) (many v : ℕ) (line d : Line) → v < length lines → line ≡ slice_index_or lines v d →
    All IsLine lines → All (λ l. nat_abs l.denominator ∣ nat_abs common) lines → All (λ l. length l.numbers ≡ many) lines →
    IsTermLine lines common many v line
term_line lines common many v line d inside line_is small divides long =
    let is : line ≡ slice_index_or lines v no_line = line_is ∙ get_or_default lines v d no_line inside in
    record {
      inside = inside;
      is = is;
      small = subst IsLine (sym is) (small v no_line inside);
      divides = subst (λ (l : Line). nat_abs l.denominator ∣ nat_abs common) (sym is) (divides v no_line inside);
      long = subst (λ (l : Line). length l.numbers ≡ many) (sym is) (long v no_line inside);
    }

-- a common denominator as it is read
pub read_common : (z : ℤ) → (pos 0 <ℤ z) × (z ≤ℤ pos (2 ^ 30)) → read z ≡ z
read_common z within = read_number z (omega (arith, size_most z (2 ^ 30) within.0 within.1))

-- its constant is within 2^44
pub constant_small : (k : Kernel) → IsShaped k → IsBounded k → (v : ℕ) → v < width_of k → nat_abs (line_of k v).constant ≤ 2 ^ 44
constant_small k s b v v_in = constants_short k b v no_line (omega (arith, v_in, s.lows))

-- a range times a denominator, less a constant, as code reads them
module _ (r d : ℤ) (r_small : nat_abs r < 2 ^ 27) (d_small : nat_abs d ≤ 2 ^ 30) where
  product_is : (read r *ℤ read d) ≡ (r *ℤ d)
  product_is = read_factors r d (omega (arith, r_small)) d_small

  product_size : nat_abs (r *ℤ d) ≤ 2 ^ 57
  product_size = omega (arith, product_small (2 ^ 27) (2 ^ 30) r d (omega (arith, r_small)) d_small)

  pub high_product : FitsSigned w64 (read r *ℤ read d)
  high_product = subst (FitsSigned w64) (sym product_is) (fits_signed_from_abs w64 (r *ℤ d) (omega (arith, product_size)))

  module _ (k : ℤ) (k_small : nat_abs k ≤ 2 ^ 44) where
    difference_is : (read (read r *ℤ read d) -ℤ read k) ≡ ((r *ℤ d) -ℤ k)
    difference_is =
        ap (λ (z : ℤ). z -ℤ read k) (ap read product_is ∙ read_number (r *ℤ d) (omega (arith, product_size)))
        ∙ ap (λ (z : ℤ). (r *ℤ d) -ℤ z) (read_number k (omega (arith, k_small)))

    difference_size : nat_abs ((r *ℤ d) -ℤ k) < 2 ^ 63
    difference_size = omega (arith, ints, product_size, k_small)

    pub high_fits : FitsSigned w64 (read (read r *ℤ read d) -ℤ read k)
    high_fits = subst (FitsSigned w64) (sym difference_is) (fits_signed_from_abs w64 ((r *ℤ d) -ℤ k) difference_size)

    pub high_difference : read (read (read r *ℤ read d) -ℤ read k) ≡ ((r *ℤ d) -ℤ k)
    high_difference = ap read difference_is ∙ read_number ((r *ℤ d) -ℤ k) difference_size

-- a line with another sign
pub signed_line : (old new : Line) (sign : ℤ) → IsLine old → nat_abs sign ≡ 1 → length new.numbers ≡ length old.numbers →
    ((c : ℕ) → c < length old.numbers → number_at new.numbers c ≡ (sign *ℤ number_at old.numbers c)) →
    new.denominator ≡ old.denominator → new.reach ≡ old.reach → IsLine new
signed_line old new sign l one count put denominator reach =
    record {
      positive = subst (λ (z : ℤ). pos 0 <ℤ z) (sym denominator) l.positive;
      denominator = subst (λ (z : ℤ). z ≤ℤ pos (2 ^ 30)) (sym denominator) l.denominator;
      reach_positive = subst (λ (z : ℤ). pos 0 ≤ℤ z) (sym reach) l.reach_positive;
      reach = subst (λ (z : ℤ). z ≤ℤ pos (2 ^ 30)) (sym reach) l.reach;
      numbers = λ c d c_in. subst (λ (z : ℤ). nat_abs z ≤ nat_abs new.reach) (get_or_default new.numbers c (pos 0) d c_in)
          (here c (omega (arith, c_in, count)));
    }
  where
    here : (c : ℕ) → c < length old.numbers → nat_abs (number_at new.numbers c) ≤ nat_abs new.reach
    here c c_in =
        let z = number_at old.numbers c in
        let within = number_within (nat_abs old.reach) old.numbers c l.numbers in
        let size : nat_abs (sign *ℤ z) ≡ nat_abs sign * nat_abs z = unsigned_abs-mul sign z in
        let once : nat_abs sign * nat_abs z ≡ 1 * nat_abs z = ap (λ (n : ℕ). n * nat_abs z) one in
        omega (arith, ap nat_abs (put c c_in), size, once, within, ap nat_abs reach)

-- a number over a denominator that goes into a common one
scaled_stands : (z s d common : ℤ) → (s *ℤ d) ≡ common → (z *ℤ common) ≡ ((z *ℤ s) *ℤ d)
scaled_stands z s d common is = ap (λ (c : ℤ). z *ℤ c) (sym is) ∙ ring (z ∷ s ∷ d ∷ []) (var 0 ⊗ (var 1 ⊗ var 2)) ((var 0 ⊗ var 1) ⊗ var 2) refl

-- what doesn't depend on the room
pub stands_kept : (old new : Kernel) (place : ℕ) (line : Line) → KeepsNumbers old new → StandsForPlace old place line → StandsForPlace new place line
stands_kept old new place line keeps s =
    subst (λ (k : Kernel). StandsForPlace k place line) (sym (rebuilt old new keeps))
    (record { count = s.count; positive = s.positive; constant = s.constant; numbers = s.numbers })

pub entering_is : (old new : Kernel) (place : ℕ) → KeepsNumbers old new → StandsForPlace old place new.entering → IsLine new.entering → IsEntering new place
entering_is old new place keeps stands line = record { stands = stands_kept old new place new.entering keeps stands; line = line }

pub numbers_large : (old new : Kernel) (place : ℕ) (line : Line) → KeepsNumbers old new → StandsForPlace old place line →
    IsInLowestTerms line → (AllWithin (2 ^ 30) line.numbers → ⊥) → IsLineTooLarge new place
numbers_large old new place line keeps stands lowest large = numbers_pass line (stands_kept old new place line keeps stands) lowest large

-- the line of x - low for a variable
module _ (k : Kernel) (m : IsKernel k) (place v bound : ℕ) (place_in : place < length k.constants.items) where
  abbrev share : ℤ
  share = pos (share_of (nat_abs k.common) (line_of k v))

  times : v < width_of k → (share *ℤ (line_of k v).denominator) ≡ k.common
  times v_in =
      let there : v < length k.lows.items = omega (arith, v_in, m.shaped.lows) in
      share_times k.common (line_of k v).denominator m.bounded.positive (line_small k m.bounded v there).positive (line_divides k m.bounded v there)

  pub low_stands : (new : Line) → IsFormOf k.table.costs k.table.rows.items (Low v bound) → member_at k.table place ≡ Low v bound →
      length new.numbers ≡ width_of k →
      ((c : ℕ) → c < width_of k → number_at new.numbers c ≡ (pos 1 *ℤ number_at (line_of k v).numbers c)) →
      new.denominator ≡ (line_of k v).denominator → new.constant ≡ (line_of k v).constant → StandsForPlace k place new
  low_stands new known member count put denominator constant =
      let old = line_of k v in
      let there : v < length k.lows.items = omega (arith, known.0, m.shaped.lows) in
      record {
        count = count;
        positive = subst (λ (z : ℤ). pos 0 <ℤ z) (sym denominator) (line_small k m.bounded v there).positive;
        constant =
            ap (λ (z : ℤ). z *ℤ k.common) constant
            ∙ scaled_stands old.constant share old.denominator k.common (times known.0)
            ∙ ap (λ (z : ℤ). z *ℤ old.denominator) (sym (low_place k m place v bound place_in known.0 known.1 member))
            ∙ ap (λ (z : ℤ). number_at k.constants.items place *ℤ z) (sym denominator);
        numbers = λ c c_in.
            ap (λ (z : ℤ). z *ℤ k.common) (put c c_in ∙ ring (number_at old.numbers c ∷ []) (num (pos 1) ⊗ var 0) (var 0) refl)
            ∙ scaled_stands (number_at old.numbers c) share old.denominator k.common (times known.0)
            ∙ ap (λ (z : ℤ). z *ℤ old.denominator) (sym (
            line_number k place c c_in
            ∙ ap (λ (x : Member). number_at_column (member_form (width_of k) k.table.rows.items x) (column_of k c)) member
            ∙ low_number_in (width_of k) k.table.rows.items v bound (column_of k c) known.0 (sym (column_long k m.shaped c))
            ∙ column_at k m.shaped c v known.0))
            ∙ ap (λ (z : ℤ). number_at (numbers_of_place k place) c *ℤ z) (sym denominator);
      }

  pub high_stands : (new : Line) → IsFormOf k.table.costs k.table.rows.items (High v bound) → member_at k.table place ≡ High v bound →
      length new.numbers ≡ width_of k →
      ((c : ℕ) → c < width_of k → number_at new.numbers c ≡ (negsuc 0 *ℤ number_at (line_of k v).numbers c)) →
      new.denominator ≡ (line_of k v).denominator →
      new.constant ≡ (((pos (slice_index k.table.costs.high v) -ℤ pos (slice_index k.table.costs.low v)) *ℤ (line_of k v).denominator) -ℤ
      (line_of k v).constant) →
      StandsForPlace k place new
  high_stands new known member count put denominator constant =
      let old = line_of k v in
      let there : v < length k.lows.items = omega (arith, known.0, m.shaped.lows) in
      let range = pos (slice_index k.table.costs.high v) -ℤ pos (slice_index k.table.costs.low v) in
      let D : pos (nat_abs k.common) ≡ (share *ℤ old.denominator) = sym (positive_is k.common m.bounded.positive) ∙ sym (times known.0) in
      record {
        count = count;
        positive = subst (λ (z : ℤ). pos 0 <ℤ z) (sym denominator) (line_small k m.bounded v there).positive;
        constant =
            ap (λ (z : ℤ). z *ℤ k.common) constant
            ∙ ap (λ (z : ℤ). ((range *ℤ old.denominator) -ℤ old.constant) *ℤ z) (sym (times known.0))
            ∙ ring (range ∷ old.denominator ∷ old.constant ∷ share ∷ [])
            ((var 0 ⊗ var 1 ⊖ var 2) ⊗ (var 3 ⊗ var 1)) (((var 3 ⊗ var 1) ⊗ var 0 ⊖ var 2 ⊗ var 3) ⊗ var 1) refl
            ∙ ap (λ (z : ℤ). ((z *ℤ range) -ℤ (old.constant *ℤ share)) *ℤ old.denominator) (sym D)
            ∙ ap (λ (z : ℤ). z *ℤ old.denominator) (sym (high_place_constant k m place v bound place_in known.0 known.1 member))
            ∙ ap (λ (z : ℤ). number_at k.constants.items place *ℤ z) (sym denominator);
        numbers = λ c c_in.
            ap (λ (z : ℤ). z *ℤ k.common) (put c c_in ∙ ring (number_at old.numbers c ∷ []) (num (negsuc 0) ⊗ var 0) (neg (var 0)) refl)
            ∙ scaled_stands (neg_ℤ (number_at old.numbers c)) share old.denominator k.common (times known.0)
            ∙ ap (λ (z : ℤ). z *ℤ old.denominator) (
            ring (number_at old.numbers c ∷ share ∷ []) (neg (var 0) ⊗ var 1) (neg (var 0 ⊗ var 1)) refl
            ∙ sym (line_number k place c c_in
            ∙ ap (λ (x : Member). number_at_column (member_form (width_of k) k.table.rows.items x) (column_of k c)) member
            ∙ high_number_in (width_of k) k.table.rows.items v bound (column_of k c) known.0 (sym (column_long k m.shaped c))
            ∙ ap neg_ℤ (column_at k m.shaped c v known.0)))
            ∙ ap (λ (z : ℤ). number_at (numbers_of_place k place) c *ℤ z) (sym denominator);
      }

-- a line over the common denominator, in lower terms
module _ (k : Kernel) (place part : ℕ) (old new : Line) (r : IsReduced old new part) (denominator : old.denominator ≡ k.common) where
  common_is : (new.denominator *ℤ pos part) ≡ k.common
  common_is = sym r.denominator ∙ denominator

  over : (x z : ℤ) → z ≡ (x *ℤ pos part) → (x *ℤ k.common) ≡ (z *ℤ new.denominator)
  over x z is =
      ap (λ (c : ℤ). x *ℤ c) (sym common_is)
      ∙ ring (x ∷ new.denominator ∷ pos part ∷ []) (var 0 ⊗ (var 1 ⊗ var 2)) ((var 0 ⊗ var 2) ⊗ var 1) refl
      ∙ ap (λ (y : ℤ). y *ℤ new.denominator) (sym is)

  pub reduced_stands : pos 0 <ℤ new.denominator → old.constant ≡ number_at k.constants.items place →
      length old.numbers ≡ width_of k →
      ((c : ℕ) → c < width_of k → number_at old.numbers c ≡ number_at_column (form_of_place k place) (column_of k c)) →
      StandsForPlace k place new
  reduced_stands positive constant long put =
      record {
        count = r.count ∙ long;
        positive = positive;
        constant = over new.constant (number_at k.constants.items place) (sym constant ∙ r.constant);
        numbers = λ c c_in.
            over (number_at new.numbers c) (number_at (numbers_of_place k place) c)
            (line_number k place c c_in ∙ sym (put c c_in) ∙ r.numbers c (omega (arith, c_in, long)));
      }

  pub reduced_line : IsBounded k → pos 0 <ℤ new.denominator → pos 0 ≤ℤ new.reach → new.reach ≤ℤ pos (2 ^ 30) →
      AllWithin (nat_abs new.reach) new.numbers → IsLine new
  reduced_line b positive high small within =
      let size : nat_abs new.denominator * part ≡ nat_abs k.common = sym (unsigned_abs-mul new.denominator (pos part)) ∙ ap nat_abs common_is in
      let least : nat_abs new.denominator * 1 ≤ nat_abs new.denominator * part = mul-le-mul_left (nat_abs new.denominator) r.positive in
      record {
        positive = positive;
        denominator = omega (arith, ints, size, least, common_small k b, positive_is new.denominator positive);
        reach_positive = high;
        reach = small;
        numbers = within;
      }

-- a test of what is read
pub limit_passed : (m : ℕ) (z : ℤ) → pos 0 ≤ℤ z → nat_abs z < 2 ^ 63 → lt_z (pos m) (read z) ≡ true → m < nat_abs z
limit_passed m (pos n) high small test = ltb-true m n (sym (ap (lt_z (pos m)) (read_number (pos n) small)) ∙ test)
limit_passed m (negsuc n) high small test = absurd (omega (arith, ints))

pub limit_kept : (m : ℕ) (z : ℤ) → pos 0 ≤ℤ z → nat_abs z < 2 ^ 63 → lt_z (pos m) (read z) ≡ false → z ≤ℤ pos m
limit_kept m (pos n) high small test =
    let most = ltb-false m n (sym (ap (lt_z (pos m)) (read_number (pos n) small)) ∙ test) in
    omega (arith, ints, most)
limit_kept m (negsuc n) high small test = absurd (omega (arith, ints))

-- the sum of a row's factors is read as it is
pub factors_told : (z : ℤ) (n : ℕ) → z ≡ pos n → z ≤ℤ pos (2 ^ 46) → (pos 0 ≤ℤ z) × (nat_abs z < 2 ^ 63) × (nat_abs z ≡ n)
factors_told z n is small =
    let most : n ≤ 2 ^ 46 = (let e : pos n ≤ℤ pos (2 ^ 46) = subst (λ (y : ℤ). y ≤ℤ pos (2 ^ 46)) is small in omega (arith, ints, e)) in
    (omega (arith, ints, is), omega (arith, ap nat_abs is, most), ap nat_abs is)

-- the form of a row's place
pub row_form_is : (k : Kernel) (place row : ℕ) → row < length k.table.rows.items → place ≡ width_of k + width_of k + row →
    form_of_place k place ≡ slice_index_or k.table.rows.items row no_form
row_form_is k place row row_in place_is =
    ap (λ (p : ℕ). member_form (width_of k) k.table.rows.items (member_at k.table p)) place_is
    ∙ ap (member_form (width_of k) k.table.rows.items) (row_place k.table.costs (length k.table.rows.items) row (Low 0 0) row_in)

-- the kernel with a line in place of its entering one keeps its numbers
pub keeps_entering : (old mid : Kernel) (line : Line) → KeepsNumbers old mid → length line.numbers ≡ length mid.entering.numbers →
    KeepsNumbers old (record mid { entering = line })
keeps_entering old mid line keeps long = record {
  table = keeps.table;
  common = keeps.common;
  lows = keeps.lows;
  leads = keeps.leads;
  constants = keeps.constants;
  uses = keeps.uses;
  turns = keeps.turns;
  left = keeps.left;
  entering = long ∙ keeps.entering;
}

pub keeps_self : (k : Kernel) → KeepsNumbers k k
keeps_self k = record {
  table = refl;
  common = refl;
  lows = refl;
  leads = refl;
  constants = refl;
  uses = refl;
  turns = refl;
  left = omega arith;
  entering = refl;
}
