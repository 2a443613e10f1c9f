-- The factors of which a row's line is made, and the sums of lines times these, term by term.
use Rattle.std.proofs.Common.{◌≡◌, ℕ, zero, suc, ◌+◌, ◌*◌, ◌^◌, ◌<◌, ◌≤◌, refl, sym, subst, ◌∙◌, ap, List, [], ◌∷◌, map, length, get_or, drop, arith, drop-cons, FitsSigned, w64}
use Rattle.std.specs.Prelude.{ℤ, pos, negsuc, ◌+ℤ◌, ◌*ℤ◌, ◌≤ℤ◌, neg_ℤ, nat_abs, slice_index_or, sum_by, All}
use native.Mathlib.Nat.{zero-mul}
use Rattle.std.proofs.Math.Nat.{add-mul, mul-le-mul, mul-le-mul_left, mul-le-mul_right}
use Rattle.std.proofs.lemmas.Int.{fits_signed_from_abs, ints, unsigned_abs-mul}
use Rattle.std.proofs.lemmas.List.{get_or_default, get_or-map, length-map}
use Rattle.std.proofs.lemmas.List.Sums.{sum_by-cons}
use Rattle.whole_numbers.specs.Lists.{number_at}
use Rattle.whole_numbers.proofs.Ring.{var, ◌⊗◌, ring}
use Rattle.design_problem.specs.declared.form.Term.{Term}
use Rattle.design_problem.specs.Forms.{terms_from}
use Rattle.design_problem.proofs.TermLaws.{total, total_from, total_is}
use Rattle.integer_pivots.specs.declared.line.Line.{Line}
use Rattle.integer_pivots.specs.Lines.{no_line}
use Rattle.integer_pivots.specs.Numbers.{AllWithin, more_sums, product_sum}
use Rattle.integer_pivots.proofs.PartSums.{more_at, more_long}
use Rattle.whole_numbers.proofs.Sizes.{negated_size, product_size}
use Rattle.integer_pivots.proofs.Sizes.{number_within, read, read_number}
use Rattle.table_kernel.specs.Lines.{factors_of}
use Rattle.table_kernel.specs.Numbers.{scaled_line, share_of}
use Rattle.table_kernel.proofs.Columns.{scaled_number, share_small}
use Rattle.table_kernel.proofs.LineSums.{IsPart, part_all, part_first, part_more, part_room, product_at, room_by, room_weight, sum_by_terms}

-- a variable's factor, by its coefficient
abbrev pub factor_at : ℕ → List Line → ℕ → ℤ → ℤ
factor_at D lines v c = pos (nat_abs c * share_of D (slice_index_or lines v no_line))

-- and a term's
abbrev pub factor_of : ℕ → List Line → Term → ℕ
factor_of D lines t = nat_abs t.coefficient * share_of D (slice_index_or lines t.var no_line)

-- the factors of coefficients from a variable on
factors_from : (D first : ℕ) (cs : List ℤ) (lines : List Line) → first + length cs ≤ length lines →
    total_from (factor_at D lines) first cs ≡ pos (factors_of D cs (drop first lines))
factors_from D first [] lines counted = refl
factors_from D first (c ∷ cs) lines counted =
    rw (drop-cons lines first no_line (omega arith))
    (ap (λ s. factor_at D lines first c +ℤ s) (factors_from D (suc first) cs lines (omega arith)))

-- no factor is less than 0
none_taken : (n : ℕ) → pos (0 * n) ≡ pos 0
none_taken n = omega (arith, ints)

pub factors_by_terms : (D : ℕ) (cs : List ℤ) (lines : List Line) → length cs ≤ length lines →
    total (factor_at D lines) (terms_from 0 cs) ≡ pos (factors_of D cs lines)
factors_by_terms D cs lines counted =
    total_is (factor_at D lines) (λ v. none_taken (share_of D (slice_index_or lines v no_line))) 0 cs
    ∙ factors_from D 0 cs lines (omega arith)

-- their sum as a natural number
sum_natural : (D : ℕ) (lines : List Line) (ts : List Term) → total (factor_at D lines) ts ≡ pos (sum_by (factor_of D lines) ts)
sum_natural D lines [] = refl
sum_natural D lines (t ∷ ts) =
    ap (λ s. pos (factor_of D lines t) +ℤ s) (sum_natural D lines ts)
    ∙ ap pos (sym (sum_by-cons (factor_of D lines) t ts))

-- the room that a term's multiple needs
abbrev pub multiple_room : ℕ → List Line → Term → ℕ
multiple_room D lines t = factor_of D lines t * 2 ^ 30

rooms : (D : ℕ) (lines : List Line) (ts : List Term) → sum_by (multiple_room D lines) ts ≡ sum_by (factor_of D lines) ts * 2 ^ 30
rooms D lines [] = sym (zero-mul (2 ^ 30))
rooms D lines (t ∷ ts) =
    sum_by-cons (multiple_room D lines) t ts
    ∙ ap (λ (n : ℕ). multiple_room D lines t + n) (rooms D lines ts)
    ∙ sym (add-mul (factor_of D lines t) (sum_by (factor_of D lines) ts) (2 ^ 30))
    ∙ ap (λ (n : ℕ). n * 2 ^ 30) (sym (sum_by-cons (factor_of D lines) t ts))

room_all : (D : ℕ) (lines : List Line) (ts : List Term) (cs : List ℤ) → length cs ≤ length lines →
    ts ≡ terms_from 0 cs → factors_of D cs lines ≤ 2 ^ 32 → sum_by (multiple_room D lines) ts ≤ 2 ^ 62
room_all D lines ts cs counted terms light =
    let whole : pos (sum_by (factor_of D lines) ts) ≡ pos (factors_of D cs lines) =
    sym (sum_natural D lines ts) ∙ ap (total (factor_at D lines)) terms ∙ factors_by_terms D cs lines counted in
    omega (arith, rooms D lines ts, ap nat_abs whole, light)

-- no term's factor is greater than all together
weighs : (D : ℕ) (lines : List Line) (ts : List Term) (index : ℕ) (d : Term) → index < length ts →
    factor_of D lines (get_or ts index d) ≤ sum_by (factor_of D lines) ts
weighs D lines [] index d index_in = absurd (omega arith)
weighs D lines (t ∷ ts) zero d index_in = omega (arith, sum_by-cons (factor_of D lines) t ts)
weighs D lines (t ∷ ts) (suc index) d index_in = omega (arith, sum_by-cons (factor_of D lines) t ts, weighs D lines ts index d (omega arith))

pub factor_within : (D : ℕ) (lines : List Line) (ts : List Term) (index : ℕ) (d : Term) (cs : List ℤ) → index < length ts →
    length cs ≤ length lines → ts ≡ terms_from 0 cs → factors_of D cs lines ≤ 2 ^ 32 →
    factor_of D lines (get_or ts index d) ≤ 2 ^ 32
factor_within D lines ts index d cs index_in counted terms light =
    let whole : pos (sum_by (factor_of D lines) ts) ≡ pos (factors_of D cs lines) =
    sym (sum_natural D lines ts) ∙ ap (total (factor_at D lines)) terms ∙ factors_by_terms D cs lines counted in
    omega (arith, weighs D lines ts index d index_in, ap nat_abs whole, light)

-- the sum of factors of which a part is added
abbrev pub IsFactorPart : ℕ → List Line → List Term → ℕ → ℤ → Type 0
IsFactorPart D lines ts index sum = IsPart (factor_at D lines) (room_by (2 ^ 30)) (2 ^ 46) ts index sum

pub factors_first : (D : ℕ) (lines : List Line) (ts : List Term) (cs : List ℤ) → ts ≡ terms_from 0 cs →
    sum_by nat_abs cs ≤ 2 ^ 16 → IsFactorPart D lines ts 0 (pos 0)
factors_first D lines ts cs terms light =
    part_first (factor_at D lines) (room_by (2 ^ 30)) (2 ^ 46) ts
    (omega (arith, room_weight (2 ^ 30) ts cs terms, mul-le-mul_right (2 ^ 30) light))

pub factors_more : (D : ℕ) (lines : List Line) (ts : List Term) (index : ℕ) (d : Term) (sum : ℤ) → D ≤ 2 ^ 30 → index < length ts →
    IsFactorPart D lines ts index sum →
    IsFactorPart D lines ts (index + 1) (sum +ℤ pos (factor_of D lines (get_or ts index d)))
factors_more D lines ts index d sum small index_in s =
    let t = get_or ts index d in
    part_more (factor_at D lines) (room_by (2 ^ 30)) (2 ^ 46) ts index d sum index_in
    (mul-le-mul_left (nat_abs t.coefficient) (share_small D (slice_index_or lines t.var no_line) small)) s

-- a coefficient is small, and so is its opposite
pub coefficient_light : (D : ℕ) (lines : List Line) (ts : List Term) (index : ℕ) (d : Term) (sum : ℤ) → index < length ts →
    IsFactorPart D lines ts index sum → nat_abs (get_or ts index d).coefficient ≤ 2 ^ 16
coefficient_light D lines ts index d sum index_in s =
    let room = part_room (factor_at D lines) (room_by (2 ^ 30)) (2 ^ 46) ts index d sum index_in s in
    omega (arith, room)

pub coefficient_turns : (c : ℤ) → nat_abs c ≤ 2 ^ 16 → FitsSigned w64 (neg_ℤ (read c))
coefficient_turns c small =
    subst (λ (z : ℤ). FitsSigned w64 (neg_ℤ z)) (sym (read_number c (omega (arith, small))))
    (fits_signed_from_abs w64 (neg_ℤ c) (omega (arith, negated_size c, small)))

-- what code computes at a term: nothing is too wide, and the sum is one factor further
pub factors_step : (D : ℕ) (lines : List Line) (ts : List Term) (index : ℕ) (d : Term) (sum a s : ℤ) → D ≤ 2 ^ 30 → index < length ts →
    a ≡ pos (nat_abs (read (get_or ts index d).coefficient)) →
    s ≡ pos (share_of D (slice_index_or lines (get_or ts index d).var no_line)) → IsFactorPart D lines ts index sum →
    FitsSigned w64 (read a *ℤ read s) × FitsSigned w64 (sum +ℤ read (read a *ℤ read s))
    × IsFactorPart D lines ts (index + 1) (read (sum +ℤ read (read a *ℤ read s)))
factors_step D lines ts index d sum a s small index_in a_is s_is part =
    let t = get_or ts index d in
    let c = t.coefficient in
    let n = share_of D (slice_index_or lines t.var no_line) in
    let light = coefficient_light D lines ts index d sum index_in part in
    let share = share_small D (slice_index_or lines t.var no_line) small in
    let a_same : read a ≡ pos (nat_abs c) =
    ap read (a_is ∙ ap (λ (z : ℤ). pos (nat_abs z)) (read_number c (omega (arith, light)))) ∙ read_number (pos (nat_abs c)) (omega (arith, light)) in
    let s_same : read s ≡ pos n = ap read s_is ∙ read_number (pos n) (omega (arith, share)) in
    let product : (read a *ℤ read s) ≡ pos (nat_abs c * n) = ap (λ (z : ℤ). z *ℤ read s) a_same ∙ ap (λ (z : ℤ). pos (nat_abs c) *ℤ z) s_same in
    let size : nat_abs c * n ≤ 2 ^ 16 * 2 ^ 30 = mul-le-mul light share in
    let part_is : read (read a *ℤ read s) ≡ pos (nat_abs c * n) = ap read product ∙ read_number (pos (nat_abs c * n)) (omega (arith, size)) in
    let whole : (sum +ℤ read (read a *ℤ read s)) ≡ (sum +ℤ pos (nat_abs c * n)) = ap (λ (z : ℤ). sum +ℤ z) part_is in
    let more = factors_more D lines ts index d sum small index_in part in
    let within : nat_abs (sum +ℤ pos (nat_abs c * n)) < 2 ^ 63 = omega (arith, more.size) in (
      subst (FitsSigned w64) (sym product) (fits_signed_from_abs w64 (pos (nat_abs c * n)) (omega (arith, size))),
      subst (FitsSigned w64) (sym whole) (fits_signed_from_abs w64 (sum +ℤ pos (nat_abs c * n)) within),
      subst (IsFactorPart D lines ts (index + 1)) (sym (ap read whole ∙ read_number (sum +ℤ pos (nat_abs c * n)) within)) more,
    )

pub factors_size : (z : ℤ) → nat_abs z ≤ 2 ^ 46 → z ≤ℤ pos (2 ^ 46)
factors_size (pos n) small = omega (arith, ints, small)
factors_size (negsuc n) small = omega (arith, ints)

pub factors_all : (D : ℕ) (lines : List Line) (ts : List Term) (index : ℕ) (sum : ℤ) (cs : List ℤ) → length ts ≤ index →
    ts ≡ terms_from 0 cs → length cs ≤ length lines → IsFactorPart D lines ts index sum →
    sum ≡ pos (factors_of D cs lines)
factors_all D lines ts index sum cs past terms counted s =
    part_all (factor_at D lines) (room_by (2 ^ 30)) (2 ^ 46) ts index sum past s
    ∙ ap (total (factor_at D lines)) terms
    ∙ factors_by_terms D cs lines counted

-- the scaled numbers of lines at a column
abbrev pub scaled_column : ℕ → List Line → ℕ → List ℤ
scaled_column D lines c = map (λ row. number_at row (suc c)) (map (scaled_line D) lines)

pub scaled_at_column : (D : ℕ) (lines : List Line) (c v : ℕ) → v < length lines →
    number_at (scaled_column D lines c) v
    ≡ (number_at (slice_index_or lines v no_line).numbers c *ℤ pos (share_of D (slice_index_or lines v no_line)))
scaled_at_column D lines c v v_in =
    get_or-map (λ (row : List ℤ). number_at row (suc c)) (map (scaled_line D) lines) v (scaled_line D no_line) (pos 0)
    (omega (arith, length-map lines (scaled_line D), v_in))
    ∙ ap (λ (row : List ℤ). number_at row (suc c)) (get_or-map (scaled_line D) lines v no_line (scaled_line D no_line) v_in)
    ∙ scaled_number D (slice_index_or lines v no_line) (suc c)

-- at each column the sum with what is left of the terms is the whole one, and there is room for the rest
abbrev pub ArePutTo : ℕ → List Line → List Term → ℕ → List ℤ → Type 0
ArePutTo D lines ts index sums =
    (c : ℕ) → c < length sums →
    IsPart (product_at (scaled_column D lines c)) (multiple_room D lines) (2 ^ 62) ts index (number_at sums c)

pub put_first : (D : ℕ) (lines : List Line) (ts : List Term) (cs : List ℤ) (sums : List ℤ) → length cs ≤ length lines →
    ts ≡ terms_from 0 cs → factors_of D cs lines ≤ 2 ^ 32 →
    ((c : ℕ) → c < length sums → number_at sums c ≡ pos 0) → ArePutTo D lines ts 0 sums
put_first D lines ts cs sums counted terms light zeros c c_in =
    subst (IsPart (product_at (scaled_column D lines c)) (multiple_room D lines) (2 ^ 62) ts 0) (sym (zeros c c_in))
    (part_first (product_at (scaled_column D lines c)) (multiple_room D lines) (2 ^ 62) ts (room_all D lines ts cs counted terms light))

-- no step is wide
pub put_room : (D : ℕ) (lines : List Line) (ts : List Term) (index : ℕ) (d : Term) (sums : List ℤ) → index < length ts →
    ArePutTo D lines ts index sums →
    All (λ sum. nat_abs sum + factor_of D lines (get_or ts index d) * 2 ^ 30 ≤ 2 ^ 62) sums
put_room D lines ts index d sums index_in put c e c_in =
    subst (λ (sum : ℤ). nat_abs sum + factor_of D lines (get_or ts index d) * 2 ^ 30 ≤ 2 ^ 62)
    (get_or_default sums c (pos 0) e c_in)
    (part_room (product_at (scaled_column D lines c)) (multiple_room D lines) (2 ^ 62) ts index d (number_at sums c) index_in (put c c_in))

pub put_more : (D : ℕ) (lines : List Line) (ts : List Term) (index : ℕ) (d : Term) (sums news : List ℤ) (line : Line) (f : ℤ) →
    index < length ts → (get_or ts index d).var < length lines →
    line ≡ slice_index_or lines (get_or ts index d).var no_line → AllWithin (2 ^ 30) line.numbers →
    length line.numbers ≡ length sums →
    f ≡ ((get_or ts index d).coefficient *ℤ pos (share_of D line)) → news ≡ more_sums sums f line.numbers →
    ArePutTo D lines ts index sums → ArePutTo D lines ts (index + 1) news
put_more D lines ts index d sums news line f index_in var_in line_is small long f_is news_are put c c_in =
    let t = get_or ts index d in
    let zs = scaled_column D lines c in
    let here : c < length sums = omega (arith, c_in, ap length news_are, more_long sums f line.numbers) in
    let share = share_of D line in
    let z = number_at line.numbers c in
    let scaled : number_at zs t.var ≡ (z *ℤ pos share) =
    scaled_at_column D lines c t.var var_in ∙ ap (λ (l : Line). number_at l.numbers c *ℤ pos (share_of D l)) (sym line_is) in
    let product : (f *ℤ z) ≡ (t.coefficient *ℤ number_at zs t.var) =
    ap (λ (y : ℤ). y *ℤ z) f_is
    ∙ ring (t.coefficient ∷ pos share ∷ z ∷ []) ((var 0 ⊗ var 1) ⊗ var 2) (var 0 ⊗ (var 2 ⊗ var 1)) refl
    ∙ ap (λ (y : ℤ). t.coefficient *ℤ y) (sym scaled) in
    let now : number_at news c ≡ (number_at sums c +ℤ (t.coefficient *ℤ number_at zs t.var)) =
    ap (λ (ys : List ℤ). number_at ys c) news_are
    ∙ more_at sums f line.numbers c here (omega (arith, here, long))
    ∙ ap (λ (y : ℤ). number_at sums c +ℤ y) product in
    let size : nat_abs (f *ℤ z) ≤ nat_abs f * 2 ^ 30 =
    omega (arith, unsigned_abs-mul f z, mul-le-mul_left (nat_abs f) (number_within (2 ^ 30) line.numbers c small)) in
    let f_size : nat_abs f ≡ factor_of D lines t =
    ap nat_abs f_is ∙ product_size t.coefficient share ∙ ap (λ (l : Line). nat_abs t.coefficient * share_of D l) line_is in
    let within : nat_abs (t.coefficient *ℤ number_at zs t.var) ≤ multiple_room D lines t =
    subst (λ (n : ℕ). nat_abs (t.coefficient *ℤ number_at zs t.var) ≤ n * 2 ^ 30) f_size
    (subst (λ (y : ℤ). nat_abs y ≤ nat_abs f * 2 ^ 30) product size) in
    subst (IsPart (product_at zs) (multiple_room D lines) (2 ^ 62) ts (index + 1)) (sym now)
    (part_more (product_at zs) (multiple_room D lines) (2 ^ 62) ts index d (number_at sums c) index_in within (put c here))

pub put_all : (D : ℕ) (lines : List Line) (ts : List Term) (index : ℕ) (sums : List ℤ) (cs : List ℤ) → length ts ≤ index →
    ts ≡ terms_from 0 cs → length cs ≤ length lines → ArePutTo D lines ts index sums → (c : ℕ) → c < length sums →
    number_at sums c ≡ product_sum cs (scaled_column D lines c)
put_all D lines ts index sums cs past terms counted put c c_in =
    let zs = scaled_column D lines c in
    part_all (product_at zs) (multiple_room D lines) (2 ^ 62) ts index (number_at sums c) past (put c c_in)
    ∙ ap (total (product_at zs)) terms
    ∙ sum_by_terms cs zs
    (omega (arith, counted, length-map (map (scaled_line D) lines) (λ (row : List ℤ). number_at row (suc c)), length-map lines (scaled_line D)))

-- each sum is within the room
pub put_within : (D : ℕ) (lines : List Line) (ts : List Term) (index : ℕ) (sums : List ℤ) → ArePutTo D lines ts index sums → AllWithin (2 ^ 62) sums
put_within D lines ts index sums put c e c_in =
    subst (λ (sum : ℤ). nat_abs sum ≤ 2 ^ 62) (get_or_default sums c (pos 0) e c_in) (omega (arith, (put c c_in).size))

-- a term's factor as code computes it
pub record IsFactorRead (D : ℕ) (lines : List Line) (t : Term) (line : Line) (share : ℤ) : Type 0 where
  pub fits : FitsSigned w64 (read t.coefficient *ℤ read share)
  pub value : read (read t.coefficient *ℤ read share) ≡ (t.coefficient *ℤ pos (share_of D line))
  pub size : nat_abs (read (read t.coefficient *ℤ read share)) ≡ factor_of D lines t
  pub small : factor_of D lines t ≤ 2 ^ 32

pub factor_read : (D : ℕ) (lines : List Line) (t : Term) (line : Line) (share : ℤ) → D ≤ 2 ^ 30 → 1 ≤ share_of D line →
    line ≡ slice_index_or lines t.var no_line → share ≡ pos (share_of D line) → factor_of D lines t ≤ 2 ^ 32 →
    IsFactorRead D lines t line share
factor_read D lines t line share small some line_is share_is light =
    let c = t.coefficient in
    let n = share_of D line in
    let size : nat_abs (c *ℤ pos n) ≡ factor_of D lines t =
    product_size c n ∙ ap (λ (l : Line). nat_abs c * share_of D l) line_is in
    let least : nat_abs c * 1 ≤ nat_abs c * n = mul-le-mul_left (nat_abs c) some in
    let c_small : nat_abs c ≤ 2 ^ 32 = omega (arith, least, product_size c n, size, light) in
    let n_small = share_small D line small in
    let product : (read c *ℤ read share) ≡ (c *ℤ pos n) =
    ap (λ (z : ℤ). z *ℤ read share) (read_number c (omega (arith, c_small)))
    ∙ ap (λ (z : ℤ). c *ℤ z) (ap read share_is ∙ read_number (pos n) (omega (arith, n_small))) in
    let within : nat_abs (c *ℤ pos n) < 2 ^ 63 = omega (arith, size, light) in
    let value : read (read c *ℤ read share) ≡ (c *ℤ pos n) = ap read product ∙ read_number (c *ℤ pos n) within in
    record {
      fits = subst (FitsSigned w64) (sym product) (fits_signed_from_abs w64 (c *ℤ pos n) within);
      value = value;
      size = ap nat_abs value ∙ size;
      small = light;
    }
