-- The steps by which multipliers are made whole and summed up, one after another.
use Rattle.std.proofs.Common.{◌≡◌, ℕ, zero, suc, ◌+◌, ◌*◌, ◌^◌, ◌<◌, ◌≤◌, SFits, of_z, to_z, refl, sym, ◌∙◌, ap, subst, List, [], ◌∷◌, ◌++◌, map, length, arith}
use Rattle.std.specs.Int.{w128}
use Rattle.std.specs.Prelude.{ℤ, pos, ◌+ℤ◌, ◌*ℤ◌, ◌<ℤ◌, nat_abs, fold, take, slice_index_or, sum_by, All}
use Rattle.std.proofs.lemmas.Int.{fits_signed_from_abs, ints, to_z-of_z, to_z_pos}
use Rattle.std.proofs.lemmas.List.{get_or_default, get_or-map, length-map, map-append, take_more}
use Rattle.std.proofs.lemmas.List.Sums.{fold_more, sum_by-cons}
use Rattle.std.proofs.lemmas.Option.{slice_get-get_or}
use Rattle.std.proofs.lemmas.List.Elements.{All-push}
use Rattle.cost_base.specs.declared.StepName.TheVariants.{Add, Lcm, Mul, Scale}
use Rattle.whole_numbers.specs.Fractions.{Fraction, lcm, plus, sum_of, times, whole}
use Rattle.whole_numbers.proofs.FractionLaws.{reduced_lowest}
use Rattle.whole_numbers.proofs.Multiples.{lcm_positive, plus_stands_over}
use Rattle.whole_numbers.proofs.Sizes.{size_positive}
use Rattle.wide_fraction.specs.declared.steps.Wide.{Wide}
use Rattle.wide_fraction.specs.Widths.{IsTop}
use Rattle.design_problem.specs.Steps.{denominators, lcm_of}
use Rattle.fraction_table.specs.declared.stage.SimplexStop.TheVariants.{TooWide}
use Rattle.fraction_lines.specs.Entries.{AllNumbers, IsPassing}
use Rattle.fraction_table.specs.Multipliers.{IsMultiplierStep, IsTallyStep, IsWideMultiplier, common_of, fractions, whole_multiplier, wholes}
use Rattle.fraction_table.specs.Multipliers.IsMultiplierStep.{multiple, product}
use Rattle.fraction_table.specs.Multipliers.IsTallyStep.{sum, scale}
use Rattle.fraction_lines.specs.TableLines.{IsTableNumber}
use Rattle.fraction_table.proofs.MultiplierColumns.{whole_from}
use Rattle.fraction_lines.proofs.SmallNumbers.{top_small}

-- a number of at most 127 bits is read as it is
pub read_back : (z : ℤ) → nat_abs z < 2 ^ 127 → to_z w128 (of_z w128 z) ≡ z
read_back z small =
    let fits : SFits w128 z = fits_signed_from_abs w128 z small in
    to_z-of_z w128 z fits

pub read_natural : (n : ℕ) → n < 2 ^ 127 → to_z w128 n ≡ pos n
read_natural n small = to_z_pos w128 n small

pub part_number : (top : ℕ) (parts : List (ℕ × Fraction)) (k : ℕ) (d : ℕ × Fraction) → AllNumbers top parts →
    k < length parts → IsTableNumber top (slice_index_or parts k d).1
part_number top [] k d numbers k_in = absurd (omega arith)
part_number top (part ∷ parts) zero d numbers k_in = numbers.0
part_number top (part ∷ parts) (suc k) d numbers k_in = part_number top parts k d numbers.1 (omega arith)

fractions_long : (parts : List (ℕ × Fraction)) → length (fractions parts) ≡ length parts
fractions_long parts = length-map parts (λ (part : ℕ × Fraction). part.1)

pub denominators_long : (parts : List (ℕ × Fraction)) → length (denominators (fractions parts)) ≡ length parts
denominators_long parts = length-map (fractions parts) (λ (q : Fraction). q.denominator) ∙ fractions_long parts

denominator_there : (parts : List (ℕ × Fraction)) (k : ℕ) (d : ℕ × Fraction) (e : ℕ) → k < length parts →
    slice_index_or (denominators (fractions parts)) k e ≡ (slice_index_or parts k d).1.denominator
denominator_there parts k d e k_in =
    get_or-map (λ (q : Fraction). q.denominator) (fractions parts) k d.1 e (omega (arith, fractions_long parts, k_in))
    ∙ ap (λ (q : Fraction). q.denominator) (get_or-map (λ (part : ℕ × Fraction). part.1) parts k d d.1 k_in)

-- a natural number that isn't 0
pub natural_high : (n : ℕ) → 0 < n → pos 0 <ℤ pos n
natural_high n up = omega (arith, ints)

-- a denominator is within the top, and is read as it is
pub denominator_within : (top : ℕ) (q : Fraction) (z : ℤ) → IsTableNumber top q → z ≡ pos q.denominator → nat_abs z ≤ top
denominator_within top q z is z_is = subst (λ (x : ℤ). nat_abs x ≤ top) (sym z_is) is.within.denominator

pub positive_denominator : (top : ℕ) (q : Fraction) (z : ℤ) → IsTableNumber top q → z ≡ pos q.denominator → pos 0 <ℤ z
positive_denominator top q z is z_is = subst (λ (x : ℤ). pos 0 <ℤ x) (sym z_is) (natural_high q.denominator is.lowest.positive)

pub positive_multiple : (m z n : ℤ) → pos 0 <ℤ m → pos 0 <ℤ z → n ≡ pos (lcm (nat_abs m) (nat_abs z)) → pos 0 <ℤ n
positive_multiple m z n m_positive z_positive n_is =
    subst (λ (x : ℤ). pos 0 <ℤ x) (sym n_is)
    (natural_high (lcm (nat_abs m) (nat_abs z))
    (lcm_positive (nat_abs m) (nat_abs z) (size_positive m m_positive) (size_positive z z_positive)))

-- the multiple of one more denominator
pub multiple_next : (parts : List (ℕ × Fraction)) (k : ℕ) (d : ℕ × Fraction) (m n z : ℤ) → k < length parts →
    m ≡ pos (lcm_of (take k (denominators (fractions parts)))) → z ≡ pos (slice_index_or parts k d).1.denominator →
    n ≡ pos (lcm (nat_abs m) (nat_abs z)) → n ≡ pos (lcm_of (take (k + 1) (denominators (fractions parts))))
multiple_next parts k d m n z k_in m_is z_is n_is =
    let ds = denominators (fractions parts) in
    n_is
    ∙ ap (λ (x : ℤ). pos (lcm (nat_abs x) (nat_abs z))) m_is
    ∙ ap (λ (x : ℤ). pos (lcm (lcm_of (take k ds)) (nat_abs x))) z_is
    ∙ ap (λ (x : ℕ). pos (lcm (lcm_of (take k ds)) x)) (sym (denominator_there parts k d 0 k_in))
    ∙ ap pos (sym (fold_more lcm 1 ds k 0 (omega (arith, denominators_long parts, k_in))))

pub multiple_wide : (parts : List (ℕ × Fraction)) (k : ℕ) (d : ℕ × Fraction) (m z : ℤ) (wide : Wide) →
    k < length parts → m ≡ pos (lcm_of (take k (denominators (fractions parts)))) →
    z ≡ pos (slice_index_or parts k d).1.denominator → wide ≡ record { step = Lcm; left = whole m; right = whole z } →
    IsMultiplierStep (fractions parts) wide
multiple_wide parts k d m z wide k_in m_is z_is wide_is =
    let ds = denominators (fractions parts) in
    multiple k (slice_index_or ds k 0) (slice_get-get_or ds k 0 (omega (arith, denominators_long parts, k_in)))
    (wide_is
    ∙ ap {B = Wide} (λ (x : ℤ). record { step = Lcm; left = whole x; right = whole z }) m_is
    ∙ ap {B = Wide} (λ (x : ℤ). record { step = Lcm; left = whole (pos (lcm_of (take k ds))); right = whole x })
    (z_is ∙ ap pos (sym (denominator_there parts k d 0 k_in))))

-- one more multiplier that is made whole
pub made_next : (parts : List (ℕ × Fraction)) (k : ℕ) (d : ℕ × Fraction) (m : ℤ) (made news : List (ℕ × ℕ))
    (q : Fraction) → k < length parts → m ≡ pos (common_of parts) →
    made ≡ map (whole_multiplier (common_of parts)) (take k parts) → q ≡ times (slice_index_or parts k d).1 (whole m) →
    news ≡ made ++ ((slice_index_or parts k d).0, nat_abs q.numerator) ∷ [] →
    news ≡ map (whole_multiplier (common_of parts)) (take (k + 1) parts)
made_next parts k d m made news q k_in m_is made_is q_is news_is =
    let L = common_of parts in
    let part = slice_index_or parts k d in
    news_is
    ∙ ap (λ (ps : List (ℕ × ℕ)). ps ++ (part.0, nat_abs q.numerator) ∷ []) made_is
    ∙ ap (λ (p : Fraction). map (whole_multiplier L) (take k parts) ++ (part.0, nat_abs p.numerator) ∷ []) (q_is ∙ ap (λ (x : ℤ). times part.1 (whole x)) m_is)
    ∙ sym (map-append (whole_multiplier L) (take k parts) (part ∷ []))
    ∙ ap (map (whole_multiplier L)) (sym (take_more parts k d k_in))

-- what a push puts, by what was read of the parts
pub part_put : (parts : List (ℕ × Fraction)) (k : ℕ) (d e : ℕ × Fraction) (olds news : List (ℕ × ℕ)) (size n : ℕ) →
    k < length parts → size ≡ n → news ≡ olds ++ ((slice_index_or parts k e).0, size) ∷ [] →
    news ≡ olds ++ ((slice_index_or parts k d).0, n) ∷ []
part_put parts k d e olds news size n k_in size_is news_is =
    news_is
    ∙ ap (λ (part : ℕ × Fraction). olds ++ (part.0, size) ∷ []) (get_or_default parts k e d k_in)
    ∙ ap (λ (m : ℕ). olds ++ ((slice_index_or parts k d).0, m) ∷ []) size_is

pub made_wide : (parts : List (ℕ × Fraction)) (k : ℕ) (d : ℕ × Fraction) (m : ℤ) (wide : Wide) → k < length parts →
    m ≡ pos (common_of parts) → wide ≡ record { step = Mul; left = (slice_index_or parts k d).1; right = whole m } →
    IsMultiplierStep (fractions parts) wide
made_wide parts k d m wide k_in m_is wide_is =
    let e = (slice_index_or parts k d).1 in
    product k (slice_index_or (fractions parts) k e) (slice_get-get_or (fractions parts) k e (omega (arith, fractions_long parts, k_in)))
    (wide_is
    ∙ ap {B = Wide} (λ (x : ℤ). record { step = Mul; left = e; right = whole x }) m_is
    ∙ ap {B = Wide} (λ (q : Fraction). record { step = Mul; left = q; right = whole (pos (common_of parts)) })
    (sym (get_or-map (λ (part : ℕ × Fraction). part.1) parts k d e k_in)))

-- one more multiplier in the sum
pub wholes_long : (parts : List (ℕ × ℕ)) → length (wholes parts) ≡ length parts
wholes_long parts = length-map {B = Fraction} parts (λ part. whole (pos part.1))

pub sum_next : (parts : List (ℕ × ℕ)) (k : ℕ) (d : ℕ × ℕ) (so_far next value : Fraction) → k < length parts →
    so_far ≡ sum_of (take k (wholes parts)) → value ≡ whole (pos (slice_index_or parts k d).1) →
    next ≡ plus so_far value → next ≡ sum_of (take (k + 1) (wholes parts))
sum_next parts k d so_far next value k_in so_far_is value_is next_is =
    next_is
    ∙ ap (λ (q : Fraction). plus q value) so_far_is
    ∙ ap (λ (q : Fraction). plus (sum_of (take k (wholes parts))) q) (value_is ∙ sym (get_or-map (λ (part : ℕ × ℕ). whole (pos part.1)) parts k d value k_in))
    ∙ sym (fold_more plus (whole (pos 0)) (wholes parts) k value (omega (arith, wholes_long parts, k_in)))

pub sum_wide : (parts : List (ℕ × ℕ)) (k : ℕ) (d : ℕ × ℕ) (so_far value : Fraction) (wide : Wide) → k < length parts →
    so_far ≡ sum_of (take k (wholes parts)) → value ≡ whole (pos (slice_index_or parts k d).1) →
    wide ≡ record { step = Add; left = so_far; right = value } → IsTallyStep (wholes parts) wide
sum_wide parts k d so_far value wide k_in so_far_is value_is wide_is =
    sum k (slice_index_or (wholes parts) k value) (slice_get-get_or (wholes parts) k value (omega (arith, wholes_long parts, k_in)))
    (wide_is
    ∙ ap {B = Wide} (λ (q : Fraction). record { step = Add; left = q; right = value }) so_far_is
    ∙ ap {B = Wide} (λ (q : Fraction). record { step = Add; left = sum_of (take k (wholes parts)); right = q })
    (value_is ∙ sym (get_or-map (λ (part : ℕ × ℕ). whole (pos part.1)) parts k d value k_in)))

-- the sum is whole
plus_whole : (a b : ℕ) → plus (whole (pos a)) (whole (pos b)) ≡ whole (pos (a + b))
plus_whole a b =
    whole_from (plus (whole (pos a)) (whole (pos b))) (pos (a + b)) (reduced_lowest ((pos a *ℤ pos 1) +ℤ (pos b *ℤ pos 1)) (1 * 1) (omega arith))
    (plus_stands_over (whole (pos a)) (whole (pos b)) (pos a) (pos b) 1 (omega arith) (omega arith) (omega arith) refl refl)

folded_wholes : (a : ℕ) (parts : List (ℕ × ℕ)) → fold plus (whole (pos a)) (wholes parts) ≡ whole (pos (a + sum_by (λ part. part.1) parts))
folded_wholes a [] = ap (λ n. whole (pos n)) (omega arith)
folded_wholes a (part ∷ parts) =
    ap (λ (q : Fraction). fold plus q (wholes parts)) (plus_whole a part.1)
    ∙ folded_wholes (a + part.1) parts
    ∙ ap (λ n. whole (pos n)) (omega (arith, sum_by-cons (λ (p : ℕ × ℕ). p.1) part parts))

pub sum_whole : (parts : List (ℕ × ℕ)) → sum_of (wholes parts) ≡ whole (pos (sum_by (λ part. part.1) parts))
sum_whole parts = folded_wholes 0 parts ∙ ap (λ n. whole (pos n)) (omega arith)

-- a sum whose multiple by 2^27 is within a top is below 2^100
pub sum_small : (top s : ℕ) (n : ℤ) → IsTop top → n ≡ (pos s *ℤ pos (2 ^ 27)) → nat_abs n ≤ top → s < 2 ^ 100
sum_small top s n is_top n_is within =
    let most = top_small top is_top in
    let scaled : s * 2 ^ 27 ≤ top = subst (λ (z : ℤ). nat_abs z ≤ top) n_is within in
    omega arith

-- what a step told stands at its Err
pub wide_multiplier : (top : ℕ) (qs : List Fraction) (wide : Wide) → IsMultiplierStep qs wide → IsPassing top wide → IsWideMultiplier top qs (TooWide wide)
wide_multiplier top qs wide step passes = (step, passes)

-- multipliers of at most the top, with one more
pub all_more : (top : ℕ) (olds news : List (ℕ × ℕ)) (part : ℕ × ℕ) → news ≡ olds ++ part ∷ [] →
    All (λ p. p.1 ≤ top) olds → part.1 ≤ top → All (λ p. p.1 ≤ top) news
all_more top olds news part news_are within last =
    subst (λ (ps : List (ℕ × ℕ)). All (λ p. p.1 ≤ top) ps) (sym news_are) (All-push (λ (p : ℕ × ℕ). p.1 ≤ top) olds part within last)

pub scale_wide : (parts : List (ℕ × ℕ)) (so_far : Fraction) (wide : Wide) → so_far ≡ sum_of (wholes parts) →
    wide ≡ record { step = Scale; left = whole so_far.numerator; right = whole (pos (2 ^ 27)) } →
    IsTallyStep (wholes parts) wide
scale_wide parts so_far wide so_far_is wide_is =
    scale (wide_is ∙ ap {B = Wide} (λ (q : Fraction). record { step = Scale; left = q; right = whole (pos (2 ^ 27)) })
    (same so_far (so_far_is ∙ sum_whole parts) ∙ so_far_is))
  where
    same : (q : Fraction) → q ≡ whole (pos (sum_by (λ part. part.1) parts)) → whole q.numerator ≡ q
    same q is = subst (λ (p : Fraction). whole p.numerator ≡ p) (sym is) refl
