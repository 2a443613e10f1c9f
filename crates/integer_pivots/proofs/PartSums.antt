-- Sums to which a multiple is put place by place.
use Rattle.std.proofs.Common.{◌≡◌, ℕ, zero, suc, ◌+◌, ◌*◌, ◌^◌, ◌<◌, ◌≤◌, refl, sym, ◌∙◌, ap, List, [], ◌∷◌, length, set, subst, arith, FitsSigned, w64}
use Rattle.std.specs.Prelude.{ℤ, pos, ◌+ℤ◌, ◌*ℤ◌, nat_abs}
use Rattle.std.proofs.lemmas.Int.{fits_signed_from_abs}
use Rattle.whole_numbers.specs.Lists.{number_at}
use Rattle.whole_numbers.proofs.Sizes.{sum_size}
use Rattle.std.proofs.Math.IntN.{+ℤ_idr}
use Rattle.integer_pivots.specs.Numbers.{more_sums}
use Rattle.integer_pivots.proofs.Sizes.{product_size, product_small, read, read_number}

-- the multiple is put at the places before the first number
abbrev pub partly : ℕ → List ℤ → ℤ → List ℤ → List ℤ
partly zero sums factor zs = sums
partly (suc i) [] factor zs = []
partly (suc i) (sum ∷ sums) factor [] = sum ∷ sums
partly (suc i) (sum ∷ sums) factor (z ∷ zs) = (sum +ℤ (factor *ℤ z)) ∷ partly i sums factor zs

pub partly_at : (i : ℕ) (sums : List ℤ) (factor : ℤ) (zs : List ℤ) → number_at (partly i sums factor zs) i ≡ number_at sums i
partly_at zero sums factor zs = refl
partly_at (suc i) [] factor zs = refl
partly_at (suc i) (sum ∷ sums) factor [] = refl
partly_at (suc i) (sum ∷ sums) factor (z ∷ zs) = partly_at i sums factor zs

put_next : (i : ℕ) (sums : List ℤ) (factor : ℤ) (zs : List ℤ) → i < length sums → i < length zs →
    set (partly i sums factor zs) i (number_at sums i +ℤ (factor *ℤ number_at zs i)) ≡ partly (suc i) sums factor zs
put_next zero [] factor zs i_in z_in = absurd (omega arith)
put_next zero (sum ∷ sums) factor [] i_in z_in = absurd (omega arith)
put_next zero (sum ∷ sums) factor (z ∷ zs) i_in z_in = refl
put_next (suc i) [] factor zs i_in z_in = absurd (omega arith)
put_next (suc i) (sum ∷ sums) factor [] i_in z_in = absurd (omega arith)
put_next (suc i) (sum ∷ sums) factor (z ∷ zs) i_in z_in = ap (λ ys. (sum +ℤ (factor *ℤ z)) ∷ ys) (put_next i sums factor zs (omega arith) (omega arith))

pub partly_more : (i : ℕ) (sums : List ℤ) (factor : ℤ) (zs : List ℤ) → i < length sums → i < length zs →
    set (partly i sums factor zs) i (number_at sums i +ℤ (factor *ℤ number_at zs i)) ≡ partly (i + 1) sums factor zs
partly_more i sums factor zs i_in z_in = put_next i sums factor zs i_in z_in ∙ ap (λ j. partly j sums factor zs) (let e : suc i ≡ i + 1 = omega arith in e)

-- where a number is 0 nothing is put
partly_same : (i : ℕ) (sums : List ℤ) (factor : ℤ) (zs : List ℤ) → number_at zs i ≡ pos 0 →
    partly (suc i) sums factor zs ≡ partly i sums factor zs
partly_same zero [] factor zs none = refl
partly_same zero (sum ∷ sums) factor [] none = refl
partly_same zero (sum ∷ sums) factor (z ∷ zs) none =
    ap (λ (y : ℤ). (sum +ℤ (factor *ℤ y)) ∷ sums) none
    ∙ ap (λ (y : ℤ). (sum +ℤ y) ∷ sums) (lib.IntN.*ℤ-zero factor) ∙ ap (λ (y : ℤ). y ∷ sums) (+ℤ_idr sum)
partly_same (suc i) [] factor zs none = refl
partly_same (suc i) (sum ∷ sums) factor [] none = refl
partly_same (suc i) (sum ∷ sums) factor (z ∷ zs) none = ap (λ ys. (sum +ℤ (factor *ℤ z)) ∷ ys) (partly_same i sums factor zs none)

pub partly_passed : (i more : ℕ) (sums : List ℤ) (factor : ℤ) (zs : List ℤ) →
    ((c : ℕ) → i ≤ c → c < i + more → number_at zs c ≡ pos 0) → partly (i + more) sums factor zs ≡ partly i sums factor zs
partly_passed i zero sums factor zs passed = ap (λ j. partly j sums factor zs) (let e : i + 0 ≡ i = omega arith in e)
partly_passed i (suc more) sums factor zs passed =
    ap (λ j. partly j sums factor zs) (let e : i + suc more ≡ suc (i + more) = omega arith in e)
    ∙ partly_same (i + more) sums factor zs (passed (i + more) (omega arith) (omega arith))
    ∙ partly_passed i more sums factor zs (λ c from before. passed c from (omega (arith, before)))

pub partly_all : (i : ℕ) (sums : List ℤ) (factor : ℤ) (zs : List ℤ) → length sums ≤ i → partly i sums factor zs ≡ more_sums sums factor zs
partly_all zero [] factor zs past = refl
partly_all zero (sum ∷ sums) factor zs past = absurd (omega arith)
partly_all (suc i) [] factor zs past = refl
partly_all (suc i) (sum ∷ sums) factor [] past = refl
partly_all (suc i) (sum ∷ sums) factor (z ∷ zs) past = ap (λ ys. (sum +ℤ (factor *ℤ z)) ∷ ys) (partly_all i sums factor zs (omega arith))

-- the sums place by place
pub more_long : (sums : List ℤ) (factor : ℤ) (zs : List ℤ) → length (more_sums sums factor zs) ≡ length sums
more_long [] factor zs = refl
more_long (sum ∷ sums) factor [] = refl
more_long (sum ∷ sums) factor (z ∷ zs) = ap suc (more_long sums factor zs)

pub more_at : (sums : List ℤ) (factor : ℤ) (zs : List ℤ) (k : ℕ) → k < length sums → k < length zs →
    number_at (more_sums sums factor zs) k ≡ (number_at sums k +ℤ (factor *ℤ number_at zs k))
more_at [] factor zs k k_in z_in = absurd (omega arith)
more_at (sum ∷ sums) factor [] k k_in z_in = absurd (omega arith)
more_at (sum ∷ sums) factor (z ∷ zs) zero k_in z_in = refl
more_at (sum ∷ sums) factor (z ∷ zs) (suc k) k_in z_in = more_at sums factor zs k (omega arith) (omega arith)

pub partly_long : (i : ℕ) (sums : List ℤ) (factor : ℤ) (zs : List ℤ) → length (partly i sums factor zs) ≡ length sums
partly_long zero sums factor zs = refl
partly_long (suc i) [] factor zs = refl
partly_long (suc i) (sum ∷ sums) factor [] = refl
partly_long (suc i) (sum ∷ sums) factor (z ∷ zs) = ap suc (partly_long i sums factor zs)

-- a multiple of a small number fits
pub multiple_fits : (f z : ℤ) → nat_abs f ≤ 2 ^ 32 → nat_abs z ≤ 2 ^ 30 → FitsSigned w64 (read f *ℤ read z)
multiple_fits f z f_small z_small =
    rw (read_number f (omega (arith, f_small)), read_number z (omega (arith, z_small)))
    (fits_signed_from_abs w64 (f *ℤ z) (omega (arith, product_small (2 ^ 32) (2 ^ 30) f z f_small z_small)))

-- what code puts at a place: it isn't too wide, and the sums are one place further
pub put_step : (sums : List ℤ) (f g : ℤ) (zs : List ℤ) (i : ℕ) (now : List ℤ) → i < length sums → i < length zs →
    nat_abs f ≤ 2 ^ 32 → g ≡ f → nat_abs (number_at zs i) ≤ 2 ^ 30 → nat_abs (number_at sums i) + nat_abs f * 2 ^ 30 ≤ 2 ^ 62 →
    now ≡ partly i sums g zs → FitsSigned w64 (read (number_at now i) +ℤ read (read f *ℤ read (number_at zs i)))
    × (set now i (read (read (number_at now i) +ℤ read (read f *ℤ read (number_at zs i)))) ≡ partly (i + 1) sums g zs)
put_step sums f g zs i now i_in z_in f_small same z_small sum_small done =
    let z = number_at zs i in
    let sum = number_at sums i in
    let there : number_at now i ≡ sum = ap (λ (ys : List ℤ). number_at ys i) done ∙ partly_at i sums g zs in
    let product_most : nat_abs (f *ℤ z) ≤ nat_abs f * 2 ^ 30 = product_size f z (2 ^ 30) z_small in
    let wide : nat_abs (f *ℤ z) ≤ 2 ^ 62 = omega (arith, product_most, f_small) in
    let factors : read (read f *ℤ read z) ≡ (f *ℤ z) =
    ap (λ (y : ℤ). read (y *ℤ read z)) (read_number f (omega (arith, f_small)))
    ∙ ap (λ (y : ℤ). read (f *ℤ y)) (read_number z (omega (arith, z_small)))
    ∙ read_number (f *ℤ z) (omega (arith, wide)) in
    let now_read : read (number_at now i) ≡ sum = ap read there ∙ read_number sum (omega (arith, sum_small)) in
    let whole : (read (number_at now i) +ℤ read (read f *ℤ read z)) ≡ (sum +ℤ (f *ℤ z)) =
    ap (λ (y : ℤ). y +ℤ read (read f *ℤ read z)) now_read ∙ ap (λ (y : ℤ). sum +ℤ y) factors in
    let both : nat_abs (sum +ℤ (f *ℤ z)) ≤ 2 ^ 62 = omega (arith, sum_size sum (f *ℤ z), sum_small, product_most) in
    let all : nat_abs (read (number_at now i) +ℤ read (read f *ℤ read z)) < 2 ^ 63 =
    subst (λ (y : ℤ). nat_abs y < 2 ^ 63) (sym whole) (omega (arith, both)) in (
      fits_signed_from_abs w64 (read (number_at now i) +ℤ read (read f *ℤ read z)) all,
      ap (λ (y : ℤ). set now i y) (read_number (read (number_at now i) +ℤ read (read f *ℤ read z)) all ∙ whole ∙ ap (λ (y : ℤ). sum +ℤ (y *ℤ z)) (sym same))
          ∙ ap (λ (ys : List ℤ). set ys i (sum +ℤ (g *ℤ z))) done
          ∙ partly_more i sums g zs i_in z_in,
    )
