-- Columns that lead with a positive number: they stay so under sums and positive multiples.
use Rattle.std.proofs.Common.{◌≡◌, ℕ, zero, suc, ◌*◌, ◌<◌, List, [], ◌∷◌, length, arith}
use Rattle.std.specs.Prelude.{ℤ, pos, negsuc, ◌+ℤ◌, ◌*ℤ◌, ◌<ℤ◌}
use Rattle.std.proofs.lemmas.Int.{ints}
use Rattle.design_problem.specs.Basis.{LeadsPositive}
use Rattle.fraction_table.specs.Pivots.{LeadsNoNegative}

-- the sum, place by place, and a multiple
abbrev pub summed : List ℤ → List ℤ → List ℤ
summed [] ys = []
summed (x ∷ xs) [] = []
summed (x ∷ xs) (y ∷ ys) = (x +ℤ y) ∷ summed xs ys

abbrev pub scaled : ℕ → List ℤ → List ℤ
scaled k [] = []
scaled k (x ∷ xs) = (pos k *ℤ x) ∷ scaled k xs

pub weaker : (zs : List ℤ) → LeadsPositive zs → LeadsNoNegative zs
weaker [] h = tt
weaker (pos zero ∷ zs) h = weaker zs h
weaker (pos (suc n) ∷ zs) h = tt
weaker (negsuc n ∷ zs) h = h

pub zero_leads : (z : ℤ) (zs : List ℤ) → z ≡ pos 0 → LeadsPositive zs → LeadsPositive (z ∷ zs)
zero_leads z zs e h = rw e h

pub positive_leads : (z : ℤ) (zs : List ℤ) → pos 0 <ℤ z → LeadsPositive (z ∷ zs)
positive_leads (pos zero) zs h = absurd (omega (arith, ints))
positive_leads (pos (suc n)) zs h = tt
positive_leads (negsuc n) zs h = absurd (omega (arith, ints))

zero_follows : (z : ℤ) (zs : List ℤ) → z ≡ pos 0 → LeadsNoNegative zs → LeadsNoNegative (z ∷ zs)
zero_follows z zs e h = rw e h

positive_follows : (z : ℤ) (zs : List ℤ) → pos 0 <ℤ z → LeadsNoNegative (z ∷ zs)
positive_follows z zs h = weaker (z ∷ zs) (positive_leads z zs h)

times_zero : (k : ℤ) → (k *ℤ pos 0) ≡ pos 0
times_zero k = lib.IntN.*ℤ-zero k

product_positive : (k : ℕ) (n : ℕ) → 0 < k → pos 0 <ℤ (pos k *ℤ pos (suc n))
product_positive k n k_positive =
    let h : 0 < k * suc n = grind arith in
    omega (arith, ints)

pub scaled_leads : (k : ℕ) (zs : List ℤ) → 0 < k → LeadsPositive zs → LeadsPositive (scaled k zs)
scaled_leads k [] k_positive h = h
scaled_leads k (pos zero ∷ zs) k_positive h = zero_leads (pos k *ℤ pos 0) (scaled k zs) (times_zero (pos k)) (scaled_leads k zs k_positive h)
scaled_leads k (pos (suc n) ∷ zs) k_positive h = positive_leads (pos k *ℤ pos (suc n)) (scaled k zs) (product_positive k n k_positive)
scaled_leads k (negsuc n ∷ zs) k_positive h = absurd h

zeros_follow : (zs : List ℤ) → LeadsNoNegative (scaled 0 zs)
zeros_follow [] = tt
zeros_follow (z ∷ zs) = zero_follows (pos 0 *ℤ z) (scaled 0 zs) (lib.IntN.zero-*ℤ z) (zeros_follow zs)

pub scaled_follows : (k : ℕ) (zs : List ℤ) → LeadsNoNegative zs → LeadsNoNegative (scaled k zs)
scaled_follows zero zs h = zeros_follow zs
scaled_follows (suc k) [] h = tt
scaled_follows (suc k) (pos zero ∷ zs) h = zero_follows (pos (suc k) *ℤ pos 0) (scaled (suc k) zs) (times_zero (pos (suc k))) (scaled_follows (suc k) zs h)
scaled_follows (suc k) (pos (suc n) ∷ zs) h = positive_follows (pos (suc k) *ℤ pos (suc n)) (scaled (suc k) zs) (product_positive (suc k) n (omega arith))
scaled_follows (suc k) (negsuc n ∷ zs) h = absurd h

pub sum_leads : (xs ys : List ℤ) → length xs ≡ length ys → LeadsPositive xs → LeadsNoNegative ys → LeadsPositive (summed xs ys)
sum_leads [] ys same x_leads y_leads = x_leads
sum_leads (x ∷ xs) [] same x_leads y_leads = absurd (omega arith)
sum_leads (pos zero ∷ xs) (pos zero ∷ ys) same x_leads y_leads = sum_leads xs ys (omega arith) x_leads y_leads
sum_leads (pos zero ∷ xs) (pos (suc m) ∷ ys) same x_leads y_leads = positive_leads (pos 0 +ℤ pos (suc m)) (summed xs ys) (omega (arith, ints))
sum_leads (pos (suc n) ∷ xs) (pos m ∷ ys) same x_leads y_leads = positive_leads (pos (suc n) +ℤ pos m) (summed xs ys) (omega (arith, ints))
sum_leads (pos zero ∷ xs) (negsuc m ∷ ys) same x_leads y_leads = absurd y_leads
sum_leads (pos (suc n) ∷ xs) (negsuc m ∷ ys) same x_leads y_leads = absurd y_leads
sum_leads (negsuc n ∷ xs) (y ∷ ys) same x_leads y_leads = absurd x_leads

pub sum_follows : (xs ys : List ℤ) → length xs ≡ length ys → LeadsNoNegative xs → LeadsNoNegative ys → LeadsNoNegative (summed xs ys)
sum_follows [] ys same x_leads y_leads = tt
sum_follows (x ∷ xs) [] same x_leads y_leads = absurd (omega arith)
sum_follows (pos zero ∷ xs) (pos zero ∷ ys) same x_leads y_leads = sum_follows xs ys (omega arith) x_leads y_leads
sum_follows (pos zero ∷ xs) (pos (suc m) ∷ ys) same x_leads y_leads = positive_follows (pos 0 +ℤ pos (suc m)) (summed xs ys) (omega (arith, ints))
sum_follows (pos (suc n) ∷ xs) (pos m ∷ ys) same x_leads y_leads = positive_follows (pos (suc n) +ℤ pos m) (summed xs ys) (omega (arith, ints))
sum_follows (pos zero ∷ xs) (negsuc m ∷ ys) same x_leads y_leads = absurd y_leads
sum_follows (pos (suc n) ∷ xs) (negsuc m ∷ ys) same x_leads y_leads = absurd y_leads
sum_follows (negsuc n ∷ xs) (y ∷ ys) same x_leads y_leads = absurd x_leads
