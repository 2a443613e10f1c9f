-- At a pivot of the whole table the numbers of every form turn as those of x - low do, and the columns of the new
-- basis' forms are their own.
use Rattle.std.proofs.Common.{◌≡◌, ◌≢◌, ℕ, suc, ◌+◌, ◌*◌, ◌<◌, ◌≤◌, refl, sym, ◌∙◌, ap, subst, List, [], ◌∷◌, map, length, arith, inl, inr, zero-add, get_or-set_same, get_or-set_other}
use Rattle.std.specs.Prelude.{ℤ, pos, ◌-ℤ◌, ◌*ℤ◌, slice_index_or, slice_set}
use Rattle.std.proofs.Math.Nat.{suc_inj}
use Rattle.std.proofs.lemmas.Bool.{cases_eq}
use Rattle.std.proofs.lemmas.List.{length-set}
use Rattle.cost_base.specs.Lists.{numbers_from}
use Rattle.cost_base.proofs.ListLemmas.{length-map-numbers_from, get_or-map-numbers_from, map-numbers_from-agree}
use Rattle.whole_numbers.proofs.Ring.{var, ◌⊗◌, ring}
use Rattle.whole_numbers.specs.Lists.{number_at}
use Rattle.design_problem.specs.declared.form.Form.{Form}
use Rattle.design_problem.specs.Forms.{no_form}
use Rattle.design_problem.specs.Basis.{IsMixture}
use Rattle.fraction_table.specs.ValidTables.{AllLong, AreMixtures, number_of_form, numbers_of_form}
use Rattle.fraction_table.proofs.theory.Blends.{listed_at}
use Rattle.fraction_table.proofs.theory.Pivot.{turned, crossed, length-crossed, pivot_keeps}
use Rattle.fraction_table.proofs.theory.Turns.{turned_rows, turned_other, turned_same, number_other, number_same, stays, enters}

pub numbers_long : (n D : ℕ) (low : List ℕ) (lows : List (List ℤ)) (f : Form) → length (numbers_of_form n D low lows f) ≡ suc n
numbers_long n D low lows f = length-map-numbers_from (number_of_form D low lows f) 0 (suc n)

pub numbers_at : (n D : ℕ) (low : List ℕ) (lows : List (List ℤ)) (f : Form) (place : ℕ) → place < suc n →
    number_at (numbers_of_form n D low lows f) place ≡ number_of_form D low lows f place
numbers_at n D low lows f place place_in =
    get_or-map-numbers_from (number_of_form D low lows f) 0 (suc n) place (pos 0) place_in ∙ ap (number_of_form D low lows f) (zero-add place)

length-turned : (fs rs : List ℤ) (j D : ℕ) → length fs ≡ length rs → length (turned fs rs j D) ≡ length fs
length-turned fs rs j D same =
    length-set (crossed (number_at rs j) (number_at fs j) fs rs) j (number_at fs j *ℤ pos D) ∙ length-crossed (number_at rs j) (number_at fs j) fs rs same

pub numbers_turned : (n D a : ℕ) (low : List ℕ) (lows : List (List ℤ)) (f : Form) (rs : List ℤ) (j : ℕ) →
    length rs ≡ suc n → AllLong (length rs) lows → number_at rs (suc j) ≡ pos a → j < n →
    numbers_of_form n (D * a) low (turned_rows lows rs (suc j) D) f ≡ turned (numbers_of_form n D low lows f) rs (suc j) D
numbers_turned n D a low lows f rs j counted long at_j j_in =
    let fs = numbers_of_form n D low lows f in
    let same : length fs ≡ length rs = numbers_long n D low lows f ∙ sym counted in
    let news = turned fs rs (suc j) D in
    let place_turned : (place : ℕ) → 0 ≤ place → place < 0 + suc n → number_of_form (D * a) low (turned_rows lows rs (suc j) D) f place ≡ number_at news place =
    λ place from place_in. (
    elim (cases_eq place (suc j)) [
      | inl own ↦
          subst (λ (p : ℕ). number_of_form (D * a) low (turned_rows lows rs (suc j) D) f p ≡ number_at news p) (sym own)
          (number_same D a low lows f rs j long (omega (arith, counted))
          ∙ ap (λ z. z *ℤ pos D) (sym (numbers_at n D low lows f (suc j) (omega (arith, j_in))))
          ∙ sym (turned_same fs rs (suc j) D same (omega (arith, same, counted, j_in))))
      | inr other ↦
          number_other D a low lows f rs j place long at_j other (omega (arith, counted))
          ∙ ap (λ z. (z *ℤ pos a) -ℤ (number_of_form D low lows f (suc j) *ℤ number_at rs place)) (sym (numbers_at n D low lows f place (omega arith)))
          ∙ ap (λ z. (number_at fs place *ℤ pos a) -ℤ (z *ℤ number_at rs place)) (sym (numbers_at n D low lows f (suc j) (omega (arith, j_in))))
          ∙ ap (λ z. (number_at fs place *ℤ z) -ℤ (number_at fs (suc j) *ℤ number_at rs place)) (sym at_j)
          ∙ sym (turned_other fs rs (suc j) D place same other (omega (arith, same, counted)))
    ]
    ) in
    map-numbers_from-agree (number_of_form (D * a) low (turned_rows lows rs (suc j) D) f) (number_at news) 0 (suc n) place_turned
    ∙ ap (λ m. map (number_at news) (numbers_from 0 m)) (sym (length-turned fs rs (suc j) D same ∙ numbers_long n D low lows f))
    ∙ listed_at news

pub long_turned : (D j : ℕ) (rs : List ℤ) (lows : List (List ℤ)) → AllLong (length rs) lows → AllLong (length rs) (turned_rows lows rs j D)
long_turned D j rs [] long = tt
long_turned D j rs (ts ∷ lows) long = (length-turned ts rs j D long.0 ∙ long.0, long_turned D j rs lows long.1)

-- the forms x - low are mixtures of the new basis by their turned numbers
pub mixtures_turned : (D a : ℕ) (bs : List Form) (j : ℕ) (r : Form) (rs : List ℤ) (gs : List Form)
    (lows : List (List ℤ)) → j < length bs → length rs ≡ suc (length bs) → number_at rs (suc j) ≡ pos a →
    IsMixture r bs D rs → AllLong (suc (length bs)) lows → AreMixtures D bs gs lows →
    AreMixtures (D * a) (slice_set bs j r) gs (turned_rows lows rs (suc j) D)
mixtures_turned D a bs j r rs [] [] j_in counted at_j r_is long are = tt
mixtures_turned D a bs j r rs [] (ts ∷ lows) j_in counted at_j r_is long are = absurd are
mixtures_turned D a bs j r rs (g ∷ gs) [] j_in counted at_j r_is long are = absurd are
mixtures_turned D a bs j r rs (g ∷ gs) (ts ∷ lows) j_in counted at_j r_is long are = (
  pivot_keeps bs j g r D D a ts rs j_in long.0 counted at_j are.0 r_is,
  mixtures_turned D a bs j r rs gs lows j_in counted at_j r_is long.1 are.1,
)

-- What is needed of a pivot: the form r enters at the column j by its numbers, of which that at the column is positive.
pub record IsEntry (n D a : ℕ) (low : List ℕ) (lows : List (List ℤ)) (r : Form) (rs : List ℤ) (j : ℕ) : Type 0 where
  pub counted : length rs ≡ suc n
  pub long : AllLong (length rs) lows
  pub at_j : number_at rs (suc j) ≡ pos a
  pub numbers : (i : ℕ) → i < length rs → number_of_form D low lows r i ≡ number_at rs i
  pub j_in : j < n

-- the form of each column has the common denominator in it
pub own_turned : (n D a : ℕ) (low : List ℕ) (lows : List (List ℤ)) (bs : List Form) (r : Form) (rs : List ℤ) (j : ℕ) →
    IsEntry n D a low lows r rs j → length bs ≡ n →
    ((k : ℕ) → k < n → number_of_form D low lows (slice_index_or bs k no_form) (suc k) ≡ pos D) →
    ((k place : ℕ) → k < n → place ≤ n → place ≢ suc k → number_of_form D low lows (slice_index_or bs k no_form) place
    ≡ pos 0) → (k : ℕ) → k < n →
    number_of_form (D * a) low (turned_rows lows rs (suc j) D) (slice_index_or (slice_set bs j r) k no_form) (suc k)
    ≡ pos (D * a)
own_turned n D a low lows bs r rs j e as_many own elsewhere k k_in =
    elim (cases_eq k j) [
      | inl same ↦
          subst (λ (i : ℕ). number_of_form (D * a) low (turned_rows lows rs (suc j) D)
          (slice_index_or (slice_set bs j r) i no_form) (suc i) ≡ pos (D * a)) (sym same)
          (ap (λ (f : Form). number_of_form (D * a) low (turned_rows lows rs (suc j) D) f (suc j))
          (get_or-set_same bs j r no_form (omega (arith, as_many, e.j_in)))
          ∙ number_same D a low lows r rs j e.long (omega (arith, e.counted, e.j_in))
          ∙ ap (λ z. z *ℤ pos D) (e.numbers (suc j) (omega (arith, e.counted, e.j_in)) ∙ e.at_j)
          ∙ ring (pos a ∷ pos D ∷ []) (var 0 ⊗ var 1) (var 1 ⊗ var 0) refl)
      | inr other ↦
          ap (λ (f : Form). number_of_form (D * a) low (turned_rows lows rs (suc j) D) f (suc k)) (get_or-set_other bs j k r no_form other)
          ∙ stays D a low lows (slice_index_or bs k no_form) rs j (suc k) e.long e.at_j (λ h. other (suc_inj h))
          (omega (arith, e.counted, k_in))
          (elsewhere k (suc j) k_in (omega (arith, e.j_in)) (λ h. other (sym (suc_inj h))))
          ∙ ap (λ z. z *ℤ pos a) (own k k_in)
    ]

-- and 0 elsewhere
pub elsewhere_turned : (n D a : ℕ) (low : List ℕ) (lows : List (List ℤ)) (bs : List Form) (r : Form) (rs : List ℤ)
    (j : ℕ) → IsEntry n D a low lows r rs j → length bs ≡ n →
    ((k place : ℕ) → k < n → place ≤ n → place ≢ suc k → number_of_form D low lows (slice_index_or bs k no_form) place
    ≡ pos 0) → (k place : ℕ) → k < n → place ≤ n → place ≢ suc k →
    number_of_form (D * a) low (turned_rows lows rs (suc j) D) (slice_index_or (slice_set bs j r) k no_form) place ≡ pos 0
elsewhere_turned n D a low lows bs r rs j e as_many elsewhere k place k_in place_in apart =
    elim (cases_eq k j) [
      | inl same ↦
          ap (λ (i : ℕ). number_of_form (D * a) low (turned_rows lows rs (suc j) D) (slice_index_or (slice_set bs j r) i no_form) place) same
          ∙ ap (λ (f : Form). number_of_form (D * a) low (turned_rows lows rs (suc j) D) f place)
          (get_or-set_same bs j r no_form (omega (arith, as_many, e.j_in)))
          ∙ enters D a low lows r rs j place e.long e.at_j e.numbers (λ h. apart (h ∙ ap suc (sym same)))
          (omega (arith, e.counted, place_in)) (omega (arith, e.counted, e.j_in))
      | inr other ↦
          ap (λ (f : Form). number_of_form (D * a) low (turned_rows lows rs (suc j) D) f place) (get_or-set_other bs j k r no_form other)
          ∙ kept (slice_index_or bs k no_form)
          (elsewhere k (suc j) k_in (omega (arith, e.j_in)) (λ h. other (sym (suc_inj h))))
          (elsewhere k place k_in place_in apart)
    ]
  where
    -- a form with 0 at the pivot's column keeps a 0
    kept : (f : Form) → number_of_form D low lows f (suc j) ≡ pos 0 → number_of_form D low lows f place ≡ pos 0 →
        number_of_form (D * a) low (turned_rows lows rs (suc j) D) f place ≡ pos 0
    kept f at_pivot here =
        elim (cases_eq place (suc j)) [
          | inl there ↦
              subst (λ (p : ℕ). number_of_form (D * a) low (turned_rows lows rs (suc j) D) f p ≡ pos 0) (sym there)
              (number_same D a low lows f rs j e.long (omega (arith, e.counted, e.j_in)) ∙ ap (λ z. z *ℤ pos D) at_pivot ∙ lib.IntN.zero-*ℤ (pos D))
          | inr elsewhere_place ↦
              stays D a low lows f rs j place e.long e.at_j elsewhere_place (omega (arith, e.counted, place_in))
              at_pivot ∙ ap (λ z. z *ℤ pos a) here ∙ lib.IntN.zero-*ℤ (pos a)
        ]
