-- Lines of fractions stand for numbers over one denominator, and a pivot on the fractions is a pivot on the numbers.
use Rattle.std.proofs.Common.{◌≡◌, ◌≢◌, ℕ, zero, suc, ◌+◌, ◌*◌, ◌<◌, cond, Bool, refl, sym, ◌∙◌, ap, subst, List, [], ◌∷◌, length, arith}
use Rattle.std.specs.Prelude.{ℤ, pos, ◌-ℤ◌, ◌*ℤ◌, ◌==◌, slice_set, slice_index_or}
use Rattle.whole_numbers.specs.Fractions.{Fraction, StandsFor, whole, minus, times, divided}
use Rattle.whole_numbers.proofs.Ring.{var, num, ◌⊖◌, ◌⊗◌, ring}
use Rattle.whole_numbers.proofs.FractionLaws.{times_stands, divided_stands, pivot_entry_stands, stands_more}
use Rattle.design_problem.specs.Basis.{entry}
use Rattle.fraction_lines.specs.TableLines.{AreTableNumbers, IsTableNumber, crossed_by, divided_without, nothing as none}
use Rattle.std.proofs.lemmas.Bool.{ne_eqb}
use Rattle.fraction_table.specs.ValidTables.{Stand}
use Rattle.fraction_lines.proofs.ZeroFractions.{divided_lowest}
use Rattle.fraction_table.proofs.theory.Pivot.{crossed, turned}

-- The two fractions by which a line is turned: the line's own entry at the pivot's column, which stands for n, and the
-- pivot's, which stands for a.
pub record IsTurn (e q : Fraction) (n : ℤ) (a D : ℕ) : Type 0 where
  pub own_positive : 0 < e.denominator
  pub pivot_positive : 0 < q.denominator
  pub number_positive : 0 < a
  pub common_positive : 0 < D
  pub own : StandsFor e n D
  pub pivot : StandsFor q (pos a) D

-- a place that isn't the pivot's
other_stands : (top place j D a : ℕ) (e q f r : Fraction) (n m k : ℤ) → place ≢ j → IsTurn e q n a D → IsTableNumber top f →
    IsTableNumber top r → StandsFor f m D → StandsFor r k D →
    StandsFor (minus f (times e (cond (place == j) none (divided r q)))) ((m *ℤ pos a) -ℤ (n *ℤ k)) (D * a)
other_stands top place j D a e q f r n m k other turn f_is r_is f_stands r_stands =
    subst (λ (b : Bool). StandsFor (minus f (times e (cond b none (divided r q)))) ((m *ℤ pos a) -ℤ (n *ℤ k)) (D * a)) (sym (ne_eqb place j other))
    (pivot_entry_stands f e r q m n k a D f_is.lowest.positive turn.own_positive
    (divided_lowest r q r_is.lowest.positive).positive r_is.lowest.positive turn.pivot_positive
    turn.number_positive turn.common_positive f_stands turn.own r_stands turn.pivot)

-- the places behind the pivot's
rest_stands : (top place j D a : ℕ) (e q : Fraction) (n : ℤ) (fs rs : List Fraction) (ms ks : List ℤ) → j < place →
    IsTurn e q n a D → AreTableNumbers top fs → AreTableNumbers top rs → Stand D fs ms → Stand D rs ks →
    Stand (D * a) (crossed_by e fs (divided_without j q rs place)) (crossed (pos a) n ms ks)
rest_stands top place j D a e q n [] rs [] ks behind turn fs_are rs_are fs_stand rs_stand = tt
rest_stands top place j D a e q n [] rs (m ∷ ms) ks behind turn fs_are rs_are fs_stand rs_stand = absurd fs_stand
rest_stands top place j D a e q n (f ∷ fs) rs [] ks behind turn fs_are rs_are fs_stand rs_stand = absurd fs_stand
rest_stands top place j D a e q n (f ∷ fs) [] (m ∷ ms) [] behind turn fs_are rs_are fs_stand rs_stand = tt
rest_stands top place j D a e q n (f ∷ fs) [] (m ∷ ms) (k ∷ ks) behind turn fs_are rs_are fs_stand rs_stand = absurd rs_stand
rest_stands top place j D a e q n (f ∷ fs) (r ∷ rs) (m ∷ ms) [] behind turn fs_are rs_are fs_stand rs_stand = absurd rs_stand
rest_stands top place j D a e q n (f ∷ fs) (r ∷ rs) (m ∷ ms) (k ∷ ks) behind turn fs_are rs_are fs_stand rs_stand = (
  other_stands top place j D a e q f r n m k (omega arith) turn fs_are.0 rs_are.0 fs_stand.0 rs_stand.0,
  rest_stands top (suc place) j D a e q n fs rs ms ks (omega arith) turn fs_are.1 rs_are.1 fs_stand.1 rs_stand.1,
)

-- the pivot's own place: the line's entry over the pivot's
inverse_stands : (D a : ℕ) (e q : Fraction) (n : ℤ) → IsTurn e q n a D → StandsFor (times e (divided (whole (pos 1)) q)) (n *ℤ pos D) (D * a)
inverse_stands D a e q n turn =
    let one_is : StandsFor (whole (pos 1)) (pos D) D = ring (pos D ∷ []) (num (pos 1) ⊗ var 0) (var 0 ⊗ num (pos 1)) refl in
    let over_is = divided_stands (whole (pos 1)) q (pos D) a D (omega arith) turn.pivot_positive turn.number_positive turn.common_positive one_is turn.pivot in
    times_stands e (divided (whole (pos 1)) q) n (pos D) D a turn.own_positive (divided_lowest (whole (pos 1)) q (omega arith)).positive turn.own over_is

-- all places, the pivot's being the i-th from here
places_stand : (top place i j D a : ℕ) (e q : Fraction) (n : ℤ) (fs rs : List Fraction) (ms ks : List ℤ) →
    place + i ≡ j → IsTurn e q n a D → AreTableNumbers top fs → AreTableNumbers top rs → length fs ≡ length rs → Stand D fs ms →
    Stand D rs ks → Stand (D * a)
    (slice_set (crossed_by e fs (divided_without j q rs place)) i (times e (divided (whole (pos 1)) q)))
    (slice_set (crossed (pos a) n ms ks) i (n *ℤ pos D))
places_stand top place i j D a e q n [] rs [] ks there turn fs_are rs_are same fs_stand rs_stand = tt
places_stand top place i j D a e q n [] rs (m ∷ ms) ks there turn fs_are rs_are same fs_stand rs_stand = absurd fs_stand
places_stand top place i j D a e q n (f ∷ fs) rs [] ks there turn fs_are rs_are same fs_stand rs_stand = absurd fs_stand
places_stand top place i j D a e q n (f ∷ fs) [] (m ∷ ms) ks there turn fs_are rs_are same fs_stand rs_stand = absurd (omega arith)
places_stand top place i j D a e q n (f ∷ fs) (r ∷ rs) (m ∷ ms) [] there turn fs_are rs_are same fs_stand rs_stand = absurd rs_stand
places_stand top place zero j D a e q n (f ∷ fs) (r ∷ rs) (m ∷ ms) (k ∷ ks) there turn fs_are rs_are same fs_stand rs_stand = (
  inverse_stands D a e q n turn,
  rest_stands top (suc place) j D a e q n fs rs ms ks (omega arith) turn fs_are.1 rs_are.1 fs_stand.1 rs_stand.1,
)
places_stand top place (suc i) j D a e q n (f ∷ fs) (r ∷ rs) (m ∷ ms) (k ∷ ks) there turn fs_are rs_are same fs_stand rs_stand = (
  other_stands top place j D a e q f r n m k (omega arith) turn fs_are.0 rs_are.0 fs_stand.0 rs_stand.0,
  places_stand top (suc place) i j D a e q n fs rs ms ks (omega arith) turn fs_are.1 rs_are.1 (omega arith) fs_stand.1 rs_stand.1,
)

-- a line of fractions after the pivot on a line and a place
abbrev pub turned_row : List Fraction → List Fraction → ℕ → List Fraction
turned_row fs rs j =
    slice_set (crossed_by (entry fs j) fs (divided_without j (entry rs j) rs 0)) j (times (entry fs j) (divided (whole (pos 1)) (entry rs j)))

-- it stands for the numbers after the pivot
pub turned_stands : (top j D a : ℕ) (n : ℤ) (fs rs : List Fraction) (ms ks : List ℤ) → slice_index_or ms j (pos 0) ≡ n →
    slice_index_or ks j (pos 0) ≡ pos a → IsTurn (entry fs j) (entry rs j) n a D → AreTableNumbers top fs →
    AreTableNumbers top rs → length fs ≡ length rs → Stand D fs ms → Stand D rs ks →
    Stand (D * a) (turned_row fs rs j) (turned ms ks j D)
turned_stands top j D a n fs rs ms ks own_is pivot_is turn fs_are rs_are same fs_stand rs_stand =
    subst (λ (z : ℤ). Stand (D * a) (turned_row fs rs j)
    (slice_set (crossed z (slice_index_or ms j (pos 0)) ms ks) j (slice_index_or ms j (pos 0) *ℤ pos D)))
    (sym pivot_is)
    (subst (λ (z : ℤ). Stand (D * a) (turned_row fs rs j) (slice_set (crossed (pos a) z ms ks) j (z *ℤ pos D))) (sym own_is)
    (places_stand top 0 j j D a (entry fs j) (entry rs j) n fs rs ms ks (omega arith) turn fs_are rs_are same fs_stand rs_stand))

less_nothing : (m a k : ℤ) → (m *ℤ a) ≡ ((m *ℤ a) -ℤ (pos 0 *ℤ k))
less_nothing m a k = ring (m ∷ a ∷ k ∷ []) (var 0 ⊗ var 1) ((var 0 ⊗ var 1) ⊖ (num (pos 0) ⊗ var 2)) refl

-- a line whose entry at the pivot's column is 0 stays as it is
kept_places : (i D a : ℕ) (fs : List Fraction) (ms ks : List ℤ) → length ms ≡ length ks →
    slice_index_or ms i (pos 0) ≡ pos 0 → Stand D fs ms →
    Stand (D * a) fs (slice_set (crossed (pos a) (pos 0) ms ks) i (pos 0 *ℤ pos D))
kept_places i D a [] [] ks same none_is stand = tt
kept_places i D a [] (m ∷ ms) ks same none_is stand = absurd stand
kept_places i D a (f ∷ fs) [] ks same none_is stand = absurd stand
kept_places i D a (f ∷ fs) (m ∷ ms) [] same none_is stand = absurd (omega arith)
kept_places zero D a (f ∷ fs) (m ∷ ms) (k ∷ ks) same none_is stand = (
  subst (λ (z : ℤ). StandsFor f z (D * a)) (ap (λ (z : ℤ). z *ℤ pos a) none_is
      ∙ ring (pos a ∷ pos D ∷ []) (num (pos 0) ⊗ var 0) (num (pos 0) ⊗ var 1) refl) (stands_more f m D a stand.0),
  kept_rest fs ms ks (omega arith) stand.1,
)
  where
    kept_rest : (gs : List Fraction) (ns ls : List ℤ) → length ns ≡ length ls → Stand D gs ns → Stand (D * a) gs (crossed (pos a) (pos 0) ns ls)
    kept_rest [] [] ls even standing = tt
    kept_rest [] (m' ∷ ns) ls even standing = absurd standing
    kept_rest (g ∷ gs) [] ls even standing = absurd standing
    kept_rest (g ∷ gs) (m' ∷ ns) [] even standing = absurd (omega arith)
    kept_rest (g ∷ gs) (m' ∷ ns) (l ∷ ls) even standing = (
      subst (λ (z : ℤ). StandsFor g z (D * a)) (less_nothing m' (pos a) l) (stands_more g m' D a standing.0),
      kept_rest gs ns ls (omega arith) standing.1,
    )
kept_places (suc i) D a (f ∷ fs) (m ∷ ms) (k ∷ ks) same none_is stand = (
  subst (λ (z : ℤ). StandsFor f z (D * a)) (less_nothing m (pos a) k) (stands_more f m D a stand.0),
  kept_places i D a fs ms ks (omega arith) none_is stand.1,
)

pub kept_stands : (j D a : ℕ) (fs : List Fraction) (ms ks : List ℤ) → length ms ≡ length ks →
    slice_index_or ms j (pos 0) ≡ pos 0 → slice_index_or ks j (pos 0) ≡ pos a → Stand D fs ms →
    Stand (D * a) fs (turned ms ks j D)
kept_stands j D a fs ms ks same none_is pivot_is stand =
    subst (λ (z : ℤ). Stand (D * a) fs (slice_set (crossed z (slice_index_or ms j (pos 0)) ms ks) j (slice_index_or ms j (pos 0) *ℤ pos D))) (sym pivot_is)
    (subst (λ (z : ℤ). Stand (D * a) fs (slice_set (crossed (pos a) z ms ks) j (z *ℤ pos D))) (sym none_is)
    (kept_places j D a fs ms ks same none_is stand))
