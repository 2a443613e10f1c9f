-- One variable's range, and the greatest value of the whole form.
use Rattle.std.proofs.Common.{◌≡◌, ℕ, zero, suc, ◌+◌, ◌-◌, ◌<◌, ◌≤◌, refl, sym, ◌∙◌, ap, subst, List, [], ◌∷◌, length, get_or, get_or-set_same, arith, inl, inr}
use Rattle.std.specs.Prelude.{ℤ, pos, ◌+ℤ◌, ◌<ℤ◌, slice_set, slice_index}
use Rattle.std.proofs.Math.ListN.{length-set}
use Rattle.std.proofs.lemmas.Int.{ints}
use Rattle.design_problem.specs.declared.boxes.CostBox.{CostBox}
use Rattle.design_problem.specs.declared.form.Term.{Term}
use Rattle.design_problem.specs.declared.tree.Side.{Side}
use Rattle.design_problem.specs.declared.tree.Side.TheVariants.{Low, High}
use Rattle.design_problem.specs.Forms.{Form, form_at, terms_of}
use Rattle.design_problem.specs.Boxes.{upper_term, upper_sum, greatest, with_low, with_high}
use Rattle.design_problem.specs.Trees.{IsSmaller, removed, TightensAt}
use Rattle.design_problem.specs.Earnest.{at_bound}
use Rattle.bound_propagation.specs.Ranges.{IsExactBound, HasNoBound}
use Rattle.bound_propagation.specs.Tightening.{IsExactTightening, NoneAt, NoneBefore}
use Rattle.bound_propagation.proofs.Ranges.{no_bound}
use Rattle.design_problem.proofs.TermLaws.{terms_known, term_coefficient, term_or_zero}
use Rattle.std.proofs.lemmas.Bool.{cases_lt}

-- another upper end of one place
sum_high : (cs : List ℤ) (ls hs : List ℕ) (i v : ℕ) → i < length cs → length cs ≡ length ls → length cs ≡ length hs →
    (upper_sum cs ls (slice_set hs i v) +ℤ upper_term (get_or cs i (pos 0)) (slice_index ls i) (slice_index hs i))
    ≡ (upper_sum cs ls hs +ℤ upper_term (get_or cs i (pos 0)) (slice_index ls i) v)
sum_high [] ls hs i v i_in low high = absurd (omega arith)
sum_high (c ∷ cs) [] hs i v i_in low high = absurd (omega arith)
sum_high (c ∷ cs) (l ∷ ls) [] i v i_in low high = absurd (omega arith)
sum_high (c ∷ cs) (l ∷ ls) (h ∷ hs) zero v i_in low high = omega (arith, ints)
sum_high (c ∷ cs) (l ∷ ls) (h ∷ hs) (suc i) v i_in low high =
    omega (arith, ints, sum_high cs ls hs i v (omega arith) (omega arith) (omega arith))

-- another lower end of one place
sum_low : (cs : List ℤ) (ls hs : List ℕ) (i v : ℕ) → i < length cs → length cs ≡ length ls → length cs ≡ length hs →
    (upper_sum cs (slice_set ls i v) hs +ℤ upper_term (get_or cs i (pos 0)) (slice_index ls i) (slice_index hs i))
    ≡ (upper_sum cs ls hs +ℤ upper_term (get_or cs i (pos 0)) v (slice_index hs i))
sum_low [] ls hs i v i_in low high = absurd (omega arith)
sum_low (c ∷ cs) [] hs i v i_in low high = absurd (omega arith)
sum_low (c ∷ cs) (l ∷ ls) [] i v i_in low high = absurd (omega arith)
sum_low (c ∷ cs) (l ∷ ls) (h ∷ hs) zero v i_in low high = omega (arith, ints)
sum_low (c ∷ cs) (l ∷ ls) (h ∷ hs) (suc i) v i_in low high =
    omega (arith, ints, sum_low cs ls hs i v (omega arith) (omega arith) (omega arith))

-- a variable of the box, and the form's coefficient of it
pub record IsPlace (f : Form) (box : CostBox) (var : ℕ) (c : ℤ) (l h : ℕ) : Type 0 where
  pub inside : var < length f.coefficients
  pub low_count : length f.coefficients ≡ length box.low
  pub high_count : length f.coefficients ≡ length box.high
  pub coefficient : get_or f.coefficients var (pos 0) ≡ c
  pub low : slice_index box.low var ≡ l
  pub high : slice_index box.high var ≡ h

-- the place of a term of the form, in lists that the box lends
pub place_of : (f : Form) (box : CostBox) (ts : List Term) (ls hs : List ℕ) (k : ℕ) (d : Term) (c : ℤ) →
    ts ≡ terms_of f → k < length ts → length f.coefficients ≡ length box.low → length f.coefficients ≡ length box.high →
    ls ≡ box.low → hs ≡ box.high → c ≡ (get_or ts k d).coefficient →
    IsPlace f box (get_or ts k d).var c (get_or ls (get_or ts k d).var 0) (get_or hs (get_or ts k d).var 0)
place_of f box ts ls hs k d c terms k_in low_count high_count lows highs here =
    let t = get_or ts k d in
    let term = ap (λ (us : List Term). get_or us k d) terms in
    let inside : k < length (terms_of f) = omega (arith, k_in, ap length terms) in
    record {
      inside = subst (λ (u : Term). u.var < length f.coefficients) (sym term) (terms_known f k d inside);
      low_count = low_count;
      high_count = high_count;
      coefficient = subst (λ (u : Term). get_or f.coefficients u.var (pos 0) ≡ u.coefficient) (sym term) (term_coefficient f k d inside) ∙ sym here;
      low = ap (λ (xs : List ℕ). get_or xs t.var 0) (sym lows);
      high = ap (λ (xs : List ℕ). get_or xs t.var 0) (sym highs);
    }

-- the same term, at the same ends
same_upper : (c d : ℤ) (l m h k : ℕ) → c ≡ d → l ≡ m → h ≡ k → upper_term c l h ≡ upper_term d m k
same_upper c d l m h k coefficients lows highs =
    ap (λ (z : ℤ). upper_term z l h) coefficients ∙ ap (λ (x : ℕ). upper_term d x h) lows ∙ ap (λ (x : ℕ). upper_term d m x) highs

-- the greatest value of the form where one variable has another upper bound
high_moved : (f : Form) (box : CostBox) (var v : ℕ) (c : ℤ) (l h : ℕ) → IsPlace f box var c l h →
    (greatest f (with_high box var v) +ℤ upper_term c l h) ≡ (greatest f box +ℤ upper_term c l v)
high_moved f box var v c l h place =
    let sums = sum_high f.coefficients box.low box.high var v place.inside place.low_count place.high_count in
    let old = same_upper _ c _ l _ h place.coefficient place.low place.high in
    let new = same_upper _ c _ l v v place.coefficient place.low refl in
    omega (arith, ints, sums, old, new)

-- where it has another lower bound
low_moved : (f : Form) (box : CostBox) (var v : ℕ) (c : ℤ) (l h : ℕ) → IsPlace f box var c l h →
    (greatest f (with_low box var v) +ℤ upper_term c l h) ≡ (greatest f box +ℤ upper_term c v h)
low_moved f box var v c l h place =
    let sums = sum_low f.coefficients box.low box.high var v place.inside place.low_count place.high_count in
    let old = same_upper _ c _ l _ h place.coefficient place.low place.high in
    let new = same_upper _ c v v _ h place.coefficient refl place.high in
    omega (arith, ints, sums, old, new)

-- where it has one value alone
bound_moved : (f : Form) (box : CostBox) (var v : ℕ) (c : ℤ) (l h : ℕ) → IsPlace f box var c l h →
    (greatest f (at_bound box var v) +ℤ upper_term c l h) ≡ (greatest f box +ℤ upper_term c v v)
bound_moved f box var v c l h place =
    let within : var < length box.high = omega (arith, place.inside, place.high_count) in
    let cut : IsPlace f (with_high box var v) var c l v = record {
      inside = place.inside;
      low_count = place.low_count;
      high_count = place.high_count ∙ sym (length-set box.high var v);
      coefficient = place.coefficient;
      low = place.low;
      high = get_or-set_same box.high var v 0 within;
    } in
    let first = high_moved f box var v c l h place in
    let second = low_moved f (with_high box var v) var v c l v cut in
    omega (arith, ints, first, second)

-- an exact bound of one variable's range is one of the box
pub exact_of_range : (f : Form) (box : CostBox) (var slack : ℕ) (c : ℤ) (l h : ℕ) (side : Side) (value : ℕ) →
    IsPlace f box var c l h → pos slack ≡ greatest f box → IsExactBound c slack l h side value →
    IsExactTightening f box side var value
exact_of_range f box var slack c l h Low value place all bound =
    record {
      var_known = omega (arith, place.inside, place.low_count);
      smaller = (omega (arith, place.low, bound.smaller.0), omega (arith, place.high, bound.smaller.1));
      refuted = omega (arith, ints, high_moved f box var (value - 1) c l h place, all, bound.refuted);
      exact = omega (arith, ints, bound_moved f box var value c l h place, all, bound.exact);
    }
exact_of_range f box var slack c l h High value place all bound =
    record {
      var_known = omega (arith, place.inside, place.low_count);
      smaller = (omega (arith, place.low, bound.smaller.0), omega (arith, place.high, bound.smaller.1));
      refuted = omega (arith, ints, low_moved f box var (value + 1) c l h place, all, bound.refuted);
      exact = omega (arith, ints, bound_moved f box var value c l h place, all, bound.exact);
    }

-- where one variable's range has no bound, the form refutes no part of the box at that variable
pub none_of_range : (f : Form) (box : CostBox) (var slack : ℕ) (c : ℤ) (l h : ℕ) (side : Side) (value : ℕ) →
    IsPlace f box var c l h → pos slack ≡ greatest f box → HasNoBound c slack l h → IsSmaller box side var value →
    greatest f (removed box side var value) <ℤ pos 0 → ⊥
none_of_range f box var slack c l h Low value place all none smaller refuted =
    none Low value (omega (arith, place.low, smaller.0), omega (arith, place.high, smaller.1))
    (omega (arith, ints, high_moved f box var (value - 1) c l h place, all, refuted))
none_of_range f box var slack c l h High value place all none smaller refuted =
    none High value (omega (arith, place.low, smaller.0), omega (arith, place.high, smaller.1))
    (omega (arith, ints, low_moved f box var (value + 1) c l h place, all, refuted))

-- a tightening by a row's form is a sound step of a branching tree
pub tightens_at : (forms : List Form) (box : CostBox) (side : Side) (var value row : ℕ) → row < length forms →
    IsExactTightening (form_at forms row) box side var value → TightensAt forms box side var value row
tightens_at forms box side var value row known step =
    record {
      var_known = step.var_known;
      smaller = step.smaller;
      row_known = known;
      refuted = step.refuted;
    }

-- with coefficient 0 no part is refuted
none_of_zero : (f : Form) (box : CostBox) (var slack : ℕ) → var < length f.coefficients →
    length f.coefficients ≡ length box.low → length f.coefficients ≡ length box.high → pos slack ≡ greatest f box →
    get_or f.coefficients var (pos 0) ≡ pos 0 → NoneAt f box var
none_of_zero f box var slack inside low_count high_count all nought side value smaller refuted =
    none_of_range f box var slack (pos 0) (slice_index box.low var) (slice_index box.high var) side value
    (record { inside = inside; low_count = low_count; high_count = high_count; coefficient = nought; low = refl; high = refl })
    all (no_bound (pos 0) slack (slice_index box.low var) (slice_index box.high var) (omega arith)) smaller refuted

-- where the first terms have no bound, no variable before the next term has one
pub none_before : (f : Form) (box : CostBox) (ts : List Term) (slack k limit : ℕ) (d : Term) → ts ≡ terms_of f →
    length f.coefficients ≡ length box.low → length f.coefficients ≡ length box.high → pos slack ≡ greatest f box →
    limit ≤ length f.coefficients → ((j : ℕ) → k ≤ j → j < length ts → limit ≤ (get_or ts j d).var) →
    ((j : ℕ) → j < k → NoneAt f box (get_or ts j d).var) → NoneBefore f box limit
none_before f box ts slack k limit d terms low_count high_count all within behind none var var_in side value smaller refuted =
    elim (term_or_zero f var d) [
      | inl nought ↦ none_of_zero f box var slack (omega arith) low_count high_count all nought side value smaller refuted
      | inr at ↦
          let j = at.0 in
          let here : (get_or ts j d).var ≡ var = ap (λ (us : List Term). (get_or us j d).var) terms ∙ at.2 in
          elim (cases_lt j k) [
            | inl before ↦ subst (λ (v : ℕ). NoneAt f box v) here (none j before) side value smaller refuted
            | inr past ↦ let beyond = behind j past (omega (arith, at.1, ap length terms)) in absurd (omega (arith, beyond, here, var_in))
          ]
    ]
