-- The steps of fractions that the work on a table takes, and which of them need too wide a number.
use Rattle.std.specs.Prelude.{◌≡◌, ℕ, zero, suc, ◌<◌, ◌≤◌, List, [], ◌∷◌, ◌++◌, ℤ, pos, negsuc, ◌<ℤ◌, ◌≤ℤ◌, map, length, slice_get, slice_index_or, take, drop, fold, Any, Some}
use Rattle.cost_base.specs.declared.Ratio.{Ratio}
use Rattle.cost_base.specs.declared.StepName.{StepName}
use Rattle.cost_base.specs.declared.StepName.TheVariants.{Add, Sub, Mul, Div, Lcm, Scale}
use Rattle.whole_numbers.specs.Fractions.{Fraction, whole, plus, times, divided, negated, lcm, sum_of, numbers_of_step}
use Rattle.design_problem.specs.declared.form.Form.{Form}
use Rattle.design_problem.specs.declared.boxes.CostBox.{CostBox}
use Rattle.design_problem.specs.declared.tree.Member.{Member}
use Rattle.design_problem.specs.declared.tree.Member.TheVariants.{Low, High, Row}
use Rattle.design_problem.specs.declared.tree.WideAt.{WideAt}
use Rattle.design_problem.specs.Forms.{form_at, value_for_costs}
use Rattle.design_problem.specs.Basis.{IsFormOf, HasEntries, IsTable, entry}

-- 2^27, which bounds the size of a form
abbrev pub two_to_27 : Fraction
two_to_27 = whole (pos 134217728)

-- a row's terms at a place: each coefficient that isn't 0 times the entry of x - low
abbrev pub terms : List ℤ → List (List Fraction) → ℕ → List Fraction
terms [] lows place = []
terms (c ∷ cs) [] place = []
terms (pos zero ∷ cs) (es ∷ lows) place = terms cs lows place
terms (pos (suc n) ∷ cs) (es ∷ lows) place = times (whole (pos (suc n))) (entry es place) ∷ terms cs lows place
terms (negsuc n ∷ cs) (es ∷ lows) place = times (whole (negsuc n)) (entry es place) ∷ terms cs lows place

-- what a row's sum at a place starts with: at place 0 its value at the low corner
abbrev pub start_of_sum : CostBox → Form → ℕ → Fraction
start_of_sum box row zero = whole (value_for_costs row box.low)
start_of_sum box row (suc column) = whole (pos 0)

-- a form r and a column j on which the table may turn
pub record IsPivot (basis : List Member) (r : List Fraction) (j : ℕ) : Type 0 where
  pub column : (1 ≤ j) × (j ≤ length basis)
  pub below : (entry r 0).numerator <ℤ pos 0
  pub above : pos 0 <ℤ (entry r j).numerator

-- r shows that no point of the box meets the rows
pub record IsRefutingForm (basis : List Member) (r : List Fraction) : Type 0 where
  pub below : (entry r 0).numerator <ℤ pos 0
  pub none_above : (k : ℕ) → 1 ≤ k → k ≤ length basis → (entry r k).numerator ≤ℤ pos 0

-- the negated fraction, unless its numerator is 0
abbrev pub unless_zero : ℤ → Fraction → List Fraction
unless_zero (pos zero) q = []
unless_zero (pos (suc n)) q = negated q ∷ []
unless_zero (negsuc n) q = negated q ∷ []

-- a column's multiplier: the negated entry, where its form of the basis is a row and the entry isn't 0
abbrev pub column_part : Member → Fraction → List Fraction
column_part (Low var bound) q = []
column_part (High var bound) q = []
column_part (Row row) q = unless_zero q.numerator q

-- the multipliers of all columns, in the order of the basis
abbrev pub column_parts : List Member → List Fraction → List Fraction
column_parts [] qs = []
column_parts (member ∷ members) [] = []
column_parts (member ∷ members) (q ∷ qs) = column_part member q ++ column_parts members qs

-- the multiplier of the form that is negative itself: 1 where it is a row, and none where it is a bound of a variable
abbrev pub own_multiplier : Member → List Fraction
own_multiplier (Low var bound) = []
own_multiplier (High var bound) = []
own_multiplier (Row row) = whole (pos 1) ∷ []

-- the multipliers by which a form over a basis refutes the box: its own 1, and those of the columns
abbrev pub refuting_multipliers : List Member → Member → List Fraction → List Fraction
refuting_multipliers basis r entries = own_multiplier r ++ column_parts basis (drop 1 entries)

-- the least common multiple of some numbers
abbrev pub lcm_of : List ℕ → ℕ
lcm_of ds = fold lcm 1 ds

-- the denominators of some fractions
abbrev pub denominators : List Fraction → List ℕ
denominators qs = map (λ q. q.denominator) qs

-- the denominators of the corner's variables
abbrev pub corner_denominators : List (List Fraction) → List ℕ
corner_denominators lows = map (λ entries. (entry entries 0).denominator) lows

-- the fractions times the least common multiple of their denominators
abbrev pub made_whole : List Fraction → List Fraction
made_whole qs = map (λ q. times q (whole (pos (lcm_of (denominators qs))))) qs

-- The steps of a table. Each line: which step, and its two fractions.
pub data IsTableStep (box : CostBox) (rows : List Form) (basis : List Member) (lows : List (List Fraction)) : StepName → Fraction → Fraction → Type 0 where
  row_product : (row var place : ℕ) → row < length rows → var < length box.low → place ≤ length basis →
      IsTableStep box rows basis lows Mul (whole (slice_index_or (form_at rows row).coefficients var (pos 0))) (entry (slice_index_or lows var []) place)
  row_sum : (row place k : ℕ) (next : Fraction) → row < length rows → place ≤ length basis →
      slice_get (terms (form_at rows row).coefficients lows place) k ≡ Some next →
      IsTableStep box rows basis lows Add (fold plus (start_of_sum box (form_at rows row) place) (take k (terms (form_at rows row).coefficients lows place)))
      next
  pivot_quotient : (r : Member) (es : List Fraction) (j place : ℕ) → IsFormOf box rows r →
      HasEntries box rows basis r es → IsPivot basis es j → place ≤ length basis →
      IsTableStep box rows basis lows Div (entry es place) (entry es j)
  pivot_inverse : (r : Member) (es : List Fraction) (j : ℕ) → IsFormOf box rows r → HasEntries box rows basis r es → IsPivot basis es j →
      IsTableStep box rows basis lows Div (whole (pos 1)) (entry es j)
  pivot_product : (r f : Member) (es fs : List Fraction) (j place : ℕ) → IsFormOf box rows r →
      HasEntries box rows basis r es → IsPivot basis es j → IsFormOf box rows f → HasEntries box rows basis f fs →
      place ≤ length basis →
      IsTableStep box rows basis lows Mul (entry fs j) (divided (entry es place) (entry es j))
  pivot_inverse_product : (r f : Member) (es fs : List Fraction) (j : ℕ) → IsFormOf box rows r →
      HasEntries box rows basis r es → IsPivot basis es j → IsFormOf box rows f → HasEntries box rows basis f fs →
      IsTableStep box rows basis lows Mul (entry fs j) (divided (whole (pos 1)) (entry es j))
  pivot_difference : (r f : Member) (es fs : List Fraction) (j place : ℕ) → IsFormOf box rows r →
      HasEntries box rows basis r es → IsPivot basis es j → IsFormOf box rows f → HasEntries box rows basis f fs →
      place ≤ length basis →
      IsTableStep box rows basis lows Sub (entry fs place) (times (entry fs j) (divided (entry es place) (entry es j)))
  corner_multiple : (k d : ℕ) → slice_get (corner_denominators lows) k ≡ Some d →
      IsTableStep box rows basis lows Lcm (whole (pos (lcm_of (take k (corner_denominators lows))))) (whole (pos d))
  corner_scale :
      IsTableStep box rows basis lows Scale (whole (pos (lcm_of (corner_denominators lows)))) two_to_27
  multiple : (r : Member) (es : List Fraction) (k d : ℕ) → IsFormOf box rows r → HasEntries box rows basis r es → IsRefutingForm basis es →
      slice_get (denominators (refuting_multipliers basis r es)) k ≡ Some d →
      IsTableStep box rows basis lows Lcm (whole (pos (lcm_of (take k (denominators (refuting_multipliers basis r es)))))) (whole (pos d))
  multiplier_product : (r : Member) (es : List Fraction) (k : ℕ) (q : Fraction) → IsFormOf box rows r → HasEntries box rows basis r es →
      IsRefutingForm basis es →
      slice_get (refuting_multipliers basis r es) k ≡ Some q →
      IsTableStep box rows basis lows Mul q (whole (pos (lcm_of (denominators (refuting_multipliers basis r es)))))
  multiplier_sum : (r : Member) (es : List Fraction) (k : ℕ) (next : Fraction) → IsFormOf box rows r → HasEntries box rows basis r es →
      IsRefutingForm basis es →
      slice_get (made_whole (refuting_multipliers basis r es)) k ≡ Some next →
      IsTableStep box rows basis lows Add (sum_of (take k (made_whole (refuting_multipliers basis r es)))) next
  multiplier_scale : (r : Member) (es : List Fraction) → IsFormOf box rows r → HasEntries box rows basis r es → IsRefutingForm basis es →
      IsTableStep box rows basis lows Scale (sum_of (made_whole (refuting_multipliers basis r es))) two_to_27

-- a fraction as a tree's entry holds it
abbrev pub ratio_of : Fraction → Ratio
ratio_of q = record { numerator = q.numerator; denominator = pos q.denominator }

-- the named step with its two fractions is a step of the basis, and makes a whole number that passes top
pub record IsStepTooWide (top : ℕ) (box : CostBox) (rows : List Form) (wide : WideAt) : Type 0 where
  pub lows : List (List Fraction)
  pub table : IsTable box rows wide.basis lows
  pub left : Fraction
  pub right : Fraction
  pub left_is : wide.left ≡ ratio_of left
  pub right_is : wide.right ≡ ratio_of right
  pub step : IsTableStep box rows wide.basis lows wide.step left right
  pub passes : Any (λ n. top < n) (numbers_of_step wide.step left right)
