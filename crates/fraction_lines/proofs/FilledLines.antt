-- A line with its zeros filled in: the constant, and for each column what its list has there.
use Rattle.std.proofs.Common.{◌≡◌, ◌≢◌, ℕ, zero, suc, ◌+◌, ◌<◌, ◌≤◌, cond, false, refl, sym, ◌∙◌, ap, subst, List, [], ◌∷◌, map, length, arith, inl, inr, add-zero, zero-add}
use Rattle.std.specs.Prelude.{◌==◌, slice_set, Result, Ok, Err, IfErr, OnOk}
use Rattle.std.proofs.lemmas.Bool.Decides.{nat_tests}
use Rattle.cost_base.specs.Lists.{numbers_from}
use Rattle.cost_base.specs.declared.StepName.TheVariants.{Sub, Mul, Div}
use Rattle.cost_base.proofs.ListLemmas.{length-map-numbers_from, map-numbers_from-agree, get_or-map-numbers_from, each_mapped}
use Rattle.whole_numbers.specs.Fractions.{Fraction, minus, times, divided}
use Rattle.wide_fraction.specs.declared.steps.Wide.{Wide}
use Rattle.design_problem.specs.Basis.{entry}
use Rattle.fraction_lines.specs.TableLines.{AreTableNumbers, IsCrossStep, IsDivideStep, IsTableNumber, IsWideStep, Rises, crossed_by, divided_without, filled, fraction_at, nothing}
use Rattle.fraction_lines.specs.TableLines.IsCrossStep.{product, difference}
use Rattle.fraction_lines.specs.TableLines.IsDivideStep.{quotient}
use Rattle.fraction_lines.specs.Entries.{AllNumbers, IsCrossingTooWide, IsDivisionTooWide, IsMade, IsQuotientStep, IsTermStep, crossed_at, divided_at}
use Rattle.fraction_lines.proofs.ZeroFractions.{nothing_number}
use Rattle.fraction_lines.proofs.Columns.{fraction_here, fraction_there, test_cases}

-- a list that has another value at one place is the list after a write there
pub mapped_written : {X : Type 0} (f g : ℕ → X) (a n k : ℕ) (x : X) → k < n → g (a + k) ≡ x →
    ((m : ℕ) → a ≤ m → m < a + n → m ≢ a + k → g m ≡ f m) →
    map g (numbers_from a n) ≡ slice_set (map f (numbers_from a n)) k x
mapped_written f g a zero k x k_in here others = absurd (omega arith)
mapped_written f g a (suc n) zero x k_in here others =
    ap (λ y. y ∷ map g (numbers_from (a + 1) n)) (ap g (sym (add-zero a)) ∙ here)
    ∙ ap (λ ys. x ∷ ys) (map-numbers_from-agree g f (a + 1) n (λ m from m_in. others m (omega arith) (omega arith) (omega arith)))
mapped_written f g a (suc n) (suc k) x k_in here others =
    ap (λ y. y ∷ map g (numbers_from (a + 1) n)) (others a (omega arith) (omega arith) (omega arith))
    ∙ ap (λ ys. f a ∷ ys) (mapped_written f g (a + 1) n k x (omega arith) (ap g (omega arith) ∙ here)
    (λ m from m_in apart. others m (omega arith) (omega arith) (omega arith)))

pub line_length : (c : Fraction) (w : ℕ) (es : List (ℕ × Fraction)) → length (c ∷ filled w es) ≡ suc w
line_length c w es = ap suc (length-map-numbers_from (fraction_at es) 0 w)

pub line_entry : (c : Fraction) (w : ℕ) (es : List (ℕ × Fraction)) (k : ℕ) → k < w → entry (c ∷ filled w es) (suc k) ≡ fraction_at es k
line_entry c w es k k_in = get_or-map-numbers_from (fraction_at es) 0 w k nothing k_in ∙ ap (fraction_at es) (zero-add k)

-- the width of a line whose view is known
pub width_is : (c : Fraction) (w : ℕ) (es : List (ℕ × Fraction)) (now : List Fraction) → c ∷ filled w es ≡ now → length now ≡ suc w
width_is c w es now view = ap length (sym view) ∙ line_length c w es

-- a line with another entry at one column
pub line_written : (c : Fraction) (w : ℕ) (es new : List (ℕ × Fraction)) (k : ℕ) (value : Fraction) → k < w →
    fraction_at new k ≡ value → ((m : ℕ) → m < w → m ≢ k → fraction_at new m ≡ fraction_at es m) →
    c ∷ filled w new ≡ slice_set (c ∷ filled w es) (suc k) value
line_written c w es new k value k_in here others =
    ap (λ qs. c ∷ qs) (mapped_written (fraction_at es) (fraction_at new) 0 w k value k_in
    (ap (fraction_at new) (zero-add k) ∙ here) (λ m from m_in apart. others m (omega arith) (omega arith)))

crossed_mapped : (factor : Fraction) (f g : ℕ → Fraction) (ks : List ℕ) →
    map (λ k. crossed_at factor k (f k) (g k)) ks ≡ crossed_by factor (map f ks) (map g ks)
crossed_mapped factor f g [] = refl
crossed_mapped factor f g (k ∷ ks) = ap (λ qs. minus (f k) (times factor (g k)) ∷ qs) (crossed_mapped factor f g ks)

pub line_crossed : (factor c t : Fraction) (w : ℕ) (es ts new : List (ℕ × Fraction)) →
    IsMade w (crossed_at factor) es ts new →
    minus c (times factor t) ∷ filled w new ≡ crossed_by factor (c ∷ filled w es) (t ∷ filled w ts)
line_crossed factor c t w es ts new made =
    ap (λ qs. minus c (times factor t) ∷ qs)
    (map-numbers_from-agree (fraction_at new) (λ k. crossed_at factor k (fraction_at es k) (fraction_at ts k)) 0 w (λ k from k_in. made k (omega arith))
    ∙ crossed_mapped factor (fraction_at es) (fraction_at ts) (numbers_from 0 w))

same_place : (a b : ℕ) → (suc a == suc b) ≡ (a == b)
same_place a b = grind (arith, nat_tests)

first_place : (b : ℕ) → (0 == suc b) ≡ false
first_place b = grind (arith, nat_tests)

divided_mapped : (left_out : ℕ) (divisor : Fraction) (f : ℕ → Fraction) (a n : ℕ) →
    map (λ k. divided_at left_out divisor k (f k) nothing) (numbers_from a n) ≡ divided_without (suc left_out) divisor
    (map f (numbers_from a n)) (suc a)
divided_mapped left_out divisor f a zero = refl
divided_mapped left_out divisor f a (suc n) =
    ap (λ b. cond b nothing (divided (f a) divisor) ∷ map (λ k. divided_at left_out divisor k (f k) nothing)
    (numbers_from (a + 1) n)) (sym (same_place a left_out))
    ∙ ap (λ qs. cond (suc a == suc left_out) nothing (divided (f a) divisor) ∷ qs)
    (divided_mapped left_out divisor f (a + 1) n ∙ ap (divided_without (suc left_out) divisor (map f (numbers_from (a + 1) n))) (omega arith))

pub line_divided : (left_out : ℕ) (divisor c : Fraction) (w : ℕ) (es new : List (ℕ × Fraction)) →
    IsMade w (divided_at left_out divisor) es [] new →
    divided c divisor ∷ filled w new ≡ divided_without (suc left_out) divisor (c ∷ filled w es) 0
line_divided left_out divisor c w es new made =
    ap (λ b. cond b nothing (divided c divisor) ∷ filled w new) (sym (first_place left_out))
    ∙ ap (λ qs. cond (0 == suc left_out) nothing (divided c divisor) ∷ qs)
    (map-numbers_from-agree (fraction_at new) (λ k. divided_at left_out divisor k (fraction_at es k) nothing) 0 w (λ k from k_in. made k (omega arith))
    ∙ divided_mapped left_out divisor (fraction_at es) 0 w)

mapped_number : (top : ℕ) (f : ℕ → Fraction) (a n k : ℕ) → AreTableNumbers top (map f (numbers_from a n)) → k < n → IsTableNumber top (f (a + k))
mapped_number top f a zero k numbers k_in = absurd (omega arith)
mapped_number top f a (suc n) zero numbers k_in = subst (λ (m : ℕ). IsTableNumber top (f m)) (sym (add-zero a)) numbers.0
mapped_number top f a (suc n) (suc k) numbers k_in =
    let e : (a + 1) + k ≡ a + suc k = omega arith in
    subst (λ (m : ℕ). IsTableNumber top (f m)) e (mapped_number top f (a + 1) n k numbers.1 (omega arith))

all_at : (top : ℕ) (es : List (ℕ × Fraction)) (k : ℕ) → IsTableNumber top nothing → AllNumbers top es → IsTableNumber top (fraction_at es k)
all_at top [] k zero_is numbers = zero_is
all_at top (e ∷ es) k zero_is numbers = test_cases (IsTableNumber top) e.0 k e.1 (fraction_at es k) (λ same. numbers.0)
    (λ other. all_at top es k zero_is numbers.1)

each_at : (top low high : ℕ) (es : List (ℕ × Fraction)) → Rises low high es →
    ((k : ℕ) → low ≤ k → k < high → IsTableNumber top (fraction_at es k)) → AllNumbers top es
each_at top low high [] rises each = tt
each_at top low high (e ∷ es) rises each = (
  subst (IsTableNumber top) (fraction_here e es e.0 refl) (each e.0 rises.0 rises.1),
  each_at top (suc e.0) high es rises.3 (λ k from k_in. subst (IsTableNumber top) (fraction_there e es k (apart k from))
      (each k (omega (arith, rises.0)) k_in)),
)
  where
    apart : (k : ℕ) → suc e.0 ≤ k → e.0 ≢ k
    apart k h = omega arith

-- the fractions of a line are numbers of the table where its constant and its entries are
pub line_numbers : (top : ℕ) (c : Fraction) (w : ℕ) (es : List (ℕ × Fraction)) → IsTableNumber top c → AllNumbers top es → AreTableNumbers top (c ∷ filled w es)
line_numbers top c w es c_is numbers =
    (c_is, each_mapped (IsTableNumber top) (fraction_at es) (numbers_from 0 w) (λ k. all_at top es k (nothing_number top c c_is) numbers))

pub entry_numbers : (top : ℕ) (c : Fraction) (w : ℕ) (es : List (ℕ × Fraction)) → Rises 0 w es → AreTableNumbers top (c ∷ filled w es) → AllNumbers top es
entry_numbers top c w es rises numbers =
    each_at top 0 w es rises (λ k from k_in. subst (λ (m : ℕ). IsTableNumber top (fraction_at es m)) (zero-add k)
    (mapped_number top (fraction_at es) 0 w k numbers.1 k_in))

-- a step on the fractions of a place is a step of the lines
pub term_step : (factor old other : Fraction) (fs ts : List Fraction) (place : ℕ) (wide : Wide) → place < length fs →
    entry fs place ≡ old → entry ts place ≡ other → IsTermStep old factor other wide →
    IsCrossStep factor fs ts wide.step wide.left wide.right
term_step factor old other fs ts place wide place_in old_is other_is step =
    elim step [
      | inl e ↦
          subst (λ (w : Wide). IsCrossStep factor fs ts w.step w.left w.right) (sym e)
          (subst (λ (q : Fraction). IsCrossStep factor fs ts Mul factor q) other_is (product place place_in))
      | inr e ↦
          subst (λ (w : Wide). IsCrossStep factor fs ts w.step w.left w.right) (sym e)
          (subst (λ (q : Fraction). IsCrossStep factor fs ts Sub old (times factor q)) other_is
          (subst (λ (q : Fraction). IsCrossStep factor fs ts Sub q (times factor (entry ts place))) old_is (difference place place_in)))
    ]

pub quotient_step : (divisor value : Fraction) (qs : List Fraction) (place : ℕ) (wide : Wide) → place < length qs →
    entry qs place ≡ value → IsQuotientStep value divisor wide → IsDivideStep divisor qs wide.step wide.left wide.right
quotient_step divisor value qs place wide place_in value_is e =
    subst (λ (w : Wide). IsDivideStep divisor qs w.step w.left w.right) (sym e)
    (subst (λ (q : Fraction). IsDivideStep divisor qs Div q divisor) value_is (quotient place place_in))

-- lines of one length have one width
pub same_width : (c d : Fraction) (v w : ℕ) (es fs : List (ℕ × Fraction)) (now other : List Fraction) →
    c ∷ filled v es ≡ now → d ∷ filled w fs ≡ other → length now ≡ length other → v ≡ w
same_width c d v w es fs now other view other_view same =
    omega (arith, width_is c v es now view, width_is d w fs other other_view)

-- the steps on two lists are steps of their lines
pub crossed_wide : {X : Type 0} (r : Result X Wide) (top : ℕ) (factor c t : Fraction) (w v : ℕ)
    (es ts olds others : List (ℕ × Fraction)) (now other : List Fraction) → v ≡ w → olds ≡ es → others ≡ ts →
    c ∷ filled w es ≡ now → t ∷ filled v ts ≡ other →
    IfErr r (IsCrossingTooWide w top factor olds others) →
    IfErr r (λ wide. IsWideStep top (IsCrossStep factor now other) wide.step wide.left wide.right)
crossed_wide (Ok x) top factor c t w v es ts olds others now other same olds_are others_are view other_view told = tt
crossed_wide (Err wide) top factor c t w v es ts olds others now other same olds_are others_are view other_view told =
    let k = told.column in
    let k_in : k < w = told.within in
    let k_there : k < v = omega arith in
    let place_in : suc k < length now = omega (arith, width_is c w es now view) in (
      term_step factor (fraction_at olds k) (fraction_at others k) now other (suc k) wide place_in
          (ap (λ (l : List Fraction). entry l (suc k)) (sym view) ∙ line_entry c w es k k_in ∙ ap (λ (l : List (ℕ × Fraction)). fraction_at l k) (sym olds_are))
          (ap (λ (l : List Fraction). entry l (suc k)) (sym other_view) ∙ line_entry t v ts k k_there
          ∙ ap (λ (l : List (ℕ × Fraction)). fraction_at l k) (sym others_are))
          told.step,
      told.passes,
    )

pub divided_wide : {X : Type 0} (r : Result X Wide) (top : ℕ) (divisor c : Fraction) (w : ℕ)
    (es olds : List (ℕ × Fraction)) (now : List Fraction) → olds ≡ es → c ∷ filled w es ≡ now →
    IfErr r (IsDivisionTooWide w top divisor olds) →
    IfErr r (λ wide. IsWideStep top (IsDivideStep divisor now) wide.step wide.left wide.right)
divided_wide (Ok x) top divisor c w es olds now olds_are view told = tt
divided_wide (Err wide) top divisor c w es olds now olds_are view told =
    let k = told.column in
    let k_in : k < w = told.within in
    let place_in : suc k < length now = omega (arith, width_is c w es now view) in (
      quotient_step divisor (fraction_at olds k) now (suc k) wide place_in
          (ap (λ (l : List Fraction). entry l (suc k)) (sym view) ∙ line_entry c w es k k_in ∙ ap (λ (l : List (ℕ × Fraction)). fraction_at l k) (sym olds_are))
          told.step,
      told.passes,
    )

-- the line of crossed lists, with each view as it is known
pub line_crossed_as : (value factor c t : Fraction) (w u v : ℕ) (es ts new olds others : List (ℕ × Fraction))
    (now other : List Fraction) → value ≡ minus c (times factor t) → u ≡ w → v ≡ w → olds ≡ es → others ≡ ts →
    c ∷ filled w es ≡ now → t ∷ filled v ts ≡ other → IsMade w (crossed_at factor) olds others new →
    value ∷ filled u new ≡ crossed_by factor now other
line_crossed_as value factor c t w u v es ts new olds others now other value_is u_is v_is olds_are others_are view other_view made =
    ap (λ (q : Fraction). q ∷ filled u new) value_is
    ∙ ap (λ (n : ℕ). minus c (times factor t) ∷ filled n new) u_is
    ∙ line_crossed factor c t w es ts new
    (subst (λ (l : List (ℕ × Fraction)). IsMade w (crossed_at factor) l ts new) olds_are
    (subst (λ (l : List (ℕ × Fraction)). IsMade w (crossed_at factor) olds l new) others_are made))
    ∙ ap (λ (l : List Fraction). crossed_by factor l (t ∷ filled w ts)) view
    ∙ ap (λ (n : ℕ). crossed_by factor now (t ∷ filled n ts)) (sym v_is)
    ∙ ap (λ (l : List Fraction). crossed_by factor now l) other_view

pub line_divided_as : (left_out : ℕ) (value divisor c : Fraction) (w u : ℕ) (es new olds : List (ℕ × Fraction))
    (now : List Fraction) → value ≡ divided c divisor → u ≡ w → olds ≡ es → c ∷ filled w es ≡ now →
    IsMade w (divided_at left_out divisor) olds [] new →
    value ∷ filled u new ≡ divided_without (suc left_out) divisor now 0
line_divided_as left_out value divisor c w u es new olds now value_is u_is olds_are view made =
    ap (λ (q : Fraction). q ∷ filled u new) value_is
    ∙ ap (λ (n : ℕ). divided c divisor ∷ filled n new) u_is
    ∙ line_divided left_out divisor c w es new (subst (λ (l : List (ℕ × Fraction)). IsMade w (divided_at left_out divisor) l [] new) olds_are made)
    ∙ ap (λ (l : List Fraction). divided_without (suc left_out) divisor l 0) view

-- what holds at Ok of one fact holds of what follows from it, and what holds always holds there
pub on_ok : {X E : Type 0} (r : Result X E) (P Q : Type 0) → (P → Q) → OnOk r P → OnOk r Q
on_ok (Ok x) P Q step h = step h
on_ok (Err e) P Q step h = tt

pub always_ok : {X E : Type 0} (r : Result X E) (Q : Type 0) → Q → OnOk r Q
always_ok (Ok x) Q h = h
always_ok (Err e) Q h = tt
