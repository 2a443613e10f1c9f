-- The terms of a row, one for each variable whose coefficient isn't 0.
use Rattle.std.proofs.Common.{◌≡◌, ℕ, zero, suc, ◌+◌, ◌^◌, ◌<◌, ◌≤◌, refl, sym, ◌∙◌, ap, subst, List, [], ◌∷◌, take, length, arith, inl, inr, zero-add}
use Rattle.std.specs.Prelude.{ℤ, pos, negsuc, nat_abs, Some, All, fold, slice_get, slice_index_or}
use Rattle.std.proofs.lemmas.List.{get_or_default, take_all}
use Rattle.std.proofs.lemmas.List.Elements.{All-same}
use Rattle.std.proofs.lemmas.List.Sums.{fold_more}
use Rattle.std.proofs.lemmas.Option.{get_or_from_slice_get, slice_get_within}
use Rattle.cost_base.specs.declared.StepName.TheVariants.{Add, Mul}
use Rattle.whole_numbers.specs.Fractions.{Fraction, plus, times, whole}
use Rattle.wide_fraction.specs.declared.steps.Wide.{Wide}
use Rattle.design_problem.specs.declared.form.Term.{Term}
use Rattle.design_problem.specs.Basis.{entry}
use Rattle.design_problem.specs.Forms.{terms_from, no_term}
use Rattle.design_problem.specs.Steps.{terms}
use Rattle.design_problem.proofs.TermLaws.{each_term, moved}
use Rattle.fraction_lines.specs.TableLines.{AreTableNumbers}
use Rattle.fraction_lines.specs.Turns.{AreTableLines}
use Rattle.fraction_lines.specs.Sums.{IsSumStep, IsTermSum, product, sum, sum_of_terms}
use Rattle.fraction_lines.proofs.TableLineLaws.{lines_at}

abbrev pub term_in : List Term → ℕ → Term
term_in ts index = slice_index_or ts index no_term

-- the term of a variable
abbrev pub term_at : List ℤ → List (List Fraction) → ℕ → ℕ → Fraction
term_at cs lines place v = times (whole (slice_index_or cs v (pos 0))) (entry (slice_index_or lines v []) place)

-- the term at an index, with its variable counted from the first one: it has the same index among the sum's terms
record IsTermAt (first : ℕ) (cs : List ℤ) (lines : List (List Fraction)) (place index : ℕ) : Type 0 where
  variable : ℕ
  is : (term_in (terms_from first cs) index).var ≡ first + variable
  coefficient : (term_in (terms_from first cs) index).coefficient ≡ slice_index_or cs variable (pos 0)
  inside : variable < length cs
  term : slice_get (terms cs lines place) index ≡ Some (term_at cs lines place variable)

-- behind one more coefficient, where it puts its term in front or has none
behind : (first : ℕ) (c : ℤ) (cs : List ℤ) (es : List Fraction) (lines : List (List Fraction)) (place index below : ℕ) →
    term_in (terms_from first (c ∷ cs)) index ≡ term_in (terms_from (suc first) cs) below →
    slice_get (terms (c ∷ cs) (es ∷ lines) place) index ≡ slice_get (terms cs lines place) below →
    IsTermAt (suc first) cs lines place below → IsTermAt first (c ∷ cs) (es ∷ lines) place index
behind first c cs es lines place index below same terms_same rest =
    record {
      variable = suc rest.variable;
      is = ap (λ (t : Term). t.var) same ∙ rest.is ∙ moved first rest.variable;
      coefficient = ap (λ (t : Term). t.coefficient) same ∙ rest.coefficient;
      inside = omega (arith, rest.inside);
      term = terms_same ∙ rest.term;
    }

term_there : (first : ℕ) (cs : List ℤ) (lines : List (List Fraction)) (place index : ℕ) → length cs ≤ length lines →
    index < length (terms_from first cs) → IsTermAt first cs lines place index
term_there first [] lines place index many index_in = absurd (omega arith)
term_there first (c ∷ cs) [] place index many index_in = absurd (omega arith)
term_there first (pos zero ∷ cs) (es ∷ lines) place index many index_in =
    behind first (pos zero) cs es lines place index index refl refl (term_there (suc first) cs lines place index (omega arith) index_in)
term_there first (pos (suc n) ∷ cs) (es ∷ lines) place zero many index_in =
    record { variable = 0; is = omega arith; coefficient = refl; inside = omega arith; term = refl }
term_there first (pos (suc n) ∷ cs) (es ∷ lines) place (suc index) many index_in =
    behind first (pos (suc n)) cs es lines place (suc index) index refl refl
    (term_there (suc first) cs lines place index (omega arith) (omega arith))
term_there first (negsuc n ∷ cs) (es ∷ lines) place zero many index_in =
    record { variable = 0; is = omega arith; coefficient = refl; inside = omega arith; term = refl }
term_there first (negsuc n ∷ cs) (es ∷ lines) place (suc index) many index_in =
    behind first (negsuc n) cs es lines place (suc index) index refl refl
    (term_there (suc first) cs lines place index (omega arith) (omega arith))

-- What is known of a term that is read from a form's terms.
pub record IsRead (cs : List ℤ) (lines : List (List Fraction)) (place : ℕ) (ts : List Term) (index : ℕ) : Type 0 where
  pub inside : (term_in ts index).var < length cs
  pub coefficient : (term_in ts index).coefficient ≡ slice_index_or cs (term_in ts index).var (pos 0)
  pub term : slice_get (terms cs lines place) index ≡ Some (term_at cs lines place (term_in ts index).var)

pub term_read : (cs : List ℤ) (lines : List (List Fraction)) (place : ℕ) (ts : List Term) (index : ℕ) →
    ts ≡ terms_from 0 cs → length cs ≤ length lines → index < length ts → IsRead cs lines place ts index
term_read cs lines place ts index ts_are many index_in =
    let at = term_there 0 cs lines place index many (omega (arith, ap length ts_are, index_in)) in
    let same : term_in ts index ≡ term_in (terms_from 0 cs) index = ap (λ (us : List Term). term_in us index) ts_are in
    let v_is : (term_in ts index).var ≡ at.variable = ap (λ (t : Term). t.var) same ∙ at.is ∙ zero-add at.variable in
    record {
      inside = omega (arith, at.inside, v_is);
      coefficient = ap (λ (t : Term). t.coefficient) same ∙ at.coefficient ∙ ap (λ (u : ℕ). slice_index_or cs u (pos 0)) (sym v_is);
      term = at.term ∙ ap (λ (u : ℕ). Some (term_at cs lines place u)) (sym v_is);
    }

-- What is known of the line of such a term's variable, and of its coefficient.
pub record IsLineOf (top count : ℕ) (lines : List (List Fraction)) (t : Term) (line : List Fraction) : Type 0 where
  pub line_is : line ≡ slice_index_or lines t.var []
  pub counted : length line ≡ count
  pub numbers : AreTableNumbers top line
  pub small : nat_abs t.coefficient ≤ 2 ^ 26

pub line_read : (top count : ℕ) (cs : List ℤ) (lines : List (List Fraction)) (ts : List Term) (index : ℕ)
    (line : List Fraction) → ts ≡ terms_from 0 cs → All (λ z. nat_abs z ≤ 2 ^ 26) cs → AreTableLines top count lines →
    length cs ≤ length lines → index < length ts → line ≡ slice_index_or lines (term_in ts index).var line →
    IsLineOf top count lines (term_in ts index) line
line_read top count cs lines ts index line ts_are small fit many index_in read_is =
    let t = term_in ts index in
    let read = term_read cs lines 0 ts index ts_are many index_in in
    let there : t.var < length lines = omega (arith, read.inside, many) in
    let line_is = read_is ∙ get_or_default lines t.var line [] there in
    let own = lines_at top count lines t.var [] fit there in
    record {
      line_is = line_is;
      counted = ap length line_is ∙ own.0;
      numbers = subst (AreTableNumbers top) (sym line_is) own.1;
      small = All-same (λ (u : Term). nat_abs u.coefficient ≤ 2 ^ 26) ts (terms_from 0 cs) ts_are
          (each_term (λ z. nat_abs z ≤ 2 ^ 26) 0 cs small) index no_term index_in;
    }

-- there is a term of the sum for each
terms_counted : (first : ℕ) (cs : List ℤ) (lines : List (List Fraction)) (place : ℕ) → length cs ≤ length lines →
    length (terms cs lines place) ≡ length (terms_from first cs)
terms_counted first [] lines place many = refl
terms_counted first (c ∷ cs) [] place many = absurd (omega arith)
terms_counted first (pos zero ∷ cs) (es ∷ lines) place many = terms_counted (suc first) cs lines place (omega arith)
terms_counted first (pos (suc n) ∷ cs) (es ∷ lines) place many = ap suc (terms_counted (suc first) cs lines place (omega arith))
terms_counted first (negsuc n ∷ cs) (es ∷ lines) place many = ap suc (terms_counted (suc first) cs lines place (omega arith))

-- the sum with one more term
pub sum_next : (start so_far new value : Fraction) (c : ℤ) (cs : List ℤ) (lines : List (List Fraction)) (place : ℕ)
    (ts : List Term) (index : ℕ) → ts ≡ terms_from 0 cs → length cs ≤ length lines → index < length ts →
    c ≡ (term_in ts index).coefficient → value ≡ entry (slice_index_or lines (term_in ts index).var []) place →
    so_far ≡ fold plus start (take index (terms cs lines place)) → new ≡ plus so_far (times (whole c) value) →
    new ≡ fold plus start (take (index + 1) (terms cs lines place))
sum_next start so_far new value c cs lines place ts index ts_are many index_in c_is value_is so_far_is new_is =
    let us = terms cs lines place in
    let v = (term_in ts index).var in
    let next = term_at cs lines place v in
    let read = term_read cs lines place ts index ts_are many index_in in
    new_is
    ∙ ap (λ (x : Fraction). plus so_far (times (whole c) x)) value_is
    ∙ ap (λ (z : ℤ). plus so_far (times (whole z) (entry (slice_index_or lines v []) place))) (c_is ∙ read.coefficient)
    ∙ ap (λ (x : Fraction). plus x next) so_far_is
    ∙ ap (plus (fold plus start (take index us))) (sym (get_or_from_slice_get us index next next read.term))
    ∙ sym (fold_more plus start us index next (slice_get_within us index next read.term))

-- the sum of all terms
pub sum_whole : (start so_far : Fraction) (cs : List ℤ) (lines : List (List Fraction)) (place : ℕ) (ts : List Term)
    (index : ℕ) → ts ≡ terms_from 0 cs → length cs ≤ length lines → length ts ≤ index →
    so_far ≡ fold plus start (take index (terms cs lines place)) → so_far ≡ sum_of_terms start cs lines place
sum_whole start so_far cs lines place ts index ts_are many past so_far_is =
    so_far_is ∙ ap (fold plus start) (take_all index (terms cs lines place) (omega (arith, terms_counted 0 cs lines place many, ap length ts_are, past)))

-- a step of one more term is one of the sum
pub sum_wide : (start so_far value : Fraction) (c : ℤ) (cs : List ℤ) (lines : List (List Fraction)) (place : ℕ)
    (ts : List Term) (index : ℕ) (wide : Wide) → ts ≡ terms_from 0 cs → length cs ≤ length lines → index < length ts →
    c ≡ (term_in ts index).coefficient → value ≡ entry (slice_index_or lines (term_in ts index).var []) place →
    so_far ≡ fold plus start (take index (terms cs lines place)) → IsTermSum so_far c value wide →
    IsSumStep start cs lines place wide
sum_wide start so_far value c cs lines place ts index wide ts_are many index_in c_is value_is so_far_is step =
    let v = (term_in ts index).var in
    let q = entry (slice_index_or lines v []) place in
    let read = term_read cs lines place ts index ts_are many index_in in
    let c_read : c ≡ slice_index_or cs v (pos 0) = c_is ∙ read.coefficient in
    elim step [
      | inl is ↦
          product v read.inside
          (is
          ∙ ap {B = Wide} (λ (z : ℤ). record { step = Mul; left = whole z; right = value }) c_read
          ∙ ap {B = Wide} (λ (x : Fraction). record { step = Mul; left = whole (slice_index_or cs v (pos 0)); right = x }) value_is)
      | inr is ↦
          sum index (term_at cs lines place v) read.term
          (is
          ∙ ap {B = Wide} (λ (x : Fraction). record { step = Add; left = x; right = times (whole c) value }) so_far_is
          ∙ ap {B = Wide} (λ (z : ℤ). record { step = Add; left = fold plus start (take index (terms cs lines place)); right = times (whole z) value }) c_read
          ∙ ap {B = Wide} (λ (x : Fraction).
          record {
            step = Add;
            left = fold plus start (take index (terms cs lines place));
            right = times (whole (slice_index_or cs v (pos 0))) x;
          }) value_is)
    ]
