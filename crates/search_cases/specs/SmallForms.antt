-- Lists of small forms.
use Rattle.std.specs.Prelude.{◌≡◌, ℕ, ◌^◌, ◌<◌, ◌≤◌, List, [], ◌∷◌, ◌++◌, pos, ◌<ℤ◌, ◌≤ℤ◌, nat_abs, length, All, Contains, Bool, true, false}
use Rattle.area_graph.specs.declared.Point.{Point}
use Rattle.design_problem.specs.Forms.{Form, form_at, terms_of, value_at, AreMet}
use Rattle.form_search.specs.Sources.{Grows, HasNewForm}
use Rattle.form_search.specs.declared.source.Asked.{Asked}
use Rattle.form_search.specs.declared.source.Asked.TheVariants.{Nothing, Added}

-- a number of variables, and forms in them
pub record SmallForms : Type 0 where
  pub variables : ℕ
  pub forms : List Form

-- a form in n variables with few terms, small coefficients and a small constant
pub record IsTiny (n : ℕ) (form : Form) : Type 0 where
  pub count : length form.coefficients ≡ n
  pub few : length (terms_of form) ≤ 32
  pub sizes : All (λ t. nat_abs t.coefficient ≤ 4) (terms_of form)
  pub constant : nat_abs form.constant ≤ 2 ^ 20

-- a form of the list
pub record IsTrueSmallForm (list : SmallForms) (form : Form) : Type 0 where
  pub listed : Contains list.forms form
  pub tiny : IsTiny list.variables form

-- the answer on one form: it came into the pool where it is negative at the point
abbrev pub IsFormAsked : Point → Form → List Form → List Form → Bool → Type 0
IsFormAsked point form old new true = (value_at form point <ℤ pos 0) × (new ≡ old ++ form ∷ [])
IsFormAsked point form old new false = (pos 0 ≤ℤ value_at form point) × (new ≡ old)

-- the answer so far, and whether one more form was added
abbrev pub answer_so_far : Asked → Bool → Asked
answer_so_far asked true = Added
answer_so_far asked false = asked

-- nothing was added where the first forms are at least 0, and something where one isn't
abbrev pub AnswersFormsBelow : List Form → Point → ℕ → List Form → List Form → Asked → Type 0
AnswersFormsBelow forms point count old new Nothing = (new ≡ old) × ((k : ℕ) → k < count → pos 0 ≤ℤ value_at (form_at forms k) point)
AnswersFormsBelow forms point count old new Added = (AreMet forms point → ⊥) × HasNewForm point old new

-- the first forms were asked
pub record AreFormsAsked (list : SmallForms) (point : Point) (count : ℕ) (old new : List Form) (asked : Asked) : Type 0 where
  pub grows : Grows (IsTrueSmallForm list) old new
  pub answer : AnswersFormsBelow list.forms point count old new asked
