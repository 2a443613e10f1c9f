-- The source of a search for costs whose total is bounded: the rivals of the wanted paths, and the form of the total.
use Rattle.std.specs.Prelude.{◌≡◌, ℕ, ◌^◌, ◌<◌, ◌≤◌, ◌⊎◌, List, ◌∷◌, ◌++◌, take, drop, length, Option, None, Some}
use Rattle.design_problem.specs.Forms.{Form}
use Rattle.design_problem.specs.declared.form.Row.{Row}
use Rattle.design_problem.specs.Problems.{DesignProblem, IsProblemOnGraph}
use Rattle.design_problem.specs.Rows.{forms_of_rows}
use Rattle.cost_branching.specs.PossibleForms.{possible_forms_of_problem}
use Rattle.cost_branching.specs.Pools.{ArePoolRows}
use Rattle.cost_branching.specs.Rivals.{IsTrueRowForm, KnownRows}
use Rattle.least_total.specs.Totals.{form_of_total}

-- the rows that are known of a problem, the bound of the total, and how many rows came before the form of the total,
-- where that form has come
pub record BoundedRows : Type 0 where
  pub known : KnownRows
  pub most : ℕ
  pub before : Option ℕ

-- the form of the total, of a bound below 2^26
pub record IsTrueTotal (p : DesignProblem) (most : ℕ) (form : Form) : Type 0 where
  pub kept : IsProblemOnGraph p
  pub small : most < 2 ^ 26
  pub same : form ≡ form_of_total p most

-- a form that a search below a bound of the total may take: that of a row of the problem, or the total's form in
-- numbers that fit
abbrev pub IsTrueWithin : DesignProblem → ℕ → Form → Type 0
IsTrueWithin p most form = IsTrueRowForm p form ⊎ IsTrueTotal p most form

-- the forms with another one behind the first so many, where it has come
abbrev pub with_form : Option ℕ → Form → List Form → List Form
with_form None form forms = forms
with_form (Some k) form forms = take k forms ++ form ∷ drop k forms

-- the place of the form of the total, where it has come, is one among the forms of so many rows
abbrev pub IsPlaceIn : ℕ → Option ℕ → Type 0
IsPlaceIn count None = Unit {0}
IsPlaceIn count (Some k) = k ≤ count

-- the forms of the rows in their order, and that of the total at its place
abbrev pub forms_with_total : DesignProblem → ℕ → List Row → Option ℕ → List Form
forms_with_total p most rows before = with_form before (form_of_total p most) (forms_of_rows p rows)

-- the pool's forms are those of the rows, and that of the total at its place
pub record IsPoolWithTotal (s : BoundedRows) (pool : List Form) : Type 0 where
  pub are_rows : ArePoolRows s.known.problem s.known.rows
  pub place : IsPlaceIn (length s.known.rows) s.before
  pub forms : pool ≡ forms_with_total s.known.problem s.most s.known.rows s.before

-- the form of the total, and those that rows can have
abbrev pub possible_forms_within : DesignProblem → ℕ → List Form
possible_forms_within p most = form_of_total p most ∷ possible_forms_of_problem p
