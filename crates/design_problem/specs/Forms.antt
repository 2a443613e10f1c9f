-- Forms: a whole constant and a whole coefficient for each variable.
use Rattle.std.specs.Prelude.{◌≡◌, ◌≢◌, ℕ, zero, suc, ◌+◌, ◌*◌, ◌^◌, ◌<◌, ◌≤◌, ◌==◌, List, [], ◌∷◌, ◌++◌, ℤ, pos, negsuc, ◌+ℤ◌, ◌*ℤ◌, ◌≤ℤ◌, nat_abs, map, length, slice_index_or, All, AllPairs, sum_by, if◌then◌else◌}
use Rattle.cost_base.specs.Lists.{numbers_from}
use Rattle.area_graph.specs.declared.Point.{Point}
use Rattle.design_problem.specs.declared.form.Term.{Term}

-- a linear form: a constant, and a coefficient for each variable
pub record Form : Type 0 where
  pub constant : ℤ
  pub coefficients : List ℤ

-- what is read behind the end of a list of terms
abbrev pub no_term : Term
no_term = record { var = 0; coefficient = pos 0 }

-- the term of a variable, unless its coefficient is 0
abbrev pub term_of : ℕ → ℤ → List Term
term_of var (pos zero) = []
term_of var (pos (suc n)) = record { var = var; coefficient = pos (suc n) } ∷ []
term_of var (negsuc n) = record { var = var; coefficient = negsuc n } ∷ []

-- the terms of the coefficients of the variables from `first` on
abbrev pub terms_from : ℕ → List ℤ → List Term
terms_from first [] = []
terms_from first (c ∷ cs) = term_of first c ++ terms_from (suc first) cs

-- a form's terms: the coefficients that aren't 0, each with its variable, in the order of the variables
abbrev pub terms_of : Form → List Term
terms_of f = terms_from 0 f.coefficients

-- the coefficient of a variable, by the terms
abbrev pub coefficient_of : List Term → ℕ → ℤ
coefficient_of [] var = pos 0
coefficient_of (t ∷ ts) var = if t.var == var then t.coefficient else coefficient_of ts var

-- terms of some of n variables, in the order of the variables, with coefficients that aren't 0
pub record AreTerms (n : ℕ) (ts : List Term) : Type 0 where
  pub known : All (λ t. t.var < n) ts
  pub rising : AllPairs (λ t u. t.var < u.var) ts
  pub some : All (λ t. t.coefficient ≢ pos 0) ts

-- the form in n variables of a constant and terms
abbrev pub form_by : ℕ → ℤ → List Term → Form
form_by n constant ts = record { constant = constant; coefficients = map (coefficient_of ts) (numbers_from 0 n) }

-- the sum of the products, place by place
abbrev pub dot : List ℤ → List ℕ → ℤ
dot [] xs = pos 0
dot (c ∷ cs) [] = pos 0
dot (c ∷ cs) (x ∷ xs) = (c *ℤ pos x) +ℤ dot cs xs

-- the value at a point, times its scale
abbrev pub value_at : Form → Point → ℤ
value_at f p = (f.constant *ℤ pos p.scale) +ℤ dot f.coefficients p.values

-- the value at costs
abbrev pub value_for_costs : Form → List ℕ → ℤ
value_for_costs f w = f.constant +ℤ dot f.coefficients w

-- sums, place by place; a place past the end counts 0
abbrev pub added : List ℤ → List ℤ → List ℤ
added [] ds = ds
added (c ∷ cs) [] = c ∷ cs
added (c ∷ cs) (d ∷ ds) = (c +ℤ d) ∷ added cs ds

-- the form 0, which stands for a form past the end
abbrev pub no_form : Form
no_form = record { constant = pos 0; coefficients = [] }

-- the form of a row number
abbrev pub form_at : List Form → ℕ → Form
form_at forms row = slice_index_or forms row no_form

-- the sum of the forms, each times its multiplier
abbrev pub weighted : List Form → List (ℕ × ℕ) → Form
weighted forms [] = no_form
weighted forms (part ∷ parts) =
    record {
      constant = (pos part.1 *ℤ (form_at forms part.0).constant) +ℤ (weighted forms parts).constant;
      coefficients = added (map (λ c. pos part.1 *ℤ c) (form_at forms part.0).coefficients) (weighted forms parts).coefficients;
    }

-- each form is at least 0 at the costs
abbrev pub Meets : List Form → List ℕ → Type 0
Meets forms w = (row : ℕ) → pos 0 ≤ℤ value_for_costs (form_at forms row) w

-- how large a form's value can be at costs of at most 65,535
abbrev pub size_of_form : Form → ℕ
size_of_form f = nat_abs f.constant + 65535 * sum_by nat_abs f.coefficients

-- what the form of a row keeps: a coefficient for each of n variables, and a size below 2^27
pub record IsSmallForm (n : ℕ) (f : Form) : Type 0 where
  pub count : length f.coefficients ≡ n
  pub sizes : All (λ c. nat_abs c ≤ 2 ^ 26) f.coefficients
  pub size : size_of_form f < 2 ^ 27

-- each form is at least 0 at the point
abbrev pub AreMet : List Form → Point → Type 0
AreMet forms point = All (λ form. pos 0 ≤ℤ value_at form point) forms
