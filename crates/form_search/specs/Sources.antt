-- Sources of forms: the points that they accept, and the forms that are true of these.
use Rattle.std.specs.Prelude.{◌≡◌, ℕ, ◌*◌, ◌^◌, ◌<◌, ◌≤◌, ◌↔◌, List, ◌++◌, pos, ◌<ℤ◌, ◌≤ℤ◌, nat_abs, map, length, All, Contains}
use Rattle.area_graph.specs.declared.Point.{Point}
use Rattle.design_problem.specs.Forms.{Form}
use Rattle.design_problem.specs.Forms.{value_for_costs, value_at}
use Rattle.form_search.specs.declared.source.Asked.{Asked}
use Rattle.form_search.specs.declared.source.Asked.TheVariants.{Nothing, Added}

-- What a true form keeps in n variables: a coefficient for each, and a size; at accepted points it is at least 0.
pub record IsTrueForm (n : ℕ) (accepted : Point → Type 0) (form : Form) : Type 0 where
  pub count : length form.coefficients ≡ n
  pub sizes : All (λ c. nat_abs c ≤ 2 ^ 26) form.coefficients
  pub values : (w : List ℕ) → length w ≡ n → All (λ x. (1 ≤ x) × (x ≤ 65535)) w → nat_abs (value_for_costs form w) < 2 ^ 27
  pub met : (point : Point) → length point.values ≡ n → accepted point → pos 0 ≤ℤ value_at form point

-- a point of costs: a value for each of n variables, from 1 to 65,535, times the scale
pub record IsCostPoint (n : ℕ) (point : Point) : Type 0 where
  pub count : length point.values ≡ n
  pub scale : 1 ≤ point.scale
  pub scale_below : point.scale < 2 ^ 100
  pub least : All (λ x. point.scale ≤ x) point.values
  pub most : All (λ x. x ≤ 65535 * point.scale) point.values

-- costs as a point: each times the scale
abbrev pub scaled : List ℕ → ℕ → Point
scaled w scale = record { scale = scale; values = map (λ x. x * scale) w }

-- what holds of a point before a call holds of it after, and the other way round
abbrev pub SameFor : {X : Type 0} → (X → Type 0) → (X → Type 0) → Type 0
SameFor {X} Before After = (x : X) → Before x ↔ After x

-- what no call of a source changes: how many variables it has, what it accepts, which forms are true, and the list of
-- these
pub record SameSource {Source : Type 0} (count : Source → ℕ) (accepted : Source → Point → Type 0) (true_form : Source →
    Form → Type 0) (possible_forms : Source → List Form) (old new : Source) : Type 0 where
  pub same_count : count new ≡ count old
  pub same_points : SameFor (accepted old) (accepted new)
  pub same_forms : SameFor (true_form old) (true_form new)
  pub same_possible_forms : possible_forms new ≡ possible_forms old

-- true forms came at the pool's end, and nothing else
pub record Grows (IsTrue : Form → Type 0) (old new : List Form) : Type 0 where
  pub more : List Form
  pub same : new ≡ old ++ more
  pub more_true : All IsTrue more

-- a form that wasn't in the pool came into it, and is negative at the point
pub record HasNewForm (point : Point) (old new : List Form) : Type 0 where
  pub form : Form
  pub is_new : Contains new form
  pub not_old : Contains old form → ⊥
  pub negative : value_at form point <ℤ pos 0

-- what a source answers: nothing came exactly where it accepts the point; else a form that is negative there
abbrev pub IsSourceAnswer : (Point → Type 0) → Point → List Form → List Form → Asked → Type 0
IsSourceAnswer accepted point old new Nothing = accepted point × (new ≡ old)
IsSourceAnswer accepted point old new Added = (accepted point → ⊥) × HasNewForm point old new
