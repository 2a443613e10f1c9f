-- A basis with the numbers of x - low over one denominator, apart from any lines. No public clause cites it.
use Rattle.std.specs.Prelude.{◌≡◌, ◌≢◌, ℕ, suc, ◌<◌, ◌≤◌, List, ℤ, pos, map, length, slice_index_or, All}
use Rattle.whole_numbers.specs.Lists.{number_at}
use Rattle.design_problem.specs.declared.form.Form.{Form}
use Rattle.design_problem.specs.declared.boxes.CostBox.{CostBox}
use Rattle.design_problem.specs.declared.tree.Member.{Member}
use Rattle.design_problem.specs.Basis.{IsFormOf, LeadsPositive, forms_of}
use Rattle.design_problem.specs.Forms.{no_form}
use Rattle.fraction_table.specs.ValidTables.{AllLong, AreMixtures, low_forms, number_of_form}

-- What a table keeps at a basis, but for its lines: the numbers mix the forms of the basis; the form of each column has
-- the denominator in it and 0 elsewhere; and each column leads positive.
pub record AreAtBasis (costs : CostBox) (rows : List Form) (basis : List Member) (D : ℕ) (lows : List (List ℤ)) : Type 0 where
  pub high_count : length costs.high ≡ length costs.low
  pub counts : All (λ f. length f.coefficients ≡ length costs.low) rows
  pub count : length basis ≡ length costs.low
  pub members : All (IsFormOf costs rows) basis
  pub positive : 0 < D
  pub long : AllLong (suc (length costs.low)) lows
  pub mixtures : AreMixtures D (forms_of costs rows basis) (low_forms (length costs.low) 0 costs.low) lows
  pub own : (k : ℕ) → k < length costs.low → number_of_form D costs.low lows (slice_index_or (forms_of costs rows basis) k no_form) (suc k) ≡ pos D
  pub elsewhere : (k place : ℕ) → k < length costs.low → place ≤ length costs.low → place ≢ suc k →
      number_of_form D costs.low lows (slice_index_or (forms_of costs rows basis) k no_form) place ≡ pos 0
  pub lead : (k : ℕ) → k < length costs.low → LeadsPositive (map (λ ts. number_at ts (suc k)) lows)
