-- Forms of a box, entries over a basis, and bases, over whole numbers.
use Rattle.std.specs.Prelude.{◌≡◌, ℕ, zero, suc, ◌<◌, ◌==◌, List, [], ◌∷◌, ℤ, pos, negsuc, ◌+ℤ◌, ◌*ℤ◌, neg_ℤ, map, length, slice_index, slice_index_or, All, if◌then◌else◌}
use Rattle.std.specs.List.{AllZip}
use Rattle.cost_base.specs.Lists.{numbers_from}
use Rattle.whole_numbers.specs.Fractions.{Fraction, IsLowest, StandsFor, whole}
use Rattle.design_problem.specs.declared.form.Form.{Form}
use Rattle.design_problem.specs.declared.boxes.CostBox.{CostBox}
use Rattle.design_problem.specs.declared.tree.Member.{Member}
use Rattle.design_problem.specs.declared.tree.Member.TheVariants.{Low, High, Row}
use Rattle.design_problem.specs.Forms.{form_at}

-- the n coefficients that are c at one variable and 0 elsewhere
abbrev pub unit : ℕ → ℕ → ℤ → List ℤ
unit n var c = map (λ k. if k == var then c else pos 0) (numbers_from 0 n)

-- the form that a member names, in n variables: x - value, value - x, or a row's
abbrev pub member_form : ℕ → List Form → Member → Form
member_form n rows (Low var value) = record { constant = neg_ℤ (pos value); coefficients = unit n var (pos 1) }
member_form n rows (High var value) = record { constant = pos value; coefficients = unit n var (negsuc 0) }
member_form n rows (Row row) = form_at rows row

-- the member is a form of the box
abbrev pub IsFormOf : CostBox → List Form → Member → Type 0
IsFormOf box rows (Low var value) = (var < length box.low) × (value ≡ slice_index box.low var)
IsFormOf box rows (High var value) = (var < length box.low) × (value ≡ slice_index box.high var)
IsFormOf box rows (Row row) = row < length rows

-- the form that is 1 everywhere
abbrev pub one_form : Form
one_form = record { constant = pos 1; coefficients = [] }

-- a form's constant is its coordinate 0, and its coefficients are the others
abbrev pub coordinate : Form → ℕ → ℤ
coordinate f zero = f.constant
coordinate f (suc var) = slice_index_or f.coefficients var (pos 0)

-- a coordinate of the sum of the forms, each times its factor
abbrev pub mixture : List ℤ → List Form → ℕ → ℤ
mixture [] fs i = pos 0
mixture (m ∷ ms) [] i = pos 0
mixture (m ∷ ms) (f ∷ fs) i = (m *ℤ coordinate f i) +ℤ mixture ms fs i

-- D times the form is this mixture of 1 and the basis, at each coordinate
abbrev pub IsMixture : Form → List Form → ℕ → List ℤ → Type 0
IsMixture f basis D ms = (i : ℕ) → (pos D *ℤ coordinate f i) ≡ mixture ms (one_form ∷ basis) i

-- The entries of a form over a basis: fractions in lowest terms, of which the first is alone and each other one
-- belongs to a form of the basis. D makes them whole.
pub record AreEntries (basis : List Form) (f : Form) (entries : List Fraction) : Type 0 where
  pub count : length entries ≡ suc (length basis)
  pub lowest : All IsLowest entries
  pub common : ℕ
  pub positive : 0 < common
  pub numbers : List ℤ
  pub stand : AllZip (λ q m. StandsFor q m common) entries numbers
  pub equation : IsMixture f basis common numbers

-- the entry at a place; 0 behind the end
abbrev pub entry : List Fraction → ℕ → Fraction
entry entries place = slice_index_or entries place (whole (pos 0))

-- the form x - low of a variable
abbrev pub low_member : CostBox → ℕ → Member
low_member box var = Low var (slice_index box.low var)

-- the sizes in a column, by the forms' order
abbrev pub column : List (List Fraction) → ℕ → List ℤ
column table place = map (λ entries. (entry entries place).numerator) table

-- the first number that isn't 0 is positive
abbrev pub LeadsPositive : List ℤ → Type 0
LeadsPositive [] = ⊥
LeadsPositive (pos zero ∷ zs) = LeadsPositive zs
LeadsPositive (pos (suc n) ∷ zs) = Unit {0}
LeadsPositive (negsuc n ∷ zs) = ⊥

-- the forms of some members
abbrev pub forms_of : CostBox → List Form → List Member → List Form
forms_of box rows members = map (member_form (length box.low) rows) members

-- the entries of a form of the box
abbrev pub HasEntries : CostBox → List Form → List Member → Member → List Fraction → Type 0
HasEntries box rows basis member entries =
    AreEntries (forms_of box rows basis) (member_form (length box.low) rows member) entries

-- A basis with the entries of x - low for each variable, in order: as many forms of the box as it has variables, and
-- each of their columns leads with a positive entry.
pub record IsTable (box : CostBox) (rows : List Form) (basis : List Member) (lows : List (List Fraction)) : Type 0 where
  pub count : length basis ≡ length box.low
  pub members : All (IsFormOf box rows) basis
  pub lows_count : length lows ≡ length box.low
  pub entries : (var : ℕ) → var < length box.low → HasEntries box rows basis (low_member box var) (slice_index_or lows var [])
  pub lead : (k : ℕ) → k < length basis → LeadsPositive (column lows (suc k))

-- the members are a basis of the box: some entries make them a table
abbrev pub IsBasis : CostBox → List Form → List Member → Type 0
IsBasis box rows basis = (lows : List (List Fraction)) × IsTable box rows basis lows
