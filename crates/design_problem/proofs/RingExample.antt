-- A ring of three routers with three chords, of which no whole costs are fit: its forms, its tree, and a wide step.
use Rattle.std.proofs.Common.{◌≡◌, ℕ, zero, suc, ◌-◌, ◌^◌, ◌<◌, refl, List, [], ◌∷◌, arith, rules, lit<}
use Rattle.std.specs.Prelude.{ℤ, pos, negsuc, slice_index_or}
use Rattle.cost_base.specs.declared.StepName.TheVariants.{Scale}
use Rattle.area_graph.specs.declared.Vertex.TheVariants.{Router}
use Rattle.area_graph.specs.declared.Price.TheVariants.{Fixed, Var}
use Rattle.area_graph.specs.Area.{Area}
use Rattle.whole_numbers.specs.Fractions.{Fraction, whole}
use Rattle.design_problem.specs.declared.form.Form.{Form}
use Rattle.design_problem.specs.declared.boxes.CostBox.{CostBox}
use Rattle.design_problem.specs.declared.tree.Member.{Member}
use Rattle.design_problem.specs.declared.tree.Member.TheVariants.{Low as ByLow, Row as ByRow}
use Rattle.design_problem.specs.declared.tree.Side.TheVariants.{Low, High}
use Rattle.design_problem.specs.declared.tree.Entry.{Entry}
use Rattle.design_problem.specs.declared.tree.Entry.TheVariants.{Tighten, Split, Refute}
use Rattle.design_problem.specs.declared.tree.WideAt.{WideAt}
use Rattle.design_problem.specs.Rows.{form_between}
use Rattle.design_problem.specs.Boxes.{points}
use Rattle.design_problem.specs.Trees.{IsSoundTree, IsClosed, IsSingleTree, entry_count}
use Rattle.design_problem.specs.Basis.{HasEntries, IsTable, IsMixture, low_member, forms_of, member_form, LeadsPositive, column}
use Rattle.design_problem.specs.Steps.{IsStepTooWide, corner_scale}
use Rattle.design_problem.specs.Laws.{HasNone}
use Rattle.design_problem.proofs.TreeLaws.{closed_tree_none}
use Rattle.design_problem.proofs.CaseExamples.{link}

abbrev ring : Area
ring = record {
  vertices = Router 0 ∷ Router 1 ∷ Router 2 ∷ Router 3 ∷ Router 4 ∷ Router 5 ∷ [];
  edges = link 0 1 (Var 0) ∷ link 0 2 (Fixed 4) ∷ link 0 3 (Fixed 50) ∷ link 0 4 (Fixed 50) ∷ link 1 2 (Var 1)
      ∷ link 1 0 (Fixed 4) ∷ link 1 4 (Fixed 50) ∷ link 1 5 (Fixed 50) ∷ link 2 0 (Var 2) ∷ link 2 1 (Fixed 4)
      ∷ link 2 3 (Fixed 50) ∷ link 2 5 (Fixed 50) ∷ link 3 0 (Fixed 1) ∷ link 3 2 (Fixed 3) ∷ link 4 1 (Fixed 1)
      ∷ link 4 0 (Fixed 3) ∷ link 5 2 (Fixed 1) ∷ link 5 1 (Fixed 3) ∷ [];
}

abbrev form_of : ℤ → ℤ → ℤ → ℤ → Form
form_of c x y z = record { constant = c; coefficients = x ∷ y ∷ z ∷ [] }

abbrev forms : List Form
forms =
    form_of (negsuc 2) (pos 1) (pos 1) (pos 0) ∷ form_of (negsuc 2) (pos 0) (pos 1) (pos 1) ∷ form_of (negsuc 2) (pos 1) (pos 0) (pos 1)
    ∷ form_of (pos 3) (pos 0) (negsuc 0) (negsuc 0) ∷ form_of (pos 3) (negsuc 0) (pos 0) (negsuc 0) ∷ form_of (pos 3) (negsuc 0) (negsuc 0) (pos 0) ∷ []

forms_are : form_between ring 3 (13 ∷ []) (12 ∷ 0 ∷ 4 ∷ []) ∷ form_between ring 3 (15 ∷ []) (14 ∷ 4 ∷ 8 ∷ [])
    ∷ form_between ring 3 (17 ∷ []) (16 ∷ 8 ∷ 0 ∷ []) ∷ form_between ring 3 (4 ∷ 8 ∷ []) (5 ∷ []) ∷ form_between ring 3
    (8 ∷ 0 ∷ []) (9 ∷ []) ∷ form_between ring 3 (0 ∷ 4 ∷ []) (1 ∷ []) ∷ [] ≡ forms
forms_are = refl

abbrev box : CostBox
box = record { low = 1 ∷ 1 ∷ 1 ∷ []; high = 10 ∷ 10 ∷ 10 ∷ [] }

abbrev tree : List Entry
tree =
    Split 0 1 ∷ Tighten 1 Low 2 0 ∷ Tighten 2 Low 2 2 ∷ Refute ((3, 1) ∷ []) ∷ Tighten 1 High 2 3 ∷ Tighten 2 High 2 3
    ∷ Refute ((1, 1) ∷ (4, 1) ∷ (5, 1) ∷ []) ∷ []

tree_sound : IsSoundTree forms box tree
tree_sound = search rules

tree_closed : IsClosed tree
tree_closed = search rules

tree_whole : IsSingleTree tree
tree_whole = search rules

count : entry_count tree ≡ 7
count = refl

box_points : points box ≡ 1000
box_points = refl

none_fit : HasNone forms box
none_fit = closed_tree_none forms box tree tree_sound tree_closed

-- the corner at which x = y = z = 3/2
abbrev basis : List Member
basis = ByRow 3 ∷ ByRow 0 ∷ ByRow 2 ∷ []

abbrev half : Fraction
half = record { numerator = pos 1; denominator = 2 }

abbrev minus_half : Fraction
minus_half = record { numerator = negsuc 0; denominator = 2 }

abbrev lows : List (List Fraction)
lows =
    (half ∷ half ∷ half ∷ half ∷ []) ∷ (half ∷ minus_half ∷ half ∷ minus_half ∷ []) ∷ (half ∷ minus_half ∷ minus_half ∷ half ∷ []) ∷ []

x_mixture : IsMixture (member_form 3 forms (ByLow 0 1)) (forms_of box forms basis) 2 (pos 1 ∷ pos 1 ∷ pos 1 ∷ pos 1 ∷ [])
x_mixture zero = refl
x_mixture (suc zero) = refl
x_mixture (suc (suc zero)) = refl
x_mixture (suc (suc (suc zero))) = refl
x_mixture (suc (suc (suc (suc k)))) = refl

y_mixture : IsMixture (member_form 3 forms (ByLow 1 1)) (forms_of box forms basis) 2 (pos 1 ∷ negsuc 0 ∷ pos 1 ∷ negsuc 0 ∷ [])
y_mixture zero = refl
y_mixture (suc zero) = refl
y_mixture (suc (suc zero)) = refl
y_mixture (suc (suc (suc zero))) = refl
y_mixture (suc (suc (suc (suc k)))) = refl

z_mixture : IsMixture (member_form 3 forms (ByLow 2 1)) (forms_of box forms basis) 2 (pos 1 ∷ negsuc 0 ∷ negsuc 0 ∷ pos 1 ∷ [])
z_mixture zero = refl
z_mixture (suc zero) = refl
z_mixture (suc (suc zero)) = refl
z_mixture (suc (suc (suc zero))) = refl
z_mixture (suc (suc (suc (suc k)))) = refl

entries : (v : ℕ) → v < 3 → HasEntries box forms basis (low_member box v) (slice_index_or lows v [])
entries zero v_in = record {
  count = refl;
  lowest = search rules;
  common = 2;
  positive = lit< tt;
  numbers = pos 1 ∷ pos 1 ∷ pos 1 ∷ pos 1 ∷ [];
  stand = search rules;
  equation = x_mixture;
}
entries (suc zero) v_in = record {
  count = refl;
  lowest = search rules;
  common = 2;
  positive = lit< tt;
  numbers = pos 1 ∷ negsuc 0 ∷ pos 1 ∷ negsuc 0 ∷ [];
  stand = search rules;
  equation = y_mixture;
}
entries (suc (suc zero)) v_in =
    record {
      count = refl;
      lowest = search rules;
      common = 2;
      positive = lit< tt;
      numbers = pos 1 ∷ negsuc 0 ∷ negsuc 0 ∷ pos 1 ∷ [];
      stand = search rules;
      equation = z_mixture;
    }
entries (suc (suc (suc v))) v_in = absurd (omega arith)

leads : (k : ℕ) → k < 3 → LeadsPositive (column lows (suc k))
leads zero k_in = tt
leads (suc zero) k_in = tt
leads (suc (suc zero)) k_in = tt
leads (suc (suc (suc k))) k_in = absurd (omega arith)

table : IsTable box forms basis lows
table = record { count = refl; members = search rules; lows_count = refl; entries = entries; lead = leads }

-- at 28 bits the scale 2 times 2^27 is too wide
wide : WideAt
wide = record {
  step = Scale;
  left = record { numerator = pos 2; denominator = pos 1 };
  right = record { numerator = pos 134217728; denominator = pos 1 };
  basis = basis;
}

too_wide : IsStepTooWide (2 ^ 28 - 1) box forms wide
unfolding wide
too_wide = record {
  lows = lows;
  table = table;
  left = whole (pos 2);
  right = whole (pos 134217728);
  left_is = refl;
  right_is = refl;
  step = corner_scale;
  passes = search rules;
}
