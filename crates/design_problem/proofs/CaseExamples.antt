-- The forms and trees of the worked cases, made by hand: square, triangle_three, six, twin and lan. The ring stands
-- apart.
use Rattle.std.proofs.Common.{◌≡◌, ℕ, refl, List, [], ◌∷◌, rules}
use Rattle.std.specs.Prelude.{pos, negsuc, replicate}
use Rattle.cost_base.specs.declared.StepName.TheVariants.{Scale}
use Rattle.area_graph.specs.declared.Vertex.TheVariants.{Router, Subnet}
use Rattle.area_graph.specs.declared.Price.{Price}
use Rattle.area_graph.specs.declared.Price.TheVariants.{Fixed, Var, Zero}
use Rattle.area_graph.specs.declared.Edge.{Edge}
use Rattle.area_graph.specs.Area.{Area}
use Rattle.area_graph.specs.Paths.{IsPathOf}
use Rattle.area_graph.specs.Costs.{cost, at_costs}
use Rattle.design_problem.specs.declared.form.Form.{Form}
use Rattle.design_problem.specs.declared.boxes.CostBox.{CostBox}
use Rattle.design_problem.specs.declared.tree.Side.TheVariants.{Low, High}
use Rattle.design_problem.specs.declared.tree.Member.TheVariants.{Row as ByRow}
use Rattle.design_problem.specs.declared.tree.WideAt.{WideAt}
use Rattle.design_problem.specs.declared.tree.Entry.{Entry}
use Rattle.design_problem.specs.declared.tree.Entry.TheVariants.{Tighten, Split, Halve, Refute, Undone}
use Rattle.design_problem.specs.Boxes.{greatest, capped, points}
use Rattle.design_problem.specs.Forms.{weighted}
use Rattle.design_problem.specs.Rows.{form_between}
use Rattle.design_problem.specs.Trees.{IsSoundTree, IsClosed, IsSingleTree, entry_count}
use Rattle.design_problem.specs.Laws.{HasNone}
use Rattle.design_problem.proofs.TreeLaws.{closed_tree_none}

abbrev pub link : ℕ → ℕ → Price → Edge
link from to price = record { from = from; to = to; price = price }

-- each of n variables from 1 to most
abbrev full : ℕ → ℕ → CostBox
full n most = record { low = replicate n 1; high = replicate n most }

abbrev square : Area
square = record {
  vertices = Router 0 ∷ Router 1 ∷ Router 2 ∷ Router 3 ∷ [];
  edges = link 0 1 (Var 0) ∷ link 0 3 (Var 1) ∷ link 1 2 (Var 2) ∷ link 1 0 (Var 3) ∷ link 2 3 (Var 4)
      ∷ link 2 1 (Var 5) ∷ link 3 0 (Var 6) ∷ link 3 2 (Var 7) ∷ [];
}

-- x1 + x7 - x0 - x2 - 1
square_form : form_between square 8 (0 ∷ 2 ∷ []) (1 ∷ 7 ∷ [])
    ≡ record {
      constant = negsuc 0;
      coefficients = negsuc 0 ∷ pos 1 ∷ negsuc 0 ∷ pos 0 ∷ pos 0 ∷ pos 0 ∷ pos 0
          ∷ pos 1 ∷ [];
    }
square_form = refl

square_path : IsPathOf square (record { start = 0; end = 2; excluded = [] }) (1 ∷ 7 ∷ [])
square_path = search rules

square_cost : cost square (at_costs (1 ∷ 1 ∷ 1 ∷ 1 ∷ 1 ∷ 1 ∷ 1 ∷ 2 ∷ [])) (1 ∷ 7 ∷ []) ≡ 3
square_cost = refl

-- at cap 1 at most -1
square_greatest : greatest (form_between square 8 (0 ∷ 2 ∷ []) (1 ∷ 7 ∷ [])) (capped (full 8 65535) 1) ≡ negsuc 0
square_greatest = refl

square_tree : IsSoundTree (form_between square 8 (0 ∷ 2 ∷ []) (1 ∷ 7 ∷ []) ∷ []) (capped (full 8 65535) 1) (Refute ((0, 1) ∷ []) ∷ [])
square_tree = search rules

abbrev triangle : Area
triangle = record {
  vertices = Router 0 ∷ Router 1 ∷ Router 2 ∷ [];
  edges = link 0 1 (Var 0) ∷ link 0 2 (Var 1) ∷ link 1 2 (Var 2) ∷ link 1 0 (Var 3) ∷ link 2 0 (Var 4) ∷ link 2 1 (Var 5) ∷ [];
}

-- x1 - x0 - x2 - 1, at cap 2 at most 2 - 1 - 1 - 1
triangle_form : form_between triangle 6 (0 ∷ 2 ∷ []) (1 ∷ [])
    ≡ record { constant = negsuc 0; coefficients = negsuc 0 ∷ pos 1 ∷ negsuc 0 ∷ pos 0 ∷ pos 0 ∷ pos 0 ∷ [] }
triangle_form = refl

triangle_greatest : greatest (form_between triangle 6 (0 ∷ 2 ∷ []) (1 ∷ [])) (capped (full 6 65535) 2) ≡ negsuc 0
triangle_greatest = refl

triangle_tree : IsSoundTree (form_between triangle 6 (0 ∷ 2 ∷ []) (1 ∷ []) ∷ []) (capped (full 6 65535) 2) (Refute ((0, 1) ∷ []) ∷ [])
triangle_tree = search rules

triangle_reached : greatest (form_between triangle 6 (0 ∷ 2 ∷ []) (1 ∷ [])) (capped (full 6 65535) 3) ≡ pos 0
triangle_reached = refl

abbrev six : Area
six = record {
  vertices = Router 0 ∷ Router 1 ∷ Router 2 ∷ Router 3 ∷ Router 4 ∷ Router 5 ∷ [];
  edges = link 0 1 (Var 0) ∷ link 0 4 (Var 1) ∷ link 0 5 (Var 2) ∷ link 1 0 (Var 3) ∷ link 1 2 (Var 4)
      ∷ link 2 1 (Var 5) ∷ link 2 3 (Var 6) ∷ link 2 4 (Var 7) ∷ link 3 2 (Var 8) ∷ link 4 0 (Var 9) ∷ link 4 2 (Var 10)
      ∷ link 5 0 (Var 11) ∷ [];
}

six_wanted : IsPathOf six (record { start = 0; end = 3; excluded = [] }) (0 ∷ 4 ∷ 6 ∷ [])
six_wanted = search rules

six_rival : IsPathOf six (record { start = 0; end = 3; excluded = [] }) (1 ∷ 10 ∷ 6 ∷ [])
six_rival = search rules

-- x1 + x10 - x0 - x4 - 1: the variable 6, which both paths pay, falls out
six_first : form_between six 12 (0 ∷ 4 ∷ 6 ∷ []) (1 ∷ 10 ∷ 6 ∷ [])
    ≡ record {
      constant = negsuc 0;
      coefficients = negsuc 0 ∷ pos 1 ∷ pos 0 ∷ pos 0 ∷ negsuc 0 ∷ pos 0 ∷ pos 0 ∷ pos 0
          ∷ pos 0 ∷ pos 0 ∷ pos 1 ∷ pos 0 ∷ [];
    }
six_first = refl

abbrev six_forms : List Form
six_forms = form_between six 12 (0 ∷ 4 ∷ 6 ∷ []) (1 ∷ 10 ∷ 6 ∷ []) ∷ form_between six 12 (11 ∷ 1 ∷ 10 ∷ []) (11 ∷ 0 ∷ 4 ∷ []) ∷ []

-- the two forms add up to -2
six_sum : greatest (weighted six_forms ((0, 1) ∷ (1, 1) ∷ [])) (full 12 65535) ≡ negsuc 1
six_sum = refl

six_tree : IsSoundTree six_forms (full 12 65535) (Refute ((0, 1) ∷ (1, 1) ∷ []) ∷ [])
six_tree = search rules

abbrev twin : Area
twin = record {
  vertices = Router 0 ∷ Router 1 ∷ [];
  edges = link 0 1 (Var 0) ∷ link 0 1 (Var 1) ∷ link 1 0 (Var 2) ∷ link 1 0 (Var 3) ∷ [];
}

abbrev twin_forms : List Form
twin_forms = form_between twin 4 (0 ∷ []) (1 ∷ []) ∷ form_between twin 4 (1 ∷ []) (0 ∷ []) ∷ []

twin_first : form_between twin 4 (0 ∷ []) (1 ∷ []) ≡ record { constant = negsuc 0; coefficients = negsuc 0 ∷ pos 1 ∷ pos 0 ∷ pos 0 ∷ [] }
twin_first = refl

-- x1 - x0 - 1 and x0 - x1 - 1 add up to -2
twin_sum : greatest (weighted twin_forms ((0, 1) ∷ (1, 1) ∷ [])) (full 4 65535) ≡ negsuc 1
twin_sum = refl

abbrev twin_tree : List Entry
twin_tree = Refute ((0, 1) ∷ (1, 1) ∷ []) ∷ []

twin_sound : IsSoundTree twin_forms (full 4 65535) twin_tree
twin_sound = search rules

twin_closed : IsClosed twin_tree
twin_closed = search rules

twin_none : HasNone twin_forms (full 4 65535)
twin_none = closed_tree_none twin_forms (full 4 65535) twin_tree twin_sound twin_closed

-- where both ends of a link share a variable, a path that pays it and a rival that pays it too differ by nothing there
abbrev shared : Area
shared = record {
  vertices = Router 0 ∷ Router 1 ∷ Router 2 ∷ [];
  edges = link 0 1 (Var 0) ∷ link 1 0 (Var 0) ∷ link 1 2 (Fixed 3) ∷ link 1 2 (Var 1) ∷ [];
}

shared_form : form_between shared 2 (0 ∷ 2 ∷ []) (0 ∷ 3 ∷ []) ≡ record { constant = negsuc 3; coefficients = pos 0 ∷ pos 1 ∷ [] }
shared_form = refl

-- over a subnet a path pays only where it leads into it
abbrev lan : Area
lan = record {
  vertices = Router 0 ∷ Router 1 ∷ Router 2 ∷ Subnet 0 ∷ [];
  edges = link 0 3 (Var 0) ∷ link 1 3 (Var 1) ∷ link 2 3 (Var 2) ∷ link 3 0 Zero ∷ link 3 1 Zero ∷ link 3 2 Zero ∷ [];
}

lan_path : IsPathOf lan (record { start = 0; end = 2; excluded = [] }) (0 ∷ 5 ∷ [])
lan_path = search rules

lan_cost : cost lan (at_costs (7 ∷ 9 ∷ 11 ∷ [])) (0 ∷ 5 ∷ []) ≡ 7
lan_cost = refl

-- one tree with each kind of entry, at cap 3 of the twin where the first path is wanted: x1 - x0 - 1 and x0 - x1 - 1
abbrev wide : WideAt
wide = record {
  step = Scale;
  left = record { numerator = pos 2; denominator = pos 1 };
  right = record { numerator = pos 134217728; denominator = pos 1 };
  basis = ByRow 0 ∷ [];
}

abbrev each_kind : List Entry
each_kind =
    Tighten 1 Low 2 0 ∷ Tighten 0 High 2 0 ∷ Split 2 1 ∷ Refute ((0, 1) ∷ (1, 1) ∷ []) ∷ Halve 3 2 wide ∷ Undone ∷ Refute ((0, 2) ∷ (1, 2) ∷ []) ∷ []

each_kind_sound : IsSoundTree twin_forms (full 4 3) each_kind
each_kind_sound = search rules

each_kind_whole : IsSingleTree each_kind
each_kind_whole = search rules

each_kind_count : entry_count each_kind ≡ 6
each_kind_count = refl

each_kind_points : points (full 4 3) ≡ 81
each_kind_points = refl
