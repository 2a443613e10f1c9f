-- What is noted of a variable's present costs, link by link. No public clause cites it.
use Rattle.std.specs.Prelude.{ℕ, ◌==◌, List, [], ◌∷◌, if◌then◌else◌, slice_index, slice_index_or, Option, Some, None}
use Rattle.present_costs.specs.PresentCosts.{if_within}
use Rattle.present_costs.specs.declared.variables.Noted.{Noted}
use Rattle.present_costs.specs.declared.variables.Noted.TheVariants.{Nothing, One, Several}

-- what is noted with one cost more
abbrev pub noted_with : Noted → ℕ → Noted
noted_with Nothing cost = One cost
noted_with (One first) cost = if cost == first then One first else Several
noted_with Several cost = Several

-- what is noted after some costs more
abbrev pub noted_after : Noted → List ℕ → Noted
noted_after noted [] = noted
noted_after noted (cost ∷ costs) = noted_after (noted_with noted cost) costs

-- the one cost that is noted
abbrev pub one_noted : Noted → Option ℕ
one_noted Nothing = None
one_noted (One cost) = Some cost
one_noted Several = None

-- the one cost that is noted of the variable of number k, where it lies within bounds
abbrev pub noted_within : List ℕ → List ℕ → List Noted → ℕ → Option ℕ
noted_within low high noted k = if_within (slice_index low k) (slice_index high k) (one_noted (slice_index_or noted k Nothing))
