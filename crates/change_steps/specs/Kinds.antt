-- Which steps come first and last.
use Rattle.std.specs.Prelude.{ℕ, nat_lt, ◌&&◌, Bool, true, false, not, List, filter, slice_index, if◌then◌else◌}
use Rattle.std.specs.List.{list_any, list_all}
use Rattle.cost_base.specs.Lists.{numbers_from}
use Rattle.area_graph.specs.Area.{Area, edge_at}
use Rattle.design_problem.specs.Problems.{request_at}
use Rattle.design_problem.specs.Rows.{is_var}
use Rattle.change_steps.specs.declared.kinds.Kind.{Kind}
use Rattle.change_steps.specs.declared.kinds.Kind.TheVariants.{First, Between, Last}
use Rattle.change_steps.specs.Rollouts.{CostMoves, Rollout, variables_of_step, step_count}

-- the wanted cost is greater than the present one
abbrev pub rises : CostMoves → ℕ → Bool
rises m v = nat_lt (slice_index m.present v) (slice_index m.wanted v)

-- the path goes over an interface with that variable's cost
unfoldable pub goes_over : Area → List ℕ → ℕ → Bool
goes_over g es v = list_any (λ e. is_var v (edge_at g e).price) es

-- the variable lies on a held path
unfoldable pub lies_on_held : Rollout → List ℕ → ℕ → Bool
lies_on_held r held v = list_any (λ k. goes_over r.graph (request_at r.requests k).path.edges v) held

-- the variable rises, off the held paths
abbrev pub rises_off_held : Rollout → List ℕ → ℕ → Bool
rises_off_held r held v = rises r.moves v && not (lies_on_held r held v)

-- the variable falls, off the held paths
abbrev pub falls_off_held : Rollout → List ℕ → ℕ → Bool
falls_off_held r held v = not (rises r.moves v) && not (lies_on_held r held v)

-- first where all variables of the step rise off the held paths, last where all fall off them, and else between
unfoldable pub kind_of_step : Rollout → List ℕ → ℕ → Kind
kind_of_step r held k =
    if list_all (rises_off_held r held) (variables_of_step r.moves k) then First
    else (if list_all (falls_off_held r held) (variables_of_step r.moves k) then Last else Between)

-- whether a step of that kind is tried before all others
abbrev pub comes_first : Kind → Bool
comes_first First = true
comes_first Between = false
comes_first Last = false

-- whether a step of that kind is tried behind the first and before the last ones
abbrev pub comes_between : Kind → Bool
comes_between First = false
comes_between Between = true
comes_between Last = false

-- whether a step of that kind is tried behind all others
abbrev pub comes_last : Kind → Bool
comes_last First = false
comes_last Between = false
comes_last Last = true

-- whether a step is of that kind
abbrev pub has_kind : Kind → Kind → Bool
has_kind First kind = comes_first kind
has_kind Between kind = comes_between kind
has_kind Last kind = comes_last kind

-- the first steps, in order
abbrev pub first_steps : Rollout → List ℕ → List ℕ
first_steps r held = filter (λ k. comes_first (kind_of_step r held k)) (numbers_from 0 (step_count r))

-- the steps between, in order
abbrev pub steps_between : Rollout → List ℕ → List ℕ
steps_between r held = filter (λ k. comes_between (kind_of_step r held k)) (numbers_from 0 (step_count r))
