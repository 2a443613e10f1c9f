-- The text of `spread`, and what the command may write.
use Rattle.std.specs.Prelude.{◌≡◌, ℕ, List, [], ◌∷◌, ◌++◌, map, length, codes, Option, None, Some, IfSome}
use Rattle.cost_base.specs.declared.Status.{Status}
use Rattle.cost_base.specs.declared.Status.TheVariants as status
use Rattle.area_graph.specs.Costs.{at_costs}
use Rattle.design_problem.specs.declared.answer.CapTree.{CapTree}
use Rattle.design_problem.specs.declared.answer.Costs.{Costs}
use Rattle.design_problem.specs.Problems.{DesignProblem}
use Rattle.design_problem.specs.Text.{costs_lines, tree_lines, rows_line}
use Rattle.text_lines.specs.Lines.{with_ends}
use Rattle.spread_sets.specs.declared.spread.SetRow.{SetRow}
use Rattle.spread_sets.specs.declared.spread.Spread.{Spread}
use Rattle.spread_sets.specs.declared.spread.Spread.TheVariants.{Fit, Impossible, Undecided}
use Rattle.spread_sets.specs.Answers.{IsSpreadFound, set_row_line}
use Rattle.spread_sets.specs.Spreads.{SharesEach, all_sets}
use Rattle.wide_fraction.specs.SearchLimits.{SearchLimits}
use Rattle.input_files.specs.Outcomes.{Input}
use Rattle.read_back_laws.specs.ReadBack.{graph_back, IsReadBack}
use Rattle.printed_parts.specs.SharedParts.{at_greatest_bound}
use Rattle.printed_rows.specs.PrintedCosts.{named_costs}
use Rattle.path_commands.specs.SetFiles.{AreSetsIn, Sharing}

-- the part of rows in the text of `spread`: `rows N`, and for each row `row SET EDGE ..` or `same SET I J`
abbrev pub set_rows_lines : List SetRow → List (List ℕ)
set_rows_lines rows = rows_line (length rows) ∷ map set_row_line rows

-- the lines of the text of `spread` up to its trees: the head, the verdict, costs where there are some, and the rows
abbrev pub front_lines : List ℕ → Option Costs → List SetRow → List (List ℕ)
front_lines verdict costs rows =
    (codes "ospfcost spread answer 1" ∷ verdict ∷ [])
    ++ costs_lines costs
    ++ set_rows_lines rows

-- the lines of the text of `spread`: each of its parts, of which those that aren't there say so, as in an answer
abbrev pub spread_lines : List ℕ → Option Costs → List SetRow → Option CapTree → Option CapTree → List (List ℕ)
spread_lines verdict costs rows proof undecided =
    front_lines verdict costs rows
    ++ tree_lines (codes "proof") proof
    ++ tree_lines (codes "open") undecided
    ++ (codes "end" ∷ [])

-- the lines of the text of `spread` on what was found; trees stand at the greatest bound
abbrev pub spread_found_lines : DesignProblem → Spread → List (List ℕ)
spread_found_lines p (Fit w) = spread_lines (codes "verdict fit") (Some (named_costs p w)) [] None None
spread_found_lines p (Impossible rows tree) = spread_lines (codes "verdict impossible") None rows.items (Some (at_greatest_bound p tree)) None
spread_found_lines p (Undecided rows tree) = spread_lines (codes "verdict undecided") None rows.items None (Some (at_greatest_bound p tree))

-- the text of `spread` on what was found
abbrev pub spread_text : DesignProblem → Spread → List ℕ
spread_text p spread = with_ends (spread_found_lines p spread)

-- the status of a run of `spread` that prints what was found
abbrev pub spread_status : Spread → Status
spread_status (Fit w) = status.Done
spread_status (Impossible rows tree) = status.Impossible
spread_status (Undecided rows tree) = status.Undecided

-- the costs that `spread` prints with what was found, where there are some
abbrev pub shared_costs : Spread → Option (List ℕ)
shared_costs (Fit w) = Some w
shared_costs (Impossible rows tree) = None
shared_costs (Undecided rows tree) = None

-- the problem of an input in the graph that is read back from a text
abbrev pub problem_back : Input → List ℕ → DesignProblem
problem_back d text = record d.problem { graph = graph_back d text }

-- in the graph read back the paths of each set cost the same, and every other simple path of their request costs more
abbrev pub AreSharedBack : Input → List (List ℕ) → List ℕ → Type 0
AreSharedBack d sets text = SharesEach (problem_back d text) (all_sets d.problem sets) (at_costs [])

-- the configurations with the sections of a text are accepted; read back, these costs spread traffic over the sets
pub record IsSpreadBack (d : Input) (sets : List (List ℕ)) (text w : List ℕ) : Type 0 where
  pub back : IsReadBack d text w
  pub shared : AreSharedBack d sets text

-- The bytes are the text of what was found for the sets that the file says, which has this status; printed costs are
-- read back.
pub record ShowsSpread (limits : SearchLimits) (sharing : Sharing) (aim : Status) (bytes : List ℕ) : Type 0 where
  pub sets : List (List ℕ)
  pub said : AreSetsIn sets sharing
  pub spread : Spread
  pub found : IsSpreadFound sharing.input.problem sets limits.top limits.nodes spread
  pub status : spread_status spread ≡ aim
  pub spelled : bytes ≡ spread_text sharing.input.problem spread
  pub back : IfSome (shared_costs spread) (IsSpreadBack sharing.input sets bytes)

-- what `spread` may write: spread-fit costs; or that there are none; or that the budget was used up
abbrev pub MaySpread : SearchLimits → Sharing → Status → List ℕ → Type 0
MaySpread limits sharing status.Done bytes = ShowsSpread limits sharing status.Done bytes
MaySpread limits sharing status.Impossible bytes = ShowsSpread limits sharing status.Impossible bytes
MaySpread limits sharing status.Undecided bytes = ShowsSpread limits sharing status.Undecided bytes
MaySpread limits sharing other bytes = ⊥
