-- The costs that `spread` prints are read back, and spread traffic over the sets in the network that was read back.
use Rattle.std.proofs.Common.{◌≡◌, ℕ, ◌+◌, ◌≤◌, refl, sym, ◌∙◌, subst, List, [], ◌∷◌, ◌++◌, map, get_or, arith, append_assoc, None}
use Rattle.std.specs.Prelude.{codes, All, IfSome, slice_index}
use Rattle.std.specs.List.{AllZip}
use Rattle.std.proofs.lemmas.List.Elements.{All-map}
use Rattle.cost_base.specs.Decimal.{decimal}
use Rattle.area_graph.specs.Area.{Area}
use Rattle.area_graph.specs.Costs.{at_costs}
use Rattle.design_problem.specs.declared.answer.CostLine.{CostLine}
use Rattle.design_problem.specs.declared.problem.VarName.{VarName}
use Rattle.design_problem.specs.Answers.{greatest_bound}
use Rattle.design_problem.specs.Boxes.{IsInBox}
use Rattle.design_problem.specs.Problems.{DesignProblem}
use Rattle.design_problem.specs.Rows.{box_of, greatest_cost}
use Rattle.design_problem.specs.Text.{cost_lines, spaced, tree_lines}
use Rattle.text_lines.specs.Lines.{with_ends}
use Rattle.wide_fraction.specs.SearchLimits.{SearchLimits}
use Rattle.input_files.specs.Outcomes.{Input}
use Rattle.input_files.proofs.ReadyInputs.{IsReadyInput}
use Rattle.present_costs.specs.AtCosts.{graph_with}
use Rattle.present_costs.proofs.CheapestWith.{cost_with, path_with}
use Rattle.printed_rows.specs.PrintedCosts.{IsNamedCost, named_cost}
use Rattle.printed_parts.proofs.NamedCosts.{name_fits}
use Rattle.set_separation.specs.Outsiders.{IsOutsider}
use Rattle.spread_sets.specs.declared.spread.Spread.{Spread}
use Rattle.spread_sets.specs.declared.spread.Spread.TheVariants.{Fit, Impossible, Undecided}
use Rattle.spread_sets.specs.Answers.{IsSpreadFound}
use Rattle.spread_sets.specs.Spreads.{Shares, SharesEach, all_sets, edges_of, ends_in, name_of_set, paths_of}
use Rattle.read_back_laws.specs.ReadBack.{IsPrintable, IsReadBack}
use Rattle.read_back_laws.proofs.PrintedText.{NamesWords, all_cons, decimals_lack, spaced_lacks}
use Rattle.read_back_laws.proofs.PrintedSections.{PrintsSections, sections_between}
use Rattle.read_back_laws.proofs.QuietLines.{AreQuiet, none_quiet, quiet_cons}
use Rattle.read_back_laws.proofs.ReadBackLaws.{read_back}
use Rattle.path_commands.specs.Spreads.{AreSharedBack, IsSpreadBack, set_rows_lines, shared_costs, spread_text}

-- The lines of costs, and what stands around them.

-- the cost of each free interface
abbrev costs_named : DesignProblem → List ℕ → List CostLine
costs_named p w = map (named_cost w) p.vars

names_costs : (w : List ℕ) (names : List VarName) →
    AllZip (λ name line. (line.router ≡ name.router) × (line.interface ≡ name.interface) × (line.cost ≡ slice_index w name.var)) names
    (map (named_cost w) names)
names_costs w [] = tt
names_costs w (name ∷ names) = ((refl, refl, refl), names_costs w names)

-- the sections of the text of spread-fit costs are those of their lines
fit_sections : (p : DesignProblem) (w : List ℕ) → All NamesWords (costs_named p w) → PrintsSections (spread_text p (Fit w)) (costs_named p w)
fit_sections p w words =
    subst (λ (shown : List (List ℕ)). PrintsSections (with_ends (codes "ospfcost spread answer 1" ∷ codes "verdict fit" ∷ count ∷ shown)) (costs_named p w))
    (sym (regrouped (cost_lines None (costs_named p w)) (set_rows_lines []) (tree_lines (codes "proof") None) (tree_lines (codes "open") None)
    (codes "end" ∷ [])))
    (sections_between (codes "ospfcost spread answer 1" ∷ codes "verdict fit" ∷ count ∷ [])
    (set_rows_lines [] ++ (tree_lines (codes "proof") None ++ (tree_lines (codes "open") None ++ codes "end" ∷ [])))
    (costs_named p w) words head.lack refl head.other refl refl)
  where
    count : List ℕ
    count = spaced (codes "costs" ∷ decimal (greatest_cost w) ∷ [])

    regrouped : (c r t o e : List (List ℕ)) → (((c ++ r) ++ t) ++ o) ++ e ≡ c ++ (r ++ (t ++ (o ++ e)))
    regrouped c r t o e = simp append_assoc

    head : AreQuiet (codes "ospfcost spread answer 1" ∷ codes "verdict fit" ∷ count ∷ [])
    head = quiet_cons (codes "ospfcost spread answer 1") (codes "verdict fit" ∷ count ∷ []) refl refl
        (quiet_cons (codes "verdict fit") (count ∷ []) refl refl
        (quiet_cons count [] (spaced_lacks (codes "costs" ∷ decimal (greatest_cost w) ∷ [])
        (all_cons (codes "costs") (decimal (greatest_cost w) ∷ []) refl (decimals_lack (greatest_cost w ∷ [])))) refl none_quiet))

-- costs within the bounds are read back from their text
fit_back : (d : Input) (w : List ℕ) → IsReadyInput d → greatest_bound d.problem ≤ 65535 → IsInBox (box_of d.problem) w →
    IsReadBack d (spread_text d.problem (Fit w)) w
fit_back d w ready small within =
    read_back d (spread_text d.problem (Fit w)) (costs_named d.problem w) w ready (fit_sections d.problem w words) (names_costs w d.problem.vars) printable
  where
    named : All (λ name. IsNamedCost (named_cost w name)) d.problem.vars
    named = name_fits d.problem w ready.kept small within

    words : All NamesWords (costs_named d.problem w)
    words = All-map NamesWords (named_cost w) d.problem.vars
        (λ k name inside. let fits = named k name inside in record { router = fits.0.word; interface = fits.1.word })

    printable : All (IsPrintable w) d.problem.vars
    printable = λ k name inside. let fits = named k name inside in (omega (arith, fits.2), omega (arith, fits.3))

-- In the network read back.

-- an outsider of some paths is one also in the graph under the costs
outsider_with : (w : List ℕ) (p : DesignProblem) (set es : List ℕ) →
    IsOutsider (graph_with w p.graph) (ends_in p set) (paths_of p set) es → IsOutsider p.graph (ends_in p set) (paths_of p set) es
outsider_with w p set es outsider = record { path = (path_with w p.graph (ends_in p set) es).1 outsider.path; other = outsider.other }

-- a set that shares under costs shares in the graph at them
shares_with : (w : List ℕ) (p : DesignProblem) (set : List ℕ) → Shares p (at_costs w) set → Shares (record p { graph = graph_with w p.graph }) (at_costs []) set
shares_with w p set shares = record {
  tied = λ k d k_in.
      cost_with w p.graph (get_or (paths_of p set) k d) ∙ shares.tied k d k_in ∙ sym (cost_with w p.graph (edges_of p (name_of_set set)));
  dearer = λ es outsider.
      let less = shares.dearer es (outsider_with w p set es outsider) in
      let mine = cost_with w p.graph (edges_of p (name_of_set set)) in
      let its = cost_with w p.graph es in
      omega arith;
}

shared_back : (d : Input) (sets : List (List ℕ)) (text w : List ℕ) → IsReadBack d text w → SharesEach d.problem (all_sets d.problem sets) (at_costs w) →
    AreSharedBack d sets text
shared_back d sets text w back shares = λ k none k_in.
    let set : List ℕ = get_or (all_sets d.problem sets) k none in
    subst (λ (g : Area). Shares (record d.problem { graph = g }) (at_costs []) set) (sym back.graph) (shares_with w d.problem set (shares k none k_in))

-- the costs that are printed with what was found are read back from its text
pub spread_back : (limits : SearchLimits) (d : Input) (sets : List (List ℕ)) (spread : Spread) → IsReadyInput d → greatest_bound d.problem ≤ 65535 →
    IsSpreadFound d.problem sets limits.top limits.nodes spread → IfSome (shared_costs spread) (IsSpreadBack d sets (spread_text d.problem spread))
spread_back limits d sets (Fit w) ready small found =
    let back = fit_back d w ready small found.within in
    record { back = back; shared = shared_back d sets (spread_text d.problem (Fit w)) w back found.shares }
spread_back limits d sets (Impossible rows tree) ready small found = tt
spread_back limits d sets (Undecided rows tree) ready small found = tt
