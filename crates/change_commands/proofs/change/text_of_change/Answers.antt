-- The lines of each text are short enough.
use Rattle.std.proofs.Common.{◌≡◌, ap, sym, subst, List, ℕ, [], length, arith, Option}
use Rattle.std.specs.Prelude.{IfSome}
use Rattle.design_problem.specs.declared.form.Row.{Row}
use Rattle.evidence_text.specs.Lines.{AreShort}
use Rattle.design_problem.specs.Text.{rows_lines}
use Rattle.least_change.specs.declared.change.Change.{Change}
use Rattle.least_change.specs.declared.change.KeptTree.{KeptTree}
use Rattle.least_change.specs.Changes.{ChangeQuestion, IsChangeFound}
use Rattle.change_commands.specs.Changes.{changed_if}
use Rattle.change_commands.specs.ShortParts.{AreCostsShort, IsOpenShort}
use Rattle.change_commands.proofs.ShortLines.{IsAskable, askable, changed_if_short, changed_short, evidence_short, impossible_short, rows_part_short, undecided_short}
use Rattle.change_commands.proofs.change.text_of_change.Goals.{After-keeps_greatest_bound}
use Rattle.change_commands.proofs.change.text_of_change.Goals as goal

abbrev question : After-keeps_greatest_bound → ChangeQuestion
question c = record { problem = c.args.network.now.problem; present = c.args.present.now; top = c.requires.found.0; nodes = c.requires.found.1 }

asks : (c : After-keeps_greatest_bound) → IsAskable (question c)
asks c =
    let network = c.args.network.now in
    askable network.request_file network.lsdb network.problem c.args.present.now c.requires.found.0 c.requires.found.1 c.requires.built c.requires.present
    c.keeps_problem_on_graph.ensures.problem c.keeps_problem_on_graph.ensures.graph c.keeps_greatest_bound.ensures c.requires.found.2

told : (c : After-keeps_greatest_bound) (change : Change) → c.args.change.now ≡ change → IsChangeFound (question c) change
told c change is = subst (λ (found : Change). IsChangeFound (question c) found) is c.requires.found.3

pub change_count-count-requires-clause-counted : goal.change_count-count-requires-clause-counted
change_count-count-requires-clause-counted c =
    let at = (goal.at.change_count-count-requires-clause-counted c).After-keeps_greatest_bound in
    let shown = told at _ c.in-Fewest.is in
    omega (arith, ap length c.as_slice.ensures, shown.fewest.fit.within.low_count, (asks at).present.counted)

pub change_count-count-requires-clause-few : goal.change_count-count-requires-clause-few
change_count-count-requires-clause-few c =
    let a = asks (goal.at.change_count-count-requires-clause-few c).After-keeps_greatest_bound in
    omega (arith, a.present.counted, a.problem.var_count)

pub fewest_text-requires-clause-costs : goal.fewest_text-requires-clause-costs
fewest_text-requires-clause-costs c =
    let at = (goal.at.fewest_text-requires-clause-costs c).After-keeps_greatest_bound in
    let network = c.args.network.now in
    let shown = told at _ c.in-Fewest.is in
    changed_short network.request_file network.lsdb network.problem c.in-Fewest.costs c.requires.built (asks at).problem (asks at).bound_small
    shown.fewest.fit.within

pub fewest_text-requires-clause-cores : goal.fewest_text-requires-clause-cores
fewest_text-requires-clause-cores c =
    let at = (goal.at.fewest_text-requires-clause-cores c).After-keeps_greatest_bound in
    let shown = told at _ c.in-Fewest.is in
    evidence_short (question at) c.in-Fewest.evidence [] (asks at) shown.evidence_holds

pub impossible_text-requires-clause-rows : goal.impossible_text-requires-clause-rows
impossible_text-requires-clause-rows c =
    let at = (goal.at.impossible_text-requires-clause-rows c).After-keeps_greatest_bound in
    let shown = told at _ c.in-Impossible.is in
    subst (λ (rows : List Row). AreShort (rows_lines rows)) (sym c.as_slice-in-Impossible.ensures)
    (rows_part_short (question at) c.in-Impossible.rows (asks at) shown.few shown.sheet.true_rows)

pub impossible_text-requires-clause-tree : goal.impossible_text-requires-clause-tree
impossible_text-requires-clause-tree c =
    let at = (goal.at.impossible_text-requires-clause-tree c).After-keeps_greatest_bound in
    impossible_short (question at) c.in-Impossible.rows c.in-Impossible.tree (asks at) (told at _ c.in-Impossible.is)

pub undecided_text-requires-clause-costs : goal.undecided_text-requires-clause-costs
undecided_text-requires-clause-costs c =
    let at = (goal.at.undecided_text-requires-clause-costs c).After-keeps_greatest_bound in
    let network = c.args.network.now in
    let shown = told at _ c.in-Undecided.is in
    subst (λ (costs : Option (List ℕ)). AreCostsShort (changed_if network.request_file network.lsdb costs)) (sym c.as_ref.ensures.value)
    (changed_if_short network.request_file network.lsdb network.problem c.in-Undecided.costs c.requires.built (asks at).problem (asks at).bound_small shown.fit)

pub undecided_text-requires-clause-cores : goal.undecided_text-requires-clause-cores
undecided_text-requires-clause-cores c =
    let at = (goal.at.undecided_text-requires-clause-cores c).After-keeps_greatest_bound in
    let shown = told at _ c.in-Undecided.is in
    evidence_short (question at) c.in-Undecided.evidence _ (asks at) shown.evidence_holds

pub undecided_text-requires-clause-undecided : goal.undecided_text-requires-clause-undecided
undecided_text-requires-clause-undecided c =
    let at = (goal.at.undecided_text-requires-clause-undecided c).After-keeps_greatest_bound in
    let network = c.args.network.now in
    subst (λ (undecided : Option KeptTree). IfSome undecided (λ some. IsOpenShort network.problem some.tree)) (sym c.as_ref-in-Undecided.ensures.value)
    (undecided_short (question at) c.in-Undecided.evidence c.in-Undecided.costs c.in-Undecided.undecided (asks at) (told at _ c.in-Undecided.is))
