use Rattle.std.proofs.Common.{ℕ, ◌∙◌, refl, sym, subst, inl, List, Ok, Continue, Break, rules}
use Rattle.std.proofs.lemmas.Result.{err_from_is_err_and}
use Rattle.std.proofs.lemmas.Bool.{false≢true}
use Rattle.design_problem.specs.declared.tree.Entry.{Entry}
use Rattle.design_problem.specs.OpenPlaces.{Growing, first_place}
use Rattle.design_problem.specs.Earnest.{IsLeastPoint}
use Rattle.form_search.specs.declared.found.Found.TheVariants.{Refuted}
use Rattle.form_search.specs.Finds.{IsSearchResult}
use Rattle.form_search.specs.Points.{IsCostsBox}
use Rattle.form_search.specs.NextEntries.{IsDesk, IsNextStep}
use Rattle.form_search.proofs.AdvisorLaws.{along_begun, along_next, asked_next_there, calls_begun, calls_end, start, there_if_costs, tree_found, wanting_end}
use Rattle.form_search.proofs.OtherSources.{least_same, next_same, swapped}
use Rattle.form_search.proofs.SourceLaws.{in_step_then, leaves_none, leaves_then}
use Rattle.form_search.proofs.GrowingTrees.{IsGrowing, ended_whole, first_costs, first_in, growing_ends, growing_start, round_falls, round_shown, undone_whole}
use Rattle.form_search.proofs.searching.search.Goals as goal

pub returns-in_err-tree-clause-advisors : goal.returns-in_err-tree-clause-advisors
returns-in_err-tree-clause-advisors g c =
    let p = err_from_is_err_and c.from_residual.result c.from_residual.ensures.1 in
    rw (p.1, p.2) (record { tree = start c.args.costs.now; is_tree = tt; calls = calls_begun _ _ _ _ _ })

pub returns-in_err-desk-clause-advisors : goal.returns-in_err-desk-clause-advisors
returns-in_err-desk-clause-advisors g c =
    let p = err_from_is_err_and c.from_residual-in_err-desk.result c.from_residual-in_err-desk.ensures.1 in
    rw (p.1, p.2) (record { tree = start c.args.costs.now; is_tree = tt; calls = calls_begun _ _ _ _ _ })

pub boxes-init : goal.boxes-init
boxes-init g c =
    let source = c.args.source.now in
    let pool = c.args.pool.now in
    let costs = c.args.costs.now in
    let limits = c.args.limits.now in
    let Accepted = g.S.FormSource.accepted in
    let desk = c.in_ok-desk.desk in
    record {
      left = leaves_none g.S.FormSource source pool c.requires.in_step.lists;
      growing =
          subst (λ (tree : Growing). IsGrowing (Accepted source) limits.top limits.nodes pool costs tree) (sym c.in_ok-tree.ensures.tree)
          (growing_start (Accepted source) limits.top limits.nodes pool costs);
      desk = subst (λ (n : ℕ). IsDesk limits.top n desk) c.requires.ranges.low_count c.in_ok-desk.ensures;
      advisors = along_begun _ _ _ costs c.in_ok-tree.tree c.args.advisors.now.items c.in_ok-tree.ensures.tree;
    }

pub next_at-requires-clause-in_step : goal.next_at-requires-clause-in_step
next_at-requires-clause-in_step g c =
    in_step_then g.S.FormSource c.args.source.now c.boxes.source c.args.pool.now c.boxes.pool c.requires.in_step c.boxes.invariant.left

pub next_at-requires-clause-ranges : goal.next_at-requires-clause-ranges
next_at-requires-clause-ranges g c =
    let n = g.S.FormSource.count c.args.source.now in
    let costs = c.args.costs.now in
    let limits = c.args.limits.now in
    let tree = c.boxes.tree in
    let was = c.boxes.invariant in
    let kept : IsCostsBox n costs = subst (λ (m : ℕ). IsCostsBox m costs) c.variables.ensures c.in_ok-tree.ensures.ranges in
    subst (λ (m : ℕ). IsCostsBox m (first_place tree.places).box) (sym was.left.same.same_count)
    (first_costs n costs (first_place tree.places).box kept
    (first_in (g.S.FormSource.accepted c.args.source.now) limits.top n c.boxes.pool costs tree.entries tree.places
    kept.is_box (c.is_open.ensures.0 c.boxes-test.true) was.growing.opens))

pub returns-in_err-next-clause-left : goal.returns-in_err-next-clause-left
returns-in_err-next-clause-left g c =
    leaves_then g.S.FormSource c.args.source.now c.boxes.source c.next_at.new.source c.args.pool.now c.boxes.pool
    c.next_at.new.pool c.boxes.invariant.left c.next_at.ensures.left (search rules)

pub returns-in_err-next-clause-advisors : goal.returns-in_err-next-clause-advisors
returns-in_err-next-clause-advisors g c =
    let p = err_from_is_err_and c.from_residual-in_err-next.result c.from_residual-in_err-next.ensures.1 in
    rw (p.1, p.2) (record {
      tree = c.boxes.tree;
      is_tree = tt;
      calls = record { left = c.boxes.advisors.items; along = c.boxes.invariant.advisors; last = inl c.in_err-next.ensures.asked };
    })

pub round-requires-clause-whole : goal.round-requires-clause-whole
round-requires-clause-whole g c =
    let limits = c.args.limits.now in
    undone_whole (g.S.FormSource.accepted c.args.source.now) limits.top limits.nodes c.boxes.pool c.args.costs.now c.boxes.tree c.boxes.invariant.growing

pub returns-in_err-longer-clause-left : goal.returns-in_err-longer-clause-left
returns-in_err-longer-clause-left g c =
    leaves_then g.S.FormSource c.args.source.now c.boxes.source c.next_at.new.source c.args.pool.now c.boxes.pool
    c.next_at.new.pool c.boxes.invariant.left c.next_at.ensures.left (search rules)

pub returns-in_err-longer-clause-advisors : goal.returns-in_err-longer-clause-advisors
returns-in_err-longer-clause-advisors g c =
    let Accepted = g.S.FormSource.accepted in
    let asked = asked_next_there (IsLeastPoint (Accepted c.boxes.source)) (IsLeastPoint (Accepted c.args.source.now)) _
    (first_place c.boxes.tree.places).box (Ok c.in_ok-next.next) _ _
    (λ b point least. least_same (Accepted c.boxes.source) (Accepted c.args.source.now) b point
    (swapped (Accepted c.args.source.now) (Accepted c.boxes.source) c.boxes.invariant.left.same.same_points) least)
    c.in_ok-next.ensures.asked in
    let end = wanting_end _ _ _ c.args.costs.now c.boxes.tree c.in_ok-next.next _ _ _ _ c.boxes.invariant.advisors asked c.in_err-longer.ensures.told in
    let p = err_from_is_err_and c.from_residual-in_err-longer.result c.from_residual-in_err-longer.ensures.1 in
    rw (p.1, p.2) (record { tree = end.0; is_tree = tt; calls = end.1 })

pub boxes-smaller : goal.boxes-smaller
boxes-smaller g c =
    let source = c.boxes.source in
    let limits = c.args.limits.now in
    let tree = c.boxes.tree in
    let was = c.boxes.invariant in
    let round = c.in_ok-longer in
    round_falls (g.S.FormSource.true_form source) (g.S.FormSource.accepted source) c.boxes.desk.top limits.nodes
    (g.S.FormSource.possible_forms c.args.source.now) (g.S.FormSource.possible_forms source) c.boxes.pool c.next_at.new.pool
    (first_place tree.places) tree c.in-Continue.longer c.in_ok-next.next round.field-0
    (g.met.S.FormSource.true_forms_listed source) was.left.same.same_possible_forms c.next_at.ensures.left.grows was.growing.few
    c.in_ok-next.ensures.next round.ensures.outcome c.in-Continue.is

pub boxes-preserved : goal.boxes-preserved
boxes-preserved g c =
    let source = c.args.source.now in
    let now = c.next_at.new in
    let limits = c.args.limits.now in
    let costs = c.args.costs.now in
    let tree = c.boxes.tree in
    let Accepted = g.S.FormSource.accepted in
    let IsTrue = g.S.FormSource.true_form in
    let was = c.boxes.invariant in
    let left = c.next_at.ensures.left in
    let next = c.in_ok-next.ensures in
    let round = c.in_ok-longer in
    let asked = asked_next_there (IsLeastPoint (Accepted c.boxes.source)) (IsLeastPoint (Accepted source)) _
    (first_place tree.places).box (Ok c.in_ok-next.next) _ _
    (λ b point least. least_same (Accepted c.boxes.source) (Accepted source) b point
    (swapped (Accepted source) (Accepted c.boxes.source) was.left.same.same_points) least)
    next.asked in
    let step = subst (λ (top : ℕ). IsNextStep (Accepted c.boxes.source) top c.boxes.pool now.pool (first_place tree.places) c.in_ok-next.next)
    was.desk.same_top next.next in
    record {
      left =
          leaves_then g.S.FormSource source c.boxes.source now.source c.args.pool.now c.boxes.pool now.pool was.left left
          next.left.lists;
      growing =
          round_shown (IsTrue c.boxes.source) (Accepted source) (Accepted c.boxes.source) limits.top limits.nodes
          (g.S.FormSource.count source) c.boxes.pool now.pool costs tree c.in_ok-next.next round.field-0 (Continue c.in-Continue.longer)
          c.requires.ranges was.left.same.same_points left.grows was.growing (c.is_open.ensures.0 c.boxes-test.true) step
          round.ensures.outcome c.in-Continue.is;
      desk =
          subst (λ (top : ℕ). IsDesk top (g.S.FormSource.count source) now.desk) was.desk.same_top
          (subst (λ (n : ℕ). IsDesk c.boxes.desk.top n now.desk) was.left.same.same_count next.desk);
      advisors =
          along_next _ _ _ costs limits.nodes tree c.in-Continue.longer c.in_ok-next.next round.field-0 _ _ _ _ was.advisors
          asked round.ensures.told c.in-Continue.is round.ensures.outcome;
    }

pub returns-in-Break-clause-found : goal.returns-in-Break-clause-found
returns-in-Break-clause-found g c =
    let source = c.args.source.now in
    let limits = c.args.limits.now in
    let Accepted = g.S.FormSource.accepted in
    let was = c.boxes.invariant in
    let round = c.in_ok-longer in
    let step = subst (λ (top : ℕ). IsNextStep (Accepted c.boxes.source) top c.boxes.pool c.next_at.new.pool (first_place c.boxes.tree.places) c.in_ok-next.next)
    was.desk.same_top c.in_ok-next.ensures.next in
    round_shown (g.S.FormSource.true_form c.boxes.source) (Accepted source) (Accepted c.boxes.source) limits.top limits.nodes
    (g.S.FormSource.count source) c.boxes.pool c.next_at.new.pool c.args.costs.now c.boxes.tree c.in_ok-next.next
    round.field-0 (Break c.in-Break.found) c.requires.ranges was.left.same.same_points c.next_at.ensures.left.grows was.growing
    (c.is_open.ensures.0 c.boxes-test.true) step round.ensures.outcome c.in-Break.is

pub returns-in-Break-clause-left : goal.returns-in-Break-clause-left
returns-in-Break-clause-left g c =
    leaves_then g.S.FormSource c.args.source.now c.boxes.source c.next_at.new.source c.args.pool.now c.boxes.pool
    c.next_at.new.pool c.boxes.invariant.left c.next_at.ensures.left c.in_ok-next.ensures.left.lists

pub returns-in-Break-clause-advisors : goal.returns-in-Break-clause-advisors
returns-in-Break-clause-advisors g c =
    let Accepted = g.S.FormSource.accepted in
    let asked = asked_next_there (IsLeastPoint (Accepted c.boxes.source)) (IsLeastPoint (Accepted c.args.source.now)) _
    (first_place c.boxes.tree.places).box (Ok c.in_ok-next.next) _ _
    (λ b point least. least_same (Accepted c.boxes.source) (Accepted c.args.source.now) b point
    (swapped (Accepted c.args.source.now) (Accepted c.boxes.source) c.boxes.invariant.left.same.same_points) least)
    c.in_ok-next.ensures.asked in
    let step = next_same (Accepted c.args.source.now) (Accepted c.boxes.source) c.boxes.desk.top c.boxes.pool c.next_at.new.pool
    (first_place c.boxes.tree.places) c.in_ok-next.next c.boxes.invariant.left.same.same_points c.in_ok-next.ensures.next in
    record {
      tree = c.boxes.tree;
      is_tree = tree_found (IsLeastPoint (Accepted c.args.source.now)) c.args.limits.now.nodes c.boxes.tree c.in_ok-next.next c.in-Break.found
          (there_if_costs (Accepted c.args.source.now) c.boxes.desk.top c.boxes.pool c.next_at.new.pool (first_place c.boxes.tree.places) c.in_ok-next.next
          step)
          (sym c.in-Break.is ∙ c.in_ok-longer.ensures.outcome);
      calls =
          calls_end _ _ _ c.args.costs.now c.boxes.tree c.in_ok-next.next c.in_ok-longer.field-0 c.in-Break.found _ _ _ _
          c.boxes.invariant.advisors asked c.in_ok-longer.ensures.told c.in-Break.is;
    }

pub into_tree-requires : goal.into_tree-requires
into_tree-requires g c =
    let limits = c.args.limits.now in
    ended_whole (g.S.FormSource.accepted c.args.source.now) limits.top limits.nodes c.boxes.pool c.args.costs.now c.boxes.tree c.boxes.invariant.growing
    (λ some. false≢true (sym c.boxes-test.false ∙ c.is_open.ensures.1 some))

pub returns-clause-found : goal.returns-clause-found
returns-clause-found g c =
    let Accepted = g.S.FormSource.accepted c.args.source.now in
    let limits = c.args.limits.now in
    let costs = c.args.costs.now in
    subst (λ (tree : List Entry). IsSearchResult Accepted limits.top limits.nodes c.boxes.pool costs (Refuted tree)) (sym c.into_tree.ensures)
    (growing_ends Accepted limits.top limits.nodes c.boxes.pool costs c.boxes.tree c.boxes.invariant.growing
    (λ some. false≢true (sym c.boxes-test.false ∙ c.is_open.ensures.1 some)))

pub returns-clause-advisors : goal.returns-clause-advisors
returns-clause-advisors g c = record {
  tree = c.boxes.tree;
  is_tree = c.into_tree.ensures;
  calls = record { left = c.boxes.advisors.items; along = c.boxes.invariant.advisors; last = inl refl };
}
