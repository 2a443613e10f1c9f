use Rattle.std.proofs.Common.{◌≡◌, ◌<◌, ◌≤◌, subst, refl, ℕ, List, All, length, get_or, true, false}
use Rattle.std.proofs.lemmas.List.{take_all}
use Rattle.std.proofs.lemmas.List.Elements.{All-more}
use Rattle.area_graph.specs.Area.{edges_out}
use Rattle.spf_ties.specs.Distances.{is_tight}
use Rattle.rival_separation.proofs.DeviationLemmas.{out_edge}
use Rattle.rival_separation.proofs.rival.next_edge.Goals as goal

pub leads_on-requires-clause-known : goal.leads_on-requires-clause-known
leads_on-requires-clause-known c =
    (out_edge c.args.graph.now c.args.vertex c.loop-number.number-index c.edges_out-number-items.result.now
    c.edges_out-number-items.ensures c.loop-number-test.true).0

pub returns-then-leads_on : goal.returns-then-leads_on
returns-then-leads_on c =
    let out = out_edge c.args.graph.now c.args.vertex c.loop-number.number-index c.edges_out-number-items.result.now
    c.edges_out-number-items.ensures c.loop-number-test.true in
    let both = c.if-leads_on.ensures.0 refl in
    record { known = out.0; from = out.1; tight = both.0; left = both.1 }

pub loop-number-preserved : goal.loop-number-preserved
loop-number-preserved c =
    let P = λ (e : ℕ). is_tight c.args.graph.now c.args.point.now c.args.room.now e ≡ true → get_or c.args.room.now.marks e true ≡ false → ⊥ in
    let es = edges_out c.args.graph.now c.args.vertex in
    let here : c.loop-number.number-index < length es =
    subst (λ (xs : List ℕ). c.loop-number.number-index < length xs) c.edges_out-number-items.ensures
    c.loop-number-test.true in
    All-more P es c.loop-number.number-index 0 here c.loop-number.invariant
    (subst (λ (xs : List ℕ). P (get_or xs c.loop-number.number-index 0)) c.edges_out-number-items.ensures
    (λ tight left. let yes = c.if-leads_on.ensures.1 (tight, left) in absurd (clash yes)))
  where
    clash : false ≡ true → ⊥
    clash h = cc

pub returns : goal.returns
returns c =
    let es = edges_out c.args.graph.now c.args.vertex in
    let past : length es ≤ c.loop-number.number-index =
    subst (λ (xs : List ℕ). length xs ≤ c.loop-number.number-index) c.edges_out-number-items.ensures
    c.loop-number-test.false in
    subst (λ (xs : List ℕ). All (λ e. is_tight c.args.graph.now c.args.point.now c.args.room.now e ≡ true →
    get_or c.args.room.now.marks e true ≡ false → ⊥) xs) (take_all c.loop-number.number-index es past)
    c.loop-number.invariant
