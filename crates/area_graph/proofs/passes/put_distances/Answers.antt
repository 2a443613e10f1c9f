use Rattle.std.proofs.Common.{rules, ◌≡◌, ◌<◌, ◌≤◌, ℕ, All, List, arith, length, length-set, replicate, set, subst, sym, ◌∙◌}
use Rattle.std.proofs.lemmas.List.{length-replicate}
use Rattle.std.proofs.lemmas.List.Elements.{All-replicate, All-set}
use Rattle.area_graph.specs.Distances.{AreReached, far}
use Rattle.area_graph.proofs.PassSteps.{reached_none}
use Rattle.area_graph.proofs.passes.put_distances.Goals as goal

pub loop-target-init : goal.loop-target-init
loop-target-init c =
    let n = length c.args.distances.now.items in
    let limit = c.args.limit in
    let t = c.args.target in
    let filled : c.fill.new.self.items ≡ replicate n limit = search rules in
    let size = length-replicate n limit in
    let kept = length-set (replicate n limit) t 0 in
    let within : t < n = let target = c.requires.target in let count = c.requires.count in omega arith in
    record {
      numbers = record {
        count = subst (λ (d : List ℕ). length (set d t 0) ≡ length c.args.subgraph.now.graph.now.vertices) (sym filled) (kept ∙ size ∙ c.requires.count);
        bounded = subst (λ (d : List ℕ). All (λ x. x ≤ far c.args.subgraph.now.point.now) (set d t 0)) (sym filled)
            (All-set (λ x. x ≤ far c.args.subgraph.now.point.now) (replicate n limit) t 0 (omega arith)
            (All-replicate (λ x. x ≤ far c.args.subgraph.now.point.now) n limit c.requires.limit));
      };
      reached = subst (λ (d : List ℕ). AreReached c.args.subgraph.now.graph.now c.args.subgraph.now.point.now c.args.subgraph.now.exclusion.now t limit
          (set d t 0)) (sym filled)
          (reached_none c.args.subgraph.now.graph.now c.args.subgraph.now.point.now c.args.subgraph.now.exclusion.now t limit n within);
    }

pub loop-target-preserved : goal.loop-target-preserved
loop-target-preserved c = record {
  numbers = c.pass.ensures.numbers;
  reached = c.pass.ensures.reached c.args.target c.args.limit c.loop-target.invariant.reached;
}

pub returns-then-not-pass-clause-distances : goal.returns-then-not-pass-clause-distances
returns-then-not-pass-clause-distances c = record {
  reached = c.pass.ensures.reached c.args.target c.args.limit c.loop-target.invariant.reached;
  settled = c.pass.ensures.settled c.if-not-pass.true;
}
