use Rattle.std.proofs.Common.{◌≡◌, suc, ◌+◌, ◌-◌, [], ◌∷◌, subst, arith}
use Rattle.std.proofs.lemmas.Result.{MatchResult-weaker}
use Rattle.design_problem.specs.Text.{entry_line}
use Rattle.design_problem.specs.Trees.{subtree_count}
use Rattle.answer_lines.specs.Grammar.{AtTree}
use Rattle.evidence_reader.specs.Stops.{StopsReader}
use Rattle.answer_lines.specs.Going.{Goes}
use Rattle.evidence_reader.proofs.TreeLines.{shut_full, one_place}
use Rattle.evidence_reader.proofs.stage_trees.entry_at.Goals as goal

pub returns-then-places-eq0 : goal.returns-then-places-eq0
returns-then-places-eq0 c =
    λ part left.
    let shut = shut_full part c.args.places left c.args.text.left.now c.if-places-eq0.true in
    c.fault_at.ensures.stops (AtTree part c.args.places (suc left)) (λ e. cc) shut.0 shut.1

pub returns : goal.returns
returns c =
    λ part left.
    let places = c.args.places in
    let text = c.args.text in
    let same : suc (places - 1) ≡ places = one_place places c.if-places-eq0.false in
    MatchResult-weaker c.entry_in_place.result (c.entry_in_place.ensures part (places - 1) left)
    (λ r h. (
      omega (arith, c.if-places-eq0.false),
      h.0,
      subst (λ n. Goes (AtTree part n (suc left)) text (entry_line r.0 ∷ [])
          (AtTree part (subtree_count r.0 + (places - 1)) left) r.1) same h.1,
    ))
    (λ stop h. subst (λ n. StopsReader (AtTree part n (suc left)) text stop) same h)
