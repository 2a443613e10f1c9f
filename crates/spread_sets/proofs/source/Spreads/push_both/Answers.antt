use Rattle.std.proofs.Common.{◌∙◌, ap, append_assoc, List, [], ◌∷◌, ◌++◌, length}
use Rattle.design_problem.specs.Forms.{Form}
use Rattle.design_problem.specs.Problems.{DesignProblem}
use Rattle.spread_sets.specs.Spreads.{edges_of, form_of_tie}
use Rattle.spread_sets.specs.Sources.{KnownSets}
use Rattle.spread_sets.proofs.source.Spreads.push_both.Goals as goal

pub returns-clause-forms : goal.returns-clause-forms
returns-clause-forms g c =
    let p = c.args.self.now.problem in
    let first = c.args.pair.first in
    let second = c.args.pair.second in
    let one = form_of_tie p.graph (length p.low) (edges_of p first) (edges_of p second) in
    let other = form_of_tie p.graph (length p.low) (edges_of p second) (edges_of p first) in
    c.in_ok-push_tie-2.ensures.form
    ∙ ap (λ (q : DesignProblem). c.push_tie.new.pool ++ form_of_tie q.graph (length q.low) (edges_of q second)
    (edges_of q first) ∷ []) (ap (λ (s : KnownSets). s.problem) c.in_ok-push_tie.ensures.row)
    ∙ ap (λ (fs : List Form). fs ++ other ∷ []) c.in_ok-push_tie.ensures.form
    ∙ append_assoc c.args.pool.now (one ∷ []) (other ∷ [])
