use Rattle.std.proofs.Common.{ℕ, ◌+◌, ◌*◌, List, [], ◌∷◌, ◌++◌, map, ap, sym, ◌∙◌}
use Rattle.cost_base.specs.Lists.{numbers_from}
use Rattle.lsa_bytes.specs.Fields.{number_32}
use Rattle.area_graph.proofs.Vertices.{map-numbers_from-push}
use Rattle.lsa_bytes.proofs.bodies.attached_in.Goals as goal

pub loop-i-preserved : goal.loop-i-preserved
loop-i-preserved c =
    let at : ℕ → ℕ = λ i. number_32 c.args.lsa.now (24 + 4 * i) in
    c.in_ok-push.ensures.items
    ∙ ap (λ (routers : List ℕ). routers ++ c.number_32.result ∷ []) c.loop-i.invariant
    ∙ ap (λ (router : ℕ). map at (numbers_from 0 c.loop-i.i) ++ router ∷ []) c.number_32.ensures
    ∙ sym (map-numbers_from-push at c.loop-i.i)
