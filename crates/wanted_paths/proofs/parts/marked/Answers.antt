use Rattle.std.proofs.Common.{◌∙◌, ap, ◌++◌, ◌∷◌, [], Bool, cond}
use Rattle.cost_base.proofs.ListLemmas.{filter-numbers_from-push}
use Rattle.cost_base.specs.Marks.{is_marked}
use Rattle.wanted_paths.proofs.parts.marked.Goals as goal

pub loop-edge-preserved : goal.loop-edge-preserved
loop-edge-preserved c =
    filter-numbers_from-push (is_marked c.args.marks.now) c.loop-edge.edge c.loop-edge.found.items
    c.push_if.new.things.items c.loop-edge.invariant
    (c.in_ok-push_if.ensures ∙ ap (λ (b : Bool). cond b (c.loop-edge.found.items ++ c.loop-edge.edge ∷ []) c.loop-edge.found.items) c.is_marked.ensures)
