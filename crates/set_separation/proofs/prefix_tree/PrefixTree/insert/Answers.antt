use Rattle.std.proofs.Common.{◌++◌, ◌∷◌, [], refl, ℕ, List, subst, take}
use Rattle.std.proofs.lemmas.List.{take_all}
use Rattle.set_separation.specs.PrefixTrees.{IsGrown}
use Rattle.set_separation.proofs.PrefixLemmas.{underway_begins, underway_ends, underway_more}
use Rattle.set_separation.proofs.prefix_tree.PrefixTree.insert.Goals as goal

pub loop-edge-init : goal.loop-edge-init
loop-edge-init c = λ wanted done listed tree. underway_begins wanted done c.args.self.now tree

pub loop-edge-preserved : goal.loop-edge-preserved
loop-edge-preserved c = λ wanted done listed tree.
    underway_more wanted done c.args.edges.now c.loop-edge.edge-index c.loop-edge.place c.in_ok-place.place _
    c.loop-edge.self c.go.new.self listed c.loop-edge-test.true refl (c.loop-edge.invariant wanted done listed tree)
    c.in_ok-place.ensures

pub returns : goal.returns
returns c = λ wanted done listed tree.
    subst (λ (es : List ℕ). IsGrown wanted (done ++ es ∷ []) c.loop-edge.self) (take_all c.loop-edge.edge-index c.args.edges.now c.loop-edge-test.false)
    (underway_ends wanted done (take c.loop-edge.edge-index c.args.edges.now) c.loop-edge.place c.loop-edge.self
    (c.loop-edge.invariant wanted done listed tree))
