use Rattle.std.proofs.Common.{◌≡◌, ◌<◌, sym, ◌∙◌, ap, subst, List, length, ℕ}
use Rattle.std.specs.Prelude.{IsTrue, ◌↔◌, Contains}
use Rattle.design_problem.specs.declared.tree.Side.{Side}
use Rattle.design_problem.specs.Earnest.{OpenPlace}
use Rattle.design_problem.specs.OpenPlaces.{Growing, first_place}
use Rattle.design_problem.specs.Builders.{places_of}
use Rattle.design_problem.proofs.MarkLaws.{place_of_open}
use Rattle.design_problem.proofs.tree_builder.TreeBuilder.is_tightened.Goals as goal

pub returns : goal.returns
returns c =
    let inside = c.self.inside in
    let same : places_of inside.is_open inside.boxes inside.entries.items ≡ c.args.self.now.places = ap (λ (g : Growing). g.places) c.self.view_is in
    let some = subst (λ (ps : List OpenPlace). 0 < length ps) (sym same) c.requires.open in
    let first = ap first_place (sym same) ∙ place_of_open inside.is_open inside.boxes inside.entries.items some in
    subst (λ (run : List (ℕ × Side)). IsTrue c.is_marked.result ↔ Contains run (c.args.var, c.args.side)) (sym (ap (λ (p : OpenPlace). p.since) first))
    (c.is_marked.ensures (length inside.marks.low.items) inside.entries.items c.self.invariant.marked)
