use Rattle.std.proofs.Common.{◌+◌, ◌<◌, sym, ap, subst, List, length}
use Rattle.design_problem.specs.declared.tree.Entry.{Entry}
use Rattle.design_problem.specs.OpenPlaces.{Growing}
use Rattle.design_problem.specs.Builders.{places_of}
use Rattle.design_problem.proofs.MarkLaws.{built_more, high_count, low_count, view_grown}
use Rattle.design_problem.proofs.tree_builder.TreeBuilder.with.Goals as goal

pub invariant_of-result : goal.invariant_of-result
invariant_of-result c =
    let inside = c.self.inside in
    let some : 0 < length (places_of inside.is_open inside.boxes inside.entries.items) =
    subst (λ (tree : Growing). 0 < length tree.places) (sym c.self.view_is) c.requires.open in
    built_more inside.entries.items c.push_last.new.things.items c.args.entry inside.is_open c.in_ok-is_open.is_open
    inside.boxes c.go_on.new.boxes inside.marks c.go_on.new.marks c.in_ok-push_last.ensures.added some
    c.in_ok-is_open.ensures.next
    (c.in_ok-is_open.ensures.marks (length inside.marks.low.items) inside.entries.items c.self.invariant.marked
    (ap (λ (es : List Entry). length es + 1) c.as_slice.ensures.value))
    c.self.invariant

pub returns : goal.returns
returns c =
    let inside = c.self.inside in
    view_grown inside.is_open inside.boxes inside.entries.items c.args.entry c.in_ok-is_open.is_open c.go_on.new.boxes
    c.push_last.new.things.items c.args.self c.self.view_is c.requires.open c.in_ok-is_open.ensures.next
    c.in_ok-push_last.ensures.added

pub go_on-requires-clause-low_marks : goal.go_on-requires-clause-low_marks
go_on-requires-clause-low_marks c =
    let inside = c.self.inside in
    low_count inside.is_open inside.boxes inside.entries.items inside.marks
    (subst (λ (tree : Growing). 0 < length tree.places) (sym c.self.view_is) c.requires.open) c.self.invariant

pub go_on-requires-clause-high_marks : goal.go_on-requires-clause-high_marks
go_on-requires-clause-high_marks c =
    let inside = c.self.inside in
    high_count inside.is_open inside.boxes inside.entries.items inside.marks
    (subst (λ (tree : Growing). 0 < length tree.places) (sym c.self.view_is) c.requires.open) c.self.invariant
