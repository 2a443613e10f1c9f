-- A tree stays whole.
use Rattle.std.proofs.Common.{subst, sym, List}
use Rattle.design_problem.specs.declared.tree.Entry.{Entry}
use Rattle.design_problem.specs.Trees.{IsSingleTree}
use Rattle.least_total.proofs.MovedTrees.{moved_whole}
use Rattle.least_total.proofs.moving.Move.tree.Goals as goal

pub from_items-requires : goal.from_items-requires
from_items-requires c =
    let entries = c.as_slice.result.now in
    let whole = subst (λ (es : List Entry). IsSingleTree es) (sym c.as_slice.ensures.entries) c.as_slice.ensures.whole in
    subst (λ (es : List Entry). IsSingleTree es) (sym c.in_ok-entries.ensures) (moved_whole c.args.self.place c.args.self.others 1 entries whole)
