use Rattle.std.proofs.Common.{subst, sym, List}
use Rattle.design_problem.specs.declared.tree.Entry.{Entry}
use Rattle.design_problem.specs.Trees.{IsSingleTree}
use Rattle.printed_rows.specs.NewNumbers.{number_given}
use Rattle.printed_rows.proofs.NumberLaws.{whole_kept}
use Rattle.printed_rows.proofs.new_numbers.new_tree.Goals as goal

pub from_items-requires : goal.from_items-requires
from_items-requires c =
    let entries = c.as_slice.result.now in
    let whole = subst (λ (es : List Entry). IsSingleTree es) (sym c.as_slice.ensures.entries) c.as_slice.ensures.whole in
    subst (λ (es : List Entry). IsSingleTree es) (sym c.in_ok-entries.ensures) (whole_kept (number_given c.args.numbers.now) 1 entries whole)
