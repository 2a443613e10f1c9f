-- A mark is put, or taken away, and the others stay.
use Rattle.std.proofs.Common.{◌/◌, ◌∙◌}
use Rattle.std.proofs.lemmas.List.{get_or_default}
use Rattle.integer_pivots.proofs.MarkLaws.{clear_others, set_others, set_own}
use Rattle.integer_pivots.proofs.marked.put_mark.Goals as goal

pub returns-then-stands-clause-own : goal.returns-then-stands-clause-own
returns-then-stands-clause-own c = λ stands. set_own c.args.marks.now.items c.args.column c.index_mut.result.now c.requires

pub returns-then-stands-clause-others : goal.returns-then-stands-clause-others
returns-then-stands-clause-others c =
    set_others c.args.marks.now.items c.args.column c.index_mut.result.now c.requires
    (c.index_mut.ensures.value ∙ get_or_default c.args.marks.now.items (c.args.column / 64) c.index_mut.result.now 0 c.requires)

pub returns-else-stands-clause-others : goal.returns-else-stands-clause-others
returns-else-stands-clause-others c =
    clear_others c.args.marks.now.items c.args.column c.index_mut-else-stands.result.now c.requires
    (c.index_mut-else-stands.ensures.value
    ∙ get_or_default c.args.marks.now.items (c.args.column / 64) c.index_mut-else-stands.result.now 0 c.requires)
