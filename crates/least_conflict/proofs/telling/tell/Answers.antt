-- The rows of the pool get the whole problem's numbers, and those that the tree names are printed.
use Rattle.std.proofs.Common.{List, subst, sym}
use Rattle.design_problem.specs.declared.form.Row.{Row}
use Rattle.printed_rows.specs.NewNumbers.{IsTreePrinted}
use Rattle.least_conflict.specs.declared.telling.Told.{Told}
use Rattle.least_conflict.proofs.Sets.{whole_are}
use Rattle.least_conflict.proofs.TreesOfRequests.{told_of_set, tree_names}
use Rattle.least_conflict.proofs.telling.tell.Goals as goal

pub printed-requires : goal.printed-requires
printed-requires c =
    let t = c.args.set in
    let rows_are = whole_are t.members.items c.as_slice.result.now t.pool.rows c.into_rows.result.items
    c.in_ok-rows.rows.items c.as_slice.ensures.value c.into_rows.ensures c.in_ok-rows.ensures in
    tree_names c.args.problem.now c.requires.0 c.requires.1 t c.in_ok-rows.rows.items c.requires.2 rows_are

pub returns : goal.returns
returns c = λ top nodes is.
    let t = c.args.set in
    let rows_are = whole_are t.members.items c.as_slice.result.now t.pool.rows c.into_rows.result.items
    c.in_ok-rows.rows.items c.as_slice.ensures.value c.into_rows.ensures c.in_ok-rows.ensures in
    let sheet = c.in_ok-rows-2.field-0 in
    let told : Told = record { members = c.from_items.result; rows = c.from_items-2.result; tree = sheet.tree } in
    let printed : IsTreePrinted c.in_ok-rows.rows.items t.tree told.rows told.tree =
    subst (λ (rows : List Row). IsTreePrinted c.in_ok-rows.rows.items t.tree rows sheet.tree)
    (sym c.from_items-2.ensures) c.in_ok-rows-2.ensures in
    told_of_set c.args.problem.now top nodes t c.in_ok-rows.rows.items told is rows_are printed c.from_items.ensures
