use Rattle.std.proofs.Common.{◌∙◌, refl, sym}
use Rattle.lsa_bytes.specs.AreaGraphs.{lsa_graph}
use Rattle.database_commands.specs.Routes.{vertex_ids, vertex_of_router}
use Rattle.database_commands.proofs.Routes.{found_between, found_own}
use Rattle.database_commands.proofs.route.found_end.Goals as goal

pub returns-then-is_same : goal.returns-then-is_same
returns-then-is_same c =
    let lsas = c.args.database.now in
    found_own lsas (lsa_graph lsas) (vertex_ids lsas) c.args.from c.args.to (vertex_of_router lsas c.args.from)
    (vertex_of_router lsas c.args.to) c.in_ok-words.words c.in_ok-own.own refl refl (sym c.is_same.ensures ∙ c.if-is_same.true)
    c.in_ok-own.ensures c.in_ok-words.ensures

pub returns : goal.returns
returns c =
    let lsas = c.args.database.now in
    found_between lsas (lsa_graph lsas) (vertex_ids lsas) c.args.from c.args.to (vertex_of_router lsas c.args.from)
    (vertex_of_router lsas c.args.to) c.in_ok-words.words refl refl refl refl (sym c.is_same.ensures ∙ c.if-is_same.false)
    c.in_ok-words.ensures
