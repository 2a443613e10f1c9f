use Rattle.std.proofs.Common.{◌≡◌, ◌++◌, sym, subst, Option}
use Rattle.std.specs.Prelude.{OnOk}
use Rattle.lsdb_build.specs.declared.Linked.{Linked}
use Rattle.wanted_paths.specs.Excluded.{excluded_at}
use Rattle.wanted_paths.proofs.LinkReads.{link_read}
use Rattle.wanted_paths.proofs.parts.push_interface.Goals as goal

pub returns-in-Some : goal.returns-in-Some
returns-in-Some c =
    let d = c.args.names.now in
    let there = link_read d c.links.result.now c.args.number c.in-Some.link.now c.links.ensures.value c.in-Some.ensures.lookup.3.0 c.in-Some.ensures.lookup.1 in
    subst (λ (o : Option Linked). OnOk c.push_link.result (c.push_link.new.excluded.items ≡ c.args.excluded.now.items ++
    excluded_at d c.args.graph.now c.args.number o))
    (sym there) c.push_link.ensures
