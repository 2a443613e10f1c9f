use Rattle.std.proofs.Common.{◌≢◌, List, map, subst, sym, AllPairs}
use Rattle.lsdb_build.specs.declared.Linked.{Linked}
use Rattle.wanted_paths.specs.Keys.{link_key}
use Rattle.wanted_paths.proofs.LookUps.{keys_differ}
use Rattle.wanted_paths.proofs.names.Names.new.Goals as goal

pub link_set-requires : goal.link_set-requires
link_set-requires c =
    subst (λ (links : List Linked). AllPairs (λ a b. a ≢ b) (map link_key links)) (sym c.links.ensures.value) (keys_differ c.args.lsdb.now c.links.ensures.base)
