use Rattle.std.proofs.Common.{rules, ap, ◌∙◌, unwrap_or}
use Rattle.std.specs.Map.{lookup}
use Rattle.lsdb_build.specs.Tallies.{same_subnet}
use Rattle.lsdb_build.specs.Places.{places_or_none}
use Rattle.indexmap.specs.Entry.{map_with_value}
use Rattle.lsdb_build.proofs.Placing.{places_more}
use Rattle.lsdb_build.proofs.places.Places.add.Goals as goal

pub returns : goal.returns
returns c = λ key.
    let after = map_with_value c.in_ok-self.field-0 c.push.new.self in
    ap (λ entries. places_or_none (lookup (same_subnet key) entries)) {y = after.entries} (search rules)
    ∙ places_more c.args.self.now.by_subnet after c.args.subnet c.args.place c.new.result c.or_insert.result.now c.push.new.self c.new.ensures.items
    (c.or_insert.ensures.value ∙ ap (λ found. unwrap_or found c.new.result) c.in_ok-self.ensures.value)
    c.in_ok-push.ensures.items (c.in_ok-self.ensures.update.0 c.push.new.self) key
