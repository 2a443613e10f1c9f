use Rattle.std.proofs.Common.{List, ℕ, ap, ◌∙◌, slice_get}
use Rattle.lsdb_build.specs.Neighbours.{shares_subnet}
use Rattle.lsdb_build.proofs.Placing.{first_place}
use Rattle.lsdb_build.proofs.links.place_of_subnet.Goals as goal

pub returns : goal.returns
returns c = λ transit are.
    let p = c.args.port.now in
    c.copied.ensures ∙ c.first.ensures.value ∙ ap (λ (places : List ℕ). slice_get places 0) (c.on.ensures ∙ are p) ∙ first_place 0 (shares_subnet p) transit
