use Rattle.std.proofs.Common.{ap, ◌∙◌}
use Rattle.std.specs.Prelude.{codes}
use Rattle.std.proofs.lemmas.Result.{err_from_is_err_and}
use Rattle.json.specs.Json.{object}
use Rattle.live_reader.specs.JsonLsas.{states_read}
use Rattle.live_reader.proofs.FieldLaws.{inner_there}
use Rattle.live_reader.proofs.LsaLaws.{tells_same}
use Rattle.live_reader.proofs.lsas.live_lsas.Goals as goal

pub returns-in_err-lsas : goal.returns-in_err-lsas
returns-in_err-lsas c =
    let p = err_from_is_err_and c.from_residual.result c.from_residual.ensures.1 in
    rw (p.1, p.2) (λ j stands.
    let i = inner_there c.args.tape.now (codes "routerLinkStates") 0 c.in-Some.states j stands (c.in-Some.ensures j stands) in
    tells_same _ _ _ (ap (states_read c.args.area) i.is) (c.in_err-lsas.ensures (object i.members) i.stands))

pub returns : goal.returns
returns c j stands =
    let i = inner_there c.args.tape.now (codes "routerLinkStates") 0 c.in-Some.states j stands (c.in-Some.ensures j stands) in
    ap (states_read c.args.area) i.is ∙ c.in_ok-lsas.ensures (object i.members) i.stands
