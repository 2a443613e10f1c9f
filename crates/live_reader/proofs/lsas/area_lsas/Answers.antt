use Rattle.std.proofs.Common.{◌+◌, ap, ◌∙◌, refl}
use Rattle.std.specs.Prelude.{codes}
use Rattle.std.proofs.lemmas.Result.{err_from_is_err_and}
use Rattle.live_reader.specs.Places.{members_at}
use Rattle.live_reader.specs.JsonLsas.{areas_read, area_lsas_read, area_member}
use Rattle.live_reader.proofs.FieldLaws.{inner_there, area_there, none_among}
use Rattle.live_reader.proofs.LsaLaws.{tells_same}
use Rattle.live_reader.proofs.lsas.area_lsas.Goals as goal

pub returns-in_default-area_place : goal.returns-in_default-area_place
returns-in_default-area_place c j stands =
    let i = inner_there c.args.tape.now (codes "areas") c.args.around c.in-Some.areas j stands (c.in-Some.ensures j stands) in
    rw c.at-in_default-area_place.ensures (ap (areas_read c.args.area c.args.around) i.is
    ∙ ap (area_lsas_read c.args.around c.in-Some.areas) (none_among (area_member c.args.area (members_at (c.in-Some.areas + 1) i.members))
    (c.in_default-area_place.ensures i.members i.stands)))

pub returns-in_err-lsas : goal.returns-in_err-lsas
returns-in_err-lsas c =
    let p = err_from_is_err_and c.from_residual.result c.from_residual.ensures.1 in
    rw (p.1, p.2) (λ j stands.
    let i = inner_there c.args.tape.now (codes "areas") c.args.around c.in-Some.areas j stands (c.in-Some.ensures j stands) in
    let a = area_there c.args.tape.now c.args.area c.in-Some.areas c.in-Some-area_place.found i.members _ i.stands refl
    (c.in-Some-area_place.ensures i.members i.stands) in
    tells_same _ _ _ (ap (areas_read c.args.area c.args.around) i.is ∙ ap (area_lsas_read c.args.around c.in-Some.areas) a.2)
    (c.in_err-lsas.ensures a.0 a.1))

pub returns : goal.returns
returns c j stands =
    let i = inner_there c.args.tape.now (codes "areas") c.args.around c.in-Some.areas j stands (c.in-Some.ensures j stands) in
    let a = area_there c.args.tape.now c.args.area c.in-Some.areas c.in-Some-area_place.found i.members _ i.stands refl
    (c.in-Some-area_place.ensures i.members i.stands) in
    ap (areas_read c.args.area c.args.around) i.is ∙ ap (area_lsas_read c.args.around c.in-Some.areas) a.2 ∙ c.in_ok-lsas.ensures a.0 a.1
