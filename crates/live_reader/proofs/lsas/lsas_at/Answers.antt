use Rattle.std.proofs.Common.{◌+◌, List, ℕ, sym, ap, ◌∙◌, subst}
use Rattle.std.proofs.lemmas.Result.{err_from_is_err_and}
use Rattle.live_reader.specs.Places.{Stands, items_at}
use Rattle.live_reader.specs.Walks.{StandAt}
use Rattle.live_reader.specs.JsonLsas.{items_read}
use Rattle.live_reader.proofs.MemberLaws.{opened_array, unopened_array}
use Rattle.live_reader.proofs.LsaLaws.{tells_same}
use Rattle.live_reader.proofs.lsas.lsas_at.Goals as goal

pub returns-then-not-opens_array : goal.returns-then-not-opens_array
returns-then-not-opens_array c j stands =
    rw c.at.ensures (ap (items_read c.args.around) (unopened_array c.args.place j (sym (c.if-not-opens_array.ensures j stands))))

pub returns-in_err-lsas : goal.returns-in_err-lsas
returns-in_err-lsas c =
    let p = err_from_is_err_and c.from_residual-in_err-lsas.result c.from_residual-in_err-lsas.ensures.1 in
    rw (p.1, p.2) (λ j stands.
    let there = opened_array c.args.place j (sym (c.if-not-opens_array.ensures j stands)) in
    tells_same _ _ _ (ap (items_read c.args.around) there.2) (c.in_err-lsas.ensures (items_at (c.args.place + 1) there.0)
    (subst (λ (ps : List ℕ). StandAt c.args.tape.now ps (items_at (c.args.place + 1) there.0)) (sym c.deref.ensures.value)
    (c.in_ok-places.ensures there.0 (subst (Stands c.args.tape.now c.args.place) there.1 stands)))))

pub returns : goal.returns
returns c j stands =
    let there = opened_array c.args.place j (sym (c.if-not-opens_array.ensures j stands)) in
    ap (items_read c.args.around) there.2 ∙ c.in_ok-lsas.ensures (items_at (c.args.place + 1) there.0)
    (subst (λ (ps : List ℕ). StandAt c.args.tape.now ps (items_at (c.args.place + 1) there.0)) (sym c.deref.ensures.value)
    (c.in_ok-places.ensures there.0 (subst (Stands c.args.tape.now c.args.place) there.1 stands)))
