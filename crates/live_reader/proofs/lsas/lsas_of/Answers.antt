use Rattle.std.proofs.Common.{[], ◌∷◌, get_or, subst}
use Rattle.std.proofs.lemmas.Result.{err_from_is_err_and}
use Rattle.std.proofs.lemmas.List.{drop_all}
use Rattle.live_reader.specs.JsonLsas.{lsa_read}
use Rattle.live_reader.proofs.EachLaws.{AreLeft, each_at, each_begin, each_end, each_go_on, each_tell}
use Rattle.live_reader.proofs.lsas.lsas_of.Goals as goal

pub loop-place-init : goal.loop-place-init
loop-place-init c said stand = each_begin (λ lsa. lsa ∷ []) (lsa_read c.args.around) c.args.tape.now c.args.places.now c.new-lsas.result.items said
    c.new-lsas.ensures.items stand

pub returns-in_err-lsa : goal.returns-in_err-lsa
returns-in_err-lsa c =
    let p = err_from_is_err_and c.from_residual.result c.from_residual.ensures.1 in
    rw (p.1, p.2) (λ said stand. each_tell (λ lsa. lsa ∷ []) (lsa_read c.args.around) c.args.tape.now _ _ c.loop-place.lsas.items said _
    (each_at (λ lsa. lsa ∷ []) (lsa_read c.args.around) c.args.tape.now c.loop-place.place-index 0 c.args.places.now c.loop-place.lsas.items said
    c.loop-place-test.true (c.loop-place.invariant said stand))
    c.in_err-lsa.ensures)

pub loop-place-preserved : goal.loop-place-preserved
loop-place-preserved c said stand =
    each_go_on (λ lsa. lsa ∷ []) (lsa_read c.args.around) c.args.tape.now (get_or c.args.places.now c.loop-place.place-index 0) _ c.loop-place.lsas.items
    c.push.new.self.items c.in_ok-lsa.lsa said
    (each_at (λ lsa. lsa ∷ []) (lsa_read c.args.around) c.args.tape.now c.loop-place.place-index 0 c.args.places.now c.loop-place.lsas.items said
    c.loop-place-test.true (c.loop-place.invariant said stand))
    c.in_ok-lsa.ensures c.in_ok-push.ensures.items

pub returns : goal.returns
returns c said stand =
    each_end (λ lsa. lsa ∷ []) (lsa_read c.args.around) c.args.tape.now c.loop-place.lsas.items said
    (subst (λ ps. AreLeft (λ lsa. lsa ∷ []) (lsa_read c.args.around) c.args.tape.now ps c.loop-place.lsas.items said)
    (drop_all c.loop-place.place-index c.args.places.now c.loop-place-test.false) (c.loop-place.invariant said stand))
