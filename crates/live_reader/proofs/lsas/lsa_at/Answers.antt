use Rattle.std.proofs.Common.{sym, ap, ◌∙◌}
use Rattle.std.specs.Prelude.{Ok, codes}
use Rattle.std.proofs.lemmas.Result.{err_from_is_err_and}
use Rattle.live_reader.specs.JsonLsas.{lsa_read, with_links}
use Rattle.live_reader.proofs.FieldLaws.{inner_there}
use Rattle.live_reader.proofs.MemberLaws.{opened_object, unopened_object}
use Rattle.live_reader.proofs.LsaLaws.{lsa_reads, lsa_headless, lsa_tells, tells_same}
use Rattle.live_reader.proofs.lsas.lsa_at.Goals as goal

pub returns-then-not-opens_object : goal.returns-then-not-opens_object
returns-then-not-opens_object c j stands =
    rw c.at.ensures (ap (lsa_read c.args.around c.args.place) (unopened_object c.args.place j (sym (c.if-not-opens_object.ensures j stands))))

pub returns-in_default : goal.returns-in_default
returns-in_default c j stands =
    let there = opened_object c.args.place j (sym (c.if-not-opens_object.ensures j stands)) in
    rw c.at-in_default.ensures (lsa_headless c.args.around c.args.place j _ there.2 (c.in_default.ensures j stands))

pub returns-in_err-links : goal.returns-in_err-links
returns-in_err-links c =
    let p = err_from_is_err_and c.from_residual.result c.from_residual.ensures.1 in
    rw (p.1, p.2) (λ j stands.
    let there = opened_object c.args.place j (sym (c.if-not-opens_object.ensures j stands)) in
    let i = inner_there c.args.tape.now (codes "routerLinks") c.args.place c.in-Some-inner_place.links_place j stands (c.in-Some-inner_place.ensures j stands) in
    tells_same _ _ _ (lsa_reads c.args.around c.args.place c.in-Some-inner_place.links_place j c.in-Some.head _ _ there.2 (c.in-Some.ensures j stands) i.is)
    (lsa_tells c.args.place c.in-Some.head _ _ (c.in_err-links.ensures i.members i.stands)))

pub returns : goal.returns
returns c j stands =
    let there = opened_object c.args.place j (sym (c.if-not-opens_object.ensures j stands)) in
    let i = inner_there c.args.tape.now (codes "routerLinks") c.args.place c.in-Some-inner_place.links_place j stands (c.in-Some-inner_place.ensures j stands) in
    lsa_reads c.args.around c.args.place c.in-Some-inner_place.links_place j c.in-Some.head _ _ there.2 (c.in-Some.ensures j stands) i.is
    ∙ ap (with_links c.args.place c.in-Some.head) (c.in_ok-links.ensures i.members i.stands) ∙ ap Ok (sym c.instance_of.ensures)
