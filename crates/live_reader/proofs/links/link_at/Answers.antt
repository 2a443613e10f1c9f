use Rattle.std.proofs.Common.{sym, ap, ◌∙◌, subst}
use Rattle.std.specs.Prelude.{ok_or}
use Rattle.live_reader.specs.Places.{Stands}
use Rattle.live_reader.specs.JsonLinks.{link_read}
use Rattle.live_reader.proofs.MemberLaws.{opened_object, unopened_object}
use Rattle.live_reader.proofs.links.link_at.Goals as goal

pub returns-then-not-opens_object : goal.returns-then-not-opens_object
returns-then-not-opens_object c j stands =
    rw c.at.ensures (ap (link_read c.args.around c.args.place) (unopened_object c.args.place j (sym (c.if-not-opens_object.ensures j stands))))

pub returns-in-Some : goal.returns-in-Some
returns-in-Some c j stands =
    let there = opened_object c.args.place j (sym (c.if-not-opens_object.ensures j stands)) in
    ap (link_read c.args.around c.args.place) there.2
    ∙ ap (λ o. ok_or o c.args.place) (sym (c.in-Some.ensures there.0 (subst (Stands c.args.tape.now c.args.place) there.1 stands)))

pub returns-in-None : goal.returns-in-None
returns-in-None c j stands =
    let there = opened_object c.args.place j (sym (c.if-not-opens_object.ensures j stands)) in
    rw c.at-in-None.ensures (ap (link_read c.args.around c.args.place) there.2
    ∙ ap (λ o. ok_or o c.args.place) (sym (c.in-None.ensures there.0 (subst (Stands c.args.tape.now c.args.place) there.1 stands))))
