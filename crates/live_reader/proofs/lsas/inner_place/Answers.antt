use Rattle.std.proofs.Common.{Some, None, sym, ap, ◌∙◌}
use Rattle.std.specs.Prelude.{option_map}
use Rattle.live_reader.specs.Places.{object_members}
use Rattle.live_reader.proofs.FieldLaws.{read_named, first_inner}
use Rattle.live_reader.proofs.MemberLaws.{opened_object, unopened_object}
use Rattle.live_reader.proofs.lsas.inner_place.Goals as goal

pub returns-then-opens_object : goal.returns-then-opens_object
returns-then-opens_object c j stands =
    read_named c.args.tape.now c.args.name.now c.args.place c.in_ok-member.member j (Some c.in_ok-member.member)
    (λ p v. option_map (λ inside. p) (object_members p v)) stands
    (c.in_ok-member.ensures j stands)
    (λ v there. sym (ap (option_map (λ inside. c.in_ok-member.member)) (opened_object c.in_ok-member.member v (sym (c.if-opens_object.ensures v there))).2))
    ∙ first_inner c.args.name.now (object_members c.args.place j)

pub returns-else-opens_object : goal.returns-else-opens_object
returns-else-opens_object c j stands =
    read_named c.args.tape.now c.args.name.now c.args.place c.in_ok-member.member j None (λ p v. option_map (λ inside. p) (object_members p v)) stands
    (c.in_ok-member.ensures j stands)
    (λ v there. sym (ap (option_map (λ inside. c.in_ok-member.member)) (unopened_object c.in_ok-member.member v (sym (c.if-opens_object.ensures v there)))))
    ∙ first_inner c.args.name.now (object_members c.args.place j)
