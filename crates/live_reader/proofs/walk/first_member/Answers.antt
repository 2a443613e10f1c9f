use Rattle.std.proofs.Common.{sym, ◌∙◌, arith}
use Rattle.live_reader.proofs.WalkLaws.{is_object, no_object, within_tokens}
use Rattle.live_reader.proofs.walk.first_member.Goals as goal

pub returns-then-len-place : goal.returns-then-len-place
returns-then-len-place c j stands = absurd (omega (arith, within_tokens c.args.tape.now c.args.place j stands, c.if-len-place.true, c.len.ensures))

pub returns-then-opens_object : goal.returns-then-opens_object
returns-then-opens_object c j stands = sym (is_object c.args.place j (sym (c.opens_object.ensures j stands) ∙ c.if-opens_object.true))

pub returns-else-opens_object : goal.returns-else-opens_object
returns-else-opens_object c j stands = sym (no_object _ c.args.place j (sym (c.opens_object.ensures j stands) ∙ c.if-opens_object.false))
