use Rattle.std.proofs.Common.{sym, ◌∙◌, arith}
use Rattle.live_reader.proofs.WalkLaws.{is_array, no_array, within_tokens}
use Rattle.live_reader.proofs.walk.first_item.Goals as goal

pub returns-then-len-place : goal.returns-then-len-place
returns-then-len-place c j stands = absurd (omega (arith, within_tokens c.args.tape.now c.args.place j stands, c.if-len-place.true, c.len.ensures))

pub returns-then-opens_array : goal.returns-then-opens_array
returns-then-opens_array c j stands = sym (is_array c.args.place j (sym (c.opens_array.ensures j stands) ∙ c.if-opens_array.true))

pub returns-else-opens_array : goal.returns-else-opens_array
returns-else-opens_array c j stands = sym (no_array _ c.args.place j (sym (c.opens_array.ensures j stands) ∙ c.if-opens_array.false))
