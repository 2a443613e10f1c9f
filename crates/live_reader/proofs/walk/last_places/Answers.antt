use Rattle.std.proofs.Common.{◌+◌, ◌∙◌, ap, sym, subst, List, ℕ}
use Rattle.live_reader.specs.Places.{those_last, member_values, members_at}
use Rattle.live_reader.specs.Walks.{StandAt, last_places}
use Rattle.live_reader.proofs.PlaceLaws.{last_stand}
use Rattle.live_reader.proofs.walk.last_places.Goals as goal

pub returns : goal.returns
returns c ms stands =
    subst (λ (ps : List ℕ). StandAt c.args.tape.now ps (member_values (those_last (members_at (c.args.place + 1) ms))))
    (sym (c.in_ok-places.ensures ∙ ap last_places c.deref.ensures.value))
    (last_stand c.args.tape.now c.in_ok-steps.steps.items (members_at (c.args.place + 1) ms) (c.in_ok-steps.ensures ms stands))
