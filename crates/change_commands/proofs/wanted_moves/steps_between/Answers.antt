use Rattle.std.proofs.Common.{◌∙◌, ap}
use Rattle.std.proofs.lemmas.Result.{IfOk-weaker}
use Rattle.change_commands.specs.WantedMoves.{steps_of}
use Rattle.change_commands.proofs.wanted_moves.steps_between.Goals as goal

pub returns : goal.returns
returns c =
    IfOk-weaker c.steps_of.result _ _
    (λ steps is. is ∙ ap (steps_of c.args.by c.args.names.now) (c.as_slice.ensures.value ∙ c.in_ok-moved.ensures)) c.steps_of.ensures
