use Rattle.std.proofs.Common.{◌∙◌, refl, sym, ap}
use Rattle.cost_base.specs.Lists.{same_bytes}
use Rattle.command_words.specs.Commands.{command_named, commands}
use Rattle.command_words.proofs.Rows.{next_name}
use Rattle.command_words.proofs.table.command_named.Goals as goal

pub loop-name-init : goal.loop-name-init
unfolding command_named commands
loop-name-init c = refl

pub loop-name-preserved : goal.loop-name-preserved
loop-name-preserved c =
    next_name _ c.args.word.now c.loop-name.name-index _ _ c.loop-name-test.true
    (ap (λ t. same_bytes t c.args.word.now) (sym (c.as_bytes.ensures.value ∙ c.word.ensures)) ∙ sym c.if-eq.ensures) c.loop-name.invariant
