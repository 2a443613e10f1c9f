use Rattle.std.proofs.Common.{◌∙◌, ap}
use Rattle.clap.specs.Simple.{app_of, with_rule}
use Rattle.command_words.proofs.Rows.{next_option}
use Rattle.command_words.proofs.table.with_options.Goals as goal

pub loop-name-preserved : goal.loop-name-preserved
loop-name-preserved c =
    next_option (app_of c.loop-name.more) c.args.must c.loop-name.name-index c.args.names.now _ c.loop-name-test.true
    (c.in_ok-more.ensures.shape c.option.ensures.local ∙ ap (with_rule (app_of c.loop-name.more)) c.option.ensures.rule)
    c.loop-name.invariant
