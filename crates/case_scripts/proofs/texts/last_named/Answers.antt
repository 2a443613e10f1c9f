use Rattle.std.proofs.Common.{option_copied}
use Rattle.case_scripts.proofs.LastNamed.{last_named_step}
use Rattle.case_scripts.proofs.texts.last_named.Goals as goal

pub loop-text-preserved : goal.loop-text-preserved
loop-text-preserved c =
    last_named_step c.args.name.now c.args.made.now c.loop-text.text-index c.text-item.result
    (option_copied c.loop-text.found) (option_copied c.or_named-found.result) c.loop-text-test.true c.text-item.is
    c.or_named-found.ensures c.loop-text.invariant
