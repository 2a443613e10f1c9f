-- The line of the next path is put behind the others.
use Rattle.std.proofs.Common.{◌<◌, ◌∙◌, length, rules}
use Rattle.path_commands.proofs.Audits.{audit_turn}
use Rattle.path_commands.proofs.audit.audit_text.Goals as goal

pub loop-number-preserved : goal.loop-number-preserved
loop-number-preserved c =
    let below : c.loop-number.number < length c.args.paths.now = search rules in
    audit_turn c.args.paths.now c.loop-number.number c.loop-number.text.items c.push_bytes.new.text.items
    c.deref.result.now _ below (c.deref.ensures.value ∙ c.in_ok-line.ensures) c.in_ok-push_bytes.ensures
    c.loop-number.invariant
