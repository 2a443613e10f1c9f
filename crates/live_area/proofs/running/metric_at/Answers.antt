use Rattle.std.proofs.Common.{ap, sym, ◌∙◌}
use Rattle.std.proofs.lemmas.Option.{none-some, same_Some}
use Rattle.lsa_writer.specs.declared.ends.LinkEnd.{LinkEnd}
use Rattle.live_area.specs.LiveLinks.{metric_at}
use Rattle.live_area.proofs.LineSteps.{end_known}
use Rattle.live_area.proofs.running.metric_at.Goals as goal

pub returns-in-Some : goal.returns-in-Some
returns-in-Some c = λ end live has there.
    let here = sym c.end_in.ensures ∙ c.in-Some.is in
    c.at.ensures c.args.ends.now live has (end_known c.args.ends.now c.args.number c.in-Some.end here)
    ∙ ap (λ (e : LinkEnd). metric_at e live) (same_Some c.in-Some.end end (sym here ∙ there))

pub returns-in-None : goal.returns-in-None
returns-in-None c = λ end live has there.
    absurd (none-some end (sym c.in-None.is ∙ c.end_in.ensures ∙ there))
