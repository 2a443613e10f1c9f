use Rattle.std.proofs.Common.{sym, ◌∙◌}
use Rattle.lsa_writer.proofs.WritingSteps.{named_here}
use Rattle.lsa_writer.proofs.ends.place_of.Goals as goal

pub returns-then-has_name-clause-found : goal.returns-then-has_name-clause-found
returns-then-has_name-clause-found c =
    named_here c.args.name.now c.args.interfaces.now c.loop-place.place c.index-interfaces-place.result
    c.loop-place-test.true c.index-interfaces-place.is (sym c.has_name.ensures ∙ c.if-has_name.true)
    c.loop-place.invariant
