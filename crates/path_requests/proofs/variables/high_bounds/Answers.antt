use Rattle.std.specs.Prelude.{Option, slice_get}
use Rattle.std.proofs.Common.{ℕ}
use Rattle.path_requests.specs.declared.ranges.Range.{Range}
use Rattle.path_requests.specs.Meaning.{high_of, range_at}
use Rattle.path_requests.proofs.LinkSteps.{bound_added}
use Rattle.path_requests.proofs.variables.high_bounds.Goals as goal

pub loop-link-preserved : goal.loop-link-preserved
loop-link-preserved c =
    let d = c.args.choices.now.database in
    let range : ℕ → Option Range = λ link. range_at c.args.choices.now.asked d (slice_get d.links link) in
    bound_added high_of range c.args.own.now c.loop-link.link-index c.loop-link.made.items c.push_high.new.made.items
    c.loop-link-test.true c.in_ok-push_high.ensures c.loop-link.invariant
