use Rattle.std.proofs.Common.{List, sym, subst, ◌∙◌, take}
use Rattle.std.proofs.lemmas.List.{take_more}
use Rattle.live_area.specs.declared.links.LiveLink.{LiveLink}
use Rattle.live_area.specs.Indexes.{HaveAddresses}
use Rattle.live_area.proofs.LineSteps.{line_is, unknown_end, unknown_step}
use Rattle.live_area.proofs.routers.push_unknown_lines.Goals as goal

pub loop-link-preserved : goal.loop-link-preserved
loop-link-preserved c = record {
  seen = subst (λ (links : List LiveLink). HaveAddresses c.see.new.seen links) (sym (take_more c.args.links.now c.loop-link.link-index _ c.loop-link-test.true))
      (c.in_ok-first.ensures.seen (take c.loop-link.link-index c.args.links.now) c.loop-link.invariant.seen);
  lines = λ ends all has.
      unknown_step ends c.args.links.now c.loop-link.link-index _ c.unknown_line.result c.loop-link.lines.items _ _ c.loop-link-test.true
      c.in_ok-push_some.ensures.added
      (c.unknown_line.ensures
      ∙ line_is ends (take c.loop-link.link-index c.args.links.now) _ c.has_end.result c.in_ok-first.first (c.has_end.ensures ends all has)
      (c.in_ok-first.ensures.first (take c.loop-link.link-index c.args.links.now) c.loop-link.invariant.seen))
      (c.loop-link.invariant.lines ends all has);
}

pub returns : goal.returns
returns c = λ ends all has.
    unknown_end ends c.args.links.now c.loop-link.link-index c.loop-link.lines.items _ c.loop-link-test.false (c.loop-link.invariant.lines ends all has)
