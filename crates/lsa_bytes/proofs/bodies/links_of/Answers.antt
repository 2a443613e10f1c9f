use Rattle.std.proofs.Common.{sym, ◌∙◌}
use Rattle.lsa_bytes.specs.Grammar.{links_of}
use Rattle.lsa_bytes.proofs.BodyLaws.{goes_on, breaks_off}
use Rattle.lsa_bytes.proofs.bodies.links_of.Goals as goal

pub returns-then-not-starts_link : goal.returns-then-not-starts_link
returns-then-not-starts_link c =
    breaks_off c.loop.links.items c.args.count c.loop.counter c.loop.rest.now (links_of c.args.count c.args.bytes.now)
    c.loop-test.true (sym c.starts_link.ensures ∙ c.if-not-starts_link.true) c.loop.invariant

pub loop-preserved : goal.loop-preserved
loop-preserved c =
    rw (c.in_ok-push.ensures.items, c.link_at.ensures, c.split_at.ensures.back, c.link_length.ensures)
    (goes_on c.loop.links.items c.args.count c.loop.counter c.loop.rest.now (links_of c.args.count c.args.bytes.now)
    c.loop-test.true (sym c.starts_link.ensures ∙ c.if-not-starts_link.false) c.loop.invariant)
