use Rattle.std.proofs.Common.{◌≡◌, ◌+◌, ◌∙◌, sym, ap, arith}
use Rattle.config_reader.specs.Spoken.{prefix_spoken}
use Rattle.config_reader.specs.Drafting.{covers}
use Rattle.config_reader.specs.Sightings.{first_at, names_prefix}
use Rattle.config_reader.proofs.Sightings.{covers_below, covers_none, covers_all, first_same, never, next_length}
use Rattle.config_reader.proofs.networks.Networks.first_match.Goals as goal

pub loop-length-init : goal.loop-length-init
loop-length-init c = sym (never 0 (covers_below 0 c.args.address.address) c.args.self.now (covers_none c.args.address.address))

pub loop-length-preserved : goal.loop-length-preserved
loop-length-preserved c =
    c.lesser-shorter.ensures
    ∙ next_length c.loop-length.length c.args.address.address c.args.self.now c.loop-length.shorter c.first_of.result c.loop-length.invariant
    (c.first_of.ensures ∙ ap (λ k. first_at 0 (names_prefix k) c.args.self.now) c.prefix_at.ensures)

pub returns : goal.returns
returns c =
    let at_end : c.loop-length.length ≡ c.args.address.length = omega (arith, c.loop-length-test.false, c.loop-length.auto.length-end) in
    c.lesser.ensures
    ∙ next_length c.args.address.length c.args.address.address c.args.self.now c.loop-length.shorter c.first_of-longest.result
    (c.loop-length.invariant ∙ ap (λ n. first_at 0 (covers_below n c.args.address.address) c.args.self.now) at_end)
    (c.first_of-longest.ensures ∙ ap (λ k. first_at 0 (names_prefix k) c.args.self.now) c.prefix_at-2.ensures)
    ∙ first_same 0 (covers_below (c.args.address.length + 1) c.args.address.address) (covers (prefix_spoken c.args.address))
    c.args.self.now (covers_all (prefix_spoken c.args.address))
