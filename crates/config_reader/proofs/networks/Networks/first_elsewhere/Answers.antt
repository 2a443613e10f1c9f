use Rattle.std.proofs.Common.{◌≡◌, ◌+◌, ◌∙◌, ◌&&◌, sym, ap, arith}
use Rattle.config_reader.specs.Spoken.{prefix_spoken}
use Rattle.config_reader.specs.Drafting.{covers}
use Rattle.config_reader.specs.Sightings.{first_at, names_prefix, is_elsewhere}
use Rattle.config_reader.proofs.Sightings.{covers_below, covers_none, covers_all, first_same, never, next_elsewhere}
use Rattle.config_reader.proofs.networks.Networks.first_elsewhere.Goals as goal

pub loop-length-init : goal.loop-length-init
loop-length-init c =
    sym (never 0 (λ w. covers_below 0 c.args.address.address w && is_elsewhere c.args.area w) c.args.self.now
    (λ w. ap (λ b. b && is_elsewhere c.args.area w) (covers_none c.args.address.address w)))

pub loop-length-preserved : goal.loop-length-preserved
loop-length-preserved c =
    c.lesser-shorter.ensures
    ∙ next_elsewhere c.loop-length.length c.args.address.address c.args.area c.args.self.now c.loop-length.shorter c.other_of.result c.loop-length.invariant
    (c.other_of.ensures ∙ ap (λ k. first_at 0 (λ w. names_prefix k w && is_elsewhere c.args.area w) c.args.self.now) c.prefix_at-prefix.ensures)

pub returns : goal.returns
returns c =
    let at_end : c.loop-length.length ≡ c.args.address.length = omega (arith, c.loop-length-test.false, c.loop-length.auto.length-end) in
    c.lesser.ensures
    ∙ next_elsewhere c.args.address.length c.args.address.address c.args.area c.args.self.now c.loop-length.shorter c.other_of-longest.result
    (c.loop-length.invariant ∙ ap (λ n. first_at 0 (λ w. covers_below n c.args.address.address w && is_elsewhere c.args.area w) c.args.self.now) at_end)
    (c.other_of-longest.ensures ∙ ap (λ k. first_at 0 (λ w. names_prefix k w && is_elsewhere c.args.area w) c.args.self.now) c.prefix_at.ensures)
    ∙ first_same 0 (λ w. covers_below (c.args.address.length + 1) c.args.address.address w
    && is_elsewhere c.args.area w) (λ w. covers (prefix_spoken c.args.address) w && is_elsewhere c.args.area w)
    c.args.self.now
    (λ w. ap (λ b. b && is_elsewhere c.args.area w) (covers_all (prefix_spoken c.args.address) w))
