use Rattle.std.proofs.Common.{◌∙◌}
use Rattle.lsdb_build.proofs.topology.assemble.Goals as goal

pub invariant_of-result : goal.invariant_of-result
invariant_of-result c =
    rw (
      c.from_items.ensures,
      c.from_items-2.ensures,
      c.from_items-3.ensures,
      c.in_ok-routers.ensures,
      c.in_ok-made.ensures,
      c.in_ok-subnets.ensures c.args.links.now c.in_ok-places.ensures,
    )
    c.requires.fits

pub returns : goal.returns
returns c = λ i. record {
  routers = (c.from_items.ensures ∙ c.in_ok-routers.ensures) i;
  links = (c.from_items-2.ensures ∙ c.in_ok-made.ensures) i;
  subnets = (c.from_items-3.ensures ∙ c.in_ok-subnets.ensures c.args.links.now c.in_ok-places.ensures) i;
}
