use Rattle.std.proofs.Common.{◌≡◌, ◌+◌, ◌*◌, ◌<◌}
use Rattle.std.specs.Ordering.{nat_cmp}
use Rattle.wide_fraction.proofs.order.cmp_sizes.Given as goal

abbrev pub invariant-parts : goal.invariant-parts
invariant-parts l = record {
  first_positive : 0 < l.first_below;
  second_positive : 0 < l.second_below;
  same_order : nat_cmp (l.first * l.second_below) (l.second * l.first_below) ≡ nat_cmp (l.fn.left * l.fn.right_below) (l.fn.right * l.fn.left_below);
}

abbrev pub decreases-parts : goal.decreases-parts
decreases-parts l = l.first_below + l.second_below
