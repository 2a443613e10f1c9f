-- The point that was put is the least.
use Rattle.std.proofs.Common.{ℕ, ◌/◌, ap}
use Rattle.table_kernel.proofs.Corners.{common_read, corner_least}
use Rattle.table_kernel.proofs.kernel.Kernel.put_corner.Goals as goal

pub returns-clause-least : goal.returns-clause-least
returns-clause-least c =
    let k = c.args.self.now in
    let divisor = c.common_divisor-divisor.result in
    let read = common_read k c.requires.kernel c.size_of.result c.size_of.ensures in
    corner_least k c.requires.kernel c.requires.high divisor _
    record {
      positive = c.common_divisor-divisor.ensures.positive;
      whole = c.common_divisor-divisor.ensures.common;
      parts = c.common_divisor-divisor.ensures.constants;
    }
    (ap (λ (n : ℕ). n / divisor) read.0) c.put_values.ensures.places c.put_values.ensures.values
